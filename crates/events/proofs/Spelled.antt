-- Fields that were read are those that are written for what was read. Assumes nothing.
use Rattle.std.proofs.Common.{◌≡◌, ℕ, Bool, true, false, cond, eqb, List, [], ◌∷◌, ◌++◌, map, length, replicate, decimal, codes, Some, None, Ok, Err, Option, Result, refl, sym, ap, ◌∙◌, subst, arith, ne_eqb}
use Rattle.std.specs.List.{list_all}
use Rattle.std.specs.Option.{ok_or, option_map}
use Rattle.std.specs.Result.{result_and}
use Rattle.std.proofs.lemmas.Bool.{eqb-true, and_from}
use Rattle.std.proofs.lemmas.List.{append_assoc}
use Rattle.std.proofs.lemmas.List.Folds.{list_all-append}
use Rattle.method.specs.declared.finding.Finding.{Finding}
use Rattle.events.specs.declared.event.Basis.{Basis}
use Rattle.events.specs.declared.event.Basis.TheVariants as basis
use Rattle.events.specs.declared.fault.ReaderFault.{ReaderFault}
use Rattle.events.specs.declared.fault.ReaderFault.TheVariants.{Field}
use Rattle.events.specs.declared.letters.Unused.{Unused}
use Rattle.events.specs.declared.letters.MethodName.{MethodName}
use Rattle.events.specs.declared.letters.MethodName.TheVariants.{TestMeter, PreviousThree, LaterThree, ContractDemand}
use Rattle.events.specs.Figures.{figure_of, kwh_of, kva_of, cents_of}
use Rattle.events.specs.Letters.{named, one_of, causes, sides, knowns, methods, cause_of, side_of, known_of, method_of, unused_of}
use Rattle.events.specs.Reads.{on, read, unused}
use Rattle.events.specs.Corrections.{finding_in, basis_by, basis_in}
use Rattle.events.specs.Carried.{is_short, cause_letter, side_letter, known_letter, finding_fields, basis_fields}
use Rattle.events.proofs.Digits.{figure_written}

pub ok_inj : {A : Type 0} (x y : A) → ◌≡◌ {A = Result A ReaderFault} (Ok x) (Ok y) → x ≡ y
ok_inj {A} x y e = ap (λ r. elim r as (λ z. A) [ Ok z ↦ z | Err f ↦ x ]) e

-- what a field holds is written as that field, and is short enough
abbrev pub Writes : {A : Type 0} → (List ℕ → Option A) → (A → List ℕ) → Type 0
Writes {A} held text = (f : List ℕ) (x : A) → held f ≡ Some x → (f ≡ text x) × (is_short f ≡ true)

-- each entry of a table has the letter of what it stands for
abbrev pub Agrees : {X : Type 0} → (X → ℕ) → List (ℕ × X) → Type 0
Agrees letter [] = Unit {0}
Agrees letter (e ∷ es) = (e.0 ≡ letter e.1) × Agrees letter es

named_so : {X : Type 0} (letter : X → ℕ) (table : List (ℕ × X)) → Agrees letter table → (c : ℕ) (x : X) → named table c ≡ Some x → c ≡ letter x
named_so letter [] a c x e = cc
named_so {X} letter (t ∷ ts) a c x e = so (named_so letter ts a.1 c x) (eqb c t.0) refl e
  where
    so : (named ts c ≡ Some x → c ≡ letter x) → (b : Bool) → eqb c t.0 ≡ b → cond b (Some t.1) (named ts c) ≡ Some x → c ≡ letter x
    so later true is e = let same : t.1 ≡ x = cc in eqb-true c t.0 is ∙ a.0 ∙ ap letter same
    so later false is e = later e

pub letter_writes : {X : Type 0} (letter : X → ℕ) (table : List (ℕ × X)) → Agrees letter table → Writes (one_of table) (λ x. letter x ∷ [])
letter_writes letter table a [] x e = cc
letter_writes letter table a (c ∷ []) x e = (ap (λ d. d ∷ []) (named_so letter table a c x e), refl)
letter_writes letter table a (c ∷ d ∷ f) x e =
    let none : one_of table (c ∷ d ∷ f) ≡ None = simp (ne_eqb (length (c ∷ d ∷ f)) 1 (λ e. omega arith)) refl in cc

-- fields were read as they are written, and these are left
pub record Spelled (fs : List (ℕ × List ℕ)) (gs : List (List ℕ)) (left : List (ℕ × List ℕ)) : Type 0 where
  pub text : map (λ f. f.1) fs ≡ gs ++ map (λ f. f.1) left
  pub short : list_all is_short gs ≡ true

-- a field was read, and what follows was read after it
pub record Got {A B : Type 0} (held : List ℕ → Option A) (fs : List (ℕ × List ℕ)) (next : A → List (ℕ × List ℕ) → Result B ReaderFault) (b : B) : Type 0 where
  pub x : A
  pub first : ℕ × List ℕ
  pub rest : List (ℕ × List ℕ)
  pub is : fs ≡ first ∷ rest
  pub has : held first.1 ≡ Some x
  pub goes : next x rest ≡ Ok b

pub got : {A B : Type 0} (held : List ℕ → Option A) (fs : List (ℕ × List ℕ)) (next : A → List (ℕ × List ℕ) → Result B ReaderFault) (b : B) → read held fs next ≡ Ok b → Got held fs next b
got held [] next b e = cc
got {A} {B} held (f ∷ fs) next b e = so (held f.1) refl e
  where
    so : (o : Option A) → held f.1 ≡ o → on (elim (ok_or o (Field f.0)) [ Ok x ↦ Ok (x, fs) | Err e ↦ Err e ]) next ≡ Ok b → Got held (f ∷ fs) next b
    so (Some x) has e = record { x = x; first = f; rest = fs; is = refl; has = has; goes = e }
    so None has e = cc

-- nothing was read
pub none_read : (fs : List (ℕ × List ℕ)) → Spelled fs [] fs
none_read fs = record { text = refl; short = refl }

-- a field, and those after it
pub field_read : {A B : Type 0} {held : List ℕ → Option A} {fs left : List (ℕ × List ℕ)} {next : A → List (ℕ × List ℕ) → Result B ReaderFault} {b : B} {gs : List (List ℕ)} (text : A → List ℕ) → Writes held text → (g : Got held fs next b) → Spelled g.rest gs left → Spelled fs (text g.x ∷ gs) left
field_read {gs} text w g s =
    let one = w g.first.1 g.x g.has in
    record {
      text = ap (map (λ f. f.1)) g.is ∙ ap (λ f. f ∷ map (λ f. f.1) g.rest) one.0 ∙ ap (λ fs. text g.x ∷ fs) s.text;
      short = and_from _ _ (ap is_short (sym one.0) ∙ one.1) s.short;
    }

-- fields, and those after them
pub more_read : {fs left rest : List (ℕ × List ℕ)} {gs hs : List (List ℕ)} → Spelled fs gs left → Spelled left hs rest → Spelled fs (gs ++ hs) rest
more_read {fs} {left} {rest} {gs} {hs} a b = record {
  text = a.text ∙ ap (λ t. gs ++ t) b.text ∙ sym (append_assoc gs hs (map (λ f. f.1) rest));
  short = list_all-append is_short gs hs ∙ and_from _ _ a.short b.short;
}

cause_written : Writes cause_of (λ c. cause_letter c ∷ [])
cause_written = letter_writes cause_letter causes (refl, (refl, (refl, (refl, (refl, tt)))))

side_written : Writes side_of (λ s. side_letter s ∷ [])
side_written = letter_writes side_letter sides (refl, (refl, tt))

known_written : Writes known_of (λ k. known_letter k ∷ [])
known_written = letter_writes known_letter knowns (refl, (refl, tt))

-- the figures of a unit, which is a number in a struct
unit_writes : {U : Type 0} (unit : ℕ → U) (size : U → ℕ) → ((n : ℕ) → size (unit n) ≡ n) → Writes (λ f. option_map unit (figure_of f)) (λ u. decimal (size u))
unit_writes {U} unit size back f u e = so (figure_of f) refl e
  where
    so : (o : Option ℕ) → figure_of f ≡ o → option_map unit o ≡ Some u → (f ≡ decimal (size u)) × (is_short f ≡ true)
    so (Some n) is e = let h = figure_written f n is in let same : unit n ≡ u = cc in (h.0 ∙ ap decimal (sym (back n) ∙ ap size same), h.1)
    so None is e = cc

pub finding_spelled : (fs : List (ℕ × List ℕ)) (f : Finding) (left : List (ℕ × List ℕ)) → finding_in fs ≡ Ok (f, left) → Spelled fs (finding_fields f) left
finding_spelled fs f left e =
    let g1 = got cause_of fs _ _ e in
    let g2 = got side_of g1.rest _ _ g1.goes in
    let g3 = got figure_of g2.rest _ _ g2.goes in
    let g4 = got known_of g3.rest _ _ g3.goes in
    let g5 = got figure_of g4.rest _ _ g4.goes in
    let g6 = got figure_of g5.rest _ _ g5.goes in
    subst (λ r. Spelled fs (finding_fields r.0) r.1) (ok_inj _ _ g6.goes)
    (field_read _ cause_written g1 (field_read _ side_written g2 (field_read _ figure_written g3 (field_read _ known_written g4 (field_read _ figure_written g5 (field_read _ figure_written g6 (none_read g6.rest)))))))

pub kwh_written : Writes kwh_of (λ u. decimal u.0)
kwh_written = unit_writes (λ n. record { 0 = n }) (λ u. u.0) (λ n. refl)

pub kva_written : Writes kva_of (λ u. decimal u.0)
kva_written = unit_writes (λ n. record { 0 = n }) (λ u. u.0) (λ n. refl)

pub cents_written : Writes cents_of (λ u. decimal u.0)
cents_written = unit_writes (λ n. record { 0 = n }) (λ u. u.0) (λ n. refl)

-- a method's letter
abbrev name_letter : MethodName → ℕ
name_letter TestMeter = 77
name_letter PreviousThree = 80
name_letter LaterThree = 76
name_letter ContractDemand = 68

name_written : Writes method_of (λ m. name_letter m ∷ [])
name_written = letter_writes name_letter methods (refl, (refl, (refl, (refl, tt))))

-- a method's letter and its own figures
abbrev pub used : Basis → List (List ℕ)
used (basis.TestMeter shown tested) = codes "M" ∷ decimal shown.0 ∷ decimal tested.0 ∷ []
used (basis.PreviousThree from) = codes "P" ∷ decimal from ∷ []
used (basis.LaterThree from) = codes "L" ∷ decimal from ∷ []
used (basis.ContractDemand kva utilization power load peak) = codes "D" ∷ decimal kva.0 ∷ decimal utilization ∷ decimal power ∷ decimal load ∷ decimal peak ∷ []

-- the fields of a method after its letter, and what is left after them
record Own (m : MethodName) (fs : List (ℕ × List ℕ)) (b : Basis) (left : List (ℕ × List ℕ)) : Type 0 where
  gs : List (List ℕ)
  own : Spelled fs gs left
  all : (name_letter m ∷ []) ∷ gs ≡ used b

own_of : {m : MethodName} {fs before : List (ℕ × List ℕ)} {made : Basis} (b : Basis) (left : List (ℕ × List ℕ)) (gs : List (List ℕ)) → ◌≡◌ {A = Result (Basis × List (ℕ × List ℕ)) ReaderFault} (Ok (made, before)) (Ok (b, left)) → Spelled fs gs before → (name_letter m ∷ []) ∷ gs ≡ used made → Own m fs b left
own_of {m} {fs} {before} {made} b left gs e s all = record {
  gs = gs;
  own = subst (λ r. Spelled fs gs r.1) (ok_inj _ _ e) s;
  all = all ∙ ap (λ r. used r.0) (ok_inj _ _ e);
}

own_spelled : (m : MethodName) (fs : List (ℕ × List ℕ)) (b : Basis) (left : List (ℕ × List ℕ)) → basis_by m fs ≡ Ok (b, left) → Own m fs b left
own_spelled TestMeter fs b left e =
    let g1 = got kwh_of fs _ _ e in
    let g2 = got kwh_of g1.rest _ _ g1.goes in
    own_of b left _ g2.goes (field_read _ kwh_written g1 (field_read _ kwh_written g2 (none_read g2.rest))) refl
own_spelled PreviousThree fs b left e =
    let g1 = got figure_of fs _ _ e in
    own_of b left _ g1.goes (field_read _ figure_written g1 (none_read g1.rest)) refl
own_spelled LaterThree fs b left e =
    let g1 = got figure_of fs _ _ e in
    own_of b left _ g1.goes (field_read _ figure_written g1 (none_read g1.rest)) refl
own_spelled ContractDemand fs b left e =
    let g1 = got kva_of fs _ _ e in
    let g2 = got figure_of g1.rest _ _ g1.goes in
    let g3 = got figure_of g2.rest _ _ g2.goes in
    let g4 = got figure_of g3.rest _ _ g3.goes in
    let g5 = got figure_of g4.rest _ _ g4.goes in
    own_of b left _ g5.goes (field_read _ kva_written g1 (field_read _ figure_written g2 (field_read _ figure_written g3 (field_read _ figure_written g4 (field_read _ figure_written g5 (none_read g5.rest)))))) refl

pub basis_spelled : (fs : List (ℕ × List ℕ)) (b : Basis) (left : List (ℕ × List ℕ)) → basis_in fs ≡ Ok (b, left) → Spelled fs (used b) left
basis_spelled fs b left e =
    let g = got method_of fs _ _ e in
    let o = own_spelled g.x g.rest b left g.goes in
    subst (λ gs. Spelled fs gs left) o.all (field_read _ name_written g o.own)

unused_written : Writes unused_of (λ u. codes "0")
unused_written = letter_writes (λ u. 48) ((48, record {}) ∷ []) (refl, tt)

-- the fields that a method does not use
pub unused_spelled : (fs : List (ℕ × List ℕ)) → unused fs ≡ Ok tt → Spelled fs (replicate (length fs) (codes "0")) []
unused_spelled [] e = none_read []
unused_spelled (f ∷ fs) e = so (unused_spelled fs) (unused_of f.1) refl e
  where
    so : (unused fs ≡ Ok tt → Spelled fs (replicate (length fs) (codes "0")) []) → (o : Option Unused) → unused_of f.1 ≡ o → result_and (ok_or o (Field f.0)) (unused fs) ≡ Ok tt → Spelled (f ∷ fs) (replicate (length (f ∷ fs)) (codes "0")) []
    so later (Some u) is e =
        let one = unused_written f.1 u is in
        let s = later e in
        record { text = ap (λ t. t ∷ map (λ f. f.1) fs) one.0 ∙ ap (λ ts. codes "0" ∷ ts) s.text; short = s.short }
    so later None is e = cc

-- a method's fields are six
pub six_fields : (b : Basis) → length (basis_fields b) ≡ 6
six_fields (basis.TestMeter shown tested) = refl
six_fields (basis.PreviousThree from) = refl
six_fields (basis.LaterThree from) = refl
six_fields (basis.ContractDemand kva utilization power load peak) = refl
