-- A line that reads as an event is the line that is written for it. Assumes nothing.
use Rattle.std.proofs.Common.{◌≡◌, ℕ, ◌+◌, Bool, true, false, cond, eqb, ltb, List, [], ◌∷◌, ◌++◌, map, length, replicate, decimal, codes, Some, None, Ok, Err, Option, Result, refl, sym, ap, ◌∙◌, subst, arith}
use Rattle.std.specs.List.{list_all, join_with_byte}
use Rattle.std.specs.Result.{result_and}
use Rattle.std.proofs.lemmas.Bool.{eqb-true, and_from}
use Rattle.std.proofs.lemmas.List.{append-nil, length-append, length-map, length-replicate, nil_from_length}
use Rattle.std.proofs.lemmas.List.Splits.{join_with_byte-slice_split}
use Rattle.method.specs.declared.finding.Finding.{Finding}
use Rattle.events.specs.declared.event.Event.{Event}
use Rattle.events.specs.declared.event.Event.TheVariants.{Correct}
use Rattle.events.specs.declared.event.Basis.{Basis}
use Rattle.events.specs.declared.event.Basis.TheVariants as basis
use Rattle.events.specs.declared.fault.ReaderFault.{ReaderFault}
use Rattle.events.specs.declared.fault.ReaderFault.TheVariants.{Shape, TooLong}
use Rattle.events.specs.Lines.{fields, placed}
use Rattle.events.specs.Figures.{figure_of, kwh_of, kva_of, cents_of}
use Rattle.events.specs.Reads.{on, unused}
use Rattle.events.specs.Corrections.{finding_in, basis_in}
use Rattle.events.specs.Events.{Form, t_line, h_line, b_line, e_line, c_line, p_line, forms, form_of, fields_after, event, event_in, event_with, event_from, event_of}
use Rattle.events.specs.Carried.{is_short, finding_fields, basis_fields, fields_of, line_of, is_carried}
use Rattle.events.proofs.Digits.{figure_written}
use Rattle.events.proofs.Spelled.{ok_inj, Writes, letter_writes, Spelled, got, none_read, field_read, more_read, kwh_written, kva_written, cents_written, used, six_fields, finding_spelled, basis_spelled, unused_spelled}

spelled_length : {fs left : List (ℕ × List ℕ)} {gs : List (List ℕ)} → Spelled fs gs left → length fs ≡ length gs + length left
spelled_length {fs} {left} {gs} s =
    sym (length-map fs (λ f. f.1)) ∙ ap length s.text ∙ length-append gs (map (λ (f : ℕ × List ℕ). f.1) left) ∙ ap (λ n. length gs + n) (length-map left (λ f. f.1))

-- all fields were read
all_read : {fs left : List (ℕ × List ℕ)} {gs : List (List ℕ)} → length fs ≡ length gs → Spelled fs gs left → map (λ f. f.1) fs ≡ gs
all_read {fs} {left} {gs} count s =
    let long : length fs ≡ length gs + length left = spelled_length s in
    let none : left ≡ [] = nil_from_length left (omega arith) in
    s.text ∙ ap (λ (l : List (ℕ × List ℕ)). gs ++ map (λ f. f.1) l) none ∙ append-nil gs

-- the letter of a form
abbrev letter_of : Form → ℕ
letter_of t_line = 84
letter_of h_line = 72
letter_of b_line = 66
letter_of e_line = 69
letter_of c_line = 67
letter_of p_line = 80

-- the fields after the letter are those that are written for the event
record FormWritten (k : Form) (fs : List (ℕ × List ℕ)) (e : Event) : Type 0 where
  all : (letter_of k ∷ []) ∷ map (λ f. f.1) fs ≡ fields_of e
  short : list_all is_short (map (λ f. f.1) fs) ≡ true

form_so : {k : Form} {fs left : List (ℕ × List ℕ)} {made : Event} (e : Event) (gs : List (List ℕ)) → length fs ≡ length gs → ◌≡◌ {A = Result Event ReaderFault} (Ok made) (Ok e) → Spelled fs gs left → (letter_of k ∷ []) ∷ gs ≡ fields_of made → FormWritten k fs e
form_so {k} {fs} {left} {made} e gs count is s same =
    let all = all_read count s in
    record {
      all = ap (λ ts. (letter_of k ∷ []) ∷ ts) all ∙ same ∙ ap fields_of (ok_inj _ _ is);
      short = ap (list_all is_short) all ∙ s.short;
    }

-- what was read of several fields, and what was read after them
record Gone {A B : Type 0} (r : Result (A × List (ℕ × List ℕ)) ReaderFault) (next : A → List (ℕ × List ℕ) → Result B ReaderFault) (b : B) : Type 0 where
  x : A
  rest : List (ℕ × List ℕ)
  has : r ≡ Ok (x, rest)
  goes : next x rest ≡ Ok b

gone : {A B : Type 0} (r : Result (A × List (ℕ × List ℕ)) ReaderFault) (next : A → List (ℕ × List ℕ) → Result B ReaderFault) (b : B) → on r next ≡ Ok b → Gone r next b
gone (Ok p) next b e = record { x = p.0; rest = p.1; has = refl; goes = e }
gone (Err f) next b e = cc

and_both : {B : Type 0} (r : Result (Unit {0}) ReaderFault) (s : Result B ReaderFault) (b : B) → result_and r s ≡ Ok b → (r ≡ Ok tt) × (s ≡ Ok b)
and_both (Ok u) s b e = (refl, e)
and_both (Err f) s b e = cc

-- a method's fields, with a 0 in each that it does not use
unused_after : (b : Basis) (n : ℕ) → length (used b) + n ≡ 6 → used b ++ replicate n (codes "0") ≡ basis_fields b
unused_after (basis.TestMeter shown tested) n e = let is : n ≡ 3 = omega arith in rw is refl
unused_after (basis.PreviousThree from) n e = let is : n ≡ 4 = omega arith in rw is refl
unused_after (basis.LaterThree from) n e = let is : n ≡ 4 = omega arith in rw is refl
unused_after (basis.ContractDemand kva utilization power load peak) n e = let is : n ≡ 0 = omega arith in rw is refl

-- a correction's fields
correction_so : {fs : List (ℕ × List ℕ)} (e : Event) (hold : ℕ) (f : Finding) (b : Basis) (n : ℕ) → length fs ≡ 13 → ◌≡◌ {A = Result Event ReaderFault} (Ok (Correct hold f b)) (Ok e) → Spelled fs (decimal hold ∷ finding_fields f ++ (used b ++ replicate n (codes "0"))) [] → FormWritten c_line fs e
correction_so {fs} e hold f b n count is s =
    let rest : length (used b ++ replicate n (codes "0")) ≡ length (used b) + n = length-append (used b) (replicate n (codes "0")) ∙ ap (λ m. length (used b) + m) (length-replicate n (codes "0")) in
    let long : length fs ≡ length (decimal hold ∷ finding_fields f ++ (used b ++ replicate n (codes "0"))) + 0 = spelled_length s in
    let same = unused_after b n (omega arith) in
    let six : length (basis_fields b) ≡ 6 = six_fields b in
    form_so e (decimal hold ∷ finding_fields f ++ basis_fields b) (omega arith) is (subst (λ t. Spelled fs (decimal hold ∷ finding_fields f ++ t) []) same s) refl

form_written : (k : Form) (fs : List (ℕ × List ℕ)) (e : Event) → length fs ≡ fields_after k → event k fs ≡ Ok e → FormWritten k fs e
form_written t_line fs e count is =
    let g1 = got figure_of fs _ _ is in
    let g2 = got figure_of g1.rest _ _ g1.goes in
    form_so e _ count g2.goes (field_read _ figure_written g1 (field_read _ figure_written g2 (none_read g2.rest))) refl
form_written h_line fs e count is =
    let g1 = got figure_of fs _ _ is in
    form_so e _ count g1.goes (field_read _ figure_written g1 (none_read g1.rest)) refl
form_written b_line fs e count is =
    let g1 = got figure_of fs _ _ is in
    let g2 = got figure_of g1.rest _ _ g1.goes in
    let g3 = got kwh_of g2.rest _ _ g2.goes in
    let g4 = got kwh_of g3.rest _ _ g3.goes in
    let g5 = got kva_of g4.rest _ _ g4.goes in
    form_so e _ count g5.goes (field_read _ figure_written g1 (field_read _ figure_written g2 (field_read _ kwh_written g3 (field_read _ kwh_written g4 (field_read _ kva_written g5 (none_read g5.rest)))))) refl
form_written e_line fs e count is =
    let g1 = got figure_of fs _ _ is in
    let g2 = got figure_of g1.rest _ _ g1.goes in
    let g3 = got kwh_of g2.rest _ _ g2.goes in
    let g4 = got figure_of g3.rest _ _ g3.goes in
    let g5 = got kva_of g4.rest _ _ g4.goes in
    form_so e _ count g5.goes (field_read _ figure_written g1 (field_read _ figure_written g2 (field_read _ kwh_written g3 (field_read _ figure_written g4 (field_read _ kva_written g5 (none_read g5.rest)))))) refl
form_written c_line fs e count is =
    let g1 = got figure_of fs _ _ is in
    let g2 = gone (finding_in g1.rest) _ _ g1.goes in
    let g3 = gone (basis_in g2.rest) _ _ g2.goes in
    let g4 = and_both (unused g3.rest) _ _ g3.goes in
    correction_so e _ _ _ _ count g4.1
    (field_read _ figure_written g1 (more_read (finding_spelled _ _ _ g2.has) (more_read (basis_spelled _ _ _ g3.has) (unused_spelled g3.rest g4.0))))
form_written p_line fs e count is =
    let g1 = got figure_of fs _ _ is in
    let g2 = got cents_of g1.rest _ _ g1.goes in
    form_so e _ count g2.goes (field_read _ figure_written g1 (field_read _ cents_written g2 (none_read g2.rest))) refl

-- an event in fields, where there are as many as its form has
event_in_so : (k : Form) (fs : List (ℕ × List ℕ)) (e : Event) → event_in k fs ≡ Ok e → FormWritten k fs e
event_in_so k fs e is = so (form_written k fs e) (eqb (length fs) (fields_after k)) refl is
  where
    so : (length fs ≡ fields_after k → event k fs ≡ Ok e → FormWritten k fs e) → (b : Bool) → eqb (length fs) (fields_after k) ≡ b → cond b (event k fs) (Err Shape) ≡ Ok e → FormWritten k fs e
    so written true count is = written (eqb-true _ _ count) is
    so written false count is = cc

form_letters : Writes form_of (λ k. letter_of k ∷ [])
form_letters = letter_writes letter_of forms (refl, (refl, (refl, (refl, (refl, (refl, tt))))))

texts_placed : (column : ℕ) (gs : List (List ℕ)) → map (λ f. f.1) (placed column gs) ≡ gs
texts_placed column [] = refl
texts_placed column (g ∷ gs) = ap (λ ts. g ∷ ts) (texts_placed (column + (length g + 1)) gs)

-- the fields of a line that reads as an event
fields_written : (gs : List (List ℕ)) (e : Event) → event_from gs ≡ Ok e → (gs ≡ fields_of e) × (list_all is_short gs ≡ true)
fields_written [] e is = cc
fields_written (g ∷ gs) e is = so (form_of g) refl is
  where
    so : (o : Option Form) → form_of g ≡ o → event_with o (placed 3 gs) ≡ Ok e → (g ∷ gs ≡ fields_of e) × (list_all is_short (g ∷ gs) ≡ true)
    so (Some k) named is =
        let letter = form_letters g k named in
        let w = event_in_so k (placed 3 gs) e is in (
          ap (λ l. l ∷ gs) letter.0 ∙ ap (λ ts. (letter_of k ∷ []) ∷ ts) (sym (texts_placed 3 gs)) ∙ w.all,
          and_from _ _ letter.1 (ap (list_all is_short) (sym (texts_placed 3 gs)) ∙ w.short),
        )
    so None named is = cc

pub line_written : (line : List ℕ) (e : Event) → event_of line ≡ Ok e → (line ≡ line_of e) × (is_carried e ≡ true)
line_written line e is = so (ltb 140 (length line)) is
  where
    so : (b : Bool) → cond b (Err TooLong) (event_from (fields line)) ≡ Ok e → (line ≡ line_of e) × (is_carried e ≡ true)
    so true is = cc
    so false is =
        let w = fields_written (fields line) e is in
        (sym (join_with_byte-slice_split 44 line) ∙ ap (join_with_byte 44) w.0, ap (list_all is_short) (sym w.0) ∙ w.1)
