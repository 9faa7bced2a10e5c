-- A line that is written for an event reads as that event. Assumes nothing.
use Rattle.std.proofs.Common.{◌≡◌, ℕ, zero, suc, ◌+◌, ◌<◌, ◌≤◌, Bool, true, false, eqb, List, [], ◌∷◌, ◌++◌, map, length, decimal, codes, Some, Ok, Err, Option, Result, refl, ap, ◌∙◌, arith, le-ltb, ne_eqb}
use Rattle.std.specs.List.{All, list_all, join_with_byte, onto_first}
use Rattle.std.specs.Option.{ok_or, option_map}
use Rattle.std.specs.Result.{result_and}
use Rattle.std.proofs.lemmas.Bool.{leb-true, and_parts, cond-true, cond-false, eq-eqb}
use Rattle.std.proofs.lemmas.List.{length-append}
use Rattle.std.proofs.lemmas.List.Elements.{All-append, All-cons}
use Rattle.std.proofs.lemmas.List.Splits.{slice_split_at, slice_split_none}
use Rattle.figures.specs.declared.reported.Kwh.{Kwh}
use Rattle.figures.specs.declared.reported.Kva.{Kva}
use Rattle.figures.specs.declared.reported.Cents.{Cents}
use Rattle.method.specs.declared.finding.Cause.{Cause}
use Rattle.method.specs.declared.finding.Cause.TheVariants.{Absent, Under, Over, Stopped, Altered}
use Rattle.method.specs.declared.finding.Side.{Side}
use Rattle.method.specs.declared.finding.Side.TheVariants.{Consumer, Supplier}
use Rattle.method.specs.declared.finding.Finding.{Finding}
use Rattle.events.specs.declared.fault.ReaderFault.{ReaderFault}
use Rattle.events.specs.Lines.{lines, fields, placed}
use Rattle.events.specs.declared.fault.ReaderFault.TheVariants.{Field}
use Rattle.events.specs.declared.event.Basis.{Basis}
use Rattle.events.specs.declared.event.Basis.TheVariants as basis
use Rattle.events.specs.declared.event.Event.{Event}
use Rattle.events.specs.declared.event.Event.TheVariants.{Take, HandBack, Bill, Estimate, Correct, Pay}
use Rattle.events.specs.Figures.{figure_of, kwh_of, kva_of, cents_of}
use Rattle.events.specs.Letters.{cause_of, side_of, known_of}
use Rattle.events.specs.Corrections.{finding_in, basis_in}
use Rattle.events.specs.Reads.{on, read, unused}
use Rattle.events.specs.Events.{Form, c_line, fields_after, event, event_in, event_from, event_of}
use Rattle.events.specs.Carried.{is_short, cause_letter, side_letter, known_letter, finding_fields, basis_fields, fields_of, line_of, is_carried}
use Rattle.events.specs.RoundTrip.{ReadsAs}
use Rattle.events.proofs.Steps.{length-placed}
use Rattle.events.proofs.Columns.{after}
use Rattle.events.proofs.Digits.{figure_read, figure_printed}
use Rattle.events.proofs.Spelled.{six_fields}

-- it has letters and digits alone, so no comma and no line end
abbrev Printed : List ℕ → Type 0
Printed f = All (λ c. 48 ≤ c) f

abbrev AllPrinted : List (List ℕ) → Type 0
AllPrinted [] = Unit {0}
AllPrinted (f ∷ fs) = Printed f × AllPrinted fs

no_comma : (f : List ℕ) → Printed f → All (λ c. eqb c 44 ≡ false) f
no_comma f w k d inside = let h = w k d inside in ne_eqb _ _ (λ e. omega arith)

-- fields that are joined are parted again
fields_joined : (f : List ℕ) (fs : List (List ℕ)) → Printed f → AllPrinted fs → fields (join_with_byte 44 (f ∷ fs)) ≡ f ∷ fs
fields_joined f [] w ws = slice_split_none (λ c. eqb c 44) f (no_comma f w)
fields_joined f (g ∷ gs) w ws = slice_split_at (λ c. eqb c 44) f 44 (join_with_byte 44 (g ∷ gs)) (no_comma f w) refl ∙ ap (λ l. f ∷ l) (fields_joined g gs ws.0 ws.1)

-- a line of them has no line end
inline : (f : List ℕ) (fs : List (List ℕ)) → Printed f → AllPrinted fs → All (λ c. 44 ≤ c) (join_with_byte 44 (f ∷ fs))
inline f [] w ws = λ k d inside. let h = w k d inside in omega arith
inline f (g ∷ gs) w ws = All-append (λ c. 44 ≤ c) f (44 ∷ join_with_byte 44 (g ∷ gs)) (λ k d inside. let h = w k d inside in omega arith) (All-cons (λ c. 44 ≤ c) 44 (join_with_byte 44 (g ∷ gs)) (omega arith) (inline g gs ws.0 ws.1))

-- a line with its end is one line
one_line : (l : List ℕ) → All (λ c. 44 ≤ c) l → lines (l ++ 10 ∷ []) ≡ l ∷ []
one_line [] w = refl
one_line (c ∷ cs) w =
    let first : 44 ≤ c = w 0 0 (omega arith) in
    let later : All (λ d. 44 ≤ d) cs = λ k d inside. w (suc k) d (omega arith) in
    cond-false _ _ _ (ne_eqb c 10 (λ e. omega arith)) ∙ ap (onto_first c) (one_line cs later)

joined_length : (f : List ℕ) (fs : List (List ℕ)) → length (join_with_byte 44 (f ∷ fs)) ≡ length f + after fs
joined_length f [] = omega arith
joined_length f (g ∷ gs) = let later = joined_length g gs in length-append f (44 ∷ join_with_byte 44 (g ∷ gs)) ∙ omega arith

-- a field that holds x was read
read_on : {A B : Type 0} (held : List ℕ → Option A) (column : ℕ) (f : List ℕ) (x : A) (fs : List (ℕ × List ℕ)) (next : A → List (ℕ × List ℕ) → Result B ReaderFault) → held f ≡ Some x → read held ((column, f) ∷ fs) next ≡ next x fs
read_on held column f x fs next has = ap (λ o. on (elim (ok_or o (Field column)) [ Ok x ↦ Ok (x, fs) | Err e ↦ Err e ]) next) has

-- what is read after a figure
figure_on : {B : Type 0} (column n : ℕ) (fs : List (ℕ × List ℕ)) (next : ℕ → List (ℕ × List ℕ) → Result B ReaderFault) → is_short (decimal n) ≡ true → read figure_of ((column, decimal n) ∷ fs) next ≡ next n fs
figure_on column n fs next short = read_on figure_of column (decimal n) n fs next (figure_read n short)

kwh_on : {B : Type 0} (column : ℕ) (u : Kwh) (fs : List (ℕ × List ℕ)) (next : Kwh → List (ℕ × List ℕ) → Result B ReaderFault) → is_short (decimal u.0) ≡ true → read kwh_of ((column, decimal u.0) ∷ fs) next ≡ next u fs
kwh_on column u fs next short = read_on kwh_of column (decimal u.0) u fs next (ap (option_map (λ n. record { 0 = n })) (figure_read u.0 short))

kva_on : {B : Type 0} (column : ℕ) (u : Kva) (fs : List (ℕ × List ℕ)) (next : Kva → List (ℕ × List ℕ) → Result B ReaderFault) → is_short (decimal u.0) ≡ true → read kva_of ((column, decimal u.0) ∷ fs) next ≡ next u fs
kva_on column u fs next short = read_on kva_of column (decimal u.0) u fs next (ap (option_map (λ n. record { 0 = n })) (figure_read u.0 short))

cents_on : {B : Type 0} (column : ℕ) (u : Cents) (fs : List (ℕ × List ℕ)) (next : Cents → List (ℕ × List ℕ) → Result B ReaderFault) → is_short (decimal u.0) ≡ true → read cents_of ((column, decimal u.0) ∷ fs) next ≡ next u fs
cents_on column u fs next short = read_on cents_of column (decimal u.0) u fs next (ap (option_map (λ n. record { 0 = n })) (figure_read u.0 short))

cause_read : (c : Cause) → cause_of (cause_letter c ∷ []) ≡ Some c
cause_read Absent = refl
cause_read Under = refl
cause_read Over = refl
cause_read Stopped = refl
cause_read Altered = refl

side_read : (s : Side) → side_of (side_letter s ∷ []) ≡ Some s
side_read Consumer = refl
side_read Supplier = refl

known_read : (k : Bool) → known_of (known_letter k ∷ []) ≡ Some k
known_read true = refl
known_read false = refl

-- each field is short enough
abbrev AllShort : List (List ℕ) → Type 0
AllShort [] = Unit {0}
AllShort (f ∷ fs) = (is_short f ≡ true) × AllShort fs

shorts : (fs : List (List ℕ)) → list_all is_short fs ≡ true → AllShort fs
shorts [] h = tt
shorts (f ∷ fs) h = let parts = and_parts _ _ h in (parts.0, shorts fs parts.1)

-- the column after the fields
abbrev after_fields : (column : ℕ) → List (List ℕ) → ℕ
after_fields column [] = column
after_fields column (f ∷ fs) = after_fields (column + (length f + 1)) fs

-- what a correction rests on, with its fields before others
finding_back : (f : Finding) (column : ℕ) (gs : List (List ℕ)) → AllShort (finding_fields f) → finding_in (placed column (finding_fields f ++ gs)) ≡ Ok (f, placed (after_fields column (finding_fields f)) gs)
finding_back f column gs s =
    read_on cause_of _ (cause_letter f.cause ∷ []) f.cause _ _ (cause_read f.cause)
    ∙ read_on side_of _ (side_letter f.side ∷ []) f.side _ _ (side_read f.side)
    ∙ figure_on _ f.notice _ _ s.1.1.0
    ∙ read_on known_of _ (known_letter f.ascertained ∷ []) f.ascertained _ _ (known_read f.ascertained)
    ∙ figure_on _ f.span.first _ _ s.1.1.1.1.0
    ∙ figure_on _ f.span.last _ _ s.1.1.1.1.1.0

-- a method, with the fields that it does not use
basis_back : (b : Basis) (column : ℕ) (e : Basis → Event) → AllShort (basis_fields b) → on (basis_in (placed column (basis_fields b))) (λ b fs. result_and (unused fs) (Ok (e b))) ≡ Ok (e b)
basis_back (basis.TestMeter shown tested) column e s =
    ap (λ r. on r (λ b fs. result_and (unused fs) (Ok (e b)))) (kwh_on _ shown _ _ s.1.0 ∙ kwh_on _ tested _ _ s.1.1.0)
basis_back (basis.PreviousThree from) column e s =
    ap (λ r. on r (λ b fs. result_and (unused fs) (Ok (e b)))) (figure_on _ from _ _ s.1.0)
basis_back (basis.LaterThree from) column e s =
    ap (λ r. on r (λ b fs. result_and (unused fs) (Ok (e b)))) (figure_on _ from _ _ s.1.0)
basis_back (basis.ContractDemand kva utilization power load peak) column e s =
    ap (λ r. on r (λ b fs. result_and (unused fs) (Ok (e b)))) (kva_on _ kva _ _ s.1.0 ∙ figure_on _ utilization _ _ s.1.1.0 ∙ figure_on _ power _ _ s.1.1.1.0 ∙ figure_on _ load _ _ s.1.1.1.1.0 ∙ figure_on _ peak _ _ s.1.1.1.1.1.0)

parts_short : (fs gs : List (List ℕ)) → AllShort (fs ++ gs) → AllShort fs × AllShort gs
parts_short [] gs s = (tt, s)
parts_short (f ∷ fs) gs s = let later = parts_short fs gs s.1 in ((s.0, later.0), later.1)

counted : (k : Form) (fs : List (ℕ × List ℕ)) → length fs ≡ fields_after k → event_in k fs ≡ event k fs
counted k fs count = cond-true _ _ _ (eq-eqb _ _ count)

-- an event in the fields that are written for it
from_fields : (e : Event) → AllShort (fields_of e) → event_from (fields_of e) ≡ Ok e
from_fields (Take moment span) s = figure_on _ moment _ _ s.1.0 ∙ figure_on _ span _ _ s.1.1.0
from_fields (HandBack hold) s = figure_on _ hold _ _ s.1.0
from_fields (Bill hold last reading) s =
    figure_on _ hold _ _ s.1.0 ∙ figure_on _ last _ _ s.1.1.0 ∙ kwh_on _ reading.day _ _ s.1.1.1.0 ∙ kwh_on _ reading.peak _ _ s.1.1.1.1.0 ∙ kva_on _ reading.demand _ _ s.1.1.1.1.1.0
from_fields (Estimate hold last figure peak demand) s =
    figure_on _ hold _ _ s.1.0 ∙ figure_on _ last _ _ s.1.1.0 ∙ kwh_on _ figure _ _ s.1.1.1.0 ∙ figure_on _ peak _ _ s.1.1.1.1.0 ∙ kva_on _ demand _ _ s.1.1.1.1.1.0
from_fields (Correct hold finding basis) s =
    let parts = parts_short (finding_fields finding) (basis_fields basis) s.1.1 in
    let column = after_fields 3 (decimal hold ∷ []) in
    let six = length-placed (after_fields column (finding_fields finding)) (basis_fields basis) ∙ six_fields basis in
    counted c_line (placed 3 (decimal hold ∷ finding_fields finding ++ basis_fields basis)) (omega arith)
    ∙ figure_on _ hold _ _ s.1.0
    ∙ ap (λ r. on r (λ f fs. on (basis_in fs) (λ b fs. result_and (unused fs) (Ok (Correct hold f b))))) (finding_back finding column (basis_fields basis) parts.0)
    ∙ basis_back basis _ (Correct hold finding) parts.1
from_fields (Pay hold cents) s = figure_on _ hold _ _ s.1.0 ∙ cents_on _ cents _ _ s.1.1.0

letter_printed : (c : ℕ) → 48 ≤ c → Printed (c ∷ [])
letter_printed c e zero d inside = e
letter_printed c e (suc k) d inside = absurd (omega arith)

cause_printed : (c : Cause) → 48 ≤ cause_letter c
cause_printed Absent = omega arith
cause_printed Under = omega arith
cause_printed Over = omega arith
cause_printed Stopped = omega arith
cause_printed Altered = omega arith

side_printed : (s : Side) → 48 ≤ side_letter s
side_printed Consumer = omega arith
side_printed Supplier = omega arith

known_printed : (k : Bool) → 48 ≤ known_letter k
known_printed true = omega arith
known_printed false = omega arith

zero_printed : Printed (48 ∷ [])
zero_printed = letter_printed 48 (omega arith)

parts_printed : (fs gs : List (List ℕ)) → AllPrinted fs → AllPrinted gs → AllPrinted (fs ++ gs)
parts_printed [] gs w v = v
parts_printed (f ∷ fs) gs w v = (w.0, parts_printed fs gs w.1 v)

finding_printed : (f : Finding) → AllShort (finding_fields f) → AllPrinted (finding_fields f)
finding_printed f s = (
  letter_printed _ (cause_printed f.cause),
  (
    letter_printed _ (side_printed f.side),
    (
      figure_printed f.notice s.1.1.0,
      (letter_printed _ (known_printed f.ascertained), (figure_printed f.span.first s.1.1.1.1.0, (figure_printed f.span.last s.1.1.1.1.1.0, tt))),
    ),
  ),
)

basis_printed : (b : Basis) → AllShort (basis_fields b) → AllPrinted (basis_fields b)
basis_printed (basis.TestMeter shown tested) s =
    (letter_printed 77 (omega arith), (figure_printed shown.0 s.1.0, (figure_printed tested.0 s.1.1.0, (zero_printed, (zero_printed, (zero_printed, tt))))))
basis_printed (basis.PreviousThree from) s =
    (letter_printed 80 (omega arith), (figure_printed from s.1.0, (zero_printed, (zero_printed, (zero_printed, (zero_printed, tt))))))
basis_printed (basis.LaterThree from) s =
    (letter_printed 76 (omega arith), (figure_printed from s.1.0, (zero_printed, (zero_printed, (zero_printed, (zero_printed, tt))))))
basis_printed (basis.ContractDemand kva utilization power load peak) s =
    (letter_printed 68 (omega arith), (figure_printed kva.0 s.1.0, (figure_printed utilization s.1.1.0, (figure_printed power s.1.1.1.0, (figure_printed load s.1.1.1.1.0, (figure_printed peak s.1.1.1.1.1.0, tt))))))

letters_and_digits : (e : Event) → AllShort (fields_of e) → AllPrinted (fields_of e)
letters_and_digits (Take moment span) s = (letter_printed 84 (omega arith), (figure_printed moment s.1.0, (figure_printed span s.1.1.0, tt)))
letters_and_digits (HandBack hold) s = (letter_printed 72 (omega arith), (figure_printed hold s.1.0, tt))
letters_and_digits (Bill hold last r) s =
    (letter_printed 66 (omega arith), (figure_printed hold s.1.0, (figure_printed last s.1.1.0, (figure_printed r.day.0 s.1.1.1.0, (figure_printed r.peak.0 s.1.1.1.1.0, (figure_printed r.demand.0 s.1.1.1.1.1.0, tt))))))
letters_and_digits (Estimate hold last figure peak demand) s =
    (letter_printed 69 (omega arith), (figure_printed hold s.1.0, (figure_printed last s.1.1.0, (figure_printed figure.0 s.1.1.1.0, (figure_printed peak s.1.1.1.1.0, (figure_printed demand.0 s.1.1.1.1.1.0, tt))))))
letters_and_digits (Correct hold f b) s =
    let parts = parts_short (finding_fields f) (basis_fields b) s.1.1 in
    (letter_printed 67 (omega arith), (figure_printed hold s.1.0, parts_printed (finding_fields f) (basis_fields b) (finding_printed f parts.0) (basis_printed b parts.1)))
letters_and_digits (Pay hold cents) s = (letter_printed 80 (omega arith), (figure_printed hold s.1.0, (figure_printed cents.0 s.1.1.0, tt)))

parted : (fs : List (List ℕ)) → 0 < length fs → AllPrinted fs → (fields (join_with_byte 44 fs) ≡ fs) × (lines (join_with_byte 44 fs ++ 10 ∷ []) ≡ join_with_byte 44 fs ∷ [])
parted [] some w = absurd (omega arith)
parted (f ∷ fs) some w = (fields_joined f fs w.0 w.1, one_line (join_with_byte 44 (f ∷ fs)) (inline f fs w.0 w.1))

some_fields : (e : Event) → 0 < length (fields_of e)
some_fields (Take moment span) = omega arith
some_fields (HandBack hold) = omega arith
some_fields (Bill hold last reading) = omega arith
some_fields (Estimate hold last figure peak demand) = omega arith
some_fields (Correct hold f b) = omega arith
some_fields (Pay hold cents) = omega arith

long : (n : ℕ) → is_short (decimal n) ≡ true → length (decimal n) ≤ 13
long n short = leb-true (length (decimal n)) 13 short

basis_after : (b : Basis) → AllShort (basis_fields b) → after (basis_fields b) ≤ 72
basis_after (basis.TestMeter shown tested) s = omega (arith, long shown.0 s.1.0, long tested.0 s.1.1.0)
basis_after (basis.PreviousThree from) s = omega (arith, long from s.1.0)
basis_after (basis.LaterThree from) s = omega (arith, long from s.1.0)
basis_after (basis.ContractDemand kva utilization power load peak) s = omega (arith, long kva.0 s.1.0, long utilization s.1.1.0, long power s.1.1.1.0, long load s.1.1.1.1.0, long peak s.1.1.1.1.1.0)

line_length : (e : Event) → AllShort (fields_of e) → length (line_of e) ≤ 140
line_length (Take moment span) s =
    omega (arith, joined_length (codes "T") (decimal moment ∷ decimal span ∷ []), long moment s.1.0, long span s.1.1.0)
line_length (HandBack hold) s = omega (arith, joined_length (codes "H") (decimal hold ∷ []), long hold s.1.0)
line_length (Bill hold last r) s =
    omega (arith, joined_length (codes "B") (decimal hold ∷ decimal last ∷ decimal r.day.0 ∷ decimal r.peak.0 ∷ decimal r.demand.0 ∷ []), long hold s.1.0, long last s.1.1.0, long r.day.0 s.1.1.1.0, long r.peak.0 s.1.1.1.1.0, long r.demand.0 s.1.1.1.1.1.0)
line_length (Estimate hold last figure peak demand) s =
    omega (arith, joined_length (codes "E") (decimal hold ∷ decimal last ∷ decimal figure.0 ∷ decimal peak ∷ decimal demand.0 ∷ []), long hold s.1.0, long last s.1.1.0, long figure.0 s.1.1.1.0, long peak s.1.1.1.1.0, long demand.0 s.1.1.1.1.1.0)
line_length (Correct hold f b) s =
    let parts = parts_short (finding_fields f) (basis_fields b) s.1.1 in
    omega (arith, joined_length (codes "C") (decimal hold ∷ finding_fields f ++ basis_fields b), long hold s.1.0, long f.notice parts.0.1.1.0, long f.span.first parts.0.1.1.1.1.0, long f.span.last parts.0.1.1.1.1.1.0, basis_after b parts.1)
line_length (Pay hold cents) s = omega (arith, joined_length (codes "P") (decimal hold ∷ decimal cents.0 ∷ []), long hold s.1.0, long cents.0 s.1.1.0)

-- an event in the line that is written for it
line_read : (e : Event) → is_carried e ≡ true → event_of (line_of e) ≡ Ok e
line_read e carried =
    let s = shorts (fields_of e) carried in
    cond-false _ _ _ (le-ltb 140 (length (line_of e)) (line_length e s)) ∙ ap event_from (parted (fields_of e) (some_fields e) (letters_and_digits e s)).0 ∙ from_fields e s

-- the text that is written for an event reads as that event
pub reads_as : (e : Event) → is_carried e ≡ true → ReadsAs (line_of e ++ 10 ∷ []) e
reads_as e carried = ap (map event_of) (parted (fields_of e) (some_fields e) (letters_and_digits e (shorts (fields_of e) carried))).1 ∙ ap (λ r. r ∷ []) (line_read e carried)
