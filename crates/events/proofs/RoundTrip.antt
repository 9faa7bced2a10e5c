-- What an answer of the writer says of reading. Assumes nothing.
use Rattle.std.proofs.Common.{◌≡◌, ℕ, ◌≤◌, Bool, true, false, cond, List, [], ◌∷◌, ◌++◌, length, take, Ok, Err, Result, refl, sym, ap, ◌∙◌, subst, le-ltb}
use Rattle.std.specs.Result.{IfOk, IfErr}
use Rattle.std.proofs.lemmas.Bool.{cond-false}
use Rattle.std.proofs.Math.Seq.{take-append_seam}
use Rattle.page.specs.Answered.{cleared}
use Rattle.events.specs.declared.event.Event.{Event}
use Rattle.events.specs.declared.fault.ReaderFault.{ReaderFault}
use Rattle.events.specs.declared.unwritten.Unwritten.{Unwritten}
use Rattle.events.specs.declared.unwritten.Unwritten.TheVariants.{NoLine, Page}
use Rattle.events.specs.Lines.{fields}
use Rattle.events.specs.Events.{event_from, event_of}
use Rattle.events.specs.Carried.{fields_of, line_of, is_carried}
use Rattle.events.specs.Writing.{Written}
use Rattle.events.specs.RoundTrip.{ReadsAs, NeverRead, IsLineOf}
use Rattle.events.proofs.ReadBack.{reads_as}
use Rattle.events.proofs.Written.{line_written}

writes_as : (line : List ℕ) (r : Result Event ReaderFault) → r ≡ event_of line → IfOk r (λ e. IsLineOf line e)
writes_as line (Ok e) is = let w = line_written line e (sym is) in (sym w.0, w.1)
writes_as line (Err f) is = tt

-- a line that is short enough
pub read_short : (line : List ℕ) (r : Result Event ReaderFault) → length line ≤ 140 → r ≡ event_from (fields line) → r ≡ event_of line
read_short line r short is = is ∙ sym (cond-false _ _ _ (le-ltb 140 (length line) short))

pub written_short : (line : List ℕ) (r : Result Event ReaderFault) → length line ≤ 140 → r ≡ event_from (fields line) → IfOk r (λ e. IsLineOf line e)
written_short line r short is = writes_as line r (read_short line r short is)

accepted : (c f : Bool) → ◌≡◌ {A = ℕ} 0 (cond c (cond f 0 21) 19) → c ≡ true
accepted true f e = refl
accepted false f e = cc

refused : (c f : Bool) → ◌≡◌ {A = ℕ} 19 (cond c (cond f 0 21) 19) → c ≡ false
refused true true e = cc
refused true false e = cc
refused false f e = refl

pub read_so : (e : Event) (before left : List ℕ) (r : Result ℕ Unwritten) → Written (fields_of e) before (cleared r left) r → IfOk r (λ bytes. ReadsAs (take bytes left) e)
read_so e before left (Ok bytes) w =
    let text = line_of e ++ 10 ∷ [] in
    let carried = accepted (is_carried e) _ w.answered in
    let same : take bytes left ≡ text = ap (λ n. take n left) w.counted ∙ ap (take (length text)) w.page ∙ take-append_seam text _ in
    subst (λ t. ReadsAs t e) (sym same) (reads_as e carried)
read_so e before left (Err u) w = tt

pub unread_so : (e : Event) (before left : List ℕ) (r : Result ℕ Unwritten) → Written (fields_of e) before (cleared r left) r → IfErr r (λ why. (why ≡ NoLine) → NeverRead e)
unread_so e before left (Ok bytes) w = tt
unread_so e before left (Err Page) w = λ is. cc
unread_so e before left (Err NoLine) w = λ is line reads. let none = refused (is_carried e) _ w.answered in let some = line_written line e reads in cc
