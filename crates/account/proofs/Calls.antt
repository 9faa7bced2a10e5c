-- From a call's own work to the step, and from the step to the law. Assumes nothing.
use Rattle.std.proofs.Common.{◌≡◌, ℕ, ◌+◌, ◌≤◌, min, Bool, true, false, cond, eqb, ltb, leb, List, [], ◌∷◌, ◌++◌, map, length, take, ℤ, pos, IsErrAnd, Some, None, Err, Option, Result, sym, refl, ap, ◌∙◌, subst, ap₂, arith}
use Rattle.std.proofs.lemmas.List.{length-map, length-take-le}
use Rattle.std.proofs.lemmas.Bool.{cond-true, cond-false, eq-eqb, ne_eqb, ltb-true, and_parts}
use Rattle.rules.specs.Subject.{Tariff, Call, Opening}
use Rattle.rules.specs.Questions.{question, asked, first_no, sheet_room, journal_room}
use Rattle.std.proofs.lemmas.Result.{err_from_is_err_and}
use Rattle.rules.specs.Shown as show
use Rattle.rules.specs.Law.{Law}
use Rattle.rules.specs.Machine.{opened, view, step, effect, worth, periods_of}
use Rattle.rules.specs.Shown.{Answer, State}
use Rattle.rules.proofs.Holds.{numbered}
use Rattle.rules.proofs.Stands.{law_opened, law_step}
use Rattle.book.specs.Pages.{Pages, pages_of, written, appended, fresh}
use Rattle.book.proofs.Room.{appended_room}
use Rattle.figures.specs.View.{seen, line_seen}
use Rattle.figures.specs.declared.row.Row.{Row}
use Rattle.figures.specs.declared.line.Line.{Line}
use Rattle.account.specs.Lines.{lines_of, Grown}
use Rattle.account.proofs.sheet.Relaid.{grown_none, grown_more}
use Rattle.account.specs.Sums.{Amounts, amounts_of, nothing}
use Rattle.rules.specs.Questions as Questions
use Rattle.account.specs.declared.account.Account.{Account}
use Rattle.account.specs.declared.refusal.Refusal.{Refusal}
use Rattle.account.specs.declared.refusal.Refusal.TheVariants.{NoHold, Figures, SheetFull, Period, NotBilled, WrongSort, WrongSpan, NoFit, ShareTooLarge, JournalFull, Held, NoNumber}
use Rattle.account.specs.Rows.{rows_of}
use Rattle.account.specs.Answers.{number_of, answered, Asked}
use Rattle.account.specs.State.{hold_of, state_of, opening_of, Same, Stepped, Keeps, LawfulAfter, opened_over, Opened}
use Rattle.account.specs.Work.{Changed}

-- a filled part is as long as it is filled
pub taken_length : {X Y : Type 0} (f : X → Y) (n : ℕ) (xs : List X) → n ≤ length xs → length (map f (take n xs)) ≡ n
taken_length f n xs h = length-map (take n xs) f ∙ length-take-le n xs h

pub lines_length : {T : Type 0} (a : Account T) → length (lines_of (pages_of a.journal)) ≡ a.journal.filled
lines_length a = let b = a.journal in taken_length line_seen b.filled b.memory.now (omega (arith, b.within_limit, b.within_memory))

pub rows_length : {T : Type 0} (a : Account T) → length (rows_of (pages_of a.sheet)) ≡ a.sheet.filled
rows_length a = let b = a.sheet in taken_length seen b.filled b.memory.now (omega (arith, b.within_limit, b.within_memory))

pub periods_length : {T : Type 0} (a : Account T) → length (periods_of (state_of a)) ≡ a.sheet.filled
periods_length a = length-map (rows_of (pages_of a.sheet)) _ ∙ rows_length a

-- a chain of questions: one that says yes is passed, one that says no gives its number
pub pass : (b : Bool) (rest a x : ℕ) → b ≡ true → rest ≡ x → cond b rest a ≡ x
pass b rest a x e k = cond-true b rest a e ∙ k

pub stop : (b : Bool) (rest a : ℕ) → b ≡ false → cond b rest a ≡ a
stop b rest a e = cond-false b rest a e

-- questions, and then others
pub more_asked : (qs rest : List (ℕ × Bool)) (q : ℕ) → 1 ≤ q → first_no qs ≡ q → first_no (qs ++ rest) ≡ q
more_asked [] rest q h e = absurd (omega (arith, e))
more_asked ((n, true) ∷ qs) rest q h e = more_asked qs rest q h e
more_asked ((n, false) ∷ qs) rest q h e = e

pub all_asked : (qs rest : List (ℕ × Bool)) (q : ℕ) → numbered qs ≡ true → first_no qs ≡ 0 → first_no rest ≡ q → first_no (qs ++ rest) ≡ q
all_asked [] rest q h e k = k
all_asked ((n, true) ∷ qs) rest q h e k = all_asked qs rest q (and_parts _ _ h).1 e k
all_asked ((n, false) ∷ qs) rest q h e k = absurd (omega (arith, e, ltb-true 0 n (and_parts _ _ h).0))

-- a question that breaks off, at the exit of a `?`
pub asked_err : {X : Type 0} (made : X → Type 0) (q : ℕ) (r : Result X Refusal) (e : Refusal) → IsErrAnd r (λ y. y ≡ e) → q ≡ number_of e → Asked q made r
asked_err made q r e b h = let p = err_from_is_err_and r b in subst (Asked q made) (sym p.1) (h ∙ sym (ap number_of p.2))

abbrev pub valued : ℤ → Answer
valued v = record { number = 0; value = v }

abbrev pub refused_with : State → ℕ → Answer × State
refused_with s q = (record { number = q; value = pos 0 }, s)

module _ {T : Type 0} (mean : T → Tariff) where
  module _ (a : Account T) (c : Call) where
    abbrev asked_of : ℕ
    asked_of = question (opening_of a) (view (state_of a)) c

    abbrev result : Answer × State
    result = step (mean a.tariff) (opening_of a) (state_of a) c

    step_refused : (q : ℕ) → q ≡ asked_of → 1 ≤ q → result ≡ (record { number = q; value = pos 0 }, state_of a)
    unfolding step
    step_refused q e h =
        cond-false (eqb asked_of 0) _ _ (ne_eqb asked_of 0 (λ z. omega (arith, z, e)))
        ∙ ap (refused_with (state_of a)) (sym e)

    step_accepted : asked_of ≡ 0 → result ≡ (record { number = 0; value = worth (mean a.tariff) (opening_of a) (state_of a) c }, effect (mean a.tariff) (opening_of a) (state_of a) c)
    unfolding step
    step_accepted e = cond-true (eqb asked_of 0) _ _ (eq-eqb asked_of 0 e)

    pub refused : (q : ℕ) → asked_of ≡ q → 1 ≤ q → Stepped mean a a c (record { number = q; value = pos 0 })
    refused q e h =
        let s = step_refused q (sym e) h in
        record {
          answer = sym (ap (λ (r : Answer × State). r.0) s);
          state = sym (ap (λ (r : Answer × State). r.1) s);
          same = record { opening = refl; tariff = refl; sheet_past = refl; journal_past = refl; memory = record { sheet = refl; journal = refl } };
          unasked = λ k. refl;
        }

  -- an accepted call, by its parts
  pub record Done (a b : Account T) (c : Call) (v : ℤ) : Type 0 where
    pub accepted : question (opening_of a) (view (state_of a)) c ≡ 0
    pub value : v ≡ worth (mean a.tariff) (opening_of a) (state_of a) c
    pub state : state_of b ≡ effect (mean a.tariff) (opening_of a) (state_of a) c
    pub same : Same mean a b

  pub done : (a b : Account T) (c : Call) (v : ℤ) → Done a b c v → Stepped mean a b c (record { number = 0; value = v })
  done a b c v d =
      let s = step_accepted a c d.accepted in
      record {
        answer = ap valued d.value ∙ sym (ap (λ (r : Answer × State). r.0) s);
        state = d.state ∙ sym (ap (λ (r : Answer × State). r.1) s);
        same = d.same;
        unasked = λ k. absurd (omega (arith, k));
      }

  -- an account in the state that keeps the law, opened as another was, and under a tariff of the same meaning
  pub kept_by : (a b : Account T) (h : List Call) (s : State) → Law (mean a.tariff) (opening_of a) h s → state_of b ≡ s → Same mean a b → Keeps mean h b
  kept_by a b h s l e same =
      subst (λ (t : Tariff). Law t (opening_of b) h (state_of b)) (sym same.tariff)
      (subst (λ (o : Opening). Law (mean a.tariff) o h (state_of b)) (sym same.opening) (subst (Law (mean a.tariff) (opening_of a) h) (sym e) l))

  pub lawful : (a b : Account T) (c : Call) (r : Answer) → Stepped mean a b c r → LawfulAfter mean a b c r
  lawful a b c r s =
      let after = λ (h : List Call) (l : Keeps mean h a). law_step (mean a.tariff) (opening_of a) h (state_of a) c l in
      record {
        same = s.same;
        law = λ h l. kept_by a b (c ∷ h) _ (after h l).0 s.state s.same;
        answer = λ h l. s.answer ∙ (after h l).1;
      }

pub number_least : (e : Refusal) → 1 ≤ number_of e
number_least NoHold = omega arith
number_least Figures = omega arith
number_least SheetFull = omega arith
number_least Period = omega arith
number_least NotBilled = omega arith
number_least WrongSort = omega arith
number_least WrongSpan = omega arith
number_least NoFit = omega arith
number_least ShareTooLarge = omega arith
number_least JournalFull = omega arith
number_least Held = omega arith
number_least NoNumber = omega arith

-- a refused call, at the exit of a `?`: the step refuses, and nothing has changed
pub refused_by : {T X : Type 0} (mean : T → Tariff) (a : Account T) (c : Call) (worth : X → ℤ) (r : Result X Refusal) (e : Refusal) → IsErrAnd r (λ y. y ≡ e) → question (opening_of a) (view (state_of a)) c ≡ number_of e → Stepped mean a a c (answered worth r) × LawfulAfter mean a a c (answered worth r)
refused_by mean a c worth r e b q =
    let p = err_from_is_err_and r b in
    let s = refused mean a c (number_of e) q (number_least e) in
    let t = subst (λ x. Stepped mean a a c (answered worth x)) (sym (p.1 ∙ ap Err p.2)) s in
    (t, lawful mean a a c _ t)

-- what the questions ask of the memory is what the books say
pub room_said : {T : Type 0} (a : Account T) (n : ℕ) → leb (length (state_of a).lines + n) (journal_room (opening_of a)) ≡ leb (a.journal.filled + n) a.journal.limit
room_said a n = ap₂ (λ x y. leb (x + n) y) (lines_length a) (sym a.journal_limit)

pub place_said : {T : Type 0} (a : Account T) → ltb (length (periods_of (state_of a))) (sheet_room (opening_of a)) ≡ ltb a.sheet.filled a.sheet.limit
place_said a = ap₂ ltb (periods_length a) (sym a.sheet_limit)

-- an account with other rows, these lines more, and other sums
abbrev pub made : {T : Type 0} → Account T → List show.Row → List show.Line → Amounts → State
made a rows ls t = record {
  granted = a.granted;
  holding = hold_of a.holding;
  rows = rows;
  lines = lines_of (pages_of a.journal) ++ ls;
  balance = t.balance;
  due = t.due;
  coming = t.coming;
}

abbrev made_of : ℕ → Option Questions.Hold → List show.Row → List show.Line → Amounts → State
made_of g h rows lines t = record { granted = g; holding = h; rows = rows; lines = lines; balance = t.balance; due = t.due; coming = t.coming }

abbrev opened_of : (day sheet journal : ℕ) → Opening
opened_of day sheet journal = record { day = day; sheet = sheet; journal = journal }

module _ {T : Type 0} (mean : T → Tariff) (a b : Account T) (rows : List show.Row) (ls : List show.Line) (t : Amounts) (h : Changed mean a b rows ls t) where
  changed_state : state_of b ≡ made a rows ls t
  changed_state =
      ap₂ (λ g k. made_of g (hold_of k) (rows_of (pages_of b.sheet)) (lines_of (pages_of b.journal)) (amounts_of b.sums)) h.granted h.holding
      ∙ ap₂ (λ x y. made_of a.granted (hold_of a.holding) x y (amounts_of b.sums)) h.rows h.journal.lines
      ∙ ap (made_of a.granted (hold_of a.holding) rows (lines_of (pages_of a.journal) ++ ls)) h.sums

  changed_opening : opening_of b ≡ opening_of a
  changed_opening =
      ap (λ x. opened_of x (length b.sheet.memory.now) (length b.journal.memory.now)) h.day
      ∙ ap₂ (λ x y. opened_of a.opening.figure x y) h.sheet_size h.journal.size

  -- an accepted call that does just this
  pub changed_done : (c : Call) (v : ℤ) → question (opening_of a) (view (state_of a)) c ≡ 0 → v ≡ worth (mean a.tariff) (opening_of a) (state_of a) c → made a rows ls t ≡ effect (mean a.tariff) (opening_of a) (state_of a) c → Stepped mean a b c (valued v) × LawfulAfter mean a b c (valued v)
  changed_done c v q w e =
      let s = done mean a b c v (record {
        accepted = q;
        value = w;
        state = changed_state ∙ e;
        same = record { opening = changed_opening; tariff = h.tariff; sheet_past = h.sheet_past; journal_past = h.journal.past; memory = h.memory };
      }) in
      (s, lawful mean a b c _ s)

-- a line appended where there is room is written
pub appended_by : {T : Type 0} (a : Account T) (l : Line) (q : Pages Line) → a.journal.filled + 1 ≤ a.journal.limit → q ≡ appended (pages_of a.journal) l → q ≡ written (pages_of a.journal) l
appended_by a l q h e = e ∙ appended_room a.journal l (omega arith)

-- a line more, and what the account owes of its journal
pub grown_by : {T : Type 0} (a : Account T) (l : Line) (x : show.Line) (q : Pages Line) → a.journal.filled + 1 ≤ a.journal.limit → line_seen l ≡ x → q ≡ written (pages_of a.journal) l → Grown (pages_of a.journal) q (x ∷ [])
grown_by a l x q h k e =
    let m = a.journal.within_memory in
    let p = pages_of a.journal in
    subst (λ (z : show.Line). Grown p q (z ∷ [])) k (subst (λ (z : Pages Line). Grown p z (line_seen l ∷ [])) (sym e) (grown_more p p [] l (omega (arith, h)) (grown_none p)))

pub grown_limit : {T : Type 0} (a : Account T) (q : Pages Line) (ls : List show.Line) → Grown (pages_of a.journal) q ls → q.limit ≡ min (length q.memory) 1024
grown_limit a q ls g = g.limit ∙ a.journal_limit ∙ ap (λ n. min n 1024) (sym g.size)

-- an account with nothing in it
pub opened_is : {T : Type 0} (mean : T → Tariff) (a : Account T) (day : ℕ) (sheet : List Row) (journal : List Line) → a.opening.figure ≡ day → a.granted ≡ 0 → a.holding ≡ None → amounts_of a.sums ≡ nothing → pages_of a.sheet ≡ fresh sheet 120 → pages_of a.journal ≡ fresh journal 1024 → Opened mean a a.tariff day sheet journal
opened_is mean a day sheet journal d g h s p q =
    let rows = ap (λ (x : Pages Row). x.memory) p in
    let lines = ap (λ (x : Pages Line). x.memory) q in
    let e : state_of a ≡ opened =
    ap₂ (λ x y. made_of x (hold_of y) (rows_of (pages_of a.sheet)) (lines_of (pages_of a.journal)) (amounts_of a.sums)) g h
    ∙ ap₂ (λ x y. made_of 0 None (rows_of x) (lines_of y) (amounts_of a.sums)) p q
    ∙ ap (made_of 0 None [] []) s in
    let o : opening_of a ≡ opened_over day sheet journal =
    ap (λ x. opened_of x (length a.sheet.memory.now) (length a.journal.memory.now)) d ∙ ap₂ (λ x y. opened_of day (length x) (length y)) rows lines in
    record {
      tariff = refl;
      law = subst (Law (mean a.tariff) (opening_of a) []) (sym e) (law_opened (mean a.tariff) (opening_of a));
      opening = o;
      rows = rows;
      lines = lines;
    }

-- a hold granted
abbrev pub granting : State → (until number : ℕ) → State
granting s until number = record {
  granted = number;
  holding = Some (record { number = number; until = until });
  rows = s.rows;
  lines = s.lines;
  balance = s.balance;
  due = s.due;
  coming = s.coming;
}
