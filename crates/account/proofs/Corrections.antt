-- What a correction rests on. Assumes nothing.
use Rattle.std.proofs.Common.{◌≡◌, ℕ, ◌+◌, ◌<◌, ◌≤◌, true, ltb, leb, List, map, length, ℤ, sym, refl, ap, ◌∙◌, ap₂, arith}
use Rattle.std.proofs.lemmas.Bool.{and_parts, leb-true, ltb-true}
use Rattle.rules.specs.Subject.{Tariff, Opening, Finding, Method, correct}
use Rattle.rules.specs.Laid.{rewritten, corrected}
use Rattle.account.specs.Few.{six_at_most}
use Rattle.rules.specs.Questions.{question, asked, every, sort_fits, all_fit, bills}
use Rattle.rules.specs.Shown as show
use Rattle.rules.specs.Journal.{cents_of}
use Rattle.rules.specs.Machine.{period_of, periods_of, view, relaid, posts, effect}
use Rattle.rules.proofs.Runs.{length-posts, relaid_periods}
use Rattle.account.proofs.Spans.{six_corrected, rows_few}
use Rattle.rules.proofs.Dues.{bills_limit}
use Rattle.book.specs.Pages.{Pages, pages_of}
use Rattle.figures.specs.declared.line.Line.{Line}
use Rattle.account.specs.Lines.{Grown}
use Rattle.account.specs.Sums.{amounts_of, corrected_by}
use Rattle.account.specs.declared.account.Account.{Account}
use Rattle.account.specs.State.{state_of, opening_of}
use Rattle.rules.proofs.Holds.{all_yes}
use Rattle.account.proofs.Calls.{room_said, periods_length, made}

-- what an accepted correction knows
pub record Correctable {T : Type 0} (a : Account T) (f : Finding) (m : Method) : Type 0 where
  pub ordered : f.first ≤ f.last
  pub billed : f.last < a.sheet.filled
  pub sorts : every (sort_fits f) 0 (periods_of (state_of a)) ≡ true
  pub fits : all_fit (rewritten f 0 (corrected f m 0 0 0 (periods_of (state_of a)))) ≡ true
  pub few : length (rewritten f 0 (periods_of (state_of a))) ≤ 12
  pub bills : bills f ≤ 12
  pub room : a.journal.filled + length (rewritten f 0 (periods_of (state_of a))) ≤ a.journal.limit

pub correct_yes : {T : Type 0} (a : Account T) (hold : ℕ) (f : Finding) (m : Method) → question (opening_of a) (view (state_of a)) (correct hold f m) ≡ 0 → Correctable a f m
unfolding asked
correct_yes a hold f m e =
    let y = all_yes (asked (opening_of a) (view (state_of a)) (correct hold f m)) refl e in
    let five = and_parts (leb f.first f.last) (ltb f.last (length (periods_of (state_of a)))) y.1.1.0 in
    record {
      ordered = leb-true _ _ five.0;
      billed = omega (arith, ltb-true _ _ five.1, periods_length a);
      sorts = (and_parts _ _ y.1.1.1.0).0;
      fits = y.1.1.1.1.1.1.0;
      few = rows_few f (periods_of (state_of a)) y.1.1.1.0 y.1.1.1.1.0 a.runs;
      bills = bills_limit f.cause f.side f (periods_of (state_of a)) y.1.1.1.1.0;
      room = omega (arith, leb-true _ _ (sym (room_said a (length (rewritten f 0 (periods_of (state_of a))))) ∙ y.1.1.1.1.1.1.1.0));
    }

-- what a correction does, in the words of the step
pub corrected_is : {T : Type 0} (t : Tariff) (o : Opening) (a : Account T) (hold hold' : ℕ) (f : Finding) (m : Method) (u : ℤ) (n lines : ℕ) → hold ≡ hold' →
    u ≡ cents_of (posts t f m hold 0 0 0 (state_of a).rows) → n ≡ bills f →
    made a (relaid t f m 0 0 0 (state_of a).rows) (posts t f m hold 0 0 0 (state_of a).rows) (corrected_by (amounts_of a.sums) u n lines) ≡ effect t o (state_of a) (correct hold' f m)
unfolding effect
corrected_is t o a hold hold' f m u n lines h e k =
    ap₂ (λ x y. made a (relaid t f m 0 0 0 (state_of a).rows) (posts t f m hold 0 0 0 (state_of a).rows) (corrected_by (amounts_of a.sums) x y lines)) e k
    ∙ ap (λ z. made a (relaid t f m 0 0 0 (state_of a).rows) (posts t f m z 0 0 0 (state_of a).rows) (corrected_by (amounts_of a.sums) (cents_of (posts t f m z 0 0 0 (state_of a).rows)) (bills f) lines)) h

-- its runs have still six estimated rows at most
pub runs_relaid : {T : Type 0} (a : Account T) (new : List show.Row) (t : Tariff) (f : Finding) (m : Method) → new ≡ relaid t f m 0 0 0 (state_of a).rows → six_at_most 0 (map period_of new) ≡ true
runs_relaid a new t f m e =
    ap (λ rs. six_at_most 0 (map period_of rs)) e
    ∙ ap (six_at_most 0) (relaid_periods t f m 0 0 0 (state_of a).rows)
    ∙ six_corrected f m 0 0 0 0 (periods_of (state_of a)) a.runs

-- the lines that a correction adds have their places
pub record Added {T : Type 0} (a : Account T) (q : Pages Line) (k : ℕ) : Type 0 where
  pub filled : q.filled ≡ a.journal.filled + k
  pub within : q.filled ≤ a.journal.limit
  pub most : a.journal.limit ≤ 1024

pub added : {T : Type 0} (a : Account T) (q : Pages Line) (t : Tariff) (hold : ℕ) (f : Finding) (m : Method) → Correctable a f m → Grown (pages_of a.journal) q (posts t f m hold 0 0 0 (state_of a).rows) → Added a q (length (posts t f m hold 0 0 0 (state_of a).rows))
added a q t hold f m y g =
    let n = length-posts t f m hold 0 0 0 (state_of a).rows in
    let l = a.journal_limit in
    record { filled = g.filled; within = omega (arith, g.filled, n, y.room); most = omega arith }
