-- What calls are answered. Assumes nothing.
use Rattle.std.proofs.Common.{◌≡◌, ℕ, ◌+◌, cond, eqb, List, ℤ, pos, refl, ap, ◌∙◌, arith}
use Rattle.std.proofs.lemmas.Int.{ints}
use Rattle.rules.specs.Subject.{Period, Tariff, charge, Call, take, hand_back, bill, estimate, correct, pay, Opening}
use Rattle.rules.specs.Laid.{next_day, metered, without_reading}
use Rattle.rules.specs.Questions.{Books, question}
use Rattle.rules.specs.Given.{given, accepted, billed}
use Rattle.rules.specs.Shown.{Answer, State}
use Rattle.rules.specs.Journal.{cents_of}
use Rattle.rules.specs.Law.{worth_of, answer_to}
use Rattle.rules.specs.Machine.{view, posts, worth, step}
use Rattle.rules.proofs.Runs.{of_cond, after, ran, view_ran, rows_ran, after_ran}
use Rattle.rules.proofs.Journal.{posts_changes, cents_changes, charged_one}

worth_ran : (t : Tariff) (o : Opening) (c : Call) (calls : List Call) → worth t o (ran t o calls) c ≡ worth_of t o c calls
unfolding billed
worth_ran t o (take now length) calls = ap (λ n. pos (n + 1)) (ap (λ (b : Books). b.granted) (view_ran t o calls))
worth_ran t o (hand_back hold) calls = refl
worth_ran t o (bill hold last r) calls =
    let ps = billed o calls in
    ap (λ (q : List Period). pos (charge t (metered (next_day o.day q) last r))) (ap (λ (b : Books). b.periods) (view_ran t o calls))
    ∙ charged_one t ps (metered (next_day o.day ps) last r)
worth_ran t o (estimate hold last m) calls =
    let ps = billed o calls in
    ap (λ (q : List Period). pos (charge t (without_reading (next_day o.day q) last m q))) (ap (λ (b : Books). b.periods) (view_ran t o calls))
    ∙ charged_one t ps (without_reading (next_day o.day ps) last m ps)
worth_ran t o (correct hold f m) calls =
    let ps = billed o calls in
    ap (λ x. cents_of (posts t f m hold 0 0 0 x)) (rows_ran t o calls)
    ∙ ap cents_of (posts_changes t f m hold 0 0 0 ps)
    ∙ omega (arith, ints, cents_changes t f m hold 0 0 0 ps)
worth_ran t o (pay hold cents) calls = refl

pub answers_law : (t : Tariff) (o : Opening) (h : List Call) (c : Call) → (step t o (after t o h) c).0 ≡ answer_to t o h c
unfolding step
answers_law t o h c =
    let calls = accepted o h in
    let by : ℕ → ℤ → Answer = λ q v. cond (eqb q 0) (record { number = 0; value = v }) (record { number = q; value = pos 0 }) in
    of_cond (λ (a : Answer × State). a.0) (eqb (question o (view (after t o h)) c) 0) refl refl
    ∙ ap (λ (s : State). by (question o (view s) c) (worth t o s c)) (after_ran t o h)
    ∙ ap (λ (b : Books). by (question o b c) (worth t o (ran t o calls) c)) (view_ran t o calls)
    ∙ ap (by (question o (given o calls) c)) (worth_ran t o c calls)
