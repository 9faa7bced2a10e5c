-- What a clerk asks for and what is answered, in the words of the rules.
use Rattle.std.specs.Prelude.{List, map, ℤ, pos, Option, option_map, Result}
use Rattle.rules.specs.Subject as rules
use Rattle.rules.specs.Subject.{Method, Call}
use Rattle.rules.specs.Shown.{Answer}
use Rattle.figures.specs.View.{reading_of}
use Rattle.method.specs.Uses.{finding_of}
use Rattle.account.specs.declared.refusal.Refusal.{Refusal}
use Rattle.account.specs.Answers.{answered}
use Rattle.run.specs.declared.ask.Ask.{Ask}
use Rattle.run.specs.declared.ask.Ask.TheVariants.{Take, HandBack, Bill, Estimate, Correct, Pay}
use Rattle.run.specs.declared.answer.Done.{Done}
use Rattle.run.specs.declared.answer.Done.TheVariants.{Granted, HandedBack, Billed, Corrected, Paid}
use Rattle.run.specs.declared.request.Request.{Request}

-- the call that is asked for, by what its method means
abbrev pub call_of : {M : Type 0} → (M → Method) → Ask M → Call
call_of mean (Take moment span) = rules.take moment span
call_of mean (HandBack hold) = rules.hand_back hold
call_of mean (Bill hold last r) = rules.bill hold last (reading_of r)
call_of mean (Estimate hold last m) = rules.estimate hold last (mean m)
call_of mean (Correct hold f m) = rules.correct hold (finding_of f) (mean m)
call_of mean (Pay hold cents) = rules.pay hold cents.0

-- the value of an accepted call: the hold granted, 0 for a hand back, or cents
abbrev pub value_of : Done → ℤ
value_of (Granted hold) = pos hold
value_of HandedBack = pos 0
value_of (Billed charge) = pos charge.figure.0
value_of (Corrected u) = u.0
value_of (Paid payment) = pos payment.cents.0

-- number 0 and that value, or a refusal's number and 0
abbrev pub answer_of : Result Done Refusal → Answer
answer_of = answered value_of

-- of a list of requests: what is asked, the calls that this means, and the answers that stand beside
abbrev pub asks_in : {M : Type 0} → List (Request M) → List (Ask M)
asks_in = map (λ r. r.ask)

abbrev pub calls_in : {M : Type 0} → (M → Method) → List (Request M) → List Call
calls_in mean rs = map (call_of mean) (asks_in rs)

abbrev pub answers_in : {M : Type 0} → List (Request M) → List (Option Answer)
answers_in = map (λ r. option_map answer_of r.answer)
