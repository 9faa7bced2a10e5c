-- A walk over the lines of a text: what is done, and what is left. Assumes nothing.
use Rattle.std.proofs.Common.{◌≡◌, ℕ, List, [], ◌∷◌, ◌++◌, ℤ, Ok, Err, Result, sym, refl, ap, ◌∙◌, subst, ap₂}
use Rattle.std.proofs.lemmas.List.{append_assoc}
use Rattle.rules.specs.Subject.{Tariff, Call, Opening}
use Rattle.rules.specs.Machine.{periods_of}
use Rattle.rules.specs.Law.{Law}
use Rattle.rules.specs.Given.{accepted}
use Rattle.rules.specs.Shown.{State}
use Rattle.rules.specs.Owed.{balance, due}
use Rattle.rules.specs.Journal.{lines as journal_lines}
use Rattle.account.specs.declared.account.Account.{Account}
use Rattle.account.specs.State.{state_of, opening_of}
use Rattle.events.specs.Events.{event_of}
use Rattle.desk.specs.declared.fault.Fault.{Fault}
use Rattle.desk.specs.Calls.{line_call, answered, outcome_after, with_call}
use Rattle.desk.specs.Called.{outcome_of, Called}
use Rattle.desk.specs.Lawful.{call_after}
use Rattle.desk.proofs.Runs.{answered_so, answered_law}
use Rattle.page.specs.declared.kept.Page.{Page}
use Rattle.page.specs.declared.writes.Full.{Full}
use Rattle.page.specs.Writes.{Wrote}
use Rattle.statements.specs.Texts.{told}
use Rattle.statements.specs.Statement.{calls, replies, account_text}
use Rattle.page.proofs.Steps.{◌then◌, wrote_none, stopped, spelled_as}

-- a with the page p has become b with the page q, and of all lines these are left
pub record Going {T : Type 0} (mean : T → Tariff) (a b : Account T) (p q : Page) (all left : List (List ℕ)) : Type 0 where
  pub made : List Call
  pub written : List ℕ
  pub law : Law (mean a.tariff) (opening_of a) made (state_of b)
  pub opening : opening_of b ≡ opening_of a
  pub tariff : mean b.tariff ≡ mean a.tariff
  pub page : Wrote p q (Ok tt) written
  pub answers : written ++ replies (mean a.tariff) (opening_of a) made left ≡ replies (mean a.tariff) (opening_of a) [] all
  pub heard_all : calls (opening_of a) made left ≡ calls (opening_of a) [] all

module _ {T : Type 0} (mean : T → Tariff) (a : Account T) (p : Page) (all : List (List ℕ)) where
  pub going_from : (left : List (List ℕ)) → left ≡ all → Law (mean a.tariff) (opening_of a) [] (state_of a) → Going mean a a p p all left
  going_from left is opened = record {
    made = [];
    written = [];
    law = opened;
    opening = refl;
    tariff = refl;
    page = wrote_none p;
    answers = ap (replies (mean a.tariff) (opening_of a) []) is;
    heard_all = ap (calls (opening_of a) []) is;
  }

  module _ (b d : Account T) (q r : Page) (l : List ℕ) (rest left : List (List ℕ)) (z : Result ℤ Fault) (g : Going mean a b p q all left) (is : left ≡ l ∷ rest) (s : Called mean b d (line_call (periods_of (state_of b)) (event_of l)) z) where
    -- a line's call is answered as after the calls before it
    answered_here : answered (mean b.tariff) (opening_of b) (state_of b) (line_call (periods_of (state_of b)) (event_of l)) ≡ answered (mean a.tariff) (opening_of a) (state_of b) (call_after (opening_of a) g.made l)
    answered_here =
        let c = line_call (periods_of (state_of b)) (event_of l) in
        ap (λ (x : Tariff). answered x (opening_of b) (state_of b) c) g.tariff
        ∙ ap (λ (x : Opening). answered (mean a.tariff) x (state_of b) c) g.opening
        ∙ answered_so (mean a.tariff) (opening_of a) g.made (state_of b) l g.law

    lawful_here : Law (mean a.tariff) (opening_of a) (with_call g.made (call_after (opening_of a) g.made l)) (answered (mean a.tariff) (opening_of a) (state_of b) (call_after (opening_of a) g.made l)).1 × ((answered (mean a.tariff) (opening_of a) (state_of b) (call_after (opening_of a) g.made l)).0 ≡ outcome_after (mean a.tariff) (opening_of a) g.made (call_after (opening_of a) g.made l))
    lawful_here = answered_law (mean a.tariff) (opening_of a) g.made (state_of b) (call_after (opening_of a) g.made l) g.law

    line_left : (g.written ++ told (outcome_of z)) ++ replies (mean a.tariff) (opening_of a) (with_call g.made (call_after (opening_of a) g.made l)) rest ≡ replies (mean a.tariff) (opening_of a) [] all
    line_left =
        let t = mean a.tariff in
        let o = opening_of a in
        append_assoc g.written (told (outcome_of z)) _
        ∙ ap (λ x. g.written ++ (told x ++ replies t o (with_call g.made (call_after o g.made l)) rest)) (s.answer ∙ ap (λ x. x.0) answered_here ∙ lawful_here.1)
        ∙ ap (λ x. g.written ++ replies t o g.made x) (sym is)
        ∙ g.answers

    -- the answer did not fit, whatever was to come after the answers
    pub going_stopped : {e : Full} (u : List ℕ) → Wrote q r (Err e) (told (outcome_of z)) → Wrote p r (Err e) (replies (mean a.tariff) (opening_of a) [] all ++ u)
    going_stopped u w =
        let later = replies (mean a.tariff) (opening_of a) (with_call g.made (call_after (opening_of a) g.made l)) rest in
        spelled_as (sym (append_assoc (g.written ++ told (outcome_of z)) later u) ∙ ap (λ x. x ++ u) line_left) (stopped (later ++ u) (g.page then w))

    pub going_more : Wrote q r (Ok tt) (told (outcome_of z)) → Going mean a d p r all rest
    going_more w =
        let t = mean a.tariff in
        let o = opening_of a in
        record {
          made = with_call g.made (call_after o g.made l);
          written = g.written ++ told (outcome_of z);
          law = subst (Law t o (with_call g.made (call_after o g.made l))) (sym (s.state ∙ ap (λ x. x.1) answered_here)) lawful_here.0;
          opening = s.same.opening ∙ g.opening;
          tariff = s.same.tariff ∙ g.tariff;
          page = g.page then w;
          answers = line_left;
          heard_all = ap (calls o g.made) (sym is) ∙ g.heard_all;
        }

-- what an account that keeps the law shows
pub shows : (t : Tariff) (o : Opening) (h : List Call) (s : State) → Law t o h s →
    account_text s.lines s.balance s.due ≡ account_text (journal_lines t o (accepted o h)) (balance t o (accepted o h)) (due t o (accepted o h))
shows t o h s l = ap₂ (λ ls b. account_text ls b s.due) l.journal l.balance ∙ ap (account_text (journal_lines t o (accepted o h)) (balance t o (accepted o h))) l.due
