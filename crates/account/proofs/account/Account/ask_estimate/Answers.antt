use Rattle.std.proofs.Common.{◌≡◌, ℕ, ◌+◌, Bool, leb, List, [], ◌∷◌, length, sym, refl, ap, ◌∙◌, ap₂}
use Rattle.rules.specs.Subject.{Method}
use Rattle.rules.specs.Laid.{next_day, is_late}
use Rattle.rules.specs.Questions.{asked, share_asked, is_term, first_no, journal_room}
use Rattle.rules.specs.Machine.{periods_of}
use Rattle.account.specs.declared.account.Account.{Account}
use Rattle.account.specs.State.{state_of, opening_of}
use Rattle.account.specs.Answers.{number_of}
use Rattle.account.specs.declared.refusal.Refusal.TheVariants.{Figures}
use Rattle.account.proofs.Calls.{periods_length, pass, stop, asked_err, number_least, more_asked, all_asked}
use Rattle.account.proofs.account.Account.ask_estimate.Goals as goal

module _ {T : Type 0} (a : Account T) where
  -- the questions about the method, and the one after them
  abbrev shared : (last : ℕ) → Method → List (ℕ × Bool)
  shared last m =
      let ps = periods_of (state_of a) in
      share_asked (is_late ps) (length ps) (next_day a.opening.figure ps) last m

  abbrev roomy : List (ℕ × Bool)
  roomy = (10, leb (length (state_of a).lines + 1) (journal_room (opening_of a))) ∷ []

  -- they are those that were asked of the account's own figures
  shared_is : (late : Bool) (place first last last' : ℕ) (m : Method) → late ≡ is_late (periods_of (state_of a)) → place ≡ a.sheet.filled → first ≡ next_day a.opening.figure (periods_of (state_of a)) → last' ≡ last →
      first_no (shared last m) ≡ first_no (share_asked late place first last' m)
  shared_is late place first last last' m l p f e =
      ap₂ (λ n x. first_no (share_asked (is_late (periods_of (state_of a))) n x last m)) (periods_length a ∙ sym p) (sym f)
      ∙ ap₂ (λ b y. first_no (share_asked b place first y m)) (sym l) (sym e)

pub returns-in_err-hold : goal.returns-in_err-hold
unfolding asked
returns-in_err-hold g c =
    let said = c.in_err-hold.ensures in
    asked_err _ _ c.from_residual.result c.in_err-hold.field-0.0 c.from_residual.ensures.1 (stop _ _ _ said.0 ∙ sym (ap number_of said.1))

pub returns-in_err-last : goal.returns-in_err-last
unfolding asked
returns-in_err-last g c =
    asked_err _ _ c.from_residual-in_err-last.result Figures c.from_residual-in_err-last.ensures.1
    (pass _ _ _ _ c.in_ok-hold.ensures.0 (stop _ _ _ c.in_err-last.ensures))

pub returns-in_err-sheet_takes : goal.returns-in_err-sheet_takes
unfolding asked
returns-in_err-sheet_takes g c =
    let said = c.in_err-sheet_takes.ensures in
    asked_err _ _ c.from_residual-in_err-sheet_takes.result c.in_err-sheet_takes.field-0.0 c.from_residual-in_err-sheet_takes.ensures.1
    (pass _ _ _ _ c.in_ok-hold.ensures.0 (pass _ _ _ _ c.in_ok-last.ensures.0 (stop _ _ _ said.0 ∙ sym (ap number_of said.1))))

pub returns-in_err-term : goal.returns-in_err-term
unfolding asked
returns-in_err-term g c =
    let said = c.in_err-term.ensures in
    let day = c.in_ok-last.ensures in
    asked_err _ _ c.from_residual-in_err-term.result c.in_err-term.field-0.0 c.from_residual-in_err-term.ensures.1
    (pass _ _ _ _ c.in_ok-hold.ensures.0 (pass _ _ _ _ day.0
    (pass _ _ _ _ c.in_ok-sheet_takes.ensures.0 (stop _ _ _ (ap (is_term _) (sym day.1) ∙ said.0) ∙ sym (ap number_of said.1)))))

pub returns-in_err-ask_share : goal.returns-in_err-ask_share
unfolding asked
returns-in_err-ask_share g c =
    let a = c.args.self.now in
    let m = g.M.Method.meaning c.args.m.now in
    let day = c.in_ok-last.ensures in
    let term = c.in_ok-term.ensures in
    let e = shared_is a _ _ _ c.args.last _ m c.is_late-late.ensures c.len.ensures term.1.0 (term.1.1 ∙ day.1) ∙ c.in_err-ask_share.ensures in
    asked_err _ _ c.from_residual-in_err-ask_share.result c.in_err-ask_share.field-0.0 c.from_residual-in_err-ask_share.ensures.1
    (pass _ _ _ _ c.in_ok-hold.ensures.0 (pass _ _ _ _ day.0 (pass _ _ _ _ c.in_ok-sheet_takes.ensures.0 (pass _ _ _ _ (ap (is_term _) (sym day.1) ∙ term.0)
    (more_asked (shared a c.args.last m) (roomy a) _ (number_least c.in_err-ask_share.field-0.0) e)))))

pub returns-in_err-journal_takes : goal.returns-in_err-journal_takes
unfolding asked
returns-in_err-journal_takes g c =
    let a = c.args.self.now in
    let m = g.M.Method.meaning c.args.m.now in
    let day = c.in_ok-last.ensures in
    let term = c.in_ok-term.ensures in
    let said = c.in_err-journal_takes.ensures in
    let e = shared_is a _ _ _ c.args.last _ m c.is_late-late.ensures c.len.ensures term.1.0 (term.1.1 ∙ day.1) ∙ c.in_ok-ask_share.ensures.0 in
    asked_err _ _ c.from_residual-in_err-journal_takes.result c.in_err-journal_takes.field-0.0 c.from_residual-in_err-journal_takes.ensures.1
    (pass _ _ _ _ c.in_ok-hold.ensures.0 (pass _ _ _ _ day.0 (pass _ _ _ _ c.in_ok-sheet_takes.ensures.0 (pass _ _ _ _ (ap (is_term _) (sym day.1) ∙ term.0)
    (all_asked (shared a c.args.last m) (roomy a) _ refl e (stop _ _ _ said.0 ∙ sym (ap number_of said.1)))))))

pub returns : goal.returns
unfolding asked
returns g c =
    let a = c.args.self.now in
    let m = g.M.Method.meaning c.args.m.now in
    let held = c.in_ok-hold.ensures in
    let day = c.in_ok-last.ensures in
    let placed = c.in_ok-sheet_takes.ensures in
    let term = c.in_ok-term.ensures in
    let share = c.in_ok-ask_share.ensures in
    let room = c.in_ok-journal_takes.ensures in
    let e = shared_is a _ _ _ c.args.last _ m c.is_late-late.ensures c.len.ensures term.1.0 (term.1.1 ∙ day.1) ∙ share.0 in (
      pass _ _ _ _ held.0 (pass _ _ _ _ day.0 (pass _ _ _ _ placed.0 (pass _ _ _ _ (ap (is_term _) (sym day.1) ∙ term.0)
          (all_asked (shared a c.args.last m) (roomy a) _ refl e (pass _ _ _ _ room.0 refl))))),
      (held.1, term.1.0, term.1.1 ∙ day.1, c.is_late-late.ensures, share.1, record { sheet = placed.1; journal = room.1 }),
    )
