-- Calls made one after another: the law, the answers, and the memory past the filled parts.
use Rattle.std.proofs.Common.{◌≡◌, ℕ, ◌+◌, ◌-◌, ◌≤◌, eqb, List, [], ◌∷◌, ◌++◌, map, length, drop, Some, Option, sym, refl, ap, ap₂, ◌∙◌, subst, arith}
use Rattle.std.proofs.lemmas.Bool.{cond_both}
use Rattle.std.proofs.lemmas.List.{length-append, length-map, drop-drop, map_push}
use Rattle.rules.specs.Subject.{Tariff, Call, take, hand_back, bill, estimate, correct, pay, Opening}
use Rattle.rules.specs.Questions.{question}
use Rattle.rules.specs.Given.{billed, given, accepted}
use Rattle.rules.specs.Shown.{Answer, State}
use Rattle.rules.specs.Journal.{lines}
use Rattle.rules.specs.Law.{Law, answer_to}
use Rattle.rules.proofs.Laying.{length-corrected}
use Rattle.account.specs.declared.account.Account.{Account}
use Rattle.account.specs.State.{state_of, opening_of, Same, Keeps, LawfulAfter}
use Rattle.account.proofs.Calls.{rows_length, lines_length}
use Rattle.run.specs.Runs.{onto, answers_to, Follows, OpenedAlike}

longer : {X : Type 0} (xs ys : List X) → length xs ≤ length (xs ++ ys)
longer xs ys = omega (arith, length-append xs ys)

-- no call takes a billed period away
billed_more : (o : Opening) (c : Call) (calls : List Call) → length (billed o calls) ≤ length (billed o (c ∷ calls))
unfolding billed
billed_more o (take now length) calls = omega arith
billed_more o (hand_back hold) calls = omega arith
billed_more o (bill hold last r) calls = longer (billed o calls) _
billed_more o (estimate hold last m) calls = longer (billed o calls) _
billed_more o (correct hold f m) calls = omega (arith, length-corrected f m (billed o calls))
billed_more o (pay hold cents) calls = omega arith

-- nor a line
lines_more : (t : Tariff) (o : Opening) (c : Call) (calls : List Call) → length (lines t o calls) ≤ length (lines t o (c ∷ calls))
unfolding lines
lines_more t o c calls = longer (lines t o calls) _

-- what grows with every accepted call grows with every call
accepted_more : (size : List Call → ℕ) → ((c : Call) (calls : List Call) → size calls ≤ size (c ∷ calls)) → (o : Opening) (h : List Call) (c : Call) → size (accepted o h) ≤ size (accepted o (c ∷ h))
unfolding accepted
accepted_more size grows o h c =
    let before = accepted o h in
    cond_both (eqb (question o (given o before) c) 0) (c ∷ before) before (λ (calls : List Call). size before ≤ size calls) (λ e. grows c before) (λ e. omega arith)

rows_counted : (t : Tariff) (o : Opening) (h : List Call) (s : State) → Law t o h s → length s.rows ≡ length (billed o (accepted o h))
rows_counted t o h s l = ap length l.rows ∙ length-map (billed o (accepted o h)) _

onto_push : (h cs : List Call) (c : Call) → onto h (cs ++ (c ∷ [])) ≡ c ∷ onto h cs
onto_push h [] c = refl
onto_push h (d ∷ cs) c = onto_push (d ∷ h) cs c

answers_push : (t : Tariff) (o : Opening) (h cs : List Call) (c : Call) → answers_to t o h (cs ++ (c ∷ [])) ≡ answers_to t o h cs ++ (answer_to t o (onto h cs) c ∷ [])
answers_push t o h [] c = refl
answers_push t o h (d ∷ cs) c = ap (λ rs. answer_to t o h d ∷ rs) (answers_push t o (d ∷ h) cs c)

-- what is unchanged from m on and then from n on is unchanged from n on
past_both : {X : Type 0} (xs ys zs : List X) (m n : ℕ) → m ≤ n → drop m ys ≡ drop m xs → drop n zs ≡ drop n ys → drop n zs ≡ drop n xs
past_both xs ys zs m n h e k =
    let there : m + (n - m) ≡ n = omega (arith, h) in
    k
    ∙ sym (drop-drop (n - m) m ys ∙ ap (λ i. drop i ys) there)
    ∙ ap (drop (n - m)) e
    ∙ (drop-drop (n - m) m xs ∙ ap (λ i. drop i xs) there)

-- the filled places of one account are no more than those of another
record NoMore {T : Type 0} (a b : Account T) : Type 0 where
  sheet : a.sheet.filled ≤ b.sheet.filled
  journal : a.journal.filled ≤ b.journal.filled

module _ {T : Type 0} (mean : T → Tariff) where
  -- accounts that are the same but for their calls keep one law
  under : (a b : Account T) (h : List Call) → Same mean a b → Keeps mean h b → Law (mean a.tariff) (opening_of a) h (state_of b)
  under a b h same l =
      subst (λ (t : Tariff). Law t (opening_of a) h (state_of b)) same.tariff
      (subst (λ (o : Opening). Law (mean b.tariff) o h (state_of b)) same.opening l)

  filled_more : (a b : Account T) (h : List Call) (c : Call) → Same mean a b → Keeps mean h a → Keeps mean (c ∷ h) b → NoMore a b
  filled_more a b h c same k l =
      let t = mean a.tariff in
      let o = opening_of a in
      let n = under a b (c ∷ h) same l in
      record {
        sheet = omega (arith, rows_length a, rows_length b, rows_counted t o h (state_of a) k, rows_counted t o (c ∷ h) (state_of b) n, accepted_more (λ calls. length (billed o calls)) (billed_more o) o h c);
        journal = omega (arith, lines_length a, lines_length b, ap length k.journal, ap length n.journal, accepted_more (λ calls. length (lines t o calls)) (lines_more t o) o h c);
      }

  pub followed_none : (a : Account T) → Follows mean a a [] []
  followed_none a h k = record {
    law = k;
    answers = refl;
    same = record { opening = refl; tariff = refl; sheet_past = refl; journal_past = refl; memory = record { sheet = refl; journal = refl } };
  }

  pub followed_more : (a b d : Account T) (cs : List Call) (rs : List (Option Answer)) (c : Call) (r : Answer) → Follows mean a b cs rs → LawfulAfter mean b d c r → Follows mean a d (cs ++ (c ∷ [])) (rs ++ (Some r ∷ []))
  followed_more a b d cs rs c r f m h k =
      let t = mean a.tariff in
      let o = opening_of a in
      let s = f h k in
      let kept = m.law (onto h cs) s.law in
      let more = filled_more b d (onto h cs) c m.same s.law kept in
      let answered : r ≡ answer_to t o (onto h cs) c = m.answer (onto h cs) s.law ∙ ap₂ (λ (t' : Tariff) (o' : Opening). answer_to t' o' (onto h cs) c) s.same.tariff s.same.opening in
      record {
        law = subst (λ k. Keeps mean k d) (sym (onto_push h cs c)) kept;
        answers =
            ap₂ (λ xs x. xs ++ (Some x ∷ [])) s.answers answered
            ∙ sym (ap (map Some) (answers_push t o h cs c) ∙ map_push Some (answers_to t o h cs) (answer_to t o (onto h cs) c));
        same = record {
          opening = m.same.opening ∙ s.same.opening;
          tariff = m.same.tariff ∙ s.same.tariff;
          sheet_past = past_both a.sheet.memory.now b.sheet.memory.now d.sheet.memory.now b.sheet.filled d.sheet.filled more.sheet s.same.sheet_past m.same.sheet_past;
          journal_past = past_both a.journal.memory.now b.journal.memory.now d.journal.memory.now b.journal.filled d.journal.filled more.journal s.same.journal_past m.same.journal_past;
          memory = record { sheet = m.same.memory.sheet ∙ s.same.memory.sheet; journal = m.same.memory.journal ∙ s.same.memory.journal };
        };
      }

  pub alike_none : (a : Account T) → OpenedAlike mean a a
  alike_none a = record { opening = refl; tariff = refl; memory = record { sheet = refl; journal = refl } }

  pub alike_more : (a b d : Account T) → OpenedAlike mean a b → Same mean b d → OpenedAlike mean a d
  alike_more a b d s m = record {
    opening = m.opening ∙ s.opening;
    tariff = m.tariff ∙ s.tariff;
    memory = record { sheet = m.memory.sheet ∙ s.memory.sheet; journal = m.memory.journal ∙ s.memory.journal };
  }
