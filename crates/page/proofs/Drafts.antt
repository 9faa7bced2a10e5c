-- What is written on a draft piece by piece.
use Rattle.std.proofs.Common.{ℕ, List, ◌++◌, length, ap, ◌∙◌}
use Rattle.page.specs.declared.kept.Draft.{Draft}
use Rattle.page.specs.Writes.{put}
use Rattle.page.specs.Drafts.{drafted, Drafted}
use Rattle.page.proofs.Steps.{put_put}

infixl 20 ◌then◌
pub ◌then◌ : {p q r : Draft} {t u : List ℕ} → Drafted p q t → Drafted q r u → Drafted p r (t ++ u)
◌then◌ {p} {q} {r} {t} {u} a b = record {
  lent = b.lent ∙ a.lent;
  long = b.long ∙ a.long;
  text =
      b.text
      ∙ ap (λ n. put n (drafted q) u) a.long
      ∙ ap (λ o. put (length p.bytes.now) o u) a.text
      ∙ put_put (length p.bytes.now) (drafted p) t u;
}
