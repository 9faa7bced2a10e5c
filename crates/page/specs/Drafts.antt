-- What is written on a draft, whose writes answer nothing. Assumes nothing.
use Rattle.std.specs.Prelude.{◌≡◌, ℕ, cond, List, length, take, replicate, Some, None, Option}
use Rattle.page.specs.declared.kept.Draft.{Draft}
use Rattle.page.specs.Writes.{put, padded}

-- what is written on a draft so far, or none where a write did not fit
abbrev pub drafted : Draft → Option (List ℕ)
drafted d = cond d.full None (Some (take d.at d.bytes.now))

-- t was written on the draft p, which is then q
pub record Drafted (p q : Draft) (t : List ℕ) : Type 0 where
  pub lent : q.bytes.ghost_name ≡ p.bytes.ghost_name
  pub long : length q.bytes.now ≡ length p.bytes.now
  pub text : drafted q ≡ put (length p.bytes.now) (drafted p) t

-- how many bytes were written
abbrev pub size : Option (List ℕ) → Option ℕ
size (Some t) = Some (length t)
size None = None

-- a page of n bytes when its draft is ended: the text, and then zeros; all zeros where it did not fit
abbrev pub filled : (n : ℕ) → Option (List ℕ) → List ℕ
filled n (Some t) = padded n t
filled n None = replicate n 0
