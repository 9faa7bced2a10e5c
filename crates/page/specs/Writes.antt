-- What is written on a page. Assumes nothing.
use Rattle.std.specs.Prelude.{◌≡◌, ℕ, ◌+◌, ◌-◌, cond, List, ◌++◌, length, take, replicate, Some, None, Ok, Err, Option, Result, nat_le}
use Rattle.std.specs.Io.{StartsWith}
use Rattle.page.specs.declared.kept.Page.{Page}
use Rattle.page.specs.declared.writes.Full.{Full}

-- what is written on a page so far; what stands past it is open until the page is ended
abbrev pub held : Page → List ℕ
held p = take p.at p.bytes.now

-- t written after that, on a page of n bytes, or none where it does not fit
abbrev pub put : (n : ℕ) → Option (List ℕ) → List ℕ → Option (List ℕ)
put n (Some s) t = cond (nat_le (length s + length t) n) (Some (s ++ t)) None
put n None t = None

-- what a write that ended so left on the page, or none where it did not fit
abbrev pub kept : Page → Result (Unit {0}) Full → Option (List ℕ)
kept p (Ok done) = Some (held p)
kept p (Err full) = None

-- t was written on the page p, which is then q; or it did not fit there: what was written before stays, and no more than a
-- beginning of t stands after it
pub record Wrote (p q : Page) (r : Result (Unit {0}) Full) (t : List ℕ) : Type 0 where
  pub lent : q.bytes.ghost_name ≡ p.bytes.ghost_name
  pub long : length q.bytes.now ≡ length p.bytes.now
  pub text : kept q r ≡ put (length p.bytes.now) (Some (held p)) t
  pub stays : StartsWith (held q) (held p)
  pub part : StartsWith (held p ++ t) (held q)

-- how many bytes a text has, where it fits a page of n bytes
abbrev pub fitted : (n : ℕ) → List ℕ → Result ℕ Full
fitted n t = cond (nat_le (length t) n) (Ok (length t)) (Err (record {}))

-- a page of n bytes when it is ended: the text, and then zeros
abbrev pub padded : (n : ℕ) → List ℕ → List ℕ
padded n t = t ++ replicate (n - length t) 0
