-- What the questions of a making secure: the proofs of limits that the definitions in Made hold. Assumes nothing.
use Rattle.std.specs.Prelude.{◌≡◌, ℕ, suc, ◌+◌, ◌-◌, ◌≤◌, Bool, true, false, cond, ◌&&◌, List, [], ◌∷◌, length, ◌==◌, nat_le, refl}
use Rattle.std.proofs.Common.{arith}
use Rattle.std.proofs.lemmas.Bool.{and_parts, leb-true, eqb-true}
use Rattle.rules.specs.Subject.{Registers, InLimits, Register, longest, Period, days, is_read}
use Rattle.rules.specs.Questions.{is_reading, is_term}
use Rattle.method.specs.Meaning.{units_most}
use Rattle.method.specs.Three.{is_read_row, all_read, are_three, units_of, days_of, average_of}

-- where no question said no, the first said yes, and none of the others said no
pub said_yes : (n : ℕ) (b : Bool) (others : ℕ) → cond b others (suc n) ≡ 0 → (b ≡ true) × (others ≡ 0)
said_yes n true others e = (refl, e)
said_yes n false others e = absurd (omega arith)

-- the last of several tests, and those before it
pub at_most : (b : Bool) (n limit : ℕ) → (b && nat_le n limit) ≡ true → (b ≡ true) × (n ≤ limit)
at_most b n limit e = let both = and_parts b (nat_le n limit) e in (both.0, leb-true n limit both.1)

reading_most : (r : Registers) → is_reading r ≡ true → InLimits r
reading_most r e =
    let all = at_most (nat_le r.day 1000000 && nat_le r.peak 1000000) r.demand 10000 e in
    let both = at_most (nat_le r.day 1000000) r.peak 1000000 all.0 in
    record { day = leb-true r.day 1000000 both.0; peak = both.1; demand = all.1 }

-- the limits of a row that was read
record RowLimits (p : Period) : Type 0 where
  pub recorded : InLimits p.recorded
  pub least : 1 ≤ days p
  pub most : days p ≤ longest

row_limits : (p : Period) → is_read_row p ≡ true → RowLimits p
row_limits p e =
    let all = and_parts (is_read p.sort && is_reading p.recorded) (is_term p.first p.last) e in
    let reading = and_parts (is_read p.sort) (is_reading p.recorded) all.0 in
    let term = at_most (nat_le p.first p.last) (p.last + 1 - p.first) longest all.1 in
    record {
      recorded = reading_most p.recorded reading.1;
      least = omega (arith, leb-true p.first p.last term.0);
      most = term.1;
    }

-- the limits of what three such rows have together
pub record ThreeLimits (ps : List Period) : Type 0 where
  pub units : (k : Register) → units_of k ps ≤ 3000000
  pub days_least : 1 ≤ days_of ps
  pub days_most : days_of ps ≤ 300
  pub average : average_of ps ≤ 10000

by_length : (ps : List Period) → length ps ≡ 3 → all_read ps ≡ true → ThreeLimits ps
by_length [] n e = absurd (omega arith)
by_length (a ∷ []) n e = absurd (omega arith)
by_length (a ∷ b ∷ []) n e = absurd (omega arith)
by_length (a ∷ b ∷ c ∷ d ∷ ps) n e = absurd (omega arith)
by_length (a ∷ b ∷ c ∷ []) n e =
    let one = and_parts (is_read_row a) (all_read (b ∷ c ∷ [])) e in
    let two = and_parts (is_read_row b) (all_read (c ∷ [])) one.1 in
    let three = and_parts (is_read_row c) true two.1 in
    let first = row_limits a one.0 in
    let second = row_limits b two.0 in
    let third = row_limits c three.0 in
    record {
      units = λ k. omega (arith, units_most k a.recorded first.recorded, units_most k b.recorded second.recorded, units_most k c.recorded third.recorded);
      days_least = omega (arith, first.least);
      days_most = omega (arith, first.most, second.most, third.most);
      average = omega (arith, first.recorded.demand, second.recorded.demand, third.recorded.demand);
    }

pub three_limits : (ps : List Period) → are_three ps ≡ true → ThreeLimits ps
three_limits ps e =
    let both = and_parts (length ps == 3) (all_read ps) e in
    by_length ps (eqb-true (length ps) 3 both.0) both.1
