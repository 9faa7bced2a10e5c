-- What each method means, over its figures; they are in their limits. Assumes nothing.
use Rattle.std.specs.Prelude.{ℕ, ◌+◌, ◌-◌, ◌*◌, ◌/◌, ◌≤◌, Bool, true, false, ◌==◌, nat_lt}
use Rattle.std.proofs.Common.{mul-le-mul, mul-le-mul_right, arith, lit≤}
use Rattle.rules.specs.Subject.{Registers, InLimits, Register, day_units, peak_units, Use, estimates, correcting, absent, under, over, stopped, altered, Method}

-- the units of one register
abbrev pub units : Register → Registers → ℕ
units day_units r = r.day
units peak_units r = r.peak

pub units_most : (k : Register) (r : Registers) → InLimits r → units k r ≤ 1000000
units_most day_units r l = l.day
units_most peak_units r l = l.peak

-- under- and over-registering
abbrev pub measured : Use → Bool
measured estimates = false
measured (correcting absent) = false
measured (correcting under) = true
measured (correcting over) = true
measured (correcting stopped) = false
measured (correcting altered) = false

-- the meter ran under if it showed less than the test meter, over if more
abbrev pub test_fits : (shown tested : ℕ) → Use → Bool
test_fits shown tested estimates = false
test_fits shown tested (correcting absent) = false
test_fits shown tested (correcting under) = nat_lt shown tested
test_fits shown tested (correcting over) = nat_lt tested shown
test_fits shown tested (correcting stopped) = false
test_fits shown tested (correcting altered) = false

-- the recorded units, times what the test meter showed over what the meter did
abbrev pub by_test : (shown tested : ℕ) → 1 ≤ shown → shown ≤ 1000000 → tested ≤ 1000000 → Method
by_test shown tested shown-least shown-most tested-most = record {
  serves = measured;
  fits = λ u first last. test_fits shown tested u;
  upper = λ k. tested;
  lower = shown;
  weight = λ k days r. units k r;
  demand = λ days r. r.demand;
  lower_least = shown-least;
  lower_most = omega (arith, shown-most);
  upper_most = λ k. omega (arith, tested-most);
  weight_most = λ k days r d l. omega (arith, units_most k r l);
  product_most = λ k days r d l. omega (arith, mul-le-mul (units_most k r l) tested-most);
  demand_most = λ days r d l. l.demand;
}

-- a register's part of a hundred, where s is the share of the peak
abbrev pub part : Register → (s : ℕ) → ℕ
part day_units s = 100 - s
part peak_units s = s

pub part_most : (k : Register) (s : ℕ) → s ≤ 100 → part k s ≤ 100
part_most day_units s h = omega arith
part_most peak_units s h = h

-- estimates alone
abbrev pub estimating : Use → Bool
estimating estimates = true
estimating (correcting c) = false

-- a figure of units for 30 days, shared by days
abbrev pub by_category : (figure s demand : ℕ) → figure ≤ 1000000 → s ≤ 100 → demand ≤ 10000 → Method
by_category figure s demand figure-most s-most demand_most = record {
  serves = estimating;
  fits = λ u first last. true;
  upper = λ k. figure * part k s;
  lower = 3000;
  weight = λ k days r. days;
  demand = λ days r. demand;
  lower_least = lit≤ tt;
  lower_most = lit≤ tt;
  upper_most = λ k. omega (arith, mul-le-mul figure-most (part_most k s s-most));
  weight_most = λ k days r d l. omega (arith, d);
  product_most = λ k days r d l. omega (arith, mul-le-mul d (mul-le-mul figure-most (part_most k s s-most)));
  demand_most = λ days r d l. demand_most;
}

-- altered meters alone
abbrev pub altering : Use → Bool
altering estimates = false
altering (correcting absent) = false
altering (correcting under) = false
altering (correcting over) = false
altering (correcting stopped) = false
altering (correcting altered) = true

-- the units of a day, in millionths of a kWh, since three factors are in per cent
abbrev pub daily : (kva utilization power load : ℕ) → ℕ
daily kva utilization power load = kva * 24 * utilization * power * load

pub daily_most : {kva utilization power load : ℕ} → kva ≤ 1000 → utilization ≤ 100 → power ≤ 100 → load ≤ 100 → daily kva utilization power load ≤ 24000000000
daily_most a b c d = mul-le-mul (mul-le-mul (mul-le-mul (mul-le-mul_right 24 a) b) c) d

pub utilized_most : {kva utilization : ℕ} → kva ≤ 1000 → utilization ≤ 100 → (kva * utilization + 99) / 100 ≤ 10000
utilized_most a b = omega (arith, mul-le-mul a b)

-- a contract demand in kVA for 24 hours at three factors, shared by days; the demand is what is utilized of it, rounded up
abbrev pub by_contract : (kva utilization power load s : ℕ) → kva ≤ 1000 → utilization ≤ 100 → power ≤ 100 → load ≤ 100 → s ≤ 100 → Method
by_contract kva utilization power load s kva-most utilization-most power-most load-most s-most = record {
  serves = altering;
  fits = λ u first last. true;
  upper = λ k. daily kva utilization power load * part k s;
  lower = 100000000;
  weight = λ k days r. days;
  demand = λ days r. (kva * utilization + 99) / 100;
  lower_least = lit≤ tt;
  lower_most = lit≤ tt;
  upper_most = λ k. omega (arith, mul-le-mul (daily_most kva-most utilization-most power-most load-most) (part_most k s s-most));
  weight_most = λ k days r d l. omega (arith, d);
  product_most = λ k days r d l. omega (arith, mul-le-mul d (mul-le-mul (daily_most kva-most utilization-most power-most load-most) (part_most k s s-most)));
  demand_most = λ days r d l. utilized_most kva-most utilization-most;
}

-- stopped meters alone
abbrev pub stopping : Use → Bool
stopping estimates = false
stopping (correcting absent) = false
stopping (correcting under) = false
stopping (correcting over) = false
stopping (correcting stopped) = true
stopping (correcting altered) = false

-- absent readings and stopped meters
abbrev pub missing : Use → Bool
missing estimates = false
missing (correcting absent) = true
missing (correcting under) = false
missing (correcting over) = false
missing (correcting stopped) = true
missing (correcting altered) = false

-- what three rows have of one register
abbrev pub of_both : (day peak : ℕ) → Register → ℕ
of_both day peak day_units = day
of_both day peak peak_units = peak

pub of_both_most : (day peak : ℕ) → day ≤ 3000000 → peak ≤ 3000000 → (k : Register) → of_both day peak k ≤ 3000000
of_both_most day peak h l day_units = h
of_both_most day peak h l peak_units = l

-- the units that three rows have in their days together, shared by days
abbrev pub by_three : (Use → Bool) → (Use → ℕ → ℕ → Bool) → (day peak together demand : ℕ) → day ≤ 3000000 → peak ≤ 3000000 → 1 ≤ together → together ≤ 300 → demand ≤ 10000 → Method
by_three uses fitness day peak together demand day-most peak-most together-least together-most demand_most = record {
  serves = uses;
  fits = fitness;
  upper = of_both day peak;
  lower = together;
  weight = λ k days r. days;
  demand = λ days r. demand;
  lower_least = together-least;
  lower_most = omega (arith, together-most);
  upper_most = λ k. omega (arith, of_both_most day peak day-most peak-most k);
  weight_most = λ k days r d l. omega (arith, d);
  product_most = λ k days r d l. omega (arith, mul-le-mul d (of_both_most day peak day-most peak-most k));
  demand_most = λ days r d l. demand_most;
}

-- the previous three, rows f to f + 2, fit where the span begins just after them
abbrev pub just_before : (f : ℕ) → Use → (first last : ℕ) → Bool
just_before f u first last = f + 3 == first

-- the later three fit where the span ends just before them
abbrev pub just_after : (f : ℕ) → Use → (first last : ℕ) → Bool
just_after f u first last = f == last + 1
