-- The subject: periods, tariffs, methods, calls.
use Rattle.std.specs.Prelude.{ℕ, ◌+◌, ◌-◌, ◌*◌, ◌≤◌, Bool, true, false}

-- day units and peak units in kWh, and a maximum demand in kVA
pub record Registers : Type 0 where
  pub day : ℕ
  pub peak : ℕ
  pub demand : ℕ

-- registers in their limits
pub record InLimits (r : Registers) : Type 0 where
  pub day : r.day ≤ 1000000
  pub peak : r.peak ≤ 1000000
  pub demand : r.demand ≤ 10000

abbrev pub zeros : Registers
zeros = record { day = 0; peak = 0; demand = 0 }

-- one of the two registers of energy
pub data Register : Type 0 where
  day_units peak_units : Register

abbrev pub units : Register → Registers → ℕ
units day_units r = r.day
units peak_units r = r.peak

-- the most days that a billed period may have
abbrev pub longest : ℕ
longest = 100

-- read; unmetered and estimated; unmetered and without energy
pub data Sort : Type 0 where
  read estimated no_energy : Sort

-- one billed period
pub record Period : Type 0 where
  pub first : ℕ
  pub last : ℕ
  pub sort : Sort
  pub recorded : Registers
  pub standing : Registers

abbrev pub days : Period → ℕ
days p = p.last + 1 - p.first

abbrev pub is_read : Sort → Bool
is_read read = true
is_read s = false

abbrev pub is_estimated : Sort → Bool
is_estimated estimated = true
is_estimated s = false

abbrev pub is_unmetered : Sort → Bool
is_unmetered read = false
is_unmetered s = true

abbrev pub unmetered : Period → Bool
unmetered p = is_unmetered p.sort

-- a tariff's meaning, in cents: an energy charge on a last day and registers, a standing charge on a last day and a demand
pub record Tariff : Type 0 where
  pub energy : ℕ → Registers → ℕ
  pub standing : ℕ → ℕ → ℕ
  pub energy_limit : (last : ℕ) (r : Registers) → energy last r ≤ 100000 * (r.day + r.peak)
  pub standing_limit : (last demand : ℕ) → demand ≤ 10000 → standing last demand ≤ 10000000000

-- a tariff's charge on registers at a last day, and on a period: by the registers that stand for it
abbrev pub charge_on : Tariff → ℕ → Registers → ℕ
charge_on t last r = t.energy last r + t.standing last r.demand

abbrev pub charge : Tariff → Period → ℕ
charge t p = charge_on t p.last p.standing

-- why rows are corrected: no reading could be had, the meter showed less than was used, or more, it stood still, or it was altered
pub data Cause : Type 0 where
  absent under over stopped altered : Cause

-- who reported or found it
pub data Side : Type 0 where
  consumer supplier : Side

-- what a correction rests on: its cause, who reported it, the notice day, whether the span is ascertained, and the rows first to last
pub record Finding : Type 0 where
  pub cause : Cause
  pub side : Side
  pub notice : ℕ
  pub ascertained : Bool
  pub first : ℕ
  pub last : ℕ

-- what a method is asked for
pub data Use : Type 0 where
  estimates : Use
  correcting : Cause → Use

-- a method's meaning: for each register an upper number N and a weight of each row, a lower number D, a demand for each row,
-- the uses that it may serve, and its fitness for a use and a span of rows; weights and demands rest on a row's days and
-- recorded registers alone
pub record Method : Type 0 where
  pub serves : Use → Bool
  pub fits : Use → (first last : ℕ) → Bool
  pub upper : Register → ℕ
  pub lower : ℕ
  pub weight : Register → (days : ℕ) → Registers → ℕ
  pub demand : (days : ℕ) → Registers → ℕ
  pub lower_least : 1 ≤ lower
  pub lower_most : lower ≤ 1000000000
  pub upper_most : (k : Register) → upper k ≤ 10000000000000000
  pub weight_most : (k : Register) (days : ℕ) (r : Registers) → days ≤ longest → InLimits r → weight k days r ≤ 1000000000
  pub product_most : (k : Register) (days : ℕ) (r : Registers) → days ≤ longest → InLimits r → weight k days r * upper k ≤ 10000000000000000
  pub demand_most : (days : ℕ) (r : Registers) → days ≤ longest → InLimits r → demand days r ≤ 10000

abbrev pub weight_of : Method → Register → Period → ℕ
weight_of m k p = m.weight k (days p) p.recorded

abbrev pub day_weight : Method → Period → ℕ
day_weight m = weight_of m day_units

abbrev pub peak_weight : Method → Period → ℕ
peak_weight m = weight_of m peak_units

-- the six calls: a hold is taken at a time and for a length, in seconds; each other call names its hold
pub data Call : Type 0 where
  take : (now length : ℕ) → Call
  hand_back : (hold : ℕ) → Call
  bill : (hold last : ℕ) → Registers → Call
  estimate : (hold last : ℕ) → Method → Call
  correct : (hold : ℕ) → Finding → Method → Call
  pay : (hold cents : ℕ) → Call

-- the opening day, and the lengths of the memory for sheet and journal
pub record Opening : Type 0 where
  pub day : ℕ
  pub sheet : ℕ
  pub journal : ℕ
