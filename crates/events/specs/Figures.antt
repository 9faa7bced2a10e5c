-- A figure: 1 to 13 digits and no leading zero, save 0 itself. Assumes nothing.
use Rattle.std.specs.Prelude.{ℕ, ◌+◌, ◌-◌, ◌*◌, Bool, cond, not, ◌&&◌, ◌||◌, List, [], ◌∷◌, length, Some, None, Option, ◌==◌, nat_le, slice_index}
use Rattle.std.specs.Str.{all_ascii_digits}
use Rattle.std.specs.Option.{option_map}
use Rattle.figures.specs.declared.reported.Kwh.{Kwh}
use Rattle.figures.specs.declared.reported.Kva.{Kva}
use Rattle.figures.specs.declared.reported.Cents.{Cents}

-- the number that digits write, after the number so far
abbrev pub number_on : ℕ → List ℕ → ℕ
number_on n [] = n
number_on n (c ∷ cs) = number_on (n * 10 + (c - 48)) cs

abbrev pub is_figure : List ℕ → Bool
is_figure ds = (nat_le 1 (length ds) && nat_le (length ds) 13) && ((not (slice_index ds 0 == 48) || length ds == 1) && all_ascii_digits ds)

abbrev pub figure_of : List ℕ → Option ℕ
figure_of ds = cond (is_figure ds) (Some (number_on 0 ds)) None

-- a figure in its unit
abbrev pub kwh_of : List ℕ → Option Kwh
kwh_of ds = option_map (λ n. record { 0 = n }) (figure_of ds)

abbrev pub kva_of : List ℕ → Option Kva
kva_of ds = option_map (λ n. record { 0 = n }) (figure_of ds)

abbrev pub cents_of : List ℕ → Option Cents
cents_of ds = option_map (λ n. record { 0 = n }) (figure_of ds)
