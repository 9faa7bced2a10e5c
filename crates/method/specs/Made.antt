-- The methods, made of the figures or the rows that are given for them, or refused by the number of the first question that says
-- no. Assumes nothing.
use Rattle.std.specs.Prelude.{◌≡◌, ℕ, zero, suc, Bool, true, ◌&&◌, List, Ok, Err, Result, nat_le, nat_lt, refl}
use Rattle.std.proofs.lemmas.Bool.{leb-true, ltb-true}
use Rattle.rules.specs.Subject.{day_units, peak_units, Period, Use, Method}
use Rattle.rules.specs.Questions.{first_no}
use Rattle.method.specs.Meaning.{by_test, by_category, by_contract, by_three, stopping, missing, just_before, just_after}
use Rattle.method.specs.declared.fault.MethodFault.{MethodFault}
use Rattle.method.specs.Making.{number_of, test_asked, category_asked, contract_asked, previous_asked, later_asked}
use Rattle.method.specs.Three.{three_from, are_three, units_of, days_of, average_of}
use Rattle.method.specs.Limits.{said_yes, at_most, three_limits}

-- q is the number of the first no, or 0
abbrev pub made_if : (q : ℕ) → (q ≡ 0 → Method) → Result Method ℕ
made_if zero make = Ok (make refl)
made_if (suc q) make = Err (suc q)

-- the meter showed one figure, the test meter the other
abbrev pub test_made : (shown tested : ℕ) → Result Method ℕ
test_made shown tested = made_if (first_no (test_asked shown tested)) (λ all.
    let two = said_yes 1 (nat_le shown 1000000 && nat_le tested 1000000) _ all in
    let thirteen = said_yes 12 (nat_lt 0 tested) _ two.1 in
    let fourteen = said_yes 13 (nat_lt 0 shown) _ thirteen.1 in
    let limits = at_most (nat_le shown 1000000) tested 1000000 two.0 in
    by_test shown tested (ltb-true 0 shown fourteen.0) (leb-true shown 1000000 limits.0) limits.1)

abbrev pub category_made : (figure s demand : ℕ) → Result Method ℕ
category_made figure s demand = made_if (first_no (category_asked figure s demand)) (λ all.
    let two = said_yes 1 (nat_le figure 1000000 && nat_le s 100 && nat_le demand 10000) _ all in
    let demand-limit = at_most (nat_le figure 1000000 && nat_le s 100) demand 10000 two.0 in
    let s-limit = at_most (nat_le figure 1000000) s 100 demand-limit.0 in
    by_category figure s demand (leb-true figure 1000000 s-limit.0) s-limit.1 demand-limit.1)

abbrev pub contract_made : (kva utilization power load s : ℕ) → Result Method ℕ
contract_made kva utilization power load s = made_if (first_no (contract_asked kva utilization power load s)) (λ all.
    let two = said_yes 1 (nat_le kva 1000 && nat_le utilization 100 && nat_le power 100 && nat_le load 100 && nat_le s 100) _ all in
    let s-limit = at_most (nat_le kva 1000 && nat_le utilization 100 && nat_le power 100 && nat_le load 100) s 100 two.0 in
    let load-limit = at_most (nat_le kva 1000 && nat_le utilization 100 && nat_le power 100) load 100 s-limit.0 in
    let power-limit = at_most (nat_le kva 1000 && nat_le utilization 100) power 100 load-limit.0 in
    let utilization-limit = at_most (nat_le kva 1000) utilization 100 power-limit.0 in
    by_contract kva utilization power load s
    (leb-true kva 1000 utilization-limit.0) utilization-limit.1 power-limit.1 load-limit.1 s-limit.1)

-- by three rows that were read, for some uses and spans
abbrev pub made_of_rows : (Use → Bool) → (Use → ℕ → ℕ → Bool) → (ps : List Period) → are_three ps ≡ true → Method
made_of_rows uses fitness ps are =
    let limits = three_limits ps are in
    by_three uses fitness (units_of day_units ps) (units_of peak_units ps) (days_of ps) (average_of ps)
    (limits.units day_units) (limits.units peak_units) limits.days_least limits.days_most limits.average

-- by rows f to f + 2 of a sheet with these periods
abbrev pub previous_made : (f : ℕ) → List Period → Result Method ℕ
previous_made f ps = made_if (first_no (previous_asked f ps)) (λ all.
    made_of_rows stopping (just_before f) (three_from f ps) (said_yes 15 (are_three (three_from f ps)) _ all).0)

abbrev pub later_made : (f : ℕ) → List Period → Result Method ℕ
later_made f ps = made_if (first_no (later_asked f ps)) (λ all.
    made_of_rows missing (just_after f) (three_from f ps) (said_yes 15 (are_three (three_from f ps)) _ all).0)

-- what a making gave, as it is meant
abbrev pub made_as : {M : Type 0} → (M → Method) → Result M MethodFault → Result Method ℕ
made_as mean (Ok m) = Ok (mean m)
made_as mean (Err e) = Err (number_of e)
