-- What the code makes is the method that is meant. Assumes nothing.
use Rattle.std.proofs.Common.{◌≡◌, ℕ, zero, suc, ◌+◌, ◌*◌, ◌/◌, ◌≤◌, Bool, true, List, Ok, refl, ap, arith}
use Rattle.rules.specs.Subject.{Period, Use, Method}
use Rattle.rules.specs.Questions.{first_no}
use Rattle.method.specs.declared.category.Category.{Category}
use Rattle.method.specs.declared.contract_demand.ContractDemand.{ContractDemand}
use Rattle.method.specs.declared.three_rows.ThreeRows.{ThreeRows}
use Rattle.method.specs.declared.previous_three.PreviousThree.{PreviousThree}
use Rattle.method.specs.declared.later_three.LaterThree.{LaterThree}
use Rattle.method.specs.Meaning.{test_fits, by_test, part, daily, of_both, stopping, missing, just_before, just_after}
use Rattle.method.specs.Three.{three_from, are_three}
use Rattle.method.specs.Making.{test_asked, category_asked, contract_asked, previous_asked, later_asked}
use Rattle.method.specs.Made.{made_if, test_made, category_made, contract_made, made_of_rows, previous_made, later_made}
use Rattle.method.specs.Meant.{category_of, contract_of, three_of, previous_of, later_of}
use Rattle.method.specs.Reckoned.{Reckoned}
use Rattle.method.proofs.Same.{same_method}

-- q is the number of the first no, or 0
pub passed : (q : ℕ) (make : q ≡ 0 → Method) (m : Method) → q ≡ 0 → ((e : q ≡ 0) → m ≡ make e) → Ok m ≡ made_if q make
passed zero make m all same = ap (λ (x : Method). Ok x) (same refl)
passed (suc q) make m all same = absurd (omega arith)

-- of the parts of a test meter that its meaning rests on
pub test_made_of : {m n : ℕ} {turned : 1 ≤ m} (m-most : m ≤ 1000000) (n-most : n ≤ 1000000) (shown tested : ℕ) → first_no (test_asked shown tested) ≡ 0 → m ≡ shown → n ≡ tested → Ok (by_test m n turned m-most n-most) ≡ test_made shown tested
test_made_of m-most n-most shown tested all is-shown is-tested =
    passed _ _ _ all
    (λ e. same_method _ _ refl (λ i u first last. test_fits (is-shown i) (is-tested i) u) (λ i k. is-tested i) is-shown refl refl)

pub category_made_of : (m : Category) (figure s demand : ℕ) → first_no (category_asked figure s demand) ≡ 0 → m.figure.figure.0 ≡ figure → m.peak.figure ≡ s → m.demand.figure.0 ≡ demand → Ok (category_of m) ≡ category_made figure s demand
category_made_of m figure s demand all is_figure is-s is-demand =
    passed _ _ (category_of m) all
    (λ e. same_method (category_of m) _ refl refl (λ i k. is_figure i * part k (is-s i)) refl refl (λ i days r. is-demand i))

pub contract_made_of : (m : ContractDemand) (kva utilization power load s : ℕ) → first_no (contract_asked kva utilization power load s) ≡ 0 → m.contract.figure.0 ≡ kva → m.utilization.figure ≡ utilization → m.power.figure ≡ power → m.load.figure ≡ load → m.peak.figure ≡ s → Ok (contract_of m) ≡ contract_made kva utilization power load s
contract_made_of m kva utilization power load s all is-kva is-utilization is-power is-load is-s =
    passed _ _ (contract_of m) all
    (λ e. same_method (contract_of m) _ refl refl
    (λ i k. daily (is-kva i) (is-utilization i) (is-power i) (is-load i) * part k (is-s i))
    refl refl (λ i days r. (is-kva i * is-utilization i + 99) / 100))

-- for any uses, and any spans that rest on the first row's number
three_same : (uses : Use → Bool) (fitness : ℕ → Use → ℕ → ℕ → Bool) (t : ThreeRows) (f : ℕ) (ps : List Period) (are : are_three ps ≡ true) → t.from ≡ f → Reckoned t ps → three_of uses (fitness t.from) t ≡ made_of_rows uses (fitness f) ps are
three_same uses fitness t f ps are is r =
    same_method _ _ refl (ap fitness is) (λ i. of_both (r.day i) (r.peak i)) r.days refl (λ i days g. r.demand i)

pub previous_made_of : (m : PreviousThree) (f : ℕ) (ps : List Period) → first_no (previous_asked f ps) ≡ 0 → m.three.from ≡ f → Reckoned m.three (three_from f ps) → Ok (previous_of m) ≡ previous_made f ps
previous_made_of m f ps all is r = passed _ _ (previous_of m) all (λ e. three_same stopping just_before m.three f (three_from f ps) _ is r)

pub later_made_of : (m : LaterThree) (f : ℕ) (ps : List Period) → first_no (later_asked f ps) ≡ 0 → m.three.from ≡ f → Reckoned m.three (three_from f ps) → Ok (later_of m) ≡ later_made f ps
later_made_of m f ps all is r = passed _ _ (later_of m) all (λ e. three_same missing just_after m.three f (three_from f ps) _ is r)
