-- A text and its page line by line, and what the definitions give for it, of an account that opens on day 0.
use Rattle.std.specs.Prelude.{◌≡◌, ℕ, List, [], ◌∷◌, ◌++◌, map, codes}
use Prim.Native.String.{String}
use Rattle.rules.specs.Subject.{Registers, Sort}
use Rattle.rules.specs.Given.{accepted, billed}
use Rattle.rules.specs.Shown.{Row, row_of}
use Rattle.tariff.specs.Hotel.{numbered}
use Rattle.events.specs.Lines.{lines}
use Rattle.statements.specs.Statement.{calls, result_text}
use Rattle.statements.specs.Stated.{opened_on}

-- byte 10 ends each line
abbrev pub ended : List String → List ℕ
ended [] = []
ended (l ∷ ls) = codes l ++ 10 ∷ ended ls

-- the lines of a text, each beside its answer
abbrev pub Served : Type 0
Served = List (String × String)

abbrev pub text : Served → List ℕ
text served = ended (map (λ s. s.0) served)

-- the page of a text under a tariff's number is the answers, and then these lines
abbrev pub PageIs : (tariff : ℕ) → Served → List String → Type 0
PageIs tariff served account =
    result_text (numbered tariff) (opened_on 0) (lines (text served)) ≡ ended (map (λ s. s.1) served ++ account)

-- and these are the rows behind it
abbrev pub RowsAre : (tariff : ℕ) → Served → List Row → Type 0
RowsAre tariff served rows =
    let o = opened_on 0 in
    map (row_of (numbered tariff)) (billed o (accepted o (calls o [] (lines (text served))))) ≡ rows

abbrev pub units : (day peak demand : ℕ) → Registers
units day peak demand = record { day = day; peak = peak; demand = demand }

abbrev pub row_at : (first last : ℕ) → Sort → (recorded standing : Registers) → (cents : ℕ) → Row
row_at first last sort recorded standing cents = record {
  period = record { first = first; last = last; sort = sort; recorded = recorded; standing = standing };
  cents = cents;
}
