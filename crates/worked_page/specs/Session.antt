-- A session under H-1 at 10 kVA, 1,140 cents a unit and 3,000 a row: a bill, a second clerk who takes the account
-- over, a meter that ran under, a payment. The meter showed 600 where the test meter showed 1,000, so 600 units
-- become 600 × 1,000 ÷ 600 = 1,000, and their charge of 687,000 becomes 1,143,000. The 456,000 between these come
-- with the next bill, and are not yet due: 1,143,000 − 100,000 − 456,000 = 587,000 is.
use Rattle.std.specs.Prelude.{List, [], ◌∷◌}
use Prim.Native.String.{String}
use Rattle.rules.specs.Subject.{read}
use Rattle.rules.specs.Shown.{Row}
use Rattle.worked_page.specs.Pages.{Served, PageIs, RowsAre, units, row_at}

abbrev pub served : Served
served =
    ("T,100,10", "A,a,0,1")
    ∷ ("B,1,30,600,0,0", "A,a,0,687000")
    ∷ ("T,110,10", "A,a,0,2")
    ∷ ("H,1", "A,a,1,0")
    ∷ ("C,2,U,c,15,n,0,0,M,600,1000,0,0,0", "A,a,0,456000")
    ∷ ("P,2,100000", "A,a,0,100000") ∷ []

abbrev pub account : List String
account =
    "J,1,B,0,687000"
    ∷ "J,2,C,0,456000"
    ∷ "J,2,P,-,-100000"
    ∷ "S,1043000,587000" ∷ []

abbrev pub rows : List Row
rows = row_at 0 30 read (units 600 0 0) (units 1000 0 0) 1143000 ∷ []

abbrev pub WorkedPage : Type 0
WorkedPage = PageIs 1 served account

abbrev pub WorkedRows : Type 0
WorkedRows = RowsAre 1 served rows
