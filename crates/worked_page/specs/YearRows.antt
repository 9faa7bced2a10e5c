-- The rows behind the text of Year: first and last day, sort, recorded and standing registers, cents.
-- Each is charged by what stands, at its last day: row 5, which begins before day 365 and ends after it,
-- (681 + 158) × 1,130 + 8 × 50,000 + 80,000.
use Rattle.std.specs.Prelude.{List, [], ◌∷◌}
use Rattle.rules.specs.Subject.{read, estimated, no_energy, zeros}
use Rattle.rules.specs.Shown.{Row}
use Rattle.worked_page.specs.Pages.{RowsAre, units, row_at}
use Rattle.worked_page.specs.Year.{served}

abbrev pub rows : List Row
rows =
    row_at 0 60 read (units 610 75 9) (units 610 75 9) 783900
    ∷ row_at 61 121 estimated zeros (units 669 155 8) 942360
    ∷ row_at 122 182 estimated zeros (units 670 156 8) 944640
    ∷ row_at 183 243 estimated zeros (units 670 156 8) 944640
    ∷ row_at 244 304 estimated zeros (units 669 156 8) 943500
    ∷ row_at 305 366 estimated zeros (units 681 158 8) 1428070
    ∷ row_at 367 425 estimated zeros (units 648 151 8) 1382870
    ∷ row_at 426 486 no_energy zeros zeros 80000
    ∷ row_at 487 517 read (units 340 75 7) (units 340 75 7) 898950
    ∷ row_at 518 547 read (units 350 85 7) (units 350 85 7) 921550
    ∷ row_at 548 578 read (units 320 75 8) (units 647 161 9) 1443040
    ∷ row_at 579 608 read (units 300 70 6) (units 627 157 9) 1415920
    ∷ row_at 609 639 estimated zeros (units 223 55 9) 844140 ∷ []

abbrev pub YearRows : Type 0
YearRows = RowsAre 4 served rows
