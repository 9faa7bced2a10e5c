-- More than a year under the changeover on day 365: from 1,140 cents a unit and 3,000 a row to 1,130 a unit,
-- 50,000 a kVA and 80,000 a row. A bill, seven periods without a reading, and readings again; the absence is
-- corrected by the three rows after it, which rewrites the six estimated ones. The clerk hands back and takes again,
-- corrects two rows of a meter that was altered, takes a payment, and estimates anew.
--
-- Estimates at 270 units for 30 days, of which 20 per cent are peak units: 61 days have 61 × 270 × 80 ÷ 3,000 =
-- 439.2 day units and 109.8 peak units, so 439 and 109. The seventh period of the run has no energy: its method,
-- by which it would get more than 1,000,000 units, is not asked.
--
-- The absence: rows 8 to 10 recorded 340 + 350 + 320 = 1,010 day units and 75 + 85 + 75 = 235 peak units in
-- 31 + 30 + 31 = 92 days; their demand is (7 + 7 + 8) ÷ 3, rounded up 8 kVA. The six estimated rows have 61, 61,
-- 61, 61, 62 and 59 days. Each with those before it comes to their days × 1,010 ÷ 92 and × 235 ÷ 92, here cut
-- after one place:
--   days    61      122      183      244      306      365
--   day    669.6  1,339.3  2,009.0  2,678.6  3,359.3  4,007.0   shares 669, 670, 670, 669, 681, 648
--   peak   155.8    311.6    467.4    623.2    781.6    932.3   shares 155, 156, 156, 156, 158, 151
-- The new charges less the old are u = 2,186,890. Of it j bills of six bring ⌊u × j ÷ 6⌋ = 364,481, 728,963,
-- 1,093,445, 1,457,926, 1,822,408 and at last u: 364,481 first, then 364,482 twice, 364,481, 364,482 twice.
--
-- The altered meter: 10 kVA × 24 × 85 × 80 × 16 × 80 ÷ 100,000,000 = 20.8896 day units a day, and with 20 for the
-- last 80 it is 5.2224 peak units. 31 days have 647.5 and 161.8, and 61 days 1,274.2 and 318.5: shares 647 and
-- 627, 161 and 157. The demand is 8.5, rounded up 9 kVA. All of u, 1,134,510, comes with the next bill.
--
-- After the absence was corrected came a bill and an estimate, and after the altered meter the estimate alone, so
-- of the balance 2,186,890 − 728,963 = 1,457,927 is not yet due: 12,473,580 − 1,457,927 = 11,015,653 is.
use Rattle.std.specs.Prelude.{List, [], ◌∷◌}
use Prim.Native.String.{String}
use Rattle.worked_page.specs.Pages.{Served, PageIs}

abbrev pub served : Served
served =
    ("T,100,10", "A,a,0,1")
    ∷ ("B,1,60,610,75,9", "A,a,0,783900")
    ∷ ("E,1,121,270,20,5", "A,a,0,627720")
    ∷ ("E,1,182,270,20,5", "A,a,0,627720")
    ∷ ("E,1,243,270,20,5", "A,a,0,627720")
    ∷ ("E,1,304,270,20,5", "A,a,0,627720")
    -- days 305 to 366, so charged by the second tariff
    ∷ ("E,1,366,270,20,5", "A,a,0,959410")
    ∷ ("E,1,425,270,20,5", "A,a,0,928900")
    ∷ ("E,1,486,1000000,0,5", "A,a,0,80000")
    ∷ ("B,1,517,340,75,7", "A,a,0,898950")
    ∷ ("B,1,547,350,85,7", "A,a,0,921550")
    -- row 10 is not yet billed, so rows 8 to 10 are not three read ones
    ∷ ("C,1,A,c,520,n,1,7,L,8,0,0,0,0", "A,m,16,0")
    ∷ ("B,1,578,320,75,8", "A,a,0,926350")
    -- row 1 may not be left out
    ∷ ("C,1,A,c,520,n,2,7,L,8,0,0,0,0", "A,a,6,0")
    ∷ ("C,1,A,c,520,n,1,7,L,8,0,0,0,0", "A,a,0,2186890")
    ∷ ("B,1,608,300,70,6", "A,a,0,798100")
    ∷ ("H,1", "A,a,0,0")
    -- before second 110, but hold 1 was handed back
    ∷ ("T,105,10", "A,a,0,2")
    ∷ ("C,2,X,s,600,y,10,11,D,10,85,80,16,20", "A,a,0,1134510")
    -- a figure with a leading zero, at column 5
    ∷ ("P,2,0500000", "A,r,19,5")
    ∷ ("P,2,500000", "A,a,0,500000")
    ∷ ("E,2,639,270,20,9", "A,a,0,844140") ∷ []

abbrev pub account : List String
account =
    "J,1,B,0,783900"
    ∷ "J,1,B,1,627720"
    ∷ "J,1,B,2,627720"
    ∷ "J,1,B,3,627720"
    ∷ "J,1,B,4,627720"
    ∷ "J,1,B,5,959410"
    ∷ "J,1,B,6,928900"
    ∷ "J,1,B,7,80000"
    ∷ "J,1,B,8,898950"
    ∷ "J,1,B,9,921550"
    ∷ "J,1,B,10,926350"
    ∷ "J,1,C,1,314640"
    ∷ "J,1,C,2,316920"
    ∷ "J,1,C,3,316920"
    ∷ "J,1,C,4,315780"
    ∷ "J,1,C,5,468660"
    ∷ "J,1,C,6,453970"
    ∷ "J,1,B,11,798100"
    ∷ "J,2,C,10,516690"
    ∷ "J,2,C,11,617820"
    ∷ "J,2,P,-,-500000"
    ∷ "J,2,B,12,844140"
    ∷ "S,12473580,11015653" ∷ []

abbrev pub YearPage : Type 0
YearPage = PageIs 4 served account
