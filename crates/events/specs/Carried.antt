-- The line that carries an event. Assumes nothing.
use Rattle.std.specs.Prelude.{ℕ, Bool, true, false, List, [], ◌∷◌, ◌++◌, length, codes, decimal, nat_le}
use Rattle.std.specs.List.{list_all, join_with_byte}
use Rattle.method.specs.declared.finding.Cause.{Cause}
use Rattle.method.specs.declared.finding.Cause.TheVariants.{Absent, Under, Over, Stopped, Altered}
use Rattle.method.specs.declared.finding.Side.{Side}
use Rattle.method.specs.declared.finding.Side.TheVariants.{Consumer, Supplier}
use Rattle.method.specs.declared.finding.Finding.{Finding}
use Rattle.events.specs.declared.event.Event.{Event}
use Rattle.events.specs.declared.event.Event.TheVariants.{Take, HandBack, Bill, Estimate, Correct, Pay}
use Rattle.events.specs.declared.event.Basis.{Basis}
use Rattle.events.specs.declared.event.Basis.TheVariants.{TestMeter, PreviousThree, LaterThree, ContractDemand}

-- A U O S X
abbrev pub cause_letter : Cause → ℕ
cause_letter Absent = 65
cause_letter Under = 85
cause_letter Over = 79
cause_letter Stopped = 83
cause_letter Altered = 88

-- c s
abbrev pub side_letter : Side → ℕ
side_letter Consumer = 99
side_letter Supplier = 115

-- y n
abbrev pub known_letter : Bool → ℕ
known_letter true = 121
known_letter false = 110

-- cause,side,notice,known,first,last
abbrev pub finding_fields : Finding → List (List ℕ)
finding_fields f =
    (cause_letter f.cause ∷ []) ∷ (side_letter f.side ∷ []) ∷ decimal f.notice
    ∷ (known_letter f.ascertained ∷ []) ∷ decimal f.span.first ∷ decimal f.span.last ∷ []

-- M,m,t,0,0,0
-- P,f,0,0,0,0
-- L,f,0,0,0,0
-- D,kVA,utilization,power factor,load factor,s
abbrev pub basis_fields : Basis → List (List ℕ)
basis_fields (TestMeter shown tested) = codes "M" ∷ decimal shown.0 ∷ decimal tested.0 ∷ codes "0" ∷ codes "0" ∷ codes "0" ∷ []
basis_fields (PreviousThree from) = codes "P" ∷ decimal from ∷ codes "0" ∷ codes "0" ∷ codes "0" ∷ codes "0" ∷ []
basis_fields (LaterThree from) = codes "L" ∷ decimal from ∷ codes "0" ∷ codes "0" ∷ codes "0" ∷ codes "0" ∷ []
basis_fields (ContractDemand kva utilization power load peak) =
    codes "D" ∷ decimal kva.0 ∷ decimal utilization ∷ decimal power ∷ decimal load ∷ decimal peak ∷ []

-- T,now,length
-- H,hold
-- B,hold,last,day,peak,demand
-- E,hold,last,figure,s,demand
-- C,hold, the finding and the method
-- P,hold,cents
abbrev pub fields_of : Event → List (List ℕ)
fields_of (Take moment span) = codes "T" ∷ decimal moment ∷ decimal span ∷ []
fields_of (HandBack hold) = codes "H" ∷ decimal hold ∷ []
fields_of (Bill hold last reading) =
    codes "B" ∷ decimal hold ∷ decimal last ∷ decimal reading.day.0 ∷ decimal reading.peak.0 ∷ decimal reading.demand.0 ∷ []
fields_of (Estimate hold last figure peak demand) =
    codes "E" ∷ decimal hold ∷ decimal last ∷ decimal figure.0 ∷ decimal peak ∷ decimal demand.0 ∷ []
fields_of (Correct hold finding basis) = codes "C" ∷ decimal hold ∷ finding_fields finding ++ basis_fields basis
fields_of (Pay hold cents) = codes "P" ∷ decimal hold ∷ decimal cents.0 ∷ []

-- a comma, byte 44, parts the fields
abbrev pub line_of : Event → List ℕ
line_of e = join_with_byte 44 (fields_of e)

-- a field has at most 13 bytes
abbrev pub is_short : List ℕ → Bool
is_short f = nat_le (length f) 13

-- a line can carry an event of whose fields each has
abbrev pub is_carried : Event → Bool
is_carried e = list_all is_short (fields_of e)
