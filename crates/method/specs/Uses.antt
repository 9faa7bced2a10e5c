-- The causes, uses and findings of the code, as the subject has them. Assumes nothing.
use Rattle.std.specs.Prelude.{◌≡◌, Bool, refl}
use Rattle.rules.specs.Subject as rules
use Rattle.method.specs.declared.finding.Cause.{Cause}
use Rattle.method.specs.declared.finding.Cause.TheVariants.{Absent, Under, Over, Stopped, Altered}
use Rattle.method.specs.declared.finding.Use.{Use}
use Rattle.method.specs.declared.finding.Use.TheVariants.{Estimates, Correcting}
use Rattle.method.specs.declared.finding.Side.{Side}
use Rattle.method.specs.declared.finding.Side.TheVariants.{Consumer, Supplier}
use Rattle.method.specs.declared.finding.Finding.{Finding}
use Rattle.method.specs.declared.uses.Uses.{Uses}

abbrev pub cause_of : Cause → rules.Cause
cause_of Absent = rules.absent
cause_of Under = rules.under
cause_of Over = rules.over
cause_of Stopped = rules.stopped
cause_of Altered = rules.altered

abbrev pub use_of : Use → rules.Use
use_of Estimates = rules.estimates
use_of (Correcting c) = rules.correcting (cause_of c)

abbrev pub side_of : Side → rules.Side
side_of Consumer = rules.consumer
side_of Supplier = rules.supplier

abbrev pub finding_of : Finding → rules.Finding
finding_of f = record { cause = cause_of f.cause; side = side_of f.side; notice = f.notice; ascertained = f.ascertained; first = f.span.first; last = f.span.last }

-- the set names the use
abbrev pub named_in : Uses → rules.Use → Bool
named_in n rules.estimates = n.estimates
named_in n (rules.correcting rules.absent) = n.absent
named_in n (rules.correcting rules.under) = n.under
named_in n (rules.correcting rules.over) = n.over
named_in n (rules.correcting rules.stopped) = n.stopped
named_in n (rules.correcting rules.altered) = n.altered

-- the set of the uses that pass a test
abbrev pub named_by : (rules.Use → Bool) → Uses
named_by test = record {
  estimates = test rules.estimates;
  absent = test (rules.correcting rules.absent);
  under = test (rules.correcting rules.under);
  over = test (rules.correcting rules.over);
  stopped = test (rules.correcting rules.stopped);
  altered = test (rules.correcting rules.altered);
}

-- it names those, and no others
pub named_back : (test : rules.Use → Bool) (u : rules.Use) → named_in (named_by test) u ≡ test u
named_back test rules.estimates = refl
named_back test (rules.correcting rules.absent) = refl
named_back test (rules.correcting rules.under) = refl
named_back test (rules.correcting rules.over) = refl
named_back test (rules.correcting rules.stopped) = refl
named_back test (rules.correcting rules.altered) = refl
