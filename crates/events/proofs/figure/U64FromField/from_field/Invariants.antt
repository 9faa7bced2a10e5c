use Rattle.std.proofs.Common.{◌≡◌, ◌^◌, ◌<◌, ◌≤◌, drop}
use Rattle.std.specs.Str.{all_ascii_digits}
use Rattle.events.specs.Figures.{number_on}
use Rattle.events.proofs.figure.U64FromField.from_field.Given as goal

abbrev pub invariant-loop-place : goal.invariant-loop-place
invariant-loop-place l = record {
  small : l.number < 10 ^ l.place;
  few : l.place ≤ 13;
  value : number_on l.number (drop l.place l.field) ≡ number_on 0 l.field;
  digits : all_ascii_digits (drop l.place l.field) ≡ all_ascii_digits l.field;
}
