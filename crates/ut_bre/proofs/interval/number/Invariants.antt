use Rattle.std.proofs.Common.{◌≡◌, drop}
use Rattle.std.specs.Prelude.{None}
use Rattle.ut_bre.specs.Intervals.{number_from}
use Rattle.ut_bre.proofs.interval.number.Given as goal

abbrev pub invariant-digits : goal.invariant-digits
invariant-digits l = record {
  count : l.size ≡ l.b-index;
  same : number_from l.value l.size (drop l.b-index l.text) ≡ number_from None 0 l.text;
}
