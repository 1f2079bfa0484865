use Rattle.std.proofs.Common.{◌≡◌, length}
use Rattle.ut_sort.specs.Numbers.{trimmed}
use Rattle.ut_sort.proofs.numbers.trimmed.Given as goal

abbrev pub invariant-digits : goal.invariant-digits
invariant-digits l = trimmed l.rest ≡ trimmed l.digits

abbrev pub decreases-digits : goal.decreases-digits
decreases-digits l = length l.rest
