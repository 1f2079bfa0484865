use Rattle.std.proofs.Common.{◌≡◌, ◌≤◌, drop}
use Rattle.sh_operands.specs.Counts.{capped}
use Rattle.sh_operands.specs.Numbers.{value_on}
use Rattle.sh_operands.proofs.count.value.Given as goal

abbrev pub invariant-digits : goal.invariant-digits
invariant-digits l = (capped (value_on l.n (drop l.b-index l.digits)) ≡ capped (value_on 0 l.digits)) × (l.n ≤ 18446744073709551615)
