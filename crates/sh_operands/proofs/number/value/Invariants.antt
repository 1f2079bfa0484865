use Rattle.std.proofs.Common.{◌≡◌, ◌≤◌, drop}
use Rattle.sh_operands.specs.Numbers.{value_on}
use Rattle.sh_operands.proofs.number.value.Given as goal

abbrev pub invariant-digits : goal.invariant-digits
invariant-digits l = (value_on l.n (drop l.b-index l.digits) ≡ value_on 0 l.digits) × (l.n ≤ l.most)
