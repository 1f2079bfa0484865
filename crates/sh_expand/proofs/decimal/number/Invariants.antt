use Rattle.std.proofs.Common.{◌≡◌, drop}
use Rattle.sh_expand.specs.Values.{number_from, number}
use Rattle.sh_expand.proofs.decimal.number.Given as goal

abbrev pub invariant-digits : goal.invariant-digits
invariant-digits l = number_from l.n (drop l.b-index l.digits) ≡ number l.digits
