use Rattle.std.proofs.Common.{◌≡◌, drop}
use Rattle.ut_args.specs.Numbers.{number, number_from}
use Rattle.ut_args.proofs.numbers.number.Given as goal

abbrev pub invariant-loop-b : goal.invariant-loop-b
invariant-loop-b l = number_from l.n (drop l.b-index l.digits) ≡ number l.digits
