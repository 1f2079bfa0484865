use Rattle.std.proofs.Common.{◌≡◌, ◌++◌, replicate}
use Rattle.sh_operands.proofs.convert.put_times.Given as goal

abbrev pub invariant-times : goal.invariant-times
invariant-times l = l.text.items ≡ l.initial.text.items ++ replicate l.counter l.b
