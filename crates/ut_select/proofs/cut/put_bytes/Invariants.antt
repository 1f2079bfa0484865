use Rattle.std.proofs.Common.{◌≡◌, ◌++◌, drop}
use Rattle.ut_select.specs.Cuts.{listed}
use Rattle.ut_select.proofs.cut.put_bytes.Given as goal

abbrev pub invariant-bytes : goal.invariant-bytes
invariant-bytes l = l.output.items ++ listed l.ranges l.place (drop l.b-index l.line) ≡ l.initial.output.items ++ listed l.ranges 1 l.line
