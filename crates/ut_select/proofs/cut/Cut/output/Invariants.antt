use Rattle.std.proofs.Common.{◌≡◌, ◌++◌, drop}
use Rattle.ut_select.specs.Cuts.{cut_inputs}
use Rattle.ut_select.proofs.cut.Cut.output.Given as goal

abbrev pub invariant-inputs : goal.invariant-inputs
invariant-inputs l = l.output.items ++ cut_inputs l.self (drop l.input-index l.inputs) ≡ cut_inputs l.self l.inputs
