use Rattle.std.proofs.Common.{◌≡◌, ◌+◌, drop, length}
use Rattle.ut_filter.specs.Parts.{joined}
use Rattle.ut_filter.proofs.parts.joined_length.Given as goal

abbrev pub invariant-inputs : goal.invariant-inputs
invariant-inputs l = l.count + length (joined (drop l.input-index l.inputs)) ≡ length (joined l.inputs)
