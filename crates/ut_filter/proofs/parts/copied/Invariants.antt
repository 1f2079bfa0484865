use Rattle.std.proofs.Common.{◌≡◌, ◌++◌, drop}
use Rattle.ut_filter.specs.Parts.{joined}
use Rattle.ut_filter.proofs.parts.copied.Given as goal

abbrev pub invariant-inputs : goal.invariant-inputs
invariant-inputs l = l.text.items ++ joined (drop l.input-index l.inputs) ≡ joined l.inputs
