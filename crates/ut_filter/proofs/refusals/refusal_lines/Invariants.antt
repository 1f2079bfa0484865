use Rattle.std.proofs.Common.{◌≡◌, ◌++◌, drop}
use Rattle.ut_filter.specs.Refusals.{refusals}
use Rattle.ut_filter.proofs.refusals.refusal_lines.Given as goal

abbrev pub invariant-inputs : goal.invariant-inputs
invariant-inputs l = l.lines.items ++ refusals l.name (drop l.input-index l.inputs) ≡ refusals l.name l.inputs
