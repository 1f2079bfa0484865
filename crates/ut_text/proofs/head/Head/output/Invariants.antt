use Rattle.std.proofs.Common.{◌≡◌, [], drop}
use Rattle.ut_text.specs.Heads.{parts}
use Rattle.ut_text.proofs.head.Head.output.Given as goal

abbrev pub invariant-inputs : goal.invariant-inputs
invariant-inputs l = parts l.self l.output.items (drop l.input-index l.inputs) ≡ parts l.self [] l.inputs
