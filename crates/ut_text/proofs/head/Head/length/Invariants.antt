use Rattle.std.proofs.Common.{◌≡◌, drop}
use Rattle.ut_text.specs.Heads.{lengths}
use Rattle.ut_text.proofs.head.Head.length.Given as goal

abbrev pub invariant-inputs : goal.invariant-inputs
invariant-inputs l = lengths l.self l.length (drop l.input-index l.inputs) ≡ lengths l.self 0 l.inputs
