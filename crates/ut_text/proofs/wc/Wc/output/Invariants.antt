use Rattle.std.proofs.Common.{◌≡◌, ◌++◌, drop}
use Rattle.ut_text.specs.Wcs.{rows, totalled, none}
use Rattle.ut_text.proofs.wc.Wc.output.Given as goal

abbrev pub invariant-inputs : goal.invariant-inputs
invariant-inputs l =
    (l.output.items ++ rows l.self (drop l.input-index l.inputs) ≡ rows l.self l.inputs) × (totalled l.total (drop l.input-index l.inputs) ≡ totalled none l.inputs)
