use Rattle.std.proofs.Common.{◌≡◌, ◌++◌, drop}
use Rattle.sh_expand.specs.Fields.{components_from, components}
use Rattle.sh_expand.proofs.pieces.components.Given as goal

abbrev pub invariant-marks : goal.invariant-marks
invariant-marks l = l.components.items ++ components_from l.piece.items (drop l.mark-index l.field) ≡ components l.field
