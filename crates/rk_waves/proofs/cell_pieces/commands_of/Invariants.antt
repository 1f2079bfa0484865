use Rattle.std.proofs.Common.{take}
use Rattle.rk_waves.specs.Tells.{OwnersBelow}
use Rattle.rk_waves.proofs.cell_pieces.commands_of.Given as goal

abbrev pub invariant-pieces : goal.invariant-pieces
invariant-pieces l = record { below : OwnersBelow l.commands (take l.piece-index l.pieces) }
