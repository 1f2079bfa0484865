use Rattle.std.proofs.Common.{arith, ap}
use Rattle.rk_waves.specs.Pieces.{Piece}
use Rattle.rk_waves.proofs.PieceLemmas.{owners-next}
use Rattle.rk_waves.proofs.cell_pieces.commands_of.Goals as goal

pub pieces-preserved : goal.pieces-preserved
pieces-preserved c = record {
  below =
      owners-next c.pieces.commands c.max-commands.result c.pieces.piece-index c.args.pieces.now c.piece-item.result c.pieces.invariant.below (omega arith)
      (omega arith) c.piece-item.is (omega (arith, ap (λ (q : Piece). q.owner) c.piece.view_is));
}
