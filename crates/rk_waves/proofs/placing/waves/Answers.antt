use Rattle.std.proofs.Common.{arith}
use Rattle.rk_waves.proofs.NotedLemmas.{waves-done}
use Rattle.rk_waves.proofs.placing.waves.Goals as goal

pub returns-clause-waves : goal.returns-clause-waves
returns-clause-waves c = λ fit.
    waves-done c.args.gathers.now c.args.commands c.args.pieces.now c.pieces.waves.items _ _ c.pieces.piece-index (omega arith) c.pieces.invariant.told
    c.in_ok-table.ensures.value fit
