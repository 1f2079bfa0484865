use Rattle.std.proofs.Common.{subst, ap₂}
use Rattle.rk_kernel.specs.Cell.{same_cell}
use Rattle.rk_kernel.specs.declared.cell.Cell.{Cell}
use Rattle.rk_waves.specs.CellPieces.{AreBy, touched}
use Rattle.rk_waves.specs.System.{Foot}
use Rattle.rk_plan.proofs.PlanLemmas.{launches-so}
use Rattle.rk_plan.proofs.planning.take.Goals as goal

pub returns-in_ok-touch-in-Launches : goal.returns-in_ok-touch-in-Launches
returns-in_ok-touch-in-Launches c =
    launches-so c.close.result c.args.pieces.now c.touch-in-Launches.new.self c.close.new.self c.in-Launches.owner c.args.event c.in-Launches.is
    (λ p a.
    subst (λ (foot : Foot Cell). AreBy same_cell (touched p foot) c.touch-in-Launches.new.self)
    (ap₂ (λ r w. let f : Foot Cell = record { reads = r; writes = w } in f) c.new.ensures.items c.new-in-Launches.ensures.items)
    (c.in_ok-touch-in-Launches.ensures.touched p a))
    c.close.ensures.closed
