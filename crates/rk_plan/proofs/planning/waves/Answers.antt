use Rattle.std.proofs.Common.{ap, ◌∙◌, map}
use Rattle.rk_kernel.specs.Cell.{gathers}
use Rattle.rk_plan.proofs.PlanLemmas.{waves-so}
use Rattle.rk_plan.proofs.planning.waves.Goals as goal

pub returns-clause-plan : goal.returns-clause-plan
returns-clause-plan g c =
    waves-so (g.G.Fetch.told c.args.fetch.now) c.args.world c.args.table.now c.in_ok-pieces.pieces c.deref.result.now c.in_ok-waves.waves c.in_ok-pieces.ensures.pieces
    (c.deref.ensures.value ∙ c.in_ok-gathers.ensures ∙ ap (map gathers) c.cells.ensures) c.in_ok-waves.ensures.plan
