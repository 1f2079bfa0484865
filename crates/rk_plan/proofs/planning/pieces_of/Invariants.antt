use Rattle.std.proofs.Common.{◌≡◌}
use Rattle.rk_tree.specs.Full.{AreFrom}
use Rattle.rk_plan.specs.Going.{left_in}
use Rattle.rk_plan.proofs.PlanLemmas.{IsSoFarWhereTold}
use Rattle.rk_plan.proofs.planning.pieces_of.Given as goal

abbrev pub invariant-events : goal.invariant-events
invariant-events g l = record {
  so_far : IsSoFarWhereTold (g.G.Fetch.told l.fn.fetch) l.fn.world l.fn.table l.retrace.course l.pieces;
  table : l.retrace.table ≡ l.fn.table;
  from : AreFrom (g.G.Fetch.told l.fetch) l.retrace.course.world.tree;
  told : g.G.Fetch.told l.fetch ≡ g.G.Fetch.told l.fn.fetch;
  keeps : g.G.Fetch.Keeps l.fn.fetch l.fetch;
  stays : g.G.Fetch.Stays l.fn.fetch l.fetch;
  steady : g.G.Fetch.steady l.fetch ≡ g.G.Fetch.steady l.fn.fetch;
  faults : g.G.Fetch.faults l.fetch ≡ g.G.Fetch.faults l.fn.fetch;
}

abbrev pub decreases-events : goal.decreases-events
decreases-events g l = left_in l.retrace
