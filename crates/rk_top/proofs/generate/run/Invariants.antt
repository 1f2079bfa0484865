use Rattle.std.proofs.Common.{◌≡◌, ◌+◌, ◌≤◌, true}
use Rattle.rk_folder.specs.Memory.{held_by, is_steady}
use Rattle.rk_top.specs.Generated.{Reaches, stage_of, workload_after}
use Rattle.rk_build.specs.Sessions.{IsWell}
use Rattle.rk_top.proofs.generate.run.Given as goal

abbrev pub invariant-loop-n : goal.invariant-loop-n
invariant-loop-n g l = record {
  workload : l.workload ≡ workload_after l.seed l._n;
  few : l.workload.sources ≤ 32 + l._n;
  session : Reaches g.M.Maker.first l.seed l._n (stage_of l.session);
  well : IsWell g.M.Maker.first (held_by l.session.folder);
  steady : is_steady l.session.folder ≡ true;
  builds : l.session.figures.builds ≤ l._n + 1;
  paid : l.fn.live + l.session.figures.turns ≤ l.live;
}
