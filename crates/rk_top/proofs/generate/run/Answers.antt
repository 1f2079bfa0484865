use Rattle.std.proofs.Common.{◌∙◌, ap, arith}
use Rattle.rk_folder.specs.Memory.{held_by}
use Rattle.rk_gen.specs.Summary.{Sums}
use Rattle.rk_top.specs.Generated.{stage_of}
use Rattle.rk_top.proofs.GeneratedLemmas.{round-more, start-reached, started-well, workload-more, workload-none}
use Rattle.rk_top.proofs.generate.run.Goals as goal

pub build_once-requires-clause-well : goal.build_once-requires-clause-well
build_once-requires-clause-well g c =
    started-well g.M.Maker.first c.args.seed c.deref.result.now (held_by c.in_ok-folder.folder) (c.deref.ensures.value ∙ c.in_ok-files.ensures.files) c.in_ok-folder.ensures.held

pub loop-n-init : goal.loop-n-init
loop-n-init g c =
    let builds = ap (λ (s : Sums). s.builds) c.new.ensures in
    let turns = ap (λ (s : Sums). s.turns) c.new.ensures in
    record {
      workload = workload-none c.args.seed _ c.in_ok-files.ensures.made;
      few = omega (arith, c.in_ok-files.ensures.few);
      session =
          start-reached g.M.Maker.first c.args.seed c.deref.result.now (held_by c.in_ok-folder.folder) c.new.result (stage_of c.build_once.new.session) (c.deref.ensures.value ∙ c.in_ok-files.ensures.files)
          c.in_ok-folder.ensures.held c.new.ensures c.in_ok-build_once.ensures.built;
      well = c.in_ok-build_once.ensures.well;
      steady = c.build_once.ensures.steady;
      builds = omega (arith, builds, c.in_ok-build_once.ensures.builds);
      paid = omega (arith, turns, c.in_ok-build_once.ensures.paid);
    }

pub loop-n-preserved : goal.loop-n-preserved
loop-n-preserved g c = record {
  workload = workload-more c.args.seed c.loop-n._n c.loop-n.workload c.round.new.workload c.loop-n.invariant.workload c.in_ok-round.ensures.workload;
  few = omega (arith, c.in_ok-round.ensures.few, c.loop-n.invariant.few);
  session = round-more g.M.Maker.first c.args.seed c.loop-n._n c.loop-n.workload (stage_of c.loop-n.session) (stage_of c.round.new.session) c.loop-n.invariant.workload c.loop-n.invariant.session c.in_ok-round.ensures.built;
  well = c.in_ok-round.ensures.well;
  steady = c.round.ensures.steady;
  builds = omega (arith, c.in_ok-round.ensures.builds, c.loop-n.invariant.builds);
  paid = omega (arith, c.in_ok-round.ensures.paid, c.loop-n.invariant.paid);
}
