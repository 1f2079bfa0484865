use Rattle.std.proofs.Common.{◌+◌, List, IfSome, drop, option_map, rules, sym, ap, subst, ◌∙◌}
use Rattle.std.proofs.lemmas.Result.{err_from_is_err_and}
use Rattle.rk_seal.specs.declared.ops.Op.{Op}
use Rattle.rk_install.specs.Asked.{StopsAt, asked_all, calls_of}
use Rattle.rk_install.specs.Calls.{AllowsAll, after_all}
use Rattle.rk_install.specs.Halfway.{IsFront, IsStopped}
use Rattle.rk_install.specs.Install.{others}
use Rattle.rk_install.proofs.AskedLemmas.{asked-rest, stops-at, stops-rest}
use Rattle.rk_install.proofs.CleanLemmas.{front-here, front-later, memory-then}
use Rattle.rk_install.proofs.InstallLemmas.{after-other, allows-other, allows-rest, stopped-later, stopped-other}
use Rattle.rk_install.proofs.StepLemmas.{split-at}
use Rattle.rk_install.proofs.installation.make_others.Goals as goal

pub loop-op-preserved : goal.loop-op-preserved
loop-op-preserved g c =
    let rest : List Op = drop (c.loop-op.op-index + 1) c.args.ops.now in
    let split = split-at c.args.ops.now c.loop-op.op-index c.op-item.result c.loop-op-test.true c.op-item.is in
    let may = subst (λ (l : List Op). IfSome (g.F.Folder.told c.loop-op.folder) (AllowsAll (others l))) split c.loop-op.invariant.may in
    record {
      may = allows-rest c.op-item.result rest _ _ c.in_ok-make_other.ensures.held may;
      rest = after-other c.op-item.result rest _ _ c.in_ok-make_other.ensures.held ∙ ap (λ (l : List Op). option_map (after_all (others l)) (g.F.Folder.told c.loop-op.folder)) (sym split) ∙ c.loop-op.invariant.rest;
      stop = λ new stop. c.loop-op.invariant.stop new (subst (λ (l : List Op). IsStopped (others l) (g.F.Folder.told c.loop-op.folder) new) (sym split) (stopped-later c.op-item.result rest _ _ new c.in_ok-make_other.ensures.held stop));
      front = λ new front. c.loop-op.invariant.front new (subst (λ (l : List Op). IsFront (others l) (g.F.Folder.told c.loop-op.folder) new) (sym split) (front-later c.op-item.result rest _ _ new c.in_ok-make_other.ensures.held front));
      asked = asked-rest c.op-item.result rest _ _ c.in_ok-make_other.ensures.calls ∙ ap (λ (l : List Op). option_map (asked_all (calls_of (others l))) (g.F.Folder.schedule c.loop-op.folder)) (sym split) ∙ c.loop-op.invariant.asked;
      stops = λ err now stops. c.loop-op.invariant.stops err now (subst (λ (l : List Op). StopsAt err (calls_of (others l)) (g.F.Folder.schedule c.loop-op.folder) now) (sym split) (stops-rest err c.op-item.result rest _ _ now c.in_ok-make_other.ensures.calls stops));
      memory = search rules;
      writes = search rules;
      steady = search rules;
      reads = search rules;
    }

pub make_other-requires : goal.make_other-requires
make_other-requires g c =
    let rest : List Op = drop (c.loop-op.op-index + 1) c.args.ops.now in
    let split = split-at c.args.ops.now c.loop-op.op-index c.op-item.result c.loop-op-test.true c.op-item.is in
    allows-other c.op-item.result rest _ (subst (λ (l : List Op). IfSome (g.F.Folder.told c.loop-op.folder) (AllowsAll (others l))) split c.loop-op.invariant.may)

pub returns-in_err-make_other-clause-left : goal.returns-in_err-make_other-clause-left
returns-in_err-make_other-clause-left g c =
    let rest : List Op = drop (c.loop-op.op-index + 1) c.args.ops.now in
    let split = split-at c.args.ops.now c.loop-op.op-index c.op-item.result c.loop-op-test.true c.op-item.is in
    let p = err_from_is_err_and c.from_residual.result c.from_residual.ensures.1 in
    rw p.1 (c.loop-op.invariant.stop _ (subst (λ (l : List Op). IsStopped (others l) (g.F.Folder.told c.loop-op.folder) (g.F.Folder.told c.make_other.new.folder)) (sym split) (stopped-other c.op-item.result rest _ _ c.in_err-make_other.ensures.left.0 c.in_err-make_other.ensures.left.1)))

pub returns-in_err-make_other-clause-calls : goal.returns-in_err-make_other-clause-calls
returns-in_err-make_other-clause-calls g c =
    let rest : List Op = drop (c.loop-op.op-index + 1) c.args.ops.now in
    let split = split-at c.args.ops.now c.loop-op.op-index c.op-item.result c.loop-op-test.true c.op-item.is in
    let p = err_from_is_err_and c.from_residual.result c.from_residual.ensures.1 in
    rw (p.1, p.2) (c.loop-op.invariant.stops _ _ (stops-at _ c.op-item.result rest (drop c.loop-op.op-index c.args.ops.now) _ _ split c.in_err-make_other.ensures.calls))

pub returns-in_err-make_other-clause-clean : goal.returns-in_err-make_other-clause-clean
returns-in_err-make_other-clause-clean g c =
    let p = err_from_is_err_and c.from_residual.result c.from_residual.ensures.1 in
    rw (p.1, p.2) (memory-then c.in_err-make_other.field-0.0 (λ same. c.loop-op.invariant.front _ (front-here (others (drop c.loop-op.op-index c.args.ops.now)) _ _ same)) c.in_err-make_other.ensures.clean)
