use Rattle.std.proofs.Common.{◌∙◌, rules, sym, IsTrue}
use Rattle.rk_traces.specs.Walking.{left-next}
use Rattle.rk_traces.proofs.Feeds.{Feeding-more, Feeding-wrong}
use Rattle.rk_traces.proofs.feeding.feed.Goals as goal

pub steps-preserved : goal.steps-preserved
steps-preserved g c =
    let taken : IsTrue c.in_ok-takes.field-0 = search rules in
    let next = left-next c.args.rec.now.steps c.steps.i c.in-Some.step.now c.in-Some.rest (sym c.steps.invariant.left ∙ c.in-Some.ensures.some) in
    record {
      fed = Feeding-more _ _ _ _ _ _ c.steps.invariant.fed next.here _ next.is _ _ (c.in_ok-takes.ensures.step.0 taken) (c.in_ok-takes.ensures.waits taken) (search rules);
      left = next.rest_is;
    }

pub returns-then-not-branch-clause-forged : goal.returns-then-not-branch-clause-forged
returns-then-not-branch-clause-forged g c =
    let next = left-next c.args.rec.now.steps c.steps.i c.in-Some.step.now c.in-Some.rest (sym c.steps.invariant.left ∙ c.in-Some.ensures.some) in
    (search rules, Feeding-wrong _ g.K.Maker.first c.args.rec.now c.steps.i _ _ c.steps.invariant.fed next.here (rw (sym next.is) (search rules)))
