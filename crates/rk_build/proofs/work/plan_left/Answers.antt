use Rattle.std.proofs.Common.{ℕ, ap}
use Rattle.rk_build.proofs.WorkLemmas.{is_planned, left-from}
use Rattle.rk_build.proofs.work.plan_left.Goals as goal

pub planned-requires-clause-after_from : goal.planned-requires-clause-after_from
planned-requires-clause-after_from g c = left-from _ c.args.finished.world c.in_ok-kept.kept c.in_ok-after.after c.in_ok-after.ensures.holding c.requires.left

pub returns-clause-planned : goal.returns-clause-planned
returns-clause-planned g c =
    let built = c.args.finished.built in
    let ended = ap (λ (n : ℕ). record { status = built.status; launched = n; ran = built.ran }) c.len-launched.ensures in
    is_planned c.args.request.now _ c.args.found built _ c.in_ok-kept.kept c.in_ok-after.after ended c.in_ok-kept.ensures.pushed c.in_ok-after.ensures.fits c.in_ok-error_text.ensures c.in_ok-after.ensures.holding c.in_ok-after.ensures.whole c.in_ok-after.ensures.readable c.in_ok-plan.ensures.plan
