use Rattle.std.proofs.Common.{◌≡◌, true}
use Rattle.tr_matching.proofs.TakeLemmas.{take-off, take-on}
use Rattle.tr_matching.proofs.talks.take_common.Goals as goal

pub returns-then-is_recorded : goal.returns-then-is_recorded
returns-then-is_recorded c =
    let yes : c.is_recorded.result ≡ true = cc in
    take-on c.args.earlier.now c.args.groups.now.items c.args.place.group c.args.place.at (c.requires.groups c.args.place.group c.requires.at.here).common c.requires.common c.first_step-step.result.now c.first_step-step.ensures.step c.args.answer.now
    c.first_rest-rest.result c.requires.at.here (c.is_recorded.ensures.0 yes) c.first_rest-rest.ensures

pub returns : goal.returns
returns c =
    take-off c.args.earlier.now c.args.groups.now.items c.args.place.group c.args.place.at (c.requires.groups c.args.place.group c.requires.at.here).common c.requires.common c.first_step-step.result.now c.first_step-step.ensures.step c.args.answer.now
    c.in_ok-taken.taken (λ z. let same : c.is_recorded.result ≡ true = c.is_recorded.ensures.1 z in absurd cc) c.in_ok-taken.ensures
