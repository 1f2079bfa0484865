use Rattle.std.proofs.Common.{◌∙◌, ap, sym}
use Rattle.tr_record.specs.declared.records.Record.{Record}
use Rattle.tr_matching.proofs.NumberLemmas.{number-there}
use Rattle.tr_matching.specs.Causes.{first_difference}
use Rattle.rk_replay.proofs.PaidLemmas.{first_difference-none, has-other, less-all, less-more, less-none}
use Rattle.rk_replay.proofs.paying.all_differ.Goals as goal

pub ordinals-init : goal.ordinals-init
ordinals-init c = less-none c.args.was.now c.args.rec.now

pub unreachable-requires : goal.unreachable-requires
unreachable-requires c =
    number-there c.args.rec.now.key c.args.was.now c.ordinals.ordinal c.count-ordinal-end.result c.as_slice-numbered.ensures.numbered c.count-ordinal-end.ensures c.ordinals-test.true c.in_default.ensures.none

pub ordinals-preserved : goal.ordinals-preserved
ordinals-preserved c =
    let other = has-other c.at.result.now c.args.rec.now c.in-Some-first_difference.field-0 c.in-Some-first_difference.ensures.first in
    less-more c.args.was.now c.args.rec.now c.ordinals.ordinal c.in-Some.i c.as_slice-numbered.ensures.numbered c.ordinals.invariant c.in-Some.ensures.some.0 c.in-Some.ensures.some.1 c.in-Some.ensures.some.2
    (λ none. other (ap (λ (r : Record). first_difference 1 r.steps c.args.rec.now.steps) c.at.ensures ∙ none))

pub returns-in-None-clause-alike : goal.returns-in-None-clause-alike
returns-in-None-clause-alike c =
    λ f. (
      c.in-Some.i,
      c.in-Some.ensures.some.0,
      c.in-Some.ensures.some.1,
      ap (λ (r : Record). first_difference 1 r.steps c.args.rec.now.steps) (sym c.at.ensures) ∙ first_difference-none 1 c.at.result.now.steps c.args.rec.now.steps c.in-None.ensures.none,
    )

pub returns-clause-differ : goal.returns-clause-differ
returns-clause-differ c =
    λ t. less-all c.args.was.now c.args.rec.now c.ordinals.ordinal c.count-ordinal-end.result c.as_slice-numbered.ensures.numbered c.count-ordinal-end.ensures c.ordinals-test.false c.ordinals.invariant
