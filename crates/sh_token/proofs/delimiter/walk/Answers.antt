use Rattle.std.proofs.Common.{sym, subst, ◌+◌}
use Rattle.sh_token.proofs.Walking.{Walked, walk_one, walk_two}
use Rattle.sh_token.proofs.delimiter.walk.Goals as goal

pub steps-preserved-in-One : goal.steps-preserved-in-One
steps-preserved-in-One c =
    subst (λ r. Walked c.args.text.now r c.in-One.next (c.steps.count + 1)) (sym c.split_at.ensures.back)
    (walk_one c.args.text.now c.steps.rest.now c.steps.within c.in-One.next c.steps.count c.steps.invariant (sym c.in-One.ensures))

pub steps-preserved : goal.steps-preserved
steps-preserved c =
    subst (λ r. Walked c.args.text.now r c.in-Two.next (c.steps.count + 2)) (sym c.split_at-in-Two.ensures.back)
    (walk_two c.args.text.now c.steps.rest.now c.steps.within c.in-Two.next c.steps.count c.steps.invariant (sym c.in-Two.ensures))
