use Rattle.std.proofs.Common.{sym, ◌∙◌}
use Rattle.ut_bre.proofs.GroupLemmas.{groups_here, groups_more}
use Rattle.ut_bre.proofs.groups.has_groups.Goals as goal

pub items-preserved : goal.items-preserved
items-preserved c =
    groups_more c.args.items.now c.items.item-index c.item-item.result _ c.items-test.true c.item-item.is (sym c.is_group.ensures ∙ c.if-is_group.false) c.items.invariant

pub returns-then-is_group : goal.returns-then-is_group
returns-then-is_group c =
    groups_here c.args.items.now c.items.item-index c.item-item.result _ c.items-test.true c.item-item.is (sym c.is_group.ensures ∙ c.if-is_group.true) c.items.invariant
