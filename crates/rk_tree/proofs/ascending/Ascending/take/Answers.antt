use Rattle.std.proofs.Common.{refl, sym, ap, ◌∙◌}
use Rattle.std.specs.FinMap.{len, remove}
use Rattle.rk_tree.specs.Hierarchy.{Paths}
use Rattle.rk_tree.proofs.AscendingLemmas.{absent_held_rows, absent_in, after_take, enough, placed_in}
use Rattle.rk_tree.proofs.ascending.Ascending.take.Goals as goal

pub returns-in_default : goal.returns-in_default
returns-in_default c =
    sym c.self.view_is ∙ absent_held_rows c.self.inside.rows.items c.args.name.now c.self.invariant.0 (absent_in c.deref.result.now c.self.inside.rows.items c.args.name.now c.args.name.now c.deref.ensures.value refl c.in_default.ensures)
    ∙ ap (λ (m : Paths). remove m c.args.name.now) c.self.view_is

pub overflow_sub-self : goal.overflow_sub-self
overflow_sub-self c = enough c.self.inside.rows.items c.in-Some.i c.args.name.now (placed_in c.deref.result.now c.self.inside.rows.items c.in-Some.i c.args.name.now c.args.name.now c.deref.ensures.value refl c.in-Some.ensures) c.self.inside.held c.self.invariant c.index_mut.result.now c.index.result.now c.index_mut.ensures.value c.index.ensures c.is_some.result c.from.result c.from.ensures c.is_some.ensures

pub drop_taken-requires : goal.drop_taken-requires
drop_taken-requires c = (after_take c.self.inside.rows.items c.in-Some.i c.args.name.now (placed_in c.deref.result.now c.self.inside.rows.items c.in-Some.i c.args.name.now c.args.name.now c.deref.ensures.value refl c.in-Some.ensures) c.self.inside.held c.self.invariant c.index_mut.result.now c.index.result.now c.index_mut.ensures.value c.index.ensures c.is_some.result c.from.result c.from.ensures c.is_some.ensures).0.0

pub invariant_of-self : goal.invariant_of-self
invariant_of-self c = (c.drop_taken.ensures.sorted, (after_take c.self.inside.rows.items c.in-Some.i c.args.name.now (placed_in c.deref.result.now c.self.inside.rows.items c.in-Some.i c.args.name.now c.args.name.now c.deref.ensures.value refl c.in-Some.ensures) c.self.inside.held c.self.invariant c.index_mut.result.now c.index.result.now c.index_mut.ensures.value c.index.ensures c.is_some.result c.from.result c.from.ensures c.is_some.ensures).0.1 ∙ sym (ap (λ (m : Paths). len m) c.drop_taken.ensures.same))

pub invariant_of-self-else-self-len : goal.invariant_of-self-else-self-len
invariant_of-self-else-self-len c = (after_take c.self.inside.rows.items c.in-Some.i c.args.name.now (placed_in c.deref.result.now c.self.inside.rows.items c.in-Some.i c.args.name.now c.args.name.now c.deref.ensures.value refl c.in-Some.ensures) c.self.inside.held c.self.invariant c.index_mut.result.now c.index.result.now c.index_mut.ensures.value c.index.ensures c.is_some.result c.from.result c.from.ensures c.is_some.ensures).0

pub returns-then-self-len : goal.returns-then-self-len
returns-then-self-len c = c.drop_taken.ensures.same ∙ (after_take c.self.inside.rows.items c.in-Some.i c.args.name.now (placed_in c.deref.result.now c.self.inside.rows.items c.in-Some.i c.args.name.now c.args.name.now c.deref.ensures.value refl c.in-Some.ensures) c.self.inside.held c.self.invariant c.index_mut.result.now c.index.result.now c.index_mut.ensures.value c.index.ensures c.is_some.result c.from.result c.from.ensures c.is_some.ensures).1 ∙ ap (λ (m : Paths). remove m c.args.name.now) c.self.view_is

pub returns-else-self-len : goal.returns-else-self-len
returns-else-self-len c = (after_take c.self.inside.rows.items c.in-Some.i c.args.name.now (placed_in c.deref.result.now c.self.inside.rows.items c.in-Some.i c.args.name.now c.args.name.now c.deref.ensures.value refl c.in-Some.ensures) c.self.inside.held c.self.invariant c.index_mut.result.now c.index.result.now c.index_mut.ensures.value c.index.ensures c.is_some.result c.from.result c.from.ensures c.is_some.ensures).1 ∙ ap (λ (m : Paths). remove m c.args.name.now) c.self.view_is
