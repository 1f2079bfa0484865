use Rattle.std.proofs.Common.{◌≡◌, ◌+◌, ◌≤◌, length, sym, ap, ◌∙◌, arith, Some}
use Rattle.std.specs.FinMap.{insert}
use Rattle.rk_tree.specs.Hierarchy.{Paths}
use Rattle.rk_tree.proofs.AscendingLemmas.{after_push, after_put, kept_within, last_in, placed_in, put_within}
use Rattle.rk_tree.proofs.ascending.Ascending.put.Goals as goal

pub overflow_add-self : goal.overflow_add-self
overflow_add-self c =
    let within : c.self.inside.held ≤ length c.self.inside.rows.items = kept_within c.self.inside.rows.items c.self.inside.held c.self.invariant in
    let is : length c.deref.result.now ≡ length c.self.inside.rows.items = ap (λ rows. length rows) c.deref.ensures.value in
    omega (arith, c.deref.type_inv)

pub invariant_of-self-then-comes_last : goal.invariant_of-self-then-comes_last
invariant_of-self-then-comes_last c = (after_push c.self.inside.rows.items c.push.new.self.items c.args.name c.args.n c.self.inside.held c.in_ok-push.ensures.items c.self.invariant (last_in c.deref.result.now c.self.inside.rows.items c.deref-2.result.now c.args.name.items c.deref.ensures.value c.deref-2.ensures.value (sym c.if-comes_last.ensures))).0

pub returns-then-comes_last-clause-ok : goal.returns-then-comes_last-clause-ok
returns-then-comes_last-clause-ok c = (after_push c.self.inside.rows.items c.push.new.self.items c.args.name c.args.n c.self.inside.held c.in_ok-push.ensures.items c.self.invariant (last_in c.deref.result.now c.self.inside.rows.items c.deref-2.result.now c.args.name.items c.deref.ensures.value c.deref-2.ensures.value (sym c.if-comes_last.ensures))).1 ∙ ap (λ (m : Paths). insert m c.args.name.items c.args.n) c.self.view_is

pub overflow_add-self-2 : goal.overflow_add-self-2
overflow_add-self-2 c =
    let within : c.self.inside.held + c.from.result ≤ length c.self.inside.rows.items = put_within c.self.inside.rows.items c.in-Some.i (c.index_mut.result.now.0, Some c.args.n) (c.self.inside.held + c.from.result) (after_put c.self.inside.rows.items c.in-Some.i c.args.name.items (placed_in c.deref-3.result.now c.self.inside.rows.items c.in-Some.i c.deref-4.result.now c.args.name.items c.deref-3.ensures.value c.deref-4.ensures.value c.in-Some.ensures) c.self.inside.held c.self.invariant c.index_mut.result.now c.index.result.now c.index_mut.ensures.value c.index.ensures c.is_none.result c.from.result c.from.ensures c.args.n c.is_none.ensures).0 in
    let is : length c.deref.result.now ≡ length c.self.inside.rows.items = ap (λ rows. length rows) c.deref.ensures.value in
    omega (arith, c.deref.type_inv)

pub invariant_of-self-2 : goal.invariant_of-self-2
invariant_of-self-2 c = (after_put c.self.inside.rows.items c.in-Some.i c.args.name.items (placed_in c.deref-3.result.now c.self.inside.rows.items c.in-Some.i c.deref-4.result.now c.args.name.items c.deref-3.ensures.value c.deref-4.ensures.value c.in-Some.ensures) c.self.inside.held c.self.invariant c.index_mut.result.now c.index.result.now c.index_mut.ensures.value c.index.ensures c.is_none.result c.from.result c.from.ensures c.args.n c.is_none.ensures).0

pub returns-clause-ok : goal.returns-clause-ok
returns-clause-ok c = (after_put c.self.inside.rows.items c.in-Some.i c.args.name.items (placed_in c.deref-3.result.now c.self.inside.rows.items c.in-Some.i c.deref-4.result.now c.args.name.items c.deref-3.ensures.value c.deref-4.ensures.value c.in-Some.ensures) c.self.inside.held c.self.invariant c.index_mut.result.now c.index.result.now c.index_mut.ensures.value c.index.ensures c.is_none.result c.from.result c.from.ensures c.args.n c.is_none.ensures).1 ∙ ap (λ (m : Paths). insert m c.args.name.items c.args.n) c.self.view_is
