use Rattle.std.proofs.Common.{refl, sym, ap, ◌∙◌}
use Rattle.std.specs.FinMap.{get}
use Rattle.rk_tree.specs.Hierarchy.{Paths}
use Rattle.rk_tree.proofs.AscendingLemmas.{absent_in, get_absent, get_place, placed_in}
use Rattle.rk_tree.proofs.ascending.Ascending.get.Goals as goal

pub returns-in-None : goal.returns-in-None
returns-in-None c = get_absent c.self.inside.rows.items c.args.name.now c.self.invariant.0 (absent_in c.deref.result.now c.self.inside.rows.items c.args.name.now c.args.name.now c.deref.ensures.value refl c.in-None.ensures) ∙ ap (λ (m : Paths). get m c.args.name.now) c.self.view_is

pub returns-in-Some : goal.returns-in-Some
returns-in-Some c =
    sym (get_place c.self.inside.rows.items c.self.inside.rows.items c.in-Some.i c.args.name.now (placed_in c.deref.result.now c.self.inside.rows.items c.in-Some.i c.args.name.now c.args.name.now c.deref.ensures.value refl c.in-Some.ensures) c.self.invariant.0 c.index.result.now c.index.ensures)
    ∙ ap (λ (m : Paths). get m c.args.name.now) c.self.view_is
