use Rattle.std.proofs.Common.{◌++◌, ap, sym, ◌∙◌}
use Rattle.std.specs.FinMap.{entries, get, is_sorted}
use Rattle.rk_base.specs.Canonical.{is_name}
use Rattle.rk_base.specs.Text.{text_cmp}
use Rattle.rk_tree.specs.Ascending.{held, map_held, stated}
use Rattle.rk_tree.specs.Hierarchy.{Paths}
use Rattle.rk_tree.proofs.AscendingLemmas.{all_held, held_entries, more_held, next_held, none_left, row_there, same_held}
use Rattle.rk_tree.proofs.ascending.Ascending.rows.Goals as goal
use Rattle.rk_tree.proofs.ascending.Ascending.rows.Goals.{in-None, in-Some+in_ok-name_of-in-Some+in_ok-push-in-Some}

pub loop-name-init : goal.loop-name-init
loop-name-init c = ap (λ rows. rows ++ held (stated c.deref-name-items.result.now)) c.new-rows.ensures.items

pub name_of-requires : goal.name_of-requires
name_of-requires c =
    ap is_name c.as_slice.ensures.value
    ∙ c.requires c.loop-name-item.result.0.items c.in-Some.n
    (sym (ap (λ (m : Paths). get m c.loop-name-item.result.0.items) (ap (λ rows. map_held rows) c.deref-name-items.ensures.value ∙ c.self.view_is))
    ∙ row_there c.deref-name-items.result.now c.loop-name.name-index c.loop-name-item.result c.in-Some.n (ap (λ rows. is_sorted text_cmp (stated rows)) c.deref-name-items.ensures.value ∙ c.self.invariant.0) c.loop-name-test.true c.loop-name-item.is c.in-Some.is)

pub loop-name-preserved : goal.loop-name-preserved
loop-name-preserved c =
    let left = next_held c.deref-name-items.result.now c.loop-name.name-index c.loop-name-item.result c.loop-name-test.true c.loop-name-item.is in
    elim c.match-found.branch [
      | in-None w ↦ same_held c.loop-name.rows.items c.match-found.rows.items _ _ _ c.loop-name-item.result c.loop-name.invariant left w.in-None.is (λ i. (w.rows-is i).items)
      | in-Some+in_ok-name_of-in-Some+in_ok-push-in-Some w ↦ more_held c.loop-name.rows.items c.match-found.rows.items _ _ _ c.loop-name-item.result w.in_ok-name_of-in-Some.field-0 w.in-Some.n c.loop-name.invariant left w.in-Some.is ((λ i. (w.rows-is i).items) ∙ w.in_ok-push-in-Some.ensures.items) (w.in_ok-name_of-in-Some.ensures ∙ w.as_slice.ensures.value)
    ]

pub returns : goal.returns
returns c =
    all_held c.loop-name.rows.items _ _ c.loop-name.invariant (none_left c.deref-name-items.result.now c.loop-name.name-index c.loop-name-test.false)
    ∙ ap (λ rows. held (stated rows)) c.deref-name-items.ensures.value ∙ held_entries c.self.inside.rows.items c.self.invariant.0 ∙ ap (λ (m : Paths). entries m) c.self.view_is
