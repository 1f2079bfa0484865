use Rattle.std.proofs.Common.{ap, refl, ◌∙◌}
use Rattle.std.specs.FinMap.{is_sorted}
use Rattle.rk_base.specs.Text.{text_cmp}
use Rattle.rk_tree.specs.Ascending.{held, map_held, stated}
use Rattle.rk_tree.specs.Hierarchy.{Paths}
use Rattle.rk_tree.specs.Names.{named}
use Rattle.rk_tree.specs.Rows.{map_of}
use Rattle.rk_tree.proofs.AscendingLemmas.{all_put, held_puts, more_put, next_held, none_left, same_put}
use Rattle.rk_tree.proofs.NamesLemmas.{new_is, put_is}
use Rattle.rk_tree.proofs.RowsLemmas.{puts}
use Rattle.rk_tree.proofs.ascending.Ascending.searched.Goals as goal
use Rattle.rk_tree.proofs.ascending.Ascending.searched.Goals.{in-None, in-Some+in_ok-from_slice-in-Some+in_ok-insert-in-Some}

pub loop-name-init : goal.loop-name-init
loop-name-init c =
    ap (λ (m : Paths). puts m (held (stated c.deref-name-items.result.now))) (new_is c.new-map.result.entries c.new-map.ensures.empty)
    ∙ held_puts c.deref-name-items.result.now (ap (λ rows. is_sorted text_cmp (stated rows)) c.deref-name-items.ensures.value ∙ c.self.invariant.0)

pub loop-name-preserved : goal.loop-name-preserved
loop-name-preserved c =
    let left = next_held c.deref-name-items.result.now c.loop-name.name-index c.loop-name-item.result c.loop-name-test.true c.loop-name-item.is in
    elim c.match-found.branch [
      | in-None w ↦ same_put (map_of (named c.loop-name.map.entries)) _ _ _ _ c.loop-name-item.result c.loop-name.invariant left w.in-None.is (λ i. map_of (named (w.map-is i).entries))
      | in-Some+in_ok-from_slice-in-Some+in_ok-insert-in-Some w ↦ more_put (map_of (named c.loop-name.map.entries)) _ _ _ _ c.loop-name-item.result w.in-Some.n c.loop-name.invariant left w.in-Some.is
          ((λ i. map_of (named (w.map-is i).entries)) ∙ put_is c.loop-name.map.entries w.insert.new.self.entries w.in_ok-from_slice-in-Some.field-0 w.in-Some.n (map_of (named c.loop-name.map.entries)) c.loop-name-item.result.0.items refl (w.in_ok-from_slice-in-Some.ensures.items ∙ w.as_slice.ensures.value) w.in_ok-insert-in-Some.ensures.entries)
    ]

pub returns : goal.returns
returns c =
    all_put (map_of (named c.loop-name.map.entries)) _ _ c.loop-name.invariant (none_left c.deref-name-items.result.now c.loop-name.name-index c.loop-name-test.false)
    ∙ ap (λ rows. map_held rows) c.deref-name-items.ensures.value ∙ c.self.view_is
