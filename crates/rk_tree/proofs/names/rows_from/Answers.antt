use Rattle.std.proofs.Common.{ℕ, List, ◌++◌, refl, ap, ◌∙◌}
use Rattle.std.specs.List.{list_all}
use Rattle.rk_base.specs.Text.{Text}
use Rattle.rk_base.specs.Canonical.{is_name}
use Rattle.rk_tree.specs.Names.{named}
use Rattle.rk_tree.specs.Rows.{map_of}
use Rattle.rk_tree.proofs.NamesLemmas.{texts, all_named, rows_are, one_more, is_named, all_done}
use Rattle.rk_tree.proofs.names.rows_from.Goals as goal

pub loop-name-init : goal.loop-name-init
loop-name-init c =
    let gives = c.into_iter-name-iterator.ensures.into_iter_gives in (
      ap (λ (rows : List (Text × ℕ)). rows ++ named c.into_iter-name-iterator.result) c.new-made.ensures.items ∙ ap (λ rows. named rows) gives.0 ∙ rows_are c.args.rows.now.entries (map_of (named c.args.rows.now.entries)) refl gives.5,
      ap (λ rows. list_all is_name (texts rows)) gives.0 ∙ all_named c.args.rows.now.entries c.args.rows.now.entries c.requires gives.6,
    )

pub name_of-requires : goal.name_of-requires
name_of-requires c = ap is_name c.as_slice.ensures.value ∙ (is_named c.loop-name.name-iterator c.next.new.self (c.in-Some.name.now, c.in-Some.n.now) c.loop-name.invariant.1 c.in-Some.ensures.steps).0

pub loop-name-preserved : goal.loop-name-preserved
loop-name-preserved c = (
  one_more c.loop-name.made.items c.push.new.self.items _ c.loop-name.name-iterator c.next.new.self (c.in-Some.name.now, c.in-Some.n.now) c.in_ok-name_of.field-0 c.loop-name.invariant.0 c.in-Some.ensures.steps c.in_ok-push.ensures.items (c.in_ok-name_of.ensures ∙ c.as_slice.ensures.value),
  (is_named c.loop-name.name-iterator c.next.new.self (c.in-Some.name.now, c.in-Some.n.now) c.loop-name.invariant.1 c.in-Some.ensures.steps).1,
)

pub returns : goal.returns
returns c = all_done c.loop-name.made.items _ c.loop-name.name-iterator c.loop-name.invariant.0 c.in-None.ensures.steps.0
