use Rattle.std.proofs.Common.{ℕ, ◌∙◌, sym, ap, subst}
use Rattle.std.specs.FinMap.{insert}
use Rattle.rk_base.specs.Text.{Text, root}
use Rattle.rk_tree.specs.Node.{Dir}
use Rattle.rk_tree.specs.Copies.{snapshot_of}
use Rattle.rk_tree.specs.Hierarchy.{Hierarchy, Paths}
use Rattle.rk_tree.specs.Rows.{map_of}
use Rattle.rk_tree.proofs.CopiesLemmas.{snapshot_of-tree_of}
use Rattle.rk_tree.proofs.DirsLemmas.{all_numbers}
use Rattle.rk_tree.proofs.PlantedLemmas.{Takes, takes_first, takes_next, takes_more, takes_all}
use Rattle.rk_tree.proofs.RowsLemmas.{map_of-put, empty_rows}
use Rattle.rk_tree.proofs.WholeLemmas.{none}
use Rattle.rk_tree.proofs.tree.Tree.of_snapshot.Goals as goal

pub of_root-requires : goal.of_root-requires
of_root-requires c = c.requires.fit root (Dir c.in_ok-root_mode.field-0) c.in_ok-root_mode.ensures

pub loop-path-init : goal.loop-path-init
loop-path-init c = record {
  numbers = all_numbers c.in_ok-tree.tree c.insert.new.self.entries
      (map_of-put c.new-numbers.result.entries c.insert.new.self.entries c.in_ok-root.field-0 c.root-2.result c.in_ok-insert.ensures.updates.0
      ∙ ap (λ (n : ℕ). insert (map_of c.new-numbers.result.entries) c.in_ok-root.field-0 n) c.root-2.ensures
      ∙ ap (λ (m : Paths). insert m c.in_ok-root.field-0 0) (empty_rows c.new-numbers.result.entries c.new-numbers.ensures.empty)
      ∙ ap (λ (path : Text). insert none path 0) c.in_ok-root.ensures
      ∙ sym (ap (λ (h : Hierarchy). h.paths) c.in_ok-tree.ensures));
  takes = subst (Takes c.args.snapshot.now c.in_ok-tree.tree) (sym c.into_iter-path-iterator.ensures.into_iter_gives)
      (takes_first c.args.snapshot.now c.requires c.in_ok-root_mode.field-0 c.next-root.result c.iter-rows.result c.next-root.new.self c.in_ok-tree.tree c.in_ok-root_mode.ensures (c.iter-rows.ensures.rest ∙ c.rows.ensures) c.next-root.ensures.steps c.in_ok-tree.ensures);
}

pub put_path-requires-clause-numbers : goal.put_path-requires-clause-numbers
put_path-requires-clause-numbers c = c.loop-path.invariant.numbers

pub put_path-requires-clause-takes : goal.put_path-requires-clause-takes
put_path-requires-clause-takes c = takes_next c.args.snapshot.now c.requires c.loop-path.tree c.loop-path.path-iterator c.next.new.self c.in-Some.path.now c.in-Some.it.now c.loop-path.invariant.takes c.in-Some.ensures.steps

pub loop-path-preserved : goal.loop-path-preserved
loop-path-preserved c = record {
  numbers = c.in_ok-put_path.ensures.numbers;
  takes = takes_more c.args.snapshot.now c.requires c.loop-path.tree c.loop-path.path-iterator c.next.new.self c.in-Some.path.now c.in-Some.it.now c.loop-path.invariant.takes c.in-Some.ensures.steps c.put_path.new.self c.in_ok-put_path.ensures.tree;
}

pub returns : goal.returns
returns c =
    let all = takes_all c.args.snapshot.now c.requires c.loop-path.tree c.loop-path.path-iterator c.loop-path.invariant.takes c.in-None.ensures.steps.0 in
    record { tree = all; again = ap snapshot_of all ∙ snapshot_of-tree_of c.args.snapshot.now }
