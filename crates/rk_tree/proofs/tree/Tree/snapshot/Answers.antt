use Rattle.std.proofs.Common.{◌≡◌, ◌∙◌, List, sym, ap, subst, length, arith}
use Rattle.std.proofs.lemmas.List.{length-map}
use Rattle.std.specs.FinMap.{empty}
use Rattle.std.specs.Option.{option_copied}
use Rattle.rk_base.specs.Text.{Text, root}
use Rattle.rk_tree.specs.declared.inode.Inode.{Inode}
use Rattle.rk_tree.specs.Entries.{IsWholeSnapshot}
use Rattle.rk_tree.specs.Hierarchy.{Hierarchy, node}
use Rattle.rk_tree.specs.Copies.{put_found, snapshot_of}
use Rattle.rk_tree.specs.Copying.{made_of, put_dir}
use Rattle.rk_tree.specs.Node.{Node}
use Rattle.rk_tree.proofs.SnapshotLemmas.{dirs_on, dirs_all}
use Rattle.rk_tree.proofs.CopiesLemmas.{snapshot_of-whole}
use Rattle.rk_tree.proofs.tree.Tree.snapshot.Goals as goal
use Rattle.rk_tree.proofs.tree.Tree.snapshot.Goals.{After-loop-dir}

pub loop-dir-init : goal.loop-dir-init
loop-dir-init c =
    c.in_ok-put_found.ensures
    ∙ ap (λ (rows : List (Text × Node)). put_found (made_of rows) c.in_ok-root.field-0 (option_copied c.look-root.result)) c.new-rows.ensures.items
    ∙ ap (λ (path : Text). put_found empty path (option_copied c.look-root.result)) c.in_ok-root.ensures
    ∙ ap (put_found empty root) (c.look-root.ensures.node ∙ ap (node c.args.self.now) c.root.ensures)

pub loop-dir-preserved : goal.loop-dir-preserved
loop-dir-preserved c = dirs_on c.args.self.now (made_of c.loop-dir.rows.items) (made_of c.put_dir.new.rows.items) c.loop-dir.dir c.loop-dir.invariant (c.in_ok-put_dir.ensures ∙ ap (put_dir c.args.self.now (made_of c.loop-dir.rows.items)) c.new.ensures)

-- all nodes were asked
all_nodes : (c : After-loop-dir) → c.loop-dir.dir ≡ length c.args.self.now.nodes
all_nodes c =
    let last : c.loop-dir.dir ≡ c.len-dir-end.result = omega arith in
    last ∙ c.len-dir-end.ensures ∙ c.self.inside.nodes.ok.0 ∙ sym (length-map c.self.inside.nodes.items (λ (n : Inode). n.node)) ∙ ap (λ (h : Hierarchy). length h.nodes) c.self.view_is

made : (c : After-loop-dir) → made_of c.loop-dir.rows.items ≡ snapshot_of c.args.self.now
made c = dirs_all c.args.self.now (made_of c.loop-dir.rows.items) c.loop-dir.dir c.look-root.ensures.whole c.loop-dir.invariant (all_nodes c)

pub returns : goal.returns
returns c = record {
  tree = c.look-root.ensures.whole;
  snapshot = c.in_ok-snapshot.ensures ∙ made (goal.at.returns c).After-loop-dir;
  whole = subst IsWholeSnapshot (sym (c.in_ok-snapshot.ensures ∙ made (goal.at.returns c).After-loop-dir)) (snapshot_of-whole c.args.self.now c.look-root.ensures.whole);
}
