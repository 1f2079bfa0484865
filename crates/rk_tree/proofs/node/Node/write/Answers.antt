use Rattle.std.proofs.Common.{◌∙◌, [], sym, ap}
use Rattle.rk_tree.specs.Content.{Own}
use Rattle.rk_tree.specs.Entries.{node_of}
use Rattle.rk_tree.specs.Hierarchy.{with_content}
use Rattle.rk_tree.specs.contracts.node.Node.{the_view}
use Rattle.rk_tree.proofs.node.Node.write.Goals as goal
use Rattle.rk_tree.proofs.node.Node.write.Goals.{in-File, in-Dir, in-Link}

pub returns-clause-any : goal.returns-clause-any
returns-clause-any c = elim c.match-self.branch [
  | in-File w ↦ (w.write.new.self, ap the_view w.self-inside-is ∙ sym (ap (with_content w.write.new.self) (sym c.self.view_is ∙ ap node_of w.in-File.is)))
  | in-Dir w ↦ (Own [], ap the_view w.self-inside-is ∙ ap node_of w.in-Dir.is ∙ sym (ap (with_content (Own [])) (sym c.self.view_is ∙ ap node_of w.in-Dir.is)))
  | in-Link w ↦ (Own [], ap the_view w.self-inside-is ∙ ap node_of w.in-Link.is ∙ sym (ap (with_content (Own [])) (sym c.self.view_is ∙ ap node_of w.in-Link.is)))
]
