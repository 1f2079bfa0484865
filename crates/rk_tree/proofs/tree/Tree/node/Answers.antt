use Rattle.std.proofs.Common.{ℕ, drop, sym, ap, ◌∙◌}
use Rattle.rk_base.specs.Text.{Text, components}
use Rattle.rk_tree.specs.Hierarchy.{top}
use Rattle.rk_tree.proofs.NodeLemmas.{down, down-path}
use Rattle.rk_tree.proofs.tree.Tree.node.Goals as goal

pub names-init : goal.names-init
names-init c =
    let tree = c.args.self.now in
    ap (λ (n : ℕ). down tree n (components c.below_root-names.result.now)) c.root-dir.ensures.root
    ∙ ap (λ (t : Text). down tree top (components t)) (c.below_root-names.ensures ∙ ap (drop 1) c.text.ensures.value)
    ∙ down-path tree c.args.path.now c.root-dir.ensures.whole c.text.ensures.canonical (sym c.is_root.ensures ∙ c.if-is_root.false)
