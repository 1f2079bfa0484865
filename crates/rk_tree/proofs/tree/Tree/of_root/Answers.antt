use Rattle.std.proofs.Common.{rules, ◌∙◌, ap, ◌∷◌, []}
use Rattle.rk_tree.specs.declared.inode.Inode.{Inode}
use Rattle.rk_tree.specs.Inodes.{lost}
use Rattle.rk_tree.proofs.RootLemmas.{new-shown, new-held, new-kept}
use Rattle.rk_tree.proofs.tree.Tree.of_root.Goals as goal

pub invariant_of-result : goal.invariant_of-result
invariant_of-result c = (new-shown c.in_ok-nodes.nodes.items c.args.mode c.requires (c.in_ok-nodes.ensures.items ∙ ap (λ (i : Inode). i ∷ []) (c.lost.ensures ∙ ap lost c.new.ensures)), tt)

pub invariant_of-result-2 : goal.invariant_of-result-2
invariant_of-result-2 c = new-kept c.in_ok-nodes.nodes.items _ c.args.mode (search rules) c.requires (c.in_ok-nodes.ensures.items ∙ ap (λ (i : Inode). i ∷ []) (c.lost.ensures ∙ ap lost c.new.ensures))

pub returns : goal.returns
returns c = new-held c.in_ok-nodes.nodes.items _ c.args.mode (search rules) c.requires (c.in_ok-nodes.ensures.items ∙ ap (λ (i : Inode). i ∷ []) (c.lost.ensures ∙ ap lost c.new.ensures))
