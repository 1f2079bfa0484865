use Rattle.std.proofs.Common.{ℕ, List, ◌∙◌, ap}
use Rattle.rk_tree.specs.Hierarchy.{Hierarchy, set_bytes}
use Rattle.rk_kernel.specs.World.{World, with_tree}
use Rattle.rk_kernel.proofs.FileLemmas.{set_written}
use Rattle.rk_kernel.proofs.world.World.put.Goals as goal

-- the tree with the bytes is the written one
pub returns-then-begins : goal.returns-then-begins
returns-then-begins c =
    ap (λ (w : World). with_tree w c.set_bytes.new.self) c.self.view_is
    ∙ ap (λ (tree : Hierarchy). with_tree c.args.self.now tree)
    (c.set_bytes.ensures ∙ ap (λ (w : World). set_bytes w.tree c.new.result c.in_ok-bytes.bytes) c.self.view_is
    ∙ ap (λ (n : ℕ). set_bytes c.args.self.now.tree n c.in_ok-bytes.bytes) c.new.ensures ∙ ap (λ (bytes : List ℕ). set_bytes c.args.self.now.tree c.args.n bytes) c.in_ok-bytes.ensures
    ∙ set_written c.args.self.now.tree c.args.n c.args.at c.args.bytes.now (c.begins.ensures.place c.if-begins.true) (c.begins.ensures.none c.if-begins.true))
