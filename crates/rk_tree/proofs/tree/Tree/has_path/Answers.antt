use Rattle.std.proofs.Common.{◌∙◌, sym, ap, ℕ}
use Rattle.rk_tree.specs.Hierarchy.{path_of}
use Rattle.rk_tree.specs.Refusals.{is_there}
use Rattle.rk_tree.proofs.HierarchyLemmas.{root-yes, root-no}
use Rattle.rk_tree.proofs.ClimbingLemmas.{keeps, whole_kept, is_there_by, root_path, there_copied}
use Rattle.rk_tree.proofs.tree.Tree.has_path.Goals as goal

pub returns-then-is_root : goal.returns-then-is_root
returns-then-is_root c =
    c.if-is_root.true ∙ sym (ap (λ (n : ℕ). is_there (path_of c.args.self.now n)) (root-yes c.args.dir c.is_root.ensures c.if-is_root.true) ∙ ap is_there (root_path c.args.self.now (whole_kept c.self.inside c.args.self.now c.self.view_is c.self.invariant)))

pub returns-else-is_root : goal.returns-else-is_root
returns-else-is_root c =
    let k = keeps c.self.inside c.args.self.now c.as_slice.result.now c.self.view_is c.self.invariant c.as_slice.ensures.value in
    c.is_some.ensures ∙ sym (there_copied c.place_at.result) ∙ ap is_there c.place_at.ensures ∙ is_there_by c.args.self.now c.as_slice.result.now k c.args.dir (root-no c.args.dir c.is_root.ensures c.if-is_root.false) c.requires
