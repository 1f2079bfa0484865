use Rattle.std.proofs.Common.{not, ap, ◌∙◌}
use Rattle.rk_tree.specs.Entries.{is_dir}
use Rattle.rk_tree.specs.Hierarchy.{Hierarchy, node}
use Rattle.rk_tree.proofs.ListLemmas.{none-read}
use Rattle.rk_tree.proofs.ShownLemmas.{steps}
use Rattle.rk_tree.proofs.tree.Tree.has_below.Goals as goal

pub returns : goal.returns
returns c =
    let t = c.self.inside in
    c.has_names.ensures
    ∙ ap not (none-read t.shown.paths t.nodes.items c.self.invariant.0 (steps t.nodes.items t.shown.paths t.shown.leads) c.self.invariant.2 c.args.dir (ap (λ (h : Hierarchy). is_dir (node h c.args.dir)) c.self.view_is ∙ c.requires) c.as_slice.result.now c.args.self.now c.as_slice.ensures.value c.self.view_is)
