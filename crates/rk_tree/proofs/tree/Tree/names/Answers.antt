use Rattle.std.proofs.Common.{◌≡◌, List, ap, subst, ◌∙◌}
use Rattle.std.specs.Prelude.{IfOk}
use Rattle.rk_base.specs.Text.{Text}
use Rattle.rk_tree.specs.Entries.{is_dir}
use Rattle.rk_tree.specs.Hierarchy.{Hierarchy, node}
use Rattle.rk_tree.proofs.ListLemmas.{names-read}
use Rattle.rk_tree.proofs.ShownLemmas.{steps}
use Rattle.rk_tree.proofs.tree.Tree.names.Goals as goal

pub returns : goal.returns
returns c =
    let t = c.self.inside in
    subst (λ (ts : List Text). IfOk c.names_of.result (λ names. names.items ≡ ts))
    (names-read t.shown.paths t.nodes.items c.self.invariant.0 (steps t.nodes.items t.shown.paths t.shown.leads) c.self.invariant.2 c.args.dir (ap (λ (h : Hierarchy). is_dir (node h c.args.dir)) c.self.view_is ∙ c.requires) c.as_slice.result.now c.args.self.now c.as_slice.ensures.value c.self.view_is)
    c.names_of.ensures
