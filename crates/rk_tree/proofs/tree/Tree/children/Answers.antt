use Rattle.std.proofs.Common.{◌≡◌, ℕ, Some, map, ap, ◌∙◌}
use Rattle.std.specs.Prelude.{All, slice_get}
use Rattle.std.specs.FinMap.{entries}
use Rattle.rk_base.specs.Text.{Text}
use Rattle.rk_tree.specs.Entries.{is_dir}
use Rattle.rk_tree.specs.Hierarchy.{Hierarchy, node, child, names}
use Rattle.rk_tree.specs.Inodes.{names_in}
use Rattle.rk_tree.proofs.ListLemmas.{if_rows, rows-read}
use Rattle.rk_tree.proofs.ShownLemmas.{steps}
use Rattle.rk_tree.proofs.tree.Tree.children.Goals as goal

pub returns-clause-names : goal.returns-clause-names
returns-clause-names c =
    let t = c.self.inside in
    if_rows c.rows_of.result (entries (names_in (slice_get c.as_slice.result.now c.args.dir))) (λ rows. map (λ (row : Text × ℕ). row.0) rows ≡ names c.args.self.now c.args.dir)
    (λ rows are. (rows-read t.shown.paths t.nodes.items c.self.invariant.0 (steps t.nodes.items t.shown.paths t.shown.leads) c.self.invariant.2 c.args.dir (ap (λ (h : Hierarchy). is_dir (node h c.args.dir)) c.self.view_is ∙ c.requires) c.as_slice.result.now c.args.self.now c.as_slice.ensures.value c.self.view_is rows are).0)
    c.rows_of.ensures

pub returns-clause-numbers : goal.returns-clause-numbers
returns-clause-numbers c =
    let t = c.self.inside in
    if_rows c.rows_of.result (entries (names_in (slice_get c.as_slice.result.now c.args.dir))) (λ rows. All (λ (row : Text × ℕ). Some row.1 ≡ child c.args.self.now c.args.dir row.0) rows)
    (λ rows are. (rows-read t.shown.paths t.nodes.items c.self.invariant.0 (steps t.nodes.items t.shown.paths t.shown.leads) c.self.invariant.2 c.args.dir (ap (λ (h : Hierarchy). is_dir (node h c.args.dir)) c.self.view_is ∙ c.requires) c.as_slice.result.now c.args.self.now c.as_slice.ensures.value c.self.view_is rows are).1)
    c.rows_of.ensures
