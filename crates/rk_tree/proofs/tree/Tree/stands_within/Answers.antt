use Rattle.std.proofs.Common.{◌≡◌, ◌∙◌, sym, ap, ℕ, refl}
use Rattle.rk_tree.specs.Hierarchy.{Hierarchy, path_of, within, stands_within}
use Rattle.rk_tree.proofs.HierarchyLemmas.{root-yes, root-no, differ-no, differ-yes}
use Rattle.rk_tree.proofs.ClimbingLemmas.{Keeps, StandsIn, keeps, whole_kept, stands_in, stands_nowhere, up_higher, within_up, within_there, within_nowhere, within_none, within_root}
use Rattle.rk_tree.proofs.tree.Tree.stands_within.Goals as goal
use Rattle.rk_tree.proofs.tree.Tree.stands_within.Goals.{After-place_at, In-Some}

stands_by : (tree : Hierarchy) (above dir : ℕ) → within (path_of tree above) (path_of tree dir) ≡ stands_within tree above dir
unfolding stands_within
stands_by tree above dir = refl

kept : (c : After-place_at) → Keeps c.args.self.now c.as_slice.result.now
kept c = keeps c.self.inside c.args.self.now c.as_slice.result.now c.self.view_is c.self.invariant c.as_slice.ensures.value

up : (c : In-Some) → StandsIn c.args.self.now c.up.at c.in-Some.field-0.now.0 c.in-Some.field-0.now.1
up c = stands_in c.args.self.now c.as_slice.result.now (keeps c.self.inside c.args.self.now c.as_slice.result.now c.self.view_is c.self.invariant c.as_slice.ensures.value) c.up.at (root-no c.up.at c.is_root.ensures c.if-is_root.false) c.up.invariant.in_dir c.in-Some.field-0.now.0 c.in-Some.field-0.now.1 (sym c.in-Some.ensures)

pub returns-then-not-has_path : goal.returns-then-not-has_path
returns-then-not-has_path c = sym (within_nowhere c.args.self.now c.args.above (path_of c.args.self.now c.args.dir) (sym c.if-not-has_path.ensures)) ∙ stands_by c.args.self.now c.args.above c.args.dir

pub up-init : goal.up-init
up-init c = record { in_dir = c.requires.dir; alike = refl }

pub returns-then-is_root : goal.returns-then-is_root
returns-then-is_root c =
    sym (within_root c.args.self.now c.args.above (whole_kept c.self.inside c.args.self.now c.self.view_is c.self.invariant) (λ same. differ-yes c.up.at c.args.above c.ne.ensures c.up-test.true (root-yes c.up.at c.is_root.ensures c.if-is_root.true ∙ same)))
    ∙ ap (λ (n : ℕ). within (path_of c.args.self.now c.args.above) (path_of c.args.self.now n)) (sym (root-yes c.up.at c.is_root.ensures c.if-is_root.true))
    ∙ c.up.invariant.alike ∙ stands_by c.args.self.now c.args.above c.args.dir

pub returns-in-None : goal.returns-in-None
returns-in-None c =
    sym (within_none c.args.self.now c.args.above c.up.at (stands_nowhere c.args.self.now c.as_slice.result.now (kept (goal.at.returns-in-None c).After-place_at) c.up.at (root-no c.up.at c.is_root.ensures c.if-is_root.false) c.up.invariant.in_dir (sym c.in-None.ensures)))
    ∙ c.up.invariant.alike ∙ stands_by c.args.self.now c.args.above c.args.dir

pub up-smaller : goal.up-smaller
up-smaller c = up_higher c.args.self.now c.up.at c.in-Some.field-0.now.0 c.in-Some.field-0.now.1 (up (goal.at.up-smaller c).In-Some)

pub up-preserved : goal.up-preserved
up-preserved c =
    let s = up (goal.at.up-preserved c).In-Some in
    record {
      in_dir = s.in_dir;
      alike = within_up c.args.self.now c.args.above c.up.at c.in-Some.field-0.now.0 c.in-Some.field-0.now.1 (whole_kept c.self.inside c.args.self.now c.self.view_is c.self.invariant) c.requires.above (differ-yes c.up.at c.args.above c.ne.ensures c.up-test.true) s ∙ c.up.invariant.alike;
    }

pub returns : goal.returns
returns c =
    sym (within_there c.args.self.now c.args.above (path_of c.args.self.now c.up.at) (sym c.if-not-has_path.ensures) (ap (path_of c.args.self.now) (differ-no c.up.at c.args.above c.ne.ensures c.up-test.false)))
    ∙ c.up.invariant.alike ∙ stands_by c.args.self.now c.args.above c.args.dir
