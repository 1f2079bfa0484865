use Rattle.std.proofs.Common.{◌≡◌, ◌∙◌, ◌++◌, ◌∷◌, [], sym, ap}
use Rattle.rk_base.specs.Text.{Text}
use Rattle.rk_tree.specs.Hierarchy.{path_of}
use Rattle.rk_tree.proofs.HierarchyLemmas.{root-yes, root-no}
use Rattle.rk_tree.proofs.ClimbingLemmas.{Keeps, StandsIn, keeps, whole_kept, stands_in, stands_nowhere, up_higher, names_on, names_none, names_all, names_begun}
use Rattle.rk_tree.proofs.tree.Tree.names_to.Goals as goal
use Rattle.rk_tree.proofs.tree.Tree.names_to.Goals.{After-place_at, In-Some, In_ok-push-in-Some}

kept : (c : After-place_at) → Keeps c.args.self.now c.as_slice.result.now
kept c = keeps c.self.inside c.args.self.now c.as_slice.result.now c.self.view_is c.self.invariant c.as_slice.ensures.value

up : (c : In-Some) → StandsIn c.args.self.now c.up.at c.in-Some.field-0.now.0 c.in-Some.field-0.now.1
up c = stands_in c.args.self.now c.as_slice.result.now (keeps c.self.inside c.args.self.now c.as_slice.result.now c.self.view_is c.self.invariant c.as_slice.ensures.value) c.up.at (root-no c.up.at c.is_root.ensures c.up-test.true) c.up.invariant.in_dir c.in-Some.field-0.now.0 c.in-Some.field-0.now.1 (sym c.in-Some.ensures)

pub up-init : goal.up-init
up-init c = record { in_dir = c.requires; names = names_begun c.new-names.result.items (path_of c.args.self.now c.args.dir) c.new-names.ensures.items }

pub returns-in-None : goal.returns-in-None
returns-in-None c =
    let k = kept (goal.at.returns-in-None c).After-place_at in
    names_none c.up.names.items (stands_nowhere c.args.self.now c.as_slice.result.now k c.up.at (root-no c.up.at c.is_root.ensures c.up-test.true) c.up.invariant.in_dir (sym c.in-None.ensures)) c.up.invariant.names

pub up-smaller : goal.up-smaller
up-smaller c = up_higher c.args.self.now c.up.at c.in-Some.field-0.now.0 c.in-Some.field-0.now.1 (up (goal.at.up-smaller c).In-Some)

pushed : (c : In_ok-push-in-Some) → c.push.new.self.items ≡ c.up.names.items ++ c.in-Some.field-0.now.1 ∷ []
pushed c = c.in_ok-push-in-Some.ensures.items ∙ ap (λ (t : Text). c.up.names.items ++ t ∷ []) c.in_ok-copy-in-Some.ensures

pub up-preserved : goal.up-preserved
up-preserved c =
    let s = up (goal.at.up-preserved c).In-Some in
    record {
      in_dir = s.in_dir;
      names = names_on c.args.self.now c.up.at c.in-Some.field-0.now.0 c.in-Some.field-0.now.1 c.up.names.items c.push.new.self.items (path_of c.args.self.now c.args.dir) s (pushed (goal.at.up-preserved c).In_ok-push-in-Some) c.up.invariant.names;
    }

pub returns : goal.returns
returns c = names_all c.args.self.now c.up.at c.up.names.items (path_of c.args.self.now c.args.dir) (whole_kept c.self.inside c.args.self.now c.self.view_is c.self.invariant) (root-yes c.up.at c.is_root.ensures c.up-test.false) c.up.invariant.names
