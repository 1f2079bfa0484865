-- What nodes have under their names and with their places, by the paths that they show.
use Rattle.std.proofs.Common.{◌≡◌, ℕ, List, Bool, true, false, cond, Option, Some, None, refl, sym, ap, subst, ◌∙◌}
use Rattle.std.specs.Prelude.{slice_get}
use Rattle.std.specs.Option.{option_map, option_and_then}
use Rattle.std.specs.FinMap.{get}
use Rattle.rk_base.specs.Text.{Text, root, parent, join}
use Rattle.rk_base.specs.Canonical.{is_name}
use Rattle.rk_base.proofs.PathLemmas.{parent-join}
use Rattle.rk_tree.specs.declared.inode.Inode.{Inode}
use Rattle.rk_tree.specs.Entries.{is_dir}
use Rattle.rk_tree.specs.Hierarchy.{Hierarchy, Paths, top, node, number_at, path_of, child, parent_of}
use Rattle.rk_tree.specs.Inodes.{under, hierarchy_of, place_in, AreAttached, IsPlace, HavePlaces}
use Rattle.rk_tree.specs.Whole.{IsWhole}
use Rattle.rk_tree.proofs.BelowLemmas.{none_some, child_at, child_nowhere}
use Rattle.rk_tree.proofs.HierarchyLemmas.{dir_path, no_path, path_stands}
use Rattle.rk_tree.proofs.ShownLemmas.{Steps}
use Rattle.rk_tree.proofs.TextLemmas.{parent-root}

clash : (b : Bool) → b ≡ true → b ≡ false → ⊥
clash b t f = cc

pub none_of : {A : Type 0} (o : Option A) → ((x : A) → o ≡ Some x → ⊥) → o ≡ None
none_of None h = refl
none_of (Some x) h = absurd (h x refl)

unnamed : (tree : Hierarchy) (dir : ℕ) (name : Text) → is_name name ≡ false → child tree dir name ≡ None
unfolding child
unnamed tree dir name e = ap (λ (b : Bool). cond b (option_and_then (λ path. number_at tree (join path name)) (path_of tree dir)) None) e

parent_at : (tree : Hierarchy) (dir : ℕ) (path : Text) → path_of tree dir ≡ Some path → parent_of tree dir ≡ number_at tree (parent path)
unfolding parent_of
parent_at tree dir path at = ap (option_and_then (λ p. number_at tree (parent p))) at

parent_nowhere : (tree : Hierarchy) (dir : ℕ) → path_of tree dir ≡ None → parent_of tree dir ≡ None
unfolding parent_of
parent_nowhere tree dir at = ap (option_and_then (λ p. number_at tree (parent p))) at

-- the root stands in itself
pub parent-root_is : (tree : Hierarchy) (dir : ℕ) → IsWhole tree → dir ≡ top → Some top ≡ parent_of tree dir
parent-root_is tree dir whole is =
    sym (ap (parent_of tree) is ∙ parent_at tree top root (dir_path tree root top whole whole.root_dir whole.root_at) ∙ ap (number_at tree) parent-root ∙ whole.root_at)

module _ (paths : Paths) (nodes : List Inode) (whole : IsWhole (hierarchy_of paths nodes)) where
  -- a directory that stands nowhere has no names
  pub under_nowhere : AreAttached paths nodes → (dir : ℕ) → is_dir (node (hierarchy_of paths nodes) dir) ≡ true → path_of (hierarchy_of paths nodes) dir ≡ None → (name : Text) → under nodes dir name ≡ None
  under_nowhere attached dir d nowhere name = none_of (under nodes dir name) (λ m is.
      let at = attached dir name m is in
      none_some nowhere (dir_path (hierarchy_of paths nodes) at.1 dir whole d at.2))

  pub child-under : Steps nodes paths → AreAttached paths nodes → (dir : ℕ) (name : Text) → is_dir (node (hierarchy_of paths nodes) dir) ≡ true → under nodes dir name ≡ child (hierarchy_of paths nodes) dir name
  child-under step attached dir name d = (elim (path_of (hierarchy_of paths nodes) dir) as (λ (o : Option Text). path_of (hierarchy_of paths nodes) dir ≡ o → under nodes dir name ≡ child (hierarchy_of paths nodes) dir name) [
    | None ↦ λ nowhere. under_nowhere attached dir d nowhere name ∙ sym (child_nowhere (hierarchy_of paths nodes) dir name nowhere)
    | Some path ↦ λ at. (elim (is_name name) as (λ (b : Bool). is_name name ≡ b → under nodes dir name ≡ child (hierarchy_of paths nodes) dir name) [
      | true ↦ λ e.
          let stands = path_stands (hierarchy_of paths nodes) dir path at in
          sym (child_at (hierarchy_of paths nodes) dir path name e at ∙ step path name (whole.canonical path dir stands) e ∙ ap (option_and_then (λ n. under nodes n name)) stands)
      | false ↦ λ e. none_of (under nodes dir name) (λ m is. clash _ (attached dir name m is).0 e) ∙ sym (unnamed (hierarchy_of paths nodes) dir name e)
    ]) refl
  ]) refl

  parent-is : (dir : ℕ) → is_dir (node (hierarchy_of paths nodes) dir) ≡ true → (place : Option (ℕ × Text)) → IsPlace paths dir place → option_map (λ p. p.0) place ≡ parent_of (hierarchy_of paths nodes) dir
  parent-is dir d None nowhere = sym (parent_nowhere (hierarchy_of paths nodes) dir (no_path (hierarchy_of paths nodes) dir nowhere))
  parent-is dir d (Some place) is =
      sym (parent_at (hierarchy_of paths nodes) dir (join is.1 place.1) (dir_path (hierarchy_of paths nodes) (join is.1 place.1) dir whole d is.3)
      ∙ ap (get paths) (parent-join is.1 place.1 (whole.canonical is.1 place.0 is.2) is.0)
      ∙ is.2)

  pub parent-by : HavePlaces paths nodes → (dir : ℕ) → (dir ≡ top → ⊥) → is_dir (node (hierarchy_of paths nodes) dir) ≡ true → (place : Option (ℕ × Text)) → place ≡ place_in (slice_get nodes dir) → option_map (λ p. p.0) place ≡ parent_of (hierarchy_of paths nodes) dir
  parent-by have dir below d place is = parent-is dir d place (subst (IsPlace paths dir) (sym is) (have dir below d))
