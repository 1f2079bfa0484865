-- Directories that stand somewhere in a whole tree, and how deep.
use Rattle.std.proofs.Common.{◌≡◌, ℕ, suc, ◌+◌, ◌≤◌, Bool, true, false, Option, Some, None, refl, sym, ◌∙◌, ap, subst, arith}
use Rattle.std.specs.Option.{option_and_then}
use Rattle.rk_base.specs.Text.{Text, root, is_root, parent, name_of, join, depth}
use Rattle.rk_base.specs.Canonical.{is_canonical}
use Rattle.rk_base.proofs.PathLemmas.{depth-join, path-is_cut}
use Rattle.rk_base.proofs.WithinLemmas.{is_the_root}
use Rattle.rk_tree.specs.Entries.{is_dir}
use Rattle.rk_tree.specs.Hierarchy.{Hierarchy, node, top, child, parent_of, path_of, number_at}
use Rattle.rk_tree.specs.Refusals.{is_there}
use Rattle.rk_tree.specs.Whole.{IsWhole}
use Rattle.rk_tree.proofs.BelowLemmas.{child_stands, child_named}
use Rattle.rk_tree.proofs.ClimbingLemmas.{depth_at, root_path}
use Rattle.rk_tree.proofs.HierarchyLemmas.{dir_path, path_stands}
use Rattle.rk_tree.proofs.TextLemmas.{parent-root}

-- a directory that stands somewhere
abbrev pub Standing : Hierarchy → ℕ → Type 0
Standing tree n = (is_dir (node tree n) ≡ true) × (is_there (path_of tree n) ≡ true)

-- no deeper than so many names
pub record IsNear (tree : Hierarchy) (passed n : ℕ) : Type 0 where
  pub stands : Standing tree n
  pub near : depth_at (path_of tree n) ≤ passed

some-there : {A : Type 0} (o : Option A) (x : A) → o ≡ Some x → is_there o ≡ true
some-there o x e = ap is_there e

pub near-more : (tree : Hierarchy) (passed n : ℕ) → IsNear tree passed n → IsNear tree (suc passed) n
near-more tree passed n h = record { stands = h.stands; near = let k : depth_at (path_of tree n) ≤ passed = h.near in omega arith }

pub near-top : (tree : Hierarchy) → IsWhole tree → (passed : ℕ) → IsNear tree passed top
unfolding depth
near-top tree whole passed = record {
  stands = (whole.root_dir, some-there (path_of tree top) root (root_path tree whole));
  near = subst (λ o. depth_at o ≤ passed) (sym (root_path tree whole)) (omega arith);
}

-- a directory under a name stands one name deeper
pub near-child : (tree : Hierarchy) → IsWhole tree → (passed n m : ℕ) (name : Text) → IsNear tree passed n → child tree n name ≡ Some m
    → is_dir (node tree m) ≡ true → IsNear tree (suc passed) m
near-child tree whole passed n m name h is d =
    let up = child_stands tree n name m is in
    let path_m : path_of tree m ≡ Some (join up.0 name) = dir_path tree (join up.0 name) m whole d up.2 in
    let one : depth_at (path_of tree m) ≡ depth up.0 + 1 = ap depth_at path_m ∙ depth-join up.0 name (child_named tree n name m is) in
    let two : depth up.0 ≤ passed = subst (λ o. depth_at o ≤ passed) up.1 h.near in
    record { stands = (d, some-there (path_of tree m) (join up.0 name) path_m); near = omega arith }

-- the directory that a path stands in is no deeper
parent-less : (path : Text) → is_canonical path ≡ true → depth (parent path) ≤ depth path
parent-less path c = go (is_root path) refl
  where
    at_root : path ≡ root → depth (parent path) ≤ depth path
    at_root e = let k : depth (parent path) ≡ depth path = ap (λ p. depth (parent p)) e ∙ ap depth parent-root ∙ sym (ap depth e) in omega arith

    go : (b : Bool) → is_root path ≡ b → depth (parent path) ≤ depth path
    go true e = at_root (is_the_root path e)
    go false e =
        let it = path-is_cut path c e in
        let k : depth path ≡ depth (parent path) + 1 = ap depth (sym it.whole) ∙ depth-join (parent path) (name_of path) it.name in
        omega arith

-- what a directory stands in is a directory that stands somewhere, and no deeper
pub near-parent : (tree : Hierarchy) → IsWhole tree → (passed at up : ℕ) → IsNear tree passed at → parent_of tree at ≡ Some up → IsNear tree passed up
unfolding parent_of
near-parent tree whole passed at up h = go (path_of tree at) refl
  where
    none : None ≡ Some up → ⊥
    none e = cc

    same : (o : Option ℕ) (a b : ℕ) → o ≡ Some a → o ≡ Some b → a ≡ b
    same o a b e f = cc

    go : (o : Option Text) → path_of tree at ≡ o → option_and_then (λ path. number_at tree (parent path)) o ≡ Some up → IsNear tree passed up
    go None e is = absurd (none is)
    go (Some path) e is =
        let p = whole.placed path at (path_stands tree at path e) in
        let d : is_dir (node tree up) ≡ true = ap (λ n. is_dir (node tree n)) (same (number_at tree (parent path)) up p.up is p.stands) ∙ p.in_dir in
        let path_up : path_of tree up ≡ Some (parent path) = dir_path tree (parent path) up whole d is in
        let one : depth (parent path) ≤ depth path = parent-less path (whole.canonical path at (path_stands tree at path e)) in
        let two : depth path ≤ passed = subst (λ o. depth_at o ≤ passed) e h.near in
        let three : depth_at (path_of tree up) ≡ depth (parent path) = ap depth_at path_up in
        record { stands = (d, some-there (path_of tree up) (parent path) path_up); near = omega arith }

-- what a directory stands in is a directory
pub parent-is : (tree : Hierarchy) → IsWhole tree → (at up : ℕ) → parent_of tree at ≡ Some up → is_dir (node tree up) ≡ true
unfolding parent_of
parent-is tree whole at up = go (path_of tree at) refl
  where
    none : None ≡ Some up → ⊥
    none e = cc

    same : (o : Option ℕ) (a b : ℕ) → o ≡ Some a → o ≡ Some b → a ≡ b
    same o a b e f = cc

    go : (o : Option Text) → path_of tree at ≡ o → option_and_then (λ path. number_at tree (parent path)) o ≡ Some up → is_dir (node tree up) ≡ true
    go None e is = absurd (none is)
    go (Some path) e is =
        let p = whole.placed path at (path_stands tree at path e) in
        ap (λ n. is_dir (node tree n)) (same (number_at tree (parent path)) up p.up is p.stands) ∙ p.in_dir
