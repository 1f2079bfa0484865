-- The root alone.
use Rattle.std.proofs.Common.{◌≡◌, ◌≤◌, ℕ, zero, suc, List, [], ◌∷◌, false, true, Option, Some, None, inl, inr, refl, sym, ap, subst, ◌∙◌}
use Rattle.std.specs.Option.{option_and_then}
use Rattle.std.specs.FinMap.{get, get-empty}
use Rattle.rk_base.specs.Text.{Text, text_cmp, root, is_root, join}
use Rattle.rk_base.proofs.PathLemmas.{join-not_root}
use Rattle.rk_tree.specs.Node.{Dir}
use Rattle.rk_tree.specs.declared.inode.Inode.{Inode}
use Rattle.rk_tree.specs.Inodes.{under, hierarchy_of, lost, AreAttached, HavePlaces}
use Rattle.rk_tree.specs.Hierarchy.{Paths}
use Rattle.rk_tree.specs.Shown.{Shown, same_paths}
use Rattle.rk_tree.specs.Whole.{IsWhole}
use Rattle.rk_tree.proofs.BelowLemmas.{none_some}
use Rattle.rk_tree.proofs.RowsLemmas.{insert_cases}
use Rattle.rk_tree.proofs.ShownLemmas.{Leads, Steps, leads}
use Rattle.rk_tree.proofs.WholeLemmas.{none, root_row, root-whole}

-- a node without names
abbrev pub root_node : ℕ → List Inode
root_node mode = lost (Dir mode) ∷ []

unnamed : (mode n : ℕ) (name : Text) → under (root_node mode) n name ≡ None
unnamed mode zero name = get-empty text_cmp name
unnamed mode (suc n) name = get-empty text_cmp name

root-steps : (mode : ℕ) → Steps (root_node mode) root_row
root-steps mode dir name c named = below ∙ sym (nothing (get root_row dir)) where
  below : get root_row (join dir name) ≡ None
  below = elim (insert_cases none root 0 (join dir name)) [
    | inl here ↦ absurd (clash (sym (join-not_root dir name named) ∙ ap is_root here.0))
    | inr other ↦ other.1 ∙ get-empty text_cmp (join dir name)
  ] where
    clash : false ≡ true → ⊥
    clash e = cc

  nothing : (o : Option ℕ) → option_and_then (λ n. under (root_node mode) n name) o ≡ None
  nothing None = refl
  nothing (Some n) = unnamed mode n name

root-attached : (mode : ℕ) → AreAttached root_row (root_node mode)
root-attached mode n name m is = absurd (none_some (unnamed mode n name) is)

root-places : (mode : ℕ) → HavePlaces root_row (root_node mode)
root-places mode zero below d = absurd (below refl)
root-places mode (suc n) below d = cc

-- What is known of the nodes of a new tree, and of the paths to which they lead.

pub new-shown : (nodes : List Inode) (mode : ℕ) → mode ≤ 511 → nodes ≡ root_node mode → Shown nodes
new-shown nodes mode fits is = subst Shown (sym is) (record { paths = root_row; leads = leads (root_node mode) root_row (root-whole mode fits) (root-steps mode) })

module _ (nodes : List Inode) (paths : Paths) (mode : ℕ) (lead : Leads nodes paths) (fits : mode ≤ 511) (is : nodes ≡ root_node mode) where
  paths_are : paths ≡ root_row
  paths_are = same_paths nodes paths root_row lead (subst (λ (ns : List Inode). Leads ns root_row) (sym is) (leads (root_node mode) root_row (root-whole mode fits) (root-steps mode)))

  pub new-held : hierarchy_of paths nodes ≡ record { paths = root_row; nodes = Dir mode ∷ [] }
  new-held = ap (λ (p : Paths). hierarchy_of p nodes) paths_are ∙ ap (λ (ns : List Inode). hierarchy_of root_row ns) is

  pub new-kept : IsWhole (hierarchy_of paths nodes) × HavePlaces paths nodes × AreAttached paths nodes
  new-kept =
      subst (λ (p : Paths). IsWhole (hierarchy_of p nodes) × HavePlaces p nodes × AreAttached p nodes) (sym paths_are)
      (subst (λ (ns : List Inode). IsWhole (hierarchy_of root_row ns) × HavePlaces root_row ns × AreAttached root_row ns) (sym is) (root-whole mode fits, root-places mode, root-attached mode))
