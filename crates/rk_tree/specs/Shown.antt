-- The paths to which the names of nodes lead. They are one map.
use Rattle.std.proofs.Common.{◌≡◌, ◌≤◌, ◌+◌, ℕ, zero, suc, List, Bool, true, false, if◌then◌else◌, Option, Some, None, refl, sym, ap, ◌∙◌, arith}
use Rattle.std.specs.Coded.{Coded-set, coded_option, coded_ℕ}
use Rattle.std.specs.Option.{option_and_then}
use Rattle.std.specs.FinMap.{get, same_map}
use Rattle.std.specs.Cmp.Lexicographic.{nat_list_cmp_total}
use mathlib.Core.HLevel.{Σ_prop_path, Π_prop}
use Rattle.rk_base.specs.Text.{Text, is_root, parent, name_of, depth}
use Rattle.rk_base.specs.Canonical.{is_canonical}
use Rattle.rk_base.proofs.PathLemmas.{path-is_cut, depth-join}
use Rattle.rk_base.proofs.WithinLemmas.{exact_texts}
use Rattle.rk_tree.specs.declared.inode.Inode.{Inode}
use Rattle.rk_tree.specs.Hierarchy.{Paths, top}
use Rattle.rk_tree.specs.Inodes.{under}

-- the number at a path, by the names of the directory that it stands in
abbrev pub led_to : List Inode → Paths → Text → Option ℕ
led_to nodes paths path =
    if is_root path then Some top else if is_canonical path then option_and_then (λ n. under nodes n (name_of path)) (get paths (parent path)) else None

-- at each path stands the number to which its names lead
abbrev pub Leads : List Inode → Paths → Type 0
Leads nodes paths = (path : Text) → get paths path ≡ led_to nodes paths path

pub record Shown (nodes : List Inode) : Type 0 where
  pub paths : Paths
  pub leads : Leads nodes paths

-- where the names of a path lead rests on its directory alone
alike : (nodes : List Inode) (s t : Paths) (path : Text) → (is_canonical path ≡ true → is_root path ≡ false → get s (parent path) ≡ get t (parent path)) → led_to nodes s path ≡ led_to nodes t path
alike nodes s t path h = (elim (is_root path) as (λ (r : Bool). is_root path ≡ r → (if r then Some top else if is_canonical path then option_and_then (λ n. under nodes n (name_of path)) (get s (parent path)) else None) ≡ (if r then Some top else if is_canonical path then option_and_then (λ n. under nodes n (name_of path)) (get t (parent path)) else None)) [
  | true ↦ λ r. refl
  | false ↦ λ r. (elim (is_canonical path) as (λ (c : Bool). is_canonical path ≡ c → (if c then option_and_then (λ n. under nodes n (name_of path)) (get s (parent path)) else None) ≡ (if c then option_and_then (λ n. under nodes n (name_of path)) (get t (parent path)) else None)) [
    | true ↦ λ c. ap (option_and_then (λ n. under nodes n (name_of path))) (h c r)
    | false ↦ λ c. refl
  ]) refl
]) refl

up_less : (path : Text) (k : ℕ) → is_canonical path ≡ true → is_root path ≡ false → depth path ≤ suc k → depth (parent path) ≤ k
up_less path k c r h =
    let it = path-is_cut path c r in
    let one : depth path ≡ depth (parent path) + 1 = ap depth (sym it.whole) ∙ depth-join (parent path) (name_of path) it.name in
    omega arith

up_none : (path : Text) → is_canonical path ≡ true → is_root path ≡ false → depth path ≤ zero → ⊥
up_none path c r h =
    let it = path-is_cut path c r in
    let one : depth path ≡ depth (parent path) + 1 = ap depth (sym it.whole) ∙ depth-join (parent path) (name_of path) it.name in
    omega arith

same_at : (nodes : List Inode) (s t : Paths) → Leads nodes s → Leads nodes t → (k : ℕ) (path : Text) → depth path ≤ k → get s path ≡ get t path
same_at nodes s t a b zero path h = a path ∙ alike nodes s t path (λ c r. absurd (up_none path c r h)) ∙ sym (b path)
same_at nodes s t a b (suc k) path h = a path ∙ alike nodes s t path (λ c r. same_at nodes s t a b k (parent path) (up_less path k c r h)) ∙ sym (b path)

pub same_paths : (nodes : List Inode) (s t : Paths) → Leads nodes s → Leads nodes t → s ≡ t
same_paths nodes s t a b = same_map nat_list_cmp_total exact_texts s t (λ path. same_at nodes s t a b (depth path) path (omega arith))

pub Shown-prop : (nodes : List Inode) → IsProp (Shown nodes)
Shown-prop nodes s t =
    let pairs : ◌≡◌ {A = (m : Paths) × Leads nodes m} (s.paths, s.leads) (t.paths, t.leads) =
    Σ_prop_path (λ m. Π_prop (λ path. Coded-set (coded_option coded_ℕ) _ _)) (same_paths nodes s.paths t.paths s.leads t.leads) in
    λ i. record { paths = (pairs i).0; leads = (pairs i).1 }
