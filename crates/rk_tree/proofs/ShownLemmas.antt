-- The paths to which the names of nodes lead, step by step.
use Rattle.std.proofs.Common.{◌≡◌, ℕ, List, Bool, true, false, if◌then◌else◌, Option, Some, None, refl, sym, ap, ◌∙◌}
use Rattle.std.specs.Option.{option_and_then}
use Rattle.std.specs.FinMap.{get}
use Rattle.rk_base.specs.Text.{Text, is_root, parent, name_of, join}
use Rattle.rk_base.specs.Canonical.{is_canonical, is_name}
use Rattle.rk_base.proofs.CanonicalLemmas.{join-canonical}
use Rattle.rk_base.proofs.PathLemmas.{parent-join, name_of-join, join-not_root, path-is_cut}
use Rattle.rk_base.proofs.WithinLemmas.{is_the_root}
use Rattle.rk_tree.specs.declared.inode.Inode.{Inode}
use Rattle.rk_tree.specs.Hierarchy.{Paths, top}
use Rattle.rk_tree.specs.Inodes.{under, hierarchy_of}
pub use Rattle.rk_tree.specs.Shown.{Leads}
use Rattle.rk_tree.specs.Shown.{Shown, same_paths}
use Rattle.rk_tree.specs.Whole.{IsWhole}

-- each name of a directory stands for what the nodes have under it
abbrev pub Steps : List Inode → Paths → Type 0
Steps nodes paths = (dir name : Text) → is_canonical dir ≡ true → is_name name ≡ true → get paths (join dir name) ≡ option_and_then (λ n. under nodes n name) (get paths dir)

abbrev one : List Inode → Paths → Text → Bool → Bool → Option ℕ
one nodes paths path r c = if r then Some top else if c then option_and_then (λ n. under nodes n (name_of path)) (get paths (parent path)) else None

pub steps : (nodes : List Inode) (paths : Paths) → Leads nodes paths → Steps nodes paths
steps nodes paths leads dir name c n =
    leads (join dir name)
    ∙ ap (λ (r : Bool). one nodes paths (join dir name) r (is_canonical (join dir name))) (join-not_root dir name n)
    ∙ ap (λ (b : Bool). one nodes paths (join dir name) false b) (join-canonical dir name c n)
    ∙ ap (λ (t : Text). option_and_then (λ k. under nodes k t) (get paths (parent (join dir name)))) (name_of-join dir name n)
    ∙ ap (λ (t : Text). option_and_then (λ k. under nodes k name) (get paths t)) (parent-join dir name c n)

none_of : {A : Type 0} (o : Option A) → ((x : A) → o ≡ Some x → ⊥) → o ≡ None
none_of None h = refl
none_of (Some x) h = absurd (h x refl)

clash : (b : Bool) → b ≡ true → b ≡ false → ⊥
clash b t f = cc

-- the paths of a whole tree, whose names step so, are those to which they lead
pub leads : (nodes : List Inode) (paths : Paths) → IsWhole (hierarchy_of paths nodes) → Steps nodes paths → Leads nodes paths
leads nodes paths whole step path = elim (is_root path) as (λ (r : Bool). is_root path ≡ r → get paths path ≡ one nodes paths path r (is_canonical path)) [
  | true ↦ λ r. ap (get paths) (is_the_root path r) ∙ whole.root_at
  | false ↦ λ r. (elim (is_canonical path) as (λ (c : Bool). is_canonical path ≡ c → get paths path ≡ one nodes paths path false c) [
    | true ↦ λ c. let it = path-is_cut path c r in ap (get paths) (sym it.whole) ∙ step (parent path) (name_of path) it.dir it.name
    | false ↦ λ c. none_of (get paths path) (λ n at. clash _ (whole.canonical path n at) c)
  ]) refl
] refl

-- the paths that are kept with the nodes are these
pub shown_are : (nodes : List Inode) (s : Shown nodes) (paths : Paths) → Leads nodes paths → s.paths ≡ paths
shown_are nodes s paths l = same_paths nodes s.paths paths s.leads l
