-- Nodes that make a tree, and what they make after a change.
use Rattle.std.proofs.Common.{◌≡◌, ℕ, List, [], ◌∷◌, ◌++◌, cond, Bool, true, false, inl, inr, Option, Some, None, Result, Ok, Err, refl, sym, ap, subst, ◌∙◌}
use Rattle.std.specs.Prelude.{slice_get, is_ok, OnOk, OnErr}
use Rattle.std.specs.Option.{option_and_then}
use Rattle.std.specs.FinMap.{get, insert}
use Rattle.rk_base.specs.Text.{Text, join}
use Rattle.rk_base.specs.Canonical.{is_canonical}
use Rattle.rk_base.proofs.PathLemmas.{parent-join}
use Rattle.rk_tree.specs.declared.inode.Inode.{Inode}
use Rattle.rk_tree.specs.Entries.{is_dir}
use Rattle.rk_tree.specs.Hierarchy.{Hierarchy, Paths}
use Rattle.rk_tree.specs.Inodes.{nodes_of, hierarchy_of, under, IsPlace, HavePlaces, AreAttached}
use Rattle.rk_tree.specs.Shown.{Shown}
use Rattle.rk_tree.specs.Whole.{IsWhole}
use Rattle.rk_tree.proofs.BelowLemmas.{same_number}
use Rattle.rk_tree.proofs.ShownLemmas.{Leads, Steps, shown_are}
use Rattle.rk_tree.proofs.WholeLemmas.{stays, stands_cases}

clash : (b : Bool) → b ≡ true → b ≡ false → ⊥
clash b t f = cc

abbrev pub Kept : Paths → List Inode → Type 0
Kept paths nodes = IsWhole (hierarchy_of paths nodes) × HavePlaces paths nodes × AreAttached paths nodes

-- the nodes make this tree
pub record IsTree (nodes : List Inode) (tree : Hierarchy) : Type 0 where
  pub paths : Paths
  pub leads : Leads nodes paths
  pub kept : Kept paths nodes
  pub is : hierarchy_of paths nodes ≡ tree

pub tree_inside : (nodes : List Inode) (s : Shown nodes) (tree : Hierarchy) → Kept s.paths nodes → hierarchy_of s.paths nodes ≡ tree → IsTree nodes tree
tree_inside nodes s tree kept is = record { paths = s.paths; leads = s.leads; kept = kept; is = is }

pub shown_by : (nodes : List Inode) (tree : Hierarchy) → IsTree nodes tree → Shown nodes
shown_by nodes tree t = record { paths = t.paths; leads = t.leads }

pub kept_by : (nodes : List Inode) (tree : Hierarchy) → IsTree nodes tree → (s : Shown nodes) → Kept s.paths nodes
kept_by nodes tree t s = subst (λ (p : Paths). Kept p nodes) (sym (shown_are nodes s t.paths t.leads)) t.kept

pub view_by : (nodes : List Inode) (tree : Hierarchy) → IsTree nodes tree → (s : Shown nodes) → hierarchy_of s.paths nodes ≡ tree
view_by nodes tree t s = ap (λ (p : Paths). hierarchy_of p nodes) (shown_are nodes s t.paths t.leads) ∙ t.is

-- the same nodes make it
pub tree_same : (old new : List Inode) (tree : Hierarchy) → new ≡ old → IsTree old tree → IsTree new tree
tree_same old new tree same t = subst (λ (ns : List Inode). IsTree ns tree) (sym same) t

-- what is shown after a change that may fail
pub shown_either : {A E : Type 0} (r : Result A E) (old new after : List Inode) (tree then : Hierarchy) → OnOk r (new ≡ after) → OnErr r (new ≡ old) → IsTree old tree → OnOk r (IsTree after then) → Shown new
shown_either (Ok x) old new after tree then ok err t u = shown_by new then (tree_same after new then ok u)
shown_either (Err e) old new after tree then ok err t u = shown_by new tree (tree_same old new tree err t)

pub on_ok : {A E B C : Type 0} (r : Result A E) → (B → C) → OnOk r B → OnOk r C
on_ok (Ok x) f b = f b
on_ok (Err e) f b = b

-- or after a node was pushed, if there was room
pub pushed_either : {A E : Type 0} (r : Result A E) (old new : List Inode) (it known : Inode) (tree then : Hierarchy) → new ≡ cond (is_ok r) (old ++ it ∷ []) old → it ≡ known → IsTree old tree → IsTree (old ++ known ∷ []) then → Shown new
pushed_either (Ok x) old new it known tree then is same t u = shown_by new then (tree_same (old ++ known ∷ []) new then (is ∙ ap (λ (n : Inode). old ++ n ∷ []) same) u)
pushed_either (Err e) old new it known tree then is same t u = shown_by new tree (tree_same old new tree is t)

-- an error leaves the tree
pub err_view : {A E : Type 0} (r : Result A E) (nodes : List Inode) (tree : Hierarchy) → IsTree nodes tree → (s : Shown nodes) → OnErr r (hierarchy_of s.paths nodes ≡ tree)
err_view (Ok x) nodes tree t s = tt
err_view (Err e) nodes tree t s = view_by nodes tree t s

-- what is seen after a success
pub ok_view : {A E : Type 0} (r : Result A E) (new after : List Inode) (then : Hierarchy) → OnOk r (new ≡ after) → IsTree after then → (s : Shown new) → OnOk r (hierarchy_of s.paths new ≡ then)
ok_view (Ok x) new after then ok t s = view_by new then (tree_same after new then ok t) s
ok_view (Err e) new after then ok t s = tt

-- a tree that a call changes, or leaves as it was where it fails
abbrev pub either : {A E : Type 0} → Result A E → Hierarchy → Hierarchy → Hierarchy
either (Ok x) then tree = then
either (Err e) then tree = tree

pub tree_either : {A E : Type 0} (r : Result A E) (old new after : List Inode) (tree then : Hierarchy) → OnOk r (new ≡ after) → OnErr r (new ≡ old) → IsTree old tree → IsTree after then → IsTree new (either r then tree)
tree_either (Ok x) old new after tree then ok err t u = tree_same after new then ok u
tree_either (Err e) old new after tree then ok err t u = tree_same old new tree err t

pub kept_view : {A E : Type 0} (r : Result A E) (old new : List Inode) (tree : Hierarchy) → OnErr r (new ≡ old) → IsTree old tree → (s : Shown new) → OnErr r (hierarchy_of s.paths new ≡ tree)
kept_view (Ok x) old new tree err t s = tt
kept_view (Err e) old new tree err t s = view_by new tree (tree_same old new tree err t) s

-- a fact of what the nodes make is one of the tree
pub over : (nodes : List Inode) (tree : Hierarchy) (t : IsTree nodes tree) (Q : Hierarchy → Type 0) → Q (hierarchy_of t.paths nodes) → Q tree
over nodes tree t Q q = subst Q t.is q

-- Places and names.

-- only a directory has names
pub under_dir : (nodes : List Inode) (paths : Paths) → Kept paths nodes → Steps nodes paths → (n : ℕ) (name : Text) (m : ℕ) → under nodes n name ≡ Some m → is_dir (slice_get (nodes_of nodes) n) ≡ true
under_dir nodes paths kept step n name m is =
    let a = kept.2 n name m is in
    let c : is_canonical a.1 ≡ true = kept.0.canonical a.1 n a.2 in
    let there : get paths (join a.1 name) ≡ Some m = step a.1 name c a.0 ∙ ap (option_and_then (λ k. under nodes k name)) a.2 ∙ is in
    let p = kept.0.placed (join a.1 name) m there in
    ap (λ (k : ℕ). is_dir (slice_get (nodes_of nodes) k)) (same_number n p.up a.2 (ap (get paths) (sym (parent-join a.1 name c a.0)) ∙ p.stands)) ∙ p.in_dir

none_of : {A : Type 0} (o : Option A) → ((x : A) → o ≡ Some x → ⊥) → o ≡ None
none_of None h = refl
none_of (Some x) h = absurd (h x refl)

pub file_bare : (nodes : List Inode) (paths : Paths) → Kept paths nodes → Steps nodes paths → (n : ℕ) → is_dir (slice_get (nodes_of nodes) n) ≡ false → (name : Text) → under nodes n name ≡ None
file_bare nodes paths kept step n file name = none_of (under nodes n name) (λ m is. clash _ (under_dir nodes paths kept step n name m is) file)

pub path_stays : (paths : Paths) (path : Text) (n k : ℕ) → get paths path ≡ None → (q : Text) → get paths q ≡ Some k → get (insert paths path n) q ≡ Some k
path_stays paths path n k free q at = stays (record { paths = paths; nodes = [] }) path n q k free at

-- where a path is added for another node, a place stays
pub place_stays : (paths : Paths) (path : Text) (n k : ℕ) (place : Option (ℕ × Text)) → get paths path ≡ None → (k ≡ n → ⊥) → IsPlace paths k place → IsPlace (insert paths path n) k place
place_stays paths path n k None free apart h = λ q at. elim (stands_cases (record { paths = paths; nodes = [] }) path n q k at) [
  | inl here ↦ apart here.1
  | inr old ↦ h q old
]
place_stays paths path n k (Some place) free apart h = (h.0, h.1, path_stays paths path n place.0 free h.1 h.2, path_stays paths path n k free (join h.1 place.1) h.3)
