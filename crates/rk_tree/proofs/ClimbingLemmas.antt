-- From a directory up to the root.
use Rattle.std.proofs.Common.{Bor, ◌≡◌, ◌+◌, ◌++◌, ◌<◌, ℕ, List, [], ◌∷◌, Bool, true, false, inl, inr, Option, Some, None, refl, sym, ap, subst, ◌∙◌, append_assoc, arith}
use Rattle.std.specs.Prelude.{slice_get}
use Rattle.std.specs.Option.{option_map, option_copied, is_some}
use Rattle.std.specs.FinMap.{get}
use Rattle.rk_base.specs.Text.{Text, root, is_root, or_root, stem, join, depth, is_within}
use Rattle.rk_base.specs.Canonical.{is_name, is_canonical}
use Rattle.rk_base.proofs.PathLemmas.{depth-join, join-not_root, parent-join}
use Rattle.rk_base.proofs.WithinLemmas.{stem-back, stem-below, within-down, within-itself, within-join, within-not_root}
use Rattle.rk_tree.specs.declared.inode.Inode.{Inode}
use Rattle.rk_tree.specs.declared.tree.Tree.TheInside.{Inside}
use Rattle.rk_tree.specs.contracts.tree.Tree.{the_view, the_invariant}
use Rattle.rk_tree.specs.Entries.{is_dir}
use Rattle.rk_tree.specs.Hierarchy.{Hierarchy, Paths, top, node, number_at, path_of, within}
use Rattle.rk_tree.specs.Names.{path_by}
use Rattle.rk_tree.specs.Inodes.{hierarchy_of, place_in, IsPlace, HavePlaces}
use Rattle.rk_tree.specs.Refusals.{is_there}
use Rattle.rk_tree.specs.Whole.{IsWhole}
use Rattle.rk_tree.proofs.BelowLemmas.{same_number, not_at_root}
use Rattle.rk_tree.proofs.HierarchyLemmas.{dir_path, no_path, path_stands}

-- a directory stands in another one, under its name
pub record StandsIn (tree : Hierarchy) (n up : ℕ) (name : Text) : Type 0 where
  pub path : Text
  pub named : is_name name ≡ true
  pub in_dir : is_dir (node tree up) ≡ true
  pub up_at : path_of tree up ≡ Some path
  pub at : path_of tree n ≡ Some (join path name)

module _ (paths : Paths) (nodes : List Inode) (whole : IsWhole (hierarchy_of paths nodes)) (places : HavePlaces paths nodes) (n : ℕ) (below : n ≡ top → ⊥) (d : is_dir (node (hierarchy_of paths nodes) n) ≡ true) where
  -- where its place is
  pub placed_in : (up : ℕ) (name : Text) → place_in (slice_get nodes n) ≡ Some (up, name) → StandsIn (hierarchy_of paths nodes) n up name
  placed_in up name is =
      let at = subst (IsPlace paths n) is (places n below d) in
      let canon = whole.canonical at.1 up at.2 in
      let p = whole.placed (join at.1 name) n at.3 in
      let same : up ≡ p.up = same_number {o = get paths at.1} up p.up at.2 (ap (get paths) (sym (parent-join at.1 name canon at.0)) ∙ p.stands) in
      let in_dir : is_dir (node (hierarchy_of paths nodes) up) ≡ true = ap (λ (k : ℕ). is_dir (node (hierarchy_of paths nodes) k)) same ∙ p.in_dir in
      record {
        path = at.1;
        named = at.0;
        in_dir = in_dir;
        up_at = dir_path (hierarchy_of paths nodes) at.1 up whole in_dir at.2;
        at = dir_path (hierarchy_of paths nodes) (join at.1 name) n whole d at.3;
      }

  -- one without a place stands nowhere
  pub placed_nowhere : place_in (slice_get nodes n) ≡ None → path_of (hierarchy_of paths nodes) n ≡ None
  placed_nowhere is = no_path (hierarchy_of paths nodes) n (subst (IsPlace paths n) is (places n below d))

  pub there_by_place : is_there (place_in (slice_get nodes n)) ≡ is_there (path_of (hierarchy_of paths nodes) n)
  there_by_place = by (place_in (slice_get nodes n)) refl where
    by : (o : Option (ℕ × Text)) → place_in (slice_get nodes n) ≡ o → is_there o ≡ is_there (path_of (hierarchy_of paths nodes) n)
    by None is = sym (ap is_there (placed_nowhere is))
    by (Some (up, name)) is = sym (ap is_there (placed_in up name is).at)

-- a tree with the nodes that it keeps
pub record Keeps (tree : Hierarchy) (nodes : List Inode) : Type 0 where
  pub paths : Paths
  pub shows : hierarchy_of paths nodes ≡ tree
  pub whole : IsWhole (hierarchy_of paths nodes)
  pub places : HavePlaces paths nodes

pub keeps : (t : Inside) (tree : Hierarchy) (nodes : List Inode) → the_view t ≡ tree → the_invariant t → nodes ≡ t.nodes.items → Keeps tree nodes
keeps t tree nodes is inv same = subst (Keeps tree) (sym same) (record { paths = t.shown.paths; shows = is; whole = inv.0; places = inv.1 })

pub whole_kept : (t : Inside) (tree : Hierarchy) → the_view t ≡ tree → the_invariant t → IsWhole tree
whole_kept t tree is inv = subst IsWhole is inv.0

module _ (tree : Hierarchy) (nodes : List Inode) (k : Keeps tree nodes) where
  module _ (n : ℕ) (below : n ≡ top → ⊥) (d : is_dir (node tree n) ≡ true) where
    by_nodes : is_dir (node (hierarchy_of k.paths nodes) n) ≡ true
    by_nodes = ap (λ (h : Hierarchy). is_dir (node h n)) k.shows ∙ d

    pub stands_in : (up : ℕ) (name : Text) → place_in (slice_get nodes n) ≡ Some (up, name) → StandsIn tree n up name
    stands_in up name is = subst (λ (h : Hierarchy). StandsIn h n up name) k.shows (placed_in k.paths nodes k.whole k.places n below by_nodes up name is)

    pub stands_nowhere : place_in (slice_get nodes n) ≡ None → path_of tree n ≡ None
    stands_nowhere is = sym (ap (λ (h : Hierarchy). path_of h n) k.shows) ∙ placed_nowhere k.paths nodes k.whole k.places n below by_nodes is

    pub is_there_by : is_there (place_in (slice_get nodes n)) ≡ is_there (path_of tree n)
    is_there_by = there_by_place k.paths nodes k.whole k.places n below by_nodes ∙ ap (λ (h : Hierarchy). is_there (path_of h n)) k.shows

pub root_path : (tree : Hierarchy) → IsWhole tree → path_of tree top ≡ Some root
root_path tree whole = dir_path tree root top whole whole.root_dir whole.root_at

-- how deep a directory stands
abbrev pub depth_at : Option Text → ℕ
depth_at None = 0
depth_at (Some path) = depth path

-- it stands deeper than the one that it stands in
pub up_higher : (tree : Hierarchy) (n up : ℕ) (name : Text) → StandsIn tree n up name → depth_at (path_of tree up) < depth_at (path_of tree n)
up_higher tree n up name s =
    let one : depth_at (path_of tree n) ≡ depth s.path + 1 = ap depth_at s.at ∙ depth-join s.path name s.named in
    let two : depth_at (path_of tree up) ≡ depth s.path = ap depth_at s.up_at in
    omega arith

-- A text, after which a name is put.

after_slash : (text name : Text) → or_root (text ++ 47 ∷ name) ≡ text ++ 47 ∷ name
after_slash [] name = refl
after_slash (b ∷ bs) name = refl

-- a slash is put after it, and then the name
with_name : (text slashed more name : Text) → slashed ≡ text ++ 47 ∷ [] → more ≡ slashed ++ name → more ≡ text ++ 47 ∷ name
with_name text slashed more name one two = two ∙ ap (λ (t : Text). t ++ name) one ∙ append_assoc text (47 ∷ []) name

pub text_on : (text slashed more name : Text) → stem (or_root text) ≡ text → slashed ≡ text ++ 47 ∷ [] → more ≡ slashed ++ name → or_root more ≡ join (or_root text) name
unfolding join
text_on text slashed more name is one two = ap or_root (with_name text slashed more name one two) ∙ after_slash text name ∙ ap (λ (t : Text). t ++ 47 ∷ name) (sym is)

pub stem_on : (text slashed more name : Text) → stem (or_root text) ≡ text → slashed ≡ text ++ 47 ∷ [] → more ≡ slashed ++ name → is_name name ≡ true → stem (or_root more) ≡ more
stem_on text slashed more name is one two named =
    let joined = text_on text slashed more name is one two in
    let whole = with_name text slashed more name one two in
    ap stem joined ∙ stem-below (join (or_root text) name) (join-not_root (or_root text) name named) ∙ sym joined ∙ ap or_root whole ∙ after_slash text name ∙ sym whole

-- The names of a path.

pub joined-last : (dir : Text) (front : List Text) (name : Text) → path_by dir (front ++ name ∷ []) ≡ path_by (join dir name) front
joined-last dir [] name = refl
joined-last dir (x ∷ front) name = ap (λ (t : Text). join t x) (joined-last dir front name)

pub names_begun : (names : List Text) (o : Option Text) → names ≡ [] → option_map (λ p. path_by p names) o ≡ o
names_begun names o none = ap (λ (ns : List Text). option_map (λ p. path_by p ns) o) none ∙ same o where
  same : (o : Option Text) → option_map (λ p. path_by p []) o ≡ o
  same None = refl
  same (Some path) = refl

-- a name more on the way up
pub names_on : (tree : Hierarchy) (n up : ℕ) (name : Text) (names more : List Text) (o : Option Text) → StandsIn tree n up name → more ≡ names ++ name ∷ [] → option_map (λ p. path_by p names) (path_of tree n) ≡ o → option_map (λ p. path_by p more) (path_of tree up) ≡ o
names_on tree n up name names more o s pushed so_far =
    ap (option_map (λ p. path_by p more)) s.up_at ∙ ap (λ (ns : List Text). Some (path_by s.path ns)) pushed ∙ ap (λ (t : Text). Some t) (joined-last s.path names name) ∙ sym (ap (option_map (λ p. path_by p names)) s.at) ∙ so_far

pub names_none : {at o : Option Text} (names : List Text) → at ≡ None → option_map (λ p. path_by p names) at ≡ o → None ≡ o
names_none names none so_far = sym (ap (option_map (λ p. path_by p names)) none) ∙ so_far

pub names_all : (tree : Hierarchy) (n : ℕ) (names : List Text) (o : Option Text) → IsWhole tree → n ≡ top → option_map (λ p. path_by p names) (path_of tree n) ≡ o → Some (path_by root names) ≡ o
names_all tree n names o whole is so_far = sym (ap (option_map (λ p. path_by p names)) (ap (path_of tree) is ∙ root_path tree whole)) ∙ so_far

-- Within.

pub within_up : (tree : Hierarchy) (above n up : ℕ) (name : Text) → IsWhole tree → is_dir (node tree above) ≡ true → (n ≡ above → ⊥) → StandsIn tree n up name → within (path_of tree above) (path_of tree up) ≡ within (path_of tree above) (path_of tree n)
within_up tree above n up name whole d apart s = ap (within (path_of tree above)) s.up_at ∙ by (path_of tree above) refl ∙ sym (ap (within (path_of tree above)) s.at) where
  up_stands : number_at tree s.path ≡ Some up
  up_stands = path_stands tree up s.path s.up_at

  canon : is_canonical s.path ≡ true
  canon = whole.canonical s.path up up_stands

  same_bool : (a b : Bool) → (a ≡ true → b ≡ true) → (b ≡ true → a ≡ true) → a ≡ b
  same_bool true b f g = sym (f refl)
  same_bool false true f g = g refl
  same_bool false false f g = refl

  by : (o : Option Text) → path_of tree above ≡ o → within o (Some s.path) ≡ within o (Some (join s.path name))
  by None at = refl
  by (Some path) at = same_bool (is_within path s.path) (is_within path (join s.path name)) (within-down path s.path name) (λ h.
      elim (within-join path s.path name (stem-back path (whole.canonical path above (path_stands tree above path at))) canon s.named h) [
        | inl same ↦ absurd (apart (same_number {o = number_at tree (join s.path name)} n above (path_stands tree n (join s.path name) s.at) (ap (number_at tree) same ∙ path_stands tree above path at)))
        | inr within ↦ within
      ])

pub within_there : (tree : Hierarchy) (above : ℕ) (o : Option Text) → is_there (path_of tree above) ≡ true → o ≡ path_of tree above → within (path_of tree above) o ≡ true
within_there tree above o there same = ap (within (path_of tree above)) same ∙ by (path_of tree above) there where
  by : (o : Option Text) → is_there o ≡ true → within o o ≡ true
  by None h = cc
  by (Some path) h = within-itself path

pub within_nowhere : (tree : Hierarchy) (above : ℕ) (o : Option Text) → is_there (path_of tree above) ≡ false → within (path_of tree above) o ≡ false
within_nowhere tree above o there = by (path_of tree above) there where
  by : (p : Option Text) → is_there p ≡ false → within p o ≡ false
  by None h = refl
  by (Some path) h = cc

pub within_none : (tree : Hierarchy) (above n : ℕ) → path_of tree n ≡ None → within (path_of tree above) (path_of tree n) ≡ false
within_none tree above n at = ap (within (path_of tree above)) at ∙ by (path_of tree above) where
  by : (p : Option Text) → within p None ≡ false
  by None = refl
  by (Some path) = refl

-- the root is within itself alone
pub within_root : (tree : Hierarchy) (above : ℕ) → IsWhole tree → (top ≡ above → ⊥) → within (path_of tree above) (path_of tree top) ≡ false
within_root tree above whole apart = ap (within (path_of tree above)) (root_path tree whole) ∙ by (path_of tree above) refl where
  not_within : (path : Text) (b : Bool) → is_canonical path ≡ true → is_root path ≡ false → is_within path root ≡ b → b ≡ false
  not_within path false c r e = refl
  not_within path true c r e = clash (within-not_root path root c r e) where
    clash : is_root root ≡ false → true ≡ false
    clash h = h

  by : (o : Option Text) → path_of tree above ≡ o → within o (Some root) ≡ false
  by None at = refl
  by (Some path) at =
      let stands = path_stands tree above path at in
      not_within path (is_within path root) (whole.canonical path above stands) (not_at_root tree path above whole stands (λ same. apart (sym same))) refl

-- Whether there is a place, read behind a reference.

pub there_copied : (o : Option (Bor (ℕ × Text))) → is_there (option_copied o) ≡ is_some o
there_copied None = refl
there_copied (Some place) = refl
