-- What stands below a path.
use Rattle.std.proofs.Common.{◌≡◌, ℕ, zero, suc, List, [], ◌∷◌, Bool, true, false, cond, ◌⊎◌, inl, inr, Option, Some, None, refl, sym, ap, ◌∙◌}
use Rattle.std.specs.Prelude.{slice_get, IfSome}
use Rattle.std.specs.Option.{option_and_then}
use Rattle.std.specs.List.{cons_option, filter_map}
use Rattle.std.specs.FinMap.{entries, entries_sorted, find, get-entries}
use Rattle.rk_base.specs.Text.{Text, text_cmp, is_root, parent, name_of, join, is_within}
use Rattle.rk_base.specs.Canonical.{is_name, is_canonical}
use Rattle.rk_base.proofs.PathLemmas.{path-is_cut, parent-join, is_in-join}
use Rattle.rk_base.proofs.WithinLemmas.{by_steps, within-down, within-itself, is_the_root}
use Rattle.rk_tree.specs.Entries.{is_dir}
use Rattle.rk_tree.specs.Moves.{IsBare}
use Rattle.rk_tree.specs.Hierarchy.{Hierarchy, top, node, number_at, path_of, child, names, names_at, name_in}
use Rattle.rk_tree.specs.Refusals.{is_there}
use Rattle.rk_tree.specs.Whole.{IsWhole}
use Rattle.rk_tree.proofs.HierarchyLemmas.{dir_path, path_stands}
use Rattle.rk_tree.proofs.RowsLemmas.{place_found}
use Rattle.rk_tree.proofs.TextLemmas.{told_apart, parent-root}

clash : (b : Bool) → b ≡ true → b ≡ false → ⊥
clash b t f = cc

pub none_some : {A : Type 0} {x : A} {o : Option A} → o ≡ None → o ≡ Some x → ⊥
none_some n s = cc

pub same_number : {o : Option ℕ} (a b : ℕ) → o ≡ Some a → o ≡ Some b → a ≡ b
same_number a b p q = cc

-- what stands is among the rows
pub find_place : (rows : List (Text × ℕ)) (path : Text) (n : ℕ) → find text_cmp path rows ≡ Some n → (i : ℕ) × (slice_get rows i ≡ Some (path, n))
find_place [] path n at = absurd (none_some refl at)
find_place (row ∷ rows) path n at = elim (told_apart path row.0) [
  | inl same ↦ (0, ap (λ (t : Text). Some (t, row.1)) (sym same.0) ∙ ap (λ (k : ℕ). Some (path, k)) (same_number {o = Some n} row.1 n (sym at ∙ ap (λ (b : Bool). cond b (Some row.1) (find text_cmp path rows)) same.1) refl))
  | inr apart ↦
      let later = find_place rows path n (sym (ap (λ (b : Bool). cond b (Some row.1) (find text_cmp path rows)) apart.1) ∙ at) in
      (suc later.0, later.1)
]

pub row_of : (tree : Hierarchy) (path : Text) (n : ℕ) → number_at tree path ≡ Some n → (i : ℕ) × (slice_get (entries tree.paths) i ≡ Some (path, n))
row_of tree path n at = find_place (entries tree.paths) path n (sym (get-entries tree.paths path) ∙ at)

same_row : {o : Option (Text × ℕ)} (a b : Text × ℕ) → o ≡ Some a → o ≡ Some b → a ≡ b
same_row a b p q = cc

filled : (o : Option Text) (x : Text) (xs : List Text) → o ≡ Some x → cons_option o xs ≡ [] → ⊥
filled None x xs e n = cc
filled (Some y) x xs e n = cc

unfilled : (o : Option Text) (xs : List Text) → cons_option o xs ≡ [] → xs ≡ []
unfilled None xs n = n
unfilled (Some y) xs n = cc

-- what is taken is there
taken_there : (f : Text × ℕ → Option Text) (rows : List (Text × ℕ)) (i : ℕ) (row : Text × ℕ) (x : Text) → slice_get rows i ≡ Some row → f row ≡ Some x → filter_map f rows ≡ [] → ⊥
taken_there f [] i row x at is none = none_some refl at
taken_there f (r ∷ rows) zero row x at is none = filled (f r) x (filter_map f rows) (ap f (same_row r row refl at) ∙ is) none
taken_there f (r ∷ rows) (suc i) row x at is none = taken_there f rows i row x at is (unfilled (f r) (filter_map f rows) none)

pub names-at : (tree : Hierarchy) (path : Text) (n : ℕ) → IsWhole tree → number_at tree path ≡ Some n → is_dir (node tree n) ≡ true → names tree n ≡ filter_map (name_in path) (entries tree.paths)
unfolding names
names-at tree path n whole at d = ap (names_at tree.paths) (dir_path tree path n whole d at)

-- a name that stands for something is among the names
pub named_there : (tree : Hierarchy) (path name : Text) (n k : ℕ) → IsWhole tree → number_at tree path ≡ Some n → is_dir (node tree n) ≡ true → is_name name ≡ true → number_at tree (join path name) ≡ Some k → names tree n ≡ [] → ⊥
named_there tree path name n k whole at d named there none =
    let row = row_of tree (join path name) k there in
    taken_there (name_in path) (entries tree.paths) row.0 (join path name, k) (name_of (join path name)) row.1
    (ap (λ (b : Bool). cond b (Some (name_of (join path name))) None) (is_in-join path name (whole.canonical path n at) named)) (sym (names-at tree path n whole at d) ∙ none)

module _ (tree : Hierarchy) (whole : IsWhole tree) (above : Text) (c : is_canonical above ≡ true) (r : is_root above ≡ false) where
  abbrev StandsOn : Text → Type 0
  StandsOn path = (n : ℕ) → number_at tree path ≡ Some n → (m : ℕ) × (number_at tree above ≡ Some m) × ((path ≡ above) ⊎ (is_dir (node tree m) ≡ true))

  -- what stands within a path stands in a directory there
  pub stands_on : (path : Text) → is_canonical path ≡ true → is_within above path ≡ true → StandsOn path
  stands_on = by_steps StandsOn above c r (λ n at. (n, at, inl refl)) (λ dir name d named h is n at.
      let p = whole.placed (join dir name) n at in
      let up_at : number_at tree dir ≡ Some p.up = ap (number_at tree) (sym (parent-join dir name d named)) ∙ p.stands in
      let m = is p.up up_at in (
        m.0,
        m.1,
        inr (elim m.2 [
          | inl same ↦ ap (λ (k : ℕ). is_dir (node tree k)) (same_number m.0 p.up m.1 (ap (number_at tree) (sym same) ∙ up_at)) ∙ p.in_dir
          | inr dir ↦ dir
        ]),
      ))

  pub bare_absent : number_at tree above ≡ None → IsBare tree above
  bare_absent none q h apart = elim (number_at tree q) as (λ (o : Option ℕ). number_at tree q ≡ o → o ≡ None) [
    | None ↦ λ at. refl
    | Some n ↦ λ at. let m = stands_on q (whole.canonical q n at) h n at in absurd (none_some none m.1)
  ] refl

  pub bare_file : (m : ℕ) → number_at tree above ≡ Some m → is_dir (node tree m) ≡ false → IsBare tree above
  bare_file m there file q h apart = elim (number_at tree q) as (λ (o : Option ℕ). number_at tree q ≡ o → o ≡ None) [
    | None ↦ λ at. refl
    | Some n ↦ λ at. let k = stands_on q (whole.canonical q n at) h n at in elim k.2 [
      | inl same ↦ absurd (apart same)
      | inr dir ↦ absurd (clash _ dir (ap (λ (j : ℕ). is_dir (node tree j)) (same_number k.0 m k.1 there) ∙ file))
    ]
  ] refl

  pub bare_dir : (m : ℕ) → number_at tree above ≡ Some m → is_dir (node tree m) ≡ true → names tree m ≡ [] → IsBare tree above
  bare_dir m there d none q h apart = elim (number_at tree q) as (λ (o : Option ℕ). number_at tree q ≡ o → o ≡ None) [
    | None ↦ λ at. refl
    | Some n ↦ λ at. elim (by_steps (λ path. (path ≡ above) ⊎ (number_at tree path ≡ None)) above c r (inl refl) (λ dir name e named w is. inr (empty dir name e named is)) q (whole.canonical q n at) h) [
      | inl same ↦ absurd (apart same)
      | inr nothing ↦ absurd (none_some nothing at)
    ]
  ] refl where
    empty : (dir name : Text) → is_canonical dir ≡ true → is_name name ≡ true → (dir ≡ above) ⊎ (number_at tree dir ≡ None) → number_at tree (join dir name) ≡ None
    empty dir name e named is = elim (number_at tree (join dir name)) as (λ (o : Option ℕ). number_at tree (join dir name) ≡ o → o ≡ None) [
      | None ↦ λ at. refl
      | Some k ↦ λ at. elim is [
        | inl same ↦ absurd (named_there tree above name m k whole there d named (ap (λ (t : Text). number_at tree (join t name)) (sym same) ∙ at) none)
        | inr nothing ↦ absurd (none_some nothing (ap (number_at tree) (sym (parent-join dir name e named)) ∙ (whole.placed (join dir name) k at).stands))
      ]
    ] refl

-- the directory of what stands elsewhere isn't a path below which nothing stands
pub not_above : (tree : Hierarchy) (path q : Text) (k : ℕ) → IsWhole tree → is_root path ≡ false → IsBare tree path → (q ≡ path → ⊥) → number_at tree q ≡ Some k → parent q ≡ path → ⊥
not_above tree path q k whole below bare apart at same = elim (is_root q) as (λ (b : Bool). is_root q ≡ b → ⊥) [
  | true ↦ λ e. clash _ (ap is_root (sym same ∙ ap parent (is_the_root q e) ∙ parent-root)) below
  | false ↦ λ e.
      let it = path-is_cut q (whole.canonical q k at) e in
      none_some (bare q (ap (is_within path) (sym it.whole) ∙ within-down path (parent q) (name_of q) (ap (is_within path) same ∙ within-itself path)) apart) at
] refl

-- What a name of a directory stands for.

-- where a name stands
pub child_at : (tree : Hierarchy) (dir : ℕ) (path name : Text) → is_name name ≡ true → path_of tree dir ≡ Some path → child tree dir name ≡ number_at tree (join path name)
unfolding child
child_at tree dir path name named at =
    ap (λ (b : Bool). cond b (option_and_then (λ p. number_at tree (join p name)) (path_of tree dir)) None) named ∙ ap (λ (o : Option Text). option_and_then (λ p. number_at tree (join p name)) o) at

pub child_nowhere : (tree : Hierarchy) (dir : ℕ) (name : Text) → path_of tree dir ≡ None → child tree dir name ≡ None
unfolding child
child_nowhere tree dir name at = ap (λ (o : Option Text). cond (is_name name) (option_and_then (λ p. number_at tree (join p name)) o) None) at ∙ either (is_name name) where
  either : (b : Bool) → ◌≡◌ {A = Option ℕ} (cond b None None) None
  either true = refl
  either false = refl

-- only a name stands for something
pub child_named : (tree : Hierarchy) (dir : ℕ) (name : Text) (n : ℕ) → child tree dir name ≡ Some n → is_name name ≡ true
unfolding child
child_named tree dir name n is = by (is_name name) (option_and_then (λ p. number_at tree (join p name)) (path_of tree dir)) is where
  by : (b : Bool) (o : Option ℕ) → cond b o None ≡ Some n → b ≡ true
  by true o e = refl
  by false o e = cc

pub child_stands : (tree : Hierarchy) (dir : ℕ) (name : Text) (n : ℕ) → child tree dir name ≡ Some n → (path : Text) × (path_of tree dir ≡ Some path) × (number_at tree (join path name) ≡ Some n)
child_stands tree dir name n is = elim (path_of tree dir) as (λ (o : Option Text). path_of tree dir ≡ o → (path : Text) × (path_of tree dir ≡ Some path) × (number_at tree (join path name) ≡ Some n)) [
  | None ↦ λ at. absurd (none_some (child_nowhere tree dir name at) is)
  | Some path ↦ λ at. (path, at, sym (child_at tree dir path name (child_named tree dir name n is) at) ∙ is)
] refl

-- only a directory has names
pub child_dir : (tree : Hierarchy) (dir : ℕ) (name : Text) (n : ℕ) → IsWhole tree → is_name name ≡ true → child tree dir name ≡ Some n → is_dir (node tree dir) ≡ true
child_dir tree dir name n whole named is =
    let at = child_stands tree dir name n is in
    let stands = path_stands tree dir at.0 at.1 in
    let p = whole.placed (join at.0 name) n at.2 in
    ap (λ (k : ℕ). is_dir (node tree k)) (same_number dir p.up stands (ap (number_at tree) (sym (parent-join at.0 name (whole.canonical at.0 dir stands) named)) ∙ p.stands)) ∙ p.in_dir

pub child_none : (tree : Hierarchy) (dir : ℕ) (name : Text) → IsWhole tree → is_dir (node tree dir) ≡ false → child tree dir name ≡ None
child_none tree dir name whole file = elim (child tree dir name) as (λ (o : Option ℕ). child tree dir name ≡ o → o ≡ None) [
  | None ↦ λ is. refl
  | Some n ↦ λ is. absurd (clash _ (child_dir tree dir name n whole (child_named tree dir name n is) is) file)
] refl

pub row_stands : (tree : Hierarchy) (i : ℕ) (path : Text) (n : ℕ) → slice_get (entries tree.paths) i ≡ Some (path, n) → number_at tree path ≡ Some n
row_stands tree i path n at = get-entries tree.paths path ∙ place_found (entries tree.paths) path i n (entries_sorted tree.paths) at

-- only the root's number stands at the root
pub not_at_root : (tree : Hierarchy) (path : Text) (n : ℕ) → IsWhole tree → number_at tree path ≡ Some n → (n ≡ top → ⊥) → is_root path ≡ false
not_at_root tree path n whole at below = elim (is_root path) as (λ (b : Bool). is_root path ≡ b → b ≡ false) [
  | true ↦ λ e. absurd (below (same_number n top at (ap (number_at tree) (is_the_root path e) ∙ whole.root_at)))
  | false ↦ λ e. refl
] refl

-- what a name stands for is a node
pub child_there : (tree : Hierarchy) (dir : ℕ) (name : Text) (o : Option ℕ) → IsWhole tree → o ≡ child tree dir name → IfSome o (λ n. is_there (node tree n) ≡ true)
child_there tree dir name None whole is = tt
child_there tree dir name (Some n) whole is =
    let at = child_stands tree dir name n (sym is) in
    ap is_there (whole.known (join at.0 name) n at.2).1
