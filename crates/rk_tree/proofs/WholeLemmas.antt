-- What keeps a tree whole.
use Rattle.std.proofs.Common.{◌≡◌, ◌<◌, ◌≤◌, ℕ, zero, suc, List, [], ◌∷◌, ◌++◌, length, Bool, true, false, Option, Some, None, ◌⊎◌, inl, inr, refl, sym, ap, subst, ◌∙◌, arith}
use Rattle.std.specs.Prelude.{slice_get, slice_set}
use Rattle.std.proofs.lemmas.Option.{slice_get_within}
use Rattle.std.specs.FinMap.{get, empty, insert, get-empty}
use Rattle.rk_base.specs.Text.{Text, text_cmp, root, parent, join, hidden, is_within}
use Rattle.rk_base.specs.Canonical.{is_name, is_canonical}
use Rattle.rk_tree.specs.Node.{Node, File, Dir, Link}
use Rattle.rk_tree.specs.Entries.{is_dir, IsFit}
use Rattle.rk_tree.specs.Content.{Content, Own}
use Rattle.rk_tree.specs.Hierarchy.{Hierarchy, Paths, added, change_node, changed_at, child, knowing, linked, node, number_at, over_written, path_of, replaced, set_node, top, with_content, with_mode, with_node, with_path}
use Rattle.rk_tree.specs.Whole.{IsPlaced, IsWhole, MayHold}
use Rattle.rk_tree.proofs.RowsLemmas.{insert_cases}
use Rattle.rk_tree.proofs.TextLemmas.{parent-root, within-join, hidden-back, root_seen, name_at_root}
use Rattle.rk_base.proofs.CanonicalLemmas.{root-canonical, join-canonical}
use Rattle.rk_base.proofs.PathLemmas.{parent-join}
use Rattle.rk_tree.proofs.BelowLemmas.{child_at}
use Rattle.rk_tree.proofs.HierarchyLemmas.{path_stands}

clash : (b : Bool) → b ≡ true → b ≡ false → ⊥
clash b t f = cc

none_some : {A : Type 0} {x : A} {o : Option A} → o ≡ None → o ≡ Some x → ⊥
none_some n s = cc

same_number : {o : Option ℕ} (a b : ℕ) → o ≡ Some a → o ≡ Some b → a ≡ b
same_number a b p q = cc

same_entry : {o : Option Node} (a b : Node) → o ≡ Some a → o ≡ Some b → a ≡ b
same_entry a b p q = cc

-- a directory is a node
pub dir_node : (o : Option Node) → is_dir o ≡ true → (it : Node) × (o ≡ Some it)
dir_node None h = cc
dir_node (Some it) h = (it, refl)

-- The root alone.

abbrev pub none : Paths
none = empty

abbrev pub root_row : Paths
root_row = insert none root 0

alone : (q : Text) (n : ℕ) → get root_row q ≡ Some n → (q ≡ root) × (n ≡ 0)
alone q n at = elim (insert_cases none root 0 q) [
  | inl here ↦ (here.0, same_number n 0 at here.1)
  | inr other ↦ absurd (none_some (get-empty text_cmp q) (sym other.1 ∙ at))
]

pub root_stands : get root_row root ≡ Some 0
root_stands = elim (insert_cases none root 0 root) [
  | inl here ↦ here.1
  | inr other ↦ absurd (other.0 refl)
]

pub root-whole : (mode : ℕ) → mode ≤ 511 → IsWhole (record { paths = root_row; nodes = Dir mode ∷ [] })
root-whole mode fits = record {
  root_at = root_stands;
  root_dir = refl;
  canonical = λ q n at. ap is_canonical (alone q n at).0 ∙ root-canonical;
  known = λ q n at. (Dir mode, ap (slice_get (Dir mode ∷ [])) (alone q n at).1);
  placed = λ q n at. record {
    up = 0;
    stands = ap (λ (t : Text). get root_row (parent t)) (alone q n at).0 ∙ ap (get root_row) parent-root ∙ root_stands;
    in_dir = refl;
  };
  once = λ a b n at bt d. (alone a n at).0 ∙ sym (alone b n bt).0;
  unseen = λ q h. elim (insert_cases none root 0 q) [
    | inl here ↦ absurd (clash _ h (ap (is_within (join root hidden)) here.0 ∙ root_seen))
    | inr other ↦ other.1 ∙ get-empty text_cmp q
  ];
  fit = λ n it at. only n it at;
} where
  only : (n : ℕ) (it : Node) → slice_get (Dir mode ∷ []) n ≡ Some it → IsFit it
  only zero it at = subst IsFit (same_entry (Dir mode) it refl at) fits
  only (suc n) it at = cc

-- A node more.

pub get-more : (xs : List Node) (y : Node) (n : ℕ) (x : Node) → slice_get xs n ≡ Some x → slice_get (xs ++ y ∷ []) n ≡ Some x
get-more [] y n x at = cc
get-more (z ∷ xs) y zero x at = at
get-more (z ∷ xs) y (suc n) x at = get-more xs y n x at

pub get-last : (xs : List Node) (y : Node) → slice_get (xs ++ y ∷ []) (length xs) ≡ Some y
get-last [] y = refl
get-last (x ∷ xs) y = get-last xs y

more_cases : (xs : List Node) (y : Node) (n : ℕ) (x : Node) → slice_get (xs ++ y ∷ []) n ≡ Some x → (slice_get xs n ≡ Some x) ⊎ (y ≡ x)
more_cases [] y zero x at = inr (same_entry y x refl at)
more_cases [] y (suc n) x at = cc
more_cases (z ∷ xs) y zero x at = inl at
more_cases (z ∷ xs) y (suc n) x at = more_cases xs y n x at

-- what is known of a node stays, where a node comes
kept_dir : (xs : List Node) (y : Node) (n : ℕ) → is_dir (slice_get xs n) ≡ true → is_dir (slice_get (xs ++ y ∷ []) n) ≡ true
kept_dir xs y n h = let it = dir_node (slice_get xs n) h in ap is_dir (get-more xs y n it.0 it.1) ∙ sym (ap is_dir it.1) ∙ h

pub more-whole : (tree : Hierarchy) (it : Node) → IsWhole tree → IsFit it → IsWhole (with_node tree it)
more-whole tree it whole fits = record {
  root_at = whole.root_at;
  root_dir = kept_dir tree.nodes it top whole.root_dir;
  canonical = whole.canonical;
  known = λ q n at. let k = whole.known q n at in (k.0, get-more tree.nodes it n k.0 k.1);
  placed = λ q n at. let p = whole.placed q n at in record { up = p.up; stands = p.stands; in_dir = kept_dir tree.nodes it p.up p.in_dir };
  once = λ a b n at bt d. let k = whole.known a n at in whole.once a b n at bt (ap is_dir k.1 ∙ sym (ap is_dir (get-more tree.nodes it n k.0 k.1)) ∙ d);
  unseen = whole.unseen;
  fit = λ n x at. elim (more_cases tree.nodes it n x at) [
    | inl old ↦ whole.fit n x old
    | inr new ↦ subst IsFit new fits
  ];
}

-- A path more.

-- a path at which a node may stand: a name in a directory, of a node that is no directory or stands nowhere else
pub record IsOpen (tree : Hierarchy) (path : Text) (n : ℕ) : Type 0 where
  pub is_path : is_canonical path ≡ true
  pub absent : number_at tree path ≡ None
  pub placed : IsPlaced tree path
  pub seen : is_within (join root hidden) path ≡ true → ⊥
  pub has_node : (it : Node) × (node tree n ≡ Some it)
  pub nowhere : is_dir (node tree n) ≡ true → (q : Text) → number_at tree q ≡ Some n → ⊥

pub stays : (tree : Hierarchy) (path : Text) (n : ℕ) (q : Text) (k : ℕ) → number_at tree path ≡ None → number_at tree q ≡ Some k → get (insert tree.paths path n) q ≡ Some k
stays tree path n q k none at = elim (insert_cases tree.paths path n q) [
  | inl here ↦ absurd (none_some none (ap (number_at tree) (sym here.0) ∙ at))
  | inr other ↦ other.1 ∙ at
]

pub stands_cases : (tree : Hierarchy) (path : Text) (n : ℕ) (q : Text) (k : ℕ) → get (insert tree.paths path n) q ≡ Some k → ((q ≡ path) × (k ≡ n)) ⊎ (number_at tree q ≡ Some k)
stands_cases tree path n q k at = elim (insert_cases tree.paths path n q) [
  | inl here ↦ inl (here.0, same_number k n at here.1)
  | inr other ↦ inr (sym other.1 ∙ at)
]

pub opened-whole : (tree : Hierarchy) (path : Text) (n : ℕ) → IsWhole tree → IsOpen tree path n → IsWhole (record tree { paths = insert tree.paths path n })
opened-whole tree path n whole is = record {
  root_at = stays tree path n root top is.absent whole.root_at;
  root_dir = whole.root_dir;
  canonical = λ q k at. elim (stands_cases tree path n q k at) [
    | inl new ↦ ap is_canonical new.0 ∙ is.is_path
    | inr old ↦ whole.canonical q k old
  ];
  known = λ q k at. elim (stands_cases tree path n q k at) [
    | inl new ↦ (is.has_node.0, ap (node tree) new.1 ∙ is.has_node.1)
    | inr old ↦ whole.known q k old
  ];
  placed = λ q k at. elim (stands_cases tree path n q k at) [
    | inl new ↦ record { up = is.placed.up; stands = stays tree path n (parent q) is.placed.up is.absent (ap (λ (t : Text). number_at tree (parent t)) new.0 ∙ is.placed.stands); in_dir = is.placed.in_dir }
    | inr old ↦ let p = whole.placed q k old in record { up = p.up; stands = stays tree path n (parent q) p.up is.absent p.stands; in_dir = p.in_dir }
  ];
  once = λ a b k at bt d. elim (stands_cases tree path n a k at) [
    | inl new ↦ elim (stands_cases tree path n b k bt) [
      | inl again ↦ new.0 ∙ sym again.0
      | inr old ↦ absurd (is.nowhere (ap (λ (j : ℕ). is_dir (node tree j)) (sym new.1) ∙ d) b (old ∙ ap (λ (j : ℕ). Some j) new.1))
    ]
    | inr old ↦ elim (stands_cases tree path n b k bt) [
      | inl new ↦ absurd (is.nowhere (ap (λ (j : ℕ). is_dir (node tree j)) (sym new.1) ∙ d) a (old ∙ ap (λ (j : ℕ). Some j) new.1))
      | inr older ↦ whole.once a b k old older d
    ]
  ];
  unseen = λ q h. elim (insert_cases tree.paths path n q) [
    | inl here ↦ absurd (is.seen (ap (is_within (join root hidden)) (sym here.0) ∙ h))
    | inr other ↦ other.1 ∙ whole.unseen q h
  ];
  fit = whole.fit;
}

-- A new node under a name.

pub new_nowhere : (tree : Hierarchy) → IsWhole tree → (q : Text) (n : ℕ) → n ≡ length tree.nodes → number_at tree q ≡ Some n → ⊥
new_nowhere tree whole q n is at =
    let k = whole.known q n at in
    let within : n < length tree.nodes = slice_get_within tree.nodes n k.0 k.1 in
    omega arith

hidden_parent : parent (join root hidden) ≡ root
unfolding parent join
hidden_parent = refl

pub unhidden : (tree : Hierarchy) (dir : ℕ) (name path : Text) → IsWhole tree → is_name name ≡ true → MayHold tree dir name → number_at tree path ≡ Some dir → is_within (join root hidden) (join path name) ≡ true → ⊥
unhidden tree dir name path whole named may at h = elim (within-join (join root hidden) path name hidden-back (whole.canonical path dir at) named h) [
  | inl same ↦
      let at_root : path ≡ root = sym (parent-join path name (whole.canonical path dir at) named) ∙ ap parent same ∙ hidden_parent in
      may.seen (same_number dir top at (ap (number_at tree) at_root ∙ whole.root_at)) (name_at_root name (ap (λ (t : Text). join t name) (sym at_root) ∙ same))
  | inr within ↦ none_some (whole.unseen path within) at
]

-- a name in a directory may come to stand for a new node
pub name-open : (tree : Hierarchy) (dir : ℕ) (name path : Text) (it : Node) → IsWhole tree → is_name name ≡ true → MayHold tree dir name → child tree dir name ≡ None → path_of tree dir ≡ Some path → IsOpen (with_node tree it) (join path name) (length tree.nodes)
unfolding child
name-open tree dir name path it whole named may absent at =
    let stands = path_stands tree dir path at in
    let canon = whole.canonical path dir stands in
    record {
      is_path = join-canonical path name canon named;
      absent = sym (child_at tree dir path name named at) ∙ absent;
      placed = record { up = dir; stands = ap (number_at tree) (parent-join path name canon named) ∙ stands; in_dir = kept_dir tree.nodes it dir may.in_dir };
      seen = unhidden tree dir name path whole named may stands;
      has_node = (it, get-last tree.nodes it);
      nowhere = λ d q on. new_nowhere tree whole q _ refl on;
    }

pub added-whole : (tree : Hierarchy) (dir : ℕ) (name : Text) (it : Node) → IsWhole tree → is_name name ≡ true → MayHold tree dir name → child tree dir name ≡ None → IsFit it → IsWhole (added tree dir name it)
unfolding added linked
added-whole tree dir name it whole named may absent fits = elim (path_of tree dir) as (λ (o : Option Text). path_of tree dir ≡ o → IsWhole (record { paths = with_path o (λ path. insert tree.paths (join path name) (length tree.nodes)) tree.paths; nodes = tree.nodes ++ it ∷ [] })) [
  | None ↦ λ at. more-whole tree it whole fits
  | Some path ↦ λ at. opened-whole (with_node tree it) (join path name) (length tree.nodes) (more-whole tree it whole fits) (name-open tree dir name path it whole named may absent at)
] refl

-- A node under one name more.

pub linked-whole : (tree : Hierarchy) (dir : ℕ) (name : Text) (n : ℕ) (it : Node) → IsWhole tree → is_name name ≡ true → MayHold tree dir name → child tree dir name ≡ None → node tree n ≡ Some it → is_dir (node tree n) ≡ false → IsWhole (linked tree dir name n)
unfolding linked child
linked-whole tree dir name n it whole named may absent is file = elim (path_of tree dir) as (λ (o : Option Text). path_of tree dir ≡ o → IsWhole (record tree { paths = with_path o (λ path. insert tree.paths (join path name) n) tree.paths })) [
  | None ↦ λ at. whole
  | Some path ↦ λ at.
      let stands = path_stands tree dir path at in
      let canon = whole.canonical path dir stands in
      opened-whole tree (join path name) n whole (record {
        is_path = join-canonical path name canon named;
        absent = sym (child_at tree dir path name named at) ∙ absent;
        placed = record { up = dir; stands = ap (number_at tree) (parent-join path name canon named) ∙ stands; in_dir = may.in_dir };
        seen = unhidden tree dir name path whole named may stands;
        has_node = (it, is);
        nowhere = λ d q on. clash _ d file;
      })
] refl

-- Other nodes.

pub set_cases : (xs : List Node) (n : ℕ) (old new : Node) → slice_get xs n ≡ Some old → (k : ℕ) → ((k ≡ n) × (slice_get (slice_set xs n new) k ≡ Some new)) ⊎ (slice_get (slice_set xs n new) k ≡ slice_get xs k)
set_cases [] n old new at k = cc
set_cases (x ∷ xs) zero old new at zero = inl (refl, refl)
set_cases (x ∷ xs) zero old new at (suc k) = inr refl
set_cases (x ∷ xs) (suc n) old new at zero = inr refl
set_cases (x ∷ xs) (suc n) old new at (suc k) = elim (set_cases xs n old new at k) [
  | inl here ↦ inl (ap suc here.0, here.1)
  | inr other ↦ inr other
]

-- a node of the same kind in the place of another
pub set-whole : (tree : Hierarchy) (n : ℕ) (old new : Node) → IsWhole tree → node tree n ≡ Some old → is_dir (Some new) ≡ is_dir (Some old) → IsFit new → IsWhole (set_node tree n new)
set-whole tree n old new whole at alike fits =
    let dirs : (k : ℕ) → is_dir (node (set_node tree n new) k) ≡ is_dir (node tree k) = λ k. elim (set_cases tree.nodes n old new at k) [
      | inl here ↦ ap is_dir here.1 ∙ alike ∙ sym (ap is_dir (ap (node tree) here.0 ∙ at))
      | inr other ↦ ap is_dir other
    ] in
    record {
      root_at = whole.root_at;
      root_dir = dirs top ∙ whole.root_dir;
      canonical = whole.canonical;
      known = λ q k on. elim (set_cases tree.nodes n old new at k) [
        | inl here ↦ (new, here.1)
        | inr other ↦ let it = whole.known q k on in (it.0, other ∙ it.1)
      ];
      placed = λ q k on. let p = whole.placed q k on in record { up = p.up; stands = p.stands; in_dir = dirs p.up ∙ p.in_dir };
      once = λ a b k on too d. whole.once a b k on too (sym (dirs k) ∙ d);
      unseen = whole.unseen;
      fit = λ k it is. elim (set_cases tree.nodes n old new at k) [
        | inl here ↦ subst IsFit (same_entry new it here.1 is) fits
        | inr other ↦ whole.fit k it (sym other ∙ is)
      ];
    }

pub alike_content : (content : Content) (it : Node) → is_dir (Some (with_content content it)) ≡ is_dir (Some it)
alike_content content (File mode old) = refl
alike_content content (Dir mode) = refl
alike_content content (Link text) = refl

pub alike_replaced : (bytes : List ℕ) (it : Node) → is_dir (Some (replaced bytes it)) ≡ is_dir (Some it)
alike_replaced bytes it = alike_content (Own bytes) it

pub alike_knowing : (bytes : List ℕ) (it : Node) → is_dir (Some (knowing bytes it)) ≡ is_dir (Some it)
alike_knowing bytes (File mode old) = refl
alike_knowing bytes (Dir mode) = refl
alike_knowing bytes (Link text) = refl

pub alike_mode : (mode : ℕ) (it : Node) → is_dir (Some (with_mode mode it)) ≡ is_dir (Some it)
alike_mode mode (File old bytes) = refl
alike_mode mode (Dir old) = refl
alike_mode mode (Link text) = refl

pub alike_written : (at : ℕ) (bytes : List ℕ) (it : Node) → is_dir (Some (over_written at bytes it)) ≡ is_dir (Some it)
alike_written at bytes (File mode old) = refl
alike_written at bytes (Dir mode) = refl
alike_written at bytes (Link text) = refl

pub fit_written : (at : ℕ) (bytes : List ℕ) (it : Node) → IsFit it → IsFit (over_written at bytes it)
fit_written at bytes (File mode old) h = h
fit_written at bytes (Dir mode) h = h
fit_written at bytes (Link text) h = h

pub fit_content : (content : Content) (it : Node) → IsFit it → IsFit (with_content content it)
fit_content content (File mode old) h = h
fit_content content (Dir mode) h = h
fit_content content (Link text) h = h

pub fit_replaced : (bytes : List ℕ) (it : Node) → IsFit it → IsFit (replaced bytes it)
fit_replaced bytes it h = fit_content (Own bytes) it h

pub fit_knowing : (bytes : List ℕ) (it : Node) → IsFit it → IsFit (knowing bytes it)
fit_knowing bytes (File mode old) h = h
fit_knowing bytes (Dir mode) h = h
fit_knowing bytes (Link text) h = h

pub fit_mode : (mode : ℕ) (it : Node) → mode ≤ 511 → IsFit it → IsFit (with_mode mode it)
fit_mode mode (File old bytes) m h = m
fit_mode mode (Dir old) m h = m
fit_mode mode (Link text) m h = h

-- a node that becomes another of its kind
pub changed-whole : (tree : Hierarchy) (n : ℕ) (f : Node → Node) → ((it : Node) → is_dir (Some (f it)) ≡ is_dir (Some it)) → ((it : Node) → IsFit it → IsFit (f it)) → IsWhole tree → IsWhole (change_node tree n f)
changed-whole tree n f alike fits whole = elim (node tree n) as (λ (o : Option Node). node tree n ≡ o → IsWhole (record tree { nodes = changed_at f tree.nodes n o })) [
  | None ↦ λ at. whole
  | Some it ↦ λ at. set-whole tree n it (f it) whole at (alike it) (fits it (whole.fit n it at))
] refl
