-- The tree of a snapshot, as nodes that the code could keep, a row after another; and its nodes by their paths.
use Rattle.std.proofs.Common.{◌≡◌, ℕ, zero, suc, ◌+◌, ◌≤◌, ◌<◌, List, [], ◌∷◌, length, Bool, true, false, ◌&&◌, cond, inl, inr, Option, Some, None, refl, sym}
use Rattle.std.proofs.Common.{◌∙◌, ap, subst, arith}
use lib.Dec.{T}
use Rattle.std.specs.Prelude.{◌==◌, if◌then◌else◌, slice_get, map}
use Rattle.std.specs.Ordering.{eq_by_cmp}
use Rattle.std.proofs.lemmas.Bool.{eq-eqb}
use Rattle.std.specs.FinMap.Entries.{below_all}
use Rattle.std.specs.FinMap.{empty, entries, get, insert, find, is_sorted, get-entries, entries_sorted}
use Rattle.rk_base.specs.Text.{Text, text_cmp, root, is_root, name_of}
use Rattle.rk_tree.specs.declared.inode.Inode.{Inode}
use Rattle.rk_tree.specs.Copies.{numbered, tree_of}
use Rattle.rk_tree.specs.Copying.{with_node_at}
use Rattle.rk_tree.specs.Entries.{Entries, IsWholeSnapshot, is_dir}
use Rattle.rk_tree.specs.Hierarchy.{Hierarchy, number_at, first_path, path_of}
use Rattle.rk_tree.specs.Inodes.{nodes_of}
use Rattle.rk_tree.specs.Node.{Node as TreeNode, File as AFile, Dir as ADir, Link as ALink}
use Rattle.rk_tree.specs.Refusals.{is_there}
use Rattle.rk_tree.specs.Whole.{IsWhole}
use Rattle.rk_tree.proofs.GrownLemmas.{added-tree}
use Rattle.rk_tree.proofs.HierarchyLemmas.{path_stands}
use Rattle.rk_tree.proofs.PlantedLemmas.{Takes, not_the_root, lands, may_hold, child_absent, added_at, takes_first, takes_next, takes_more, takes_all}
use Rattle.rk_tree.proofs.RootLemmas.{root_node, new-shown, new-held, new-kept}
use Rattle.rk_tree.proofs.RowsLemmas.{get-found, and_first, and_second, find_head, find_later}
use Rattle.rk_tree.proofs.TextLemmas.{told_apart}
use Rattle.rk_tree.proofs.TreeLemmas.{IsTree, tree_inside}
use Rattle.rk_feet.specs.Named.{Name, Start, Given, Made}
use Rattle.rk_feet.specs.Naming.{AreNamed}
use Rattle.rk_feet.specs.NamingLemmas.{clash}
use Rattle.rk_feet.specs.Snapshots.{named_by, number_by, by_paths}
use Rattle.rk_feet.proofs.OptionLemmas.{same-some, none-some}

root-tree : (mode : ℕ) → mode ≤ 511 → IsTree (root_node mode) (record { paths = insert empty root 0; nodes = ADir mode ∷ [] })
root-tree mode fits =
    let shown = new-shown (root_node mode) mode fits refl in
    tree_inside (root_node mode) shown (record { paths = insert empty root 0; nodes = ADir mode ∷ [] })
    (new-kept (root_node mode) shown.paths mode shown.leads fits refl) (new-held (root_node mode) shown.paths mode shown.leads fits refl)

module _ (snapshot : Entries) (whole : IsWholeSnapshot snapshot) where
  planted : (left : List (Text × TreeNode)) (nodes : List Inode) (held : Hierarchy) → IsTree nodes held → Takes snapshot held left
      → (all : List Inode) × IsTree all (tree_of snapshot)
  planted [] nodes held is takes = (nodes, subst (IsTree nodes) (takes_all snapshot whole held [] takes refl) is)
  planted ((path, it) ∷ rest) nodes held is takes =
      let fits = takes_next snapshot whole held ((path, it) ∷ rest) rest path it takes refl in
      let is_whole : IsWhole held = subst IsWhole is.is is.kept.0 in
      let below : is_root path ≡ false = not_the_root held path is_whole fits.absent in
      let to = lands held path (name_of path) it fits.placed.up is_whole fits (ap (λ b. if b then None else Some (name_of path)) below) fits.placed.stands in
      let grown = added-tree nodes held fits.placed.up (name_of path) it is to.named (may_hold held path (name_of path) it fits.placed.up is_whole fits to)
      (child_absent held path (name_of path) it fits.placed.up fits to) fits.fit (ap is_there to.at) in
      planted rest _ (with_node_at held path it) (subst (IsTree _) (added_at held path (name_of path) it fits.placed.up to) grown)
      (takes_more snapshot whole held ((path, it) ∷ rest) rest path it takes refl (with_node_at held path it) refl)

  root-mode : (o : Option TreeNode) → is_dir o ≡ true → (mode : ℕ) × (o ≡ Some (ADir mode))
  root-mode None h = absurd (clash false h refl)
  root-mode (Some (AFile mode content)) h = absurd (clash false h refl)
  root-mode (Some (ADir mode)) h = (mode, refl)
  root-mode (Some (ALink text)) h = absurd (clash false h refl)

  -- a whole snapshot's tree could be kept so
  pub all-planted : (all : List Inode) × IsTree all (tree_of snapshot)
  all-planted = go (entries snapshot) refl
    where
      mode : (mode : ℕ) × (get snapshot root ≡ Some (ADir mode))
      mode = root-mode (get snapshot root) whole.root_dir

      go : (rows : List (Text × TreeNode)) → entries snapshot ≡ rows → (all : List Inode) × IsTree all (tree_of snapshot)
      go [] e = absurd (none-some (ADir mode.0) (sym (get-entries snapshot root ∙ ap (find text_cmp root) e) ∙ mode.1))
      go (row ∷ rest) e =
          planted rest (root_node mode.0) (record { paths = insert empty root 0; nodes = ADir mode.0 ∷ [] })
          (root-tree mode.0 (whole.fit root (ADir mode.0) mode.1))
          (takes_first snapshot whole mode.0 (Some (record { ref_ptr = (0, 0); now = row.0 }, record { ref_ptr = (0, 0); now = row.1 })) (entries snapshot) rest
          (record { paths = insert empty root 0; nodes = ADir mode.0 ∷ [] }) mode.1 refl e refl)

-- Numbers by paths.

both : (a b : Bool) → T a → T b → T (a && b)
both true b h k = k
both false b h k = absurd h

below-numbered : (path : Text) (k : ℕ) (rows : List (Text × TreeNode)) → T (below_all text_cmp path rows) → T (below_all text_cmp path (numbered k rows))
below-numbered path k [] h = tt
below-numbered path k (row ∷ rows) h = both _ _ (and_first _ _ h) (below-numbered path (k + 1) rows (and_second _ _ h))

sorted-numbered : (k : ℕ) (rows : List (Text × TreeNode)) → T (is_sorted text_cmp rows) → T (is_sorted text_cmp (numbered k rows))
sorted-numbered k [] h = tt
sorted-numbered k (row ∷ rows) h = both _ _ (below-numbered row.0 (k + 1) rows (and_first _ _ h)) (sorted-numbered (k + 1) rows (and_second _ _ h))

fewer : (n m : ℕ) → suc n < suc m → n < m
fewer n m h = omega arith

one-on : (k n : ℕ) → k + 1 + n ≡ k + suc n
one-on k n = omega arith

none-on : (k : ℕ) → k ≡ k + 0
none-on k = omega arith

-- each row has its number
row-numbered : (k n : ℕ) (rows : List (Text × TreeNode)) → T (is_sorted text_cmp rows) → n < length rows
    → (path : Text) × (find text_cmp path (numbered k rows) ≡ Some (k + n))
row-numbered k n [] h less = absurd (omega arith)
row-numbered k zero (row ∷ rows) h less = (row.0, find_head row.0 (row.0, k) (numbered (k + 1) rows) refl ∙ ap Some (none-on k))
row-numbered k (suc n) (row ∷ rows) h less =
    let rest = row-numbered (k + 1) n rows (and_second _ _ h) (fewer n (length rows) less) in
    (rest.0, find_later rest.0 (row.0, k) (numbered (k + 1) rows) (k + suc n) (sorted-numbered k (row ∷ rows) h) (rest.1 ∙ ap Some (one-on k n)))

-- a number is of one row
numbered-row : (k : ℕ) (path : Text) (n : ℕ) (rows : List (Text × TreeNode)) → find text_cmp path (numbered k rows) ≡ Some n
    → (i : ℕ) × (n ≡ k + i) × (it : TreeNode) × (slice_get rows i ≡ Some (path, it))
numbered-row k path n [] at = absurd (none-some n at)
numbered-row k path n (row ∷ rows) at = elim (told_apart path row.0) [
  | inl same ↦
      let e : k ≡ n = same-some k n (sym (ap (λ b. cond b (Some k) (find text_cmp path (numbered (k + 1) rows))) same.1) ∙ at) in
      (0, (let f : n ≡ k + 0 = omega (arith, e) in f), row.1, ap (λ t. Some (t, row.1)) (sym same.0))
  | inr apart ↦
      let rest = numbered-row (k + 1) path n rows (sym (ap (λ b. cond b (Some k) (find text_cmp path (numbered (k + 1) rows))) apart.1) ∙ at) in
      let e : n ≡ k + 1 + rest.0 = rest.1 in
      (suc rest.0, (let f : n ≡ k + suc rest.0 = omega (arith, e) in f), rest.2, rest.3)
]

one-path : (a b : Text) (n : ℕ) (rows : List (Text × TreeNode)) → find text_cmp a (numbered 0 rows) ≡ Some n → find text_cmp b (numbered 0 rows) ≡ Some n
    → a ≡ b
one-path a b n rows at bt =
    let x = numbered-row 0 a n rows at in
    let y = numbered-row 0 b n rows bt in
    let e : n ≡ 0 + x.0 = x.1 in
    let f : n ≡ 0 + y.0 = y.1 in
    let same : x.0 ≡ y.0 = omega (arith, e, f) in
    ap (λ row. row.0) (same-some (a, x.2) (b, y.2) (sym x.3 ∙ ap (slice_get rows) same ∙ y.3))

less-rows : (i : ℕ) (rows : List (Text × TreeNode)) (row : Text × TreeNode) → slice_get rows i ≡ Some row → i < length rows
less-rows i [] row e = absurd (none-some row e)
less-rows zero (r ∷ rows) row e = omega arith
less-rows (suc i) (r ∷ rows) row e = let h : i < length rows = less-rows i rows row e in omega arith

length-values : (rows : List (Text × TreeNode)) → length (map (λ row. row.1) rows) ≡ length rows
length-values [] = refl
length-values (row ∷ rows) = ap suc (length-values rows)

length-nodes : (nodes : List Inode) → length (nodes_of nodes) ≡ length nodes
length-nodes [] = refl
length-nodes (it ∷ nodes) = ap suc (length-nodes nodes)

-- what stands at a path has a first path
not-first : (n : ℕ) (path : Text) (rows : List (Text × ℕ)) → first_path n rows ≡ None → find text_cmp path rows ≡ Some n → ⊥
not-first n path [] e at = none-some n at
not-first n path (row ∷ rows) e at = go (not-first n path rows) (row.1 == n) refl e (eq_by_cmp text_cmp path row.0) at
  where
    go : (first_path n rows ≡ None → find text_cmp path rows ≡ Some n → ⊥) → (b : Bool) → (row.1 == n) ≡ b
        → (if b then Some row.0 else first_path n rows) ≡ None
        → (c : Bool) → cond c (Some row.1) (find text_cmp path rows) ≡ Some n → ⊥
    go later true f e c at = none-some row.0 (sym e)
    go later false f e true at = clash (row.1 == n) (eq-eqb row.1 n (same-some row.1 n at)) f
    go later false f e false at = later e at

has-path : (held : Hierarchy) (n : ℕ) (path : Text) → number_at held path ≡ Some n → path_of held n ≡ None → ⊥
unfolding path_of
has-path held n path at none = not-first n path (entries held.paths) none (sym (get-entries held.paths path) ∙ at)

module _ (snapshot : Entries) (whole : IsWholeSnapshot snapshot) where
  found-at : (path : Text) → number_at (tree_of snapshot) path ≡ find text_cmp path (numbered 0 (entries snapshot))
  unfolding tree_of
  found-at path = get-found (numbered 0 (entries snapshot)) path

  length-tree : length (tree_of snapshot).nodes ≡ length (entries snapshot)
  unfolding tree_of
  length-tree = length-values (entries snapshot)

  -- a number has one path
  path-once : (a b : Text) (n : ℕ) → number_at (tree_of snapshot) a ≡ Some n → number_at (tree_of snapshot) b ≡ Some n → a ≡ b
  path-once a b n at bt = one-path a b n (entries snapshot) (sym (found-at a) ∙ at) (sym (found-at b) ∙ bt)

  path-less : (path : Text) (n : ℕ) → number_at (tree_of snapshot) path ≡ Some n → n < length (entries snapshot)
  path-less path n at =
      let x = numbered-row 0 path n (entries snapshot) (sym (found-at path) ∙ at) in
      let h : x.0 < length (entries snapshot) = less-rows x.0 (entries snapshot) (path, x.2) x.3 in
      let e : n ≡ 0 + x.0 = x.1 in
      omega (arith, h, e)

  path-there : (n : ℕ) → n < length (entries snapshot) → (path : Text) × (number_at (tree_of snapshot) path ≡ Some n)
  path-there n less =
      let row = row-numbered 0 n (entries snapshot) (entries_sorted snapshot) less in
      (row.0, found-at row.0 ∙ row.1 ∙ ap Some (let e : 0 + n ≡ n = omega arith in e))

  -- the first path of a number is its path
  first-path : (path : Text) (n : ℕ) → number_at (tree_of snapshot) path ≡ Some n → path_of (tree_of snapshot) n ≡ Some path
  first-path path n at = go (path_of (tree_of snapshot) n) refl
    where
      go : (o : Option Text) → path_of (tree_of snapshot) n ≡ o → o ≡ Some path
      go None e = absurd (has-path (tree_of snapshot) n path at e)
      go (Some first) e = ap Some (path-once first path n (path_stands (tree_of snapshot) n first e) at)

  pub paths-named : (nodes : List Inode) → IsTree nodes (tree_of snapshot) → AreNamed (length nodes) (by_paths (tree_of snapshot))
  paths-named nodes is = record { back = back; there = there }
    where
      count : length nodes ≡ length (entries snapshot)
      count = sym (length-nodes nodes) ∙ ap (λ h. length h.nodes) is.is ∙ length-tree

      back : (n : ℕ) → n < length nodes → number_by (tree_of snapshot) (named_by (path_of (tree_of snapshot) n)) ≡ Some n
      back n less =
          let path = path-there n (subst (λ c. n < c) count less) in
          ap (λ o. number_by (tree_of snapshot) (named_by o)) (first-path path.0 n path.1) ∙ path.1

      there : (x : Name) (n : ℕ) → number_by (tree_of snapshot) x ≡ Some n → (n < length nodes) × (named_by (path_of (tree_of snapshot) n) ≡ x)
      there (Start path) n e = (subst (λ c. n < c) (sym count) (path-less path n e), ap named_by (first-path path n e))
      there (Given k) n e = absurd (none-some n e)
      there (Made r s p m) n e = absurd (none-some n e)
