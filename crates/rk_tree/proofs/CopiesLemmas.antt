-- Snapshots of trees, and trees of snapshots.
use Rattle.std.proofs.Common.{◌≡◌, ◌+◌, ◌++◌, ℕ, suc, List, [], ◌∷◌, length, Bool, true, false, ◌&&◌, cond, Option, Some, None, inl, inr, refl, sym, ap, subst, ◌∙◌, arith, append_assoc}
use lib.Dec.{T}
use Rattle.std.specs.Prelude.{slice_get}
use Rattle.std.proofs.lemmas.Bool.{eqb-true}
use Rattle.std.specs.List.{filter_map}
use Rattle.std.specs.Map.{values_of}
use Rattle.std.specs.Option.{option_map, option_and_then}
use Rattle.std.specs.Ordering.{eq_by_cmp, is_lt}
use Rattle.std.specs.FinMap.Entries.{below_all}
use Rattle.std.specs.FinMap.{entries, get, find, is_sorted, values, get-entries, entries_sorted}
use Rattle.rk_base.specs.Text.{Text, text_cmp, root, parent}
use Rattle.rk_base.specs.Canonical.{is_canonical}
use Rattle.rk_tree.specs.Node.{Node}
use Rattle.rk_tree.specs.Entries.{Entries, is_dir, IsWholeSnapshot}
use Rattle.rk_tree.specs.Hierarchy.{Hierarchy, node, number_at}
use Rattle.rk_tree.specs.Whole.{IsWhole}
use Rattle.rk_tree.specs.Copies.{entry_row, snapshot_of, numbered, tree_of}
use Rattle.rk_tree.proofs.RowsLemmas.{same_maps, get-found, and_first, and_second, find_below}
use Rattle.rk_tree.proofs.TextLemmas.{told_apart}
use Rattle.rk_base.proofs.CanonicalLemmas.{both as all_true}

both : (a b : Bool) → T a → T b → T (a && b)
both true b h k = k
both false b h k = absurd h

-- The snapshot of a tree.

abbrev pub found_row : Text → Option Node → Option (Text × Node)
found_row path o = option_map (λ it. (path, it)) o

abbrev pub and_row : Option (Text × Node) → List (Text × Node) → List (Text × Node)
and_row None rows = rows
and_row (Some row) rows = row ∷ rows

-- what a filtered row has
find-found : (nodes : List Node) (q : Text) (rows : List (Text × ℕ)) → T (is_sorted text_cmp rows) → find text_cmp q (filter_map (entry_row nodes) rows) ≡ option_and_then (slice_get nodes) (find text_cmp q rows)
find-found nodes q [] h = refl
find-found nodes q (row ∷ rows) h =
    let rest = find-found nodes q rows (and_second _ _ h) in
    elim (told_apart q row.0) [
      | inl same ↦
          let none : find text_cmp q rows ≡ None = ap (λ (t : Text). find text_cmp t rows) same.0 ∙ find_below row.0 rows (and_first _ _ h) in
          (elim (slice_get nodes row.1) as (λ (o : Option Node). find text_cmp q (and_row (found_row row.0 o) (filter_map (entry_row nodes) rows)) ≡ o) [
            | None ↦ rest ∙ ap (option_and_then (slice_get nodes)) none
            | Some it ↦ ap (λ (b : Bool). cond b (Some it) (find text_cmp q (filter_map (entry_row nodes) rows))) same.1
          ]) ∙ sym (ap (λ (b : Bool). option_and_then (slice_get nodes) (cond b (Some row.1) (find text_cmp q rows))) same.1)
      | inr apart ↦
          (elim (slice_get nodes row.1) as (λ (o : Option Node). find text_cmp q (and_row (found_row row.0 o) (filter_map (entry_row nodes) rows)) ≡ find text_cmp q (filter_map (entry_row nodes) rows)) [
            | None ↦ refl
            | Some it ↦ ap (λ (b : Bool). cond b (Some it) (find text_cmp q (filter_map (entry_row nodes) rows))) apart.1
          ]) ∙ rest ∙ sym (ap (λ (b : Bool). option_and_then (slice_get nodes) (cond b (Some row.1) (find text_cmp q rows))) apart.1)
    ]

-- a snapshot has at each path the node of its number
pub get-snapshot_of : (tree : Hierarchy) (q : Text) → get (snapshot_of tree) q ≡ option_and_then (node tree) (number_at tree q)
unfolding snapshot_of
get-snapshot_of tree q =
    get-found (filter_map (entry_row tree.nodes) (entries tree.paths)) q
    ∙ find-found tree.nodes q (entries tree.paths) (entries_sorted tree.paths)
    ∙ ap (option_and_then (node tree)) (sym (get-entries tree.paths q))

-- The tree of a snapshot.

below_numbered : (path : Text) (k : ℕ) (rows : List (Text × Node)) → T (below_all text_cmp path rows) → T (below_all text_cmp path (numbered k rows))
below_numbered path k [] h = tt
below_numbered path k (row ∷ rows) h = both _ _ (and_first _ _ h) (below_numbered path (k + 1) rows (and_second _ _ h))

sorted_numbered : (k : ℕ) (rows : List (Text × Node)) → T (is_sorted text_cmp rows) → T (is_sorted text_cmp (numbered k rows))
sorted_numbered k [] h = tt
sorted_numbered k (row ∷ rows) h = both _ _ (below_numbered row.0 (k + 1) rows (and_first _ _ h)) (sorted_numbered (k + 1) rows (and_second _ _ h))

get_seam : (front : List Node) (it : Node) (back : List Node) → slice_get (front ++ it ∷ back) (length front) ≡ Some it
get_seam [] it back = refl
get_seam (x ∷ front) it back = get_seam front it back

length_push : (front : List Node) (it : Node) → length (front ++ it ∷ []) ≡ length front + 1
length_push [] it = omega arith
length_push (x ∷ front) it = ap suc (length_push front it) ∙ omega arith

pub find_numbered : (front : List Node) (k : ℕ) (q : Text) (rows : List (Text × Node)) → k ≡ length front → option_and_then (slice_get (front ++ values_of rows)) (find text_cmp q (numbered k rows)) ≡ find text_cmp q rows
find_numbered front k q [] e = refl
find_numbered front k q (row ∷ rows) e =
    elim (eq_by_cmp text_cmp q row.0) as (λ (b : Bool). option_and_then (slice_get (front ++ row.1 ∷ values_of rows)) (cond b (Some k) (find text_cmp q (numbered (k + 1) rows))) ≡ cond b (Some row.1) (find text_cmp q rows)) [
      | true ↦ ap (slice_get (front ++ row.1 ∷ values_of rows)) e ∙ get_seam front row.1 (values_of rows)
      | false ↦ ap (λ (ns : List Node). option_and_then (slice_get ns) (find text_cmp q (numbered (k + 1) rows))) (sym (append_assoc front (row.1 ∷ []) (values_of rows)))
          ∙ find_numbered (front ++ row.1 ∷ []) (k + 1) q rows (ap (λ (n : ℕ). n + 1) e ∙ sym (length_push front row.1))
    ]

-- the node at a path of the tree is the snapshot's entry
pub node_at : (snapshot : Entries) (q : Text) → option_and_then (node (tree_of snapshot)) (number_at (tree_of snapshot) q) ≡ get snapshot q
unfolding tree_of
node_at snapshot q =
    ap (option_and_then (slice_get (values snapshot))) (get-found (numbered 0 (entries snapshot)) q)
    ∙ find_numbered [] 0 q (entries snapshot) refl ∙ sym (get-entries snapshot q)

-- the snapshot of the tree of a snapshot is the same again
pub snapshot_of-tree_of : (snapshot : Entries) → snapshot_of (tree_of snapshot) ≡ snapshot
snapshot_of-tree_of snapshot = same_maps _ _ (λ q. get-snapshot_of (tree_of snapshot) q ∙ node_at snapshot q)

-- A whole snapshot.

some_of : {A B : Type 0} (f : A → Option B) (o : Option A) (y : B) → option_and_then f o ≡ Some y → (x : A) × (o ≡ Some x) × (f x ≡ Some y)
some_of f None y h = cc
some_of f (Some x) y h = (x, refl, h)

pub snapshot_of-whole : (tree : Hierarchy) → IsWhole tree → IsWholeSnapshot (snapshot_of tree)
snapshot_of-whole tree whole = record {
  root_dir = ap is_dir (get-snapshot_of tree root ∙ ap (option_and_then (node tree)) whole.root_at) ∙ whole.root_dir;
  canonical = λ q it at. let s = stands q it at in whole.canonical q s.0 s.1;
  placed = λ q it at. let s = stands q it at in let p = whole.placed q s.0 s.1 in
      ap is_dir (get-snapshot_of tree (parent q) ∙ ap (option_and_then (node tree)) p.stands) ∙ p.in_dir;
  unseen = λ q h. get-snapshot_of tree q ∙ ap (option_and_then (node tree)) (whole.unseen q h);
  fit = λ q it at. let s = stands q it at in whole.fit s.0 it s.2;
} where
  stands : (q : Text) (it : Node) → get (snapshot_of tree) q ≡ Some it → (n : ℕ) × (number_at tree q ≡ Some n) × (node tree n ≡ Some it)
  stands q it at = some_of (node tree) (number_at tree q) it (sym (get-snapshot_of tree q) ∙ at)

-- The root comes first.

pub below_less : (x q : Text) (rows : List (Text × Node)) (it : Node) → T (below_all text_cmp x rows) → find text_cmp q rows ≡ Some it → T (is_lt (text_cmp x q))
below_less x q [] it h at = cc
below_less x q (row ∷ rows) it h at = elim (told_apart q row.0) [
  | inl same ↦ subst (λ (t : Text). T (is_lt (text_cmp x t))) (sym same.0) (and_first _ _ h)
  | inr apart ↦ below_less x q rows it (and_second _ _ h) (sym (ap (λ (b : Bool). cond b (Some row.1) (find text_cmp q rows)) apart.1) ∙ at)
]

not_below : (bs : Text) (b : ℕ) → b ≡ 47 → T (is_lt (text_cmp (b ∷ bs) root)) → ⊥
not_below [] b is h = subst (λ (c : ℕ). T (is_lt (text_cmp (c ∷ []) root))) is h
not_below (d ∷ ds) b is h = subst (λ (c : ℕ). T (is_lt (text_cmp (c ∷ d ∷ ds) root))) is h

pub not_below_root : (q : Text) → is_canonical q ≡ true → T (is_lt (text_cmp q root)) → ⊥
unfolding is_canonical
not_below_root [] c h = cc
not_below_root (b ∷ bs) c h = not_below bs b (eqb-true b 47 (all_true _ _ c).0) h
