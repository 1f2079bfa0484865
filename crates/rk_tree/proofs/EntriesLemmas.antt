-- What stands at paths, and trees, in full.
use Rattle.std.proofs.Common.{◌≡◌, ℕ, zero, suc, List, [], ◌∷◌, map, Bool, true, false, cond, Option, Some, None, inl, inr, refl, sym, ap, subst, ◌∙◌}
use Rattle.std.specs.Prelude.{◌+◌, slice_get}
use Rattle.std.specs.Option.{option_and_then}
use Rattle.std.specs.Ordering.{is_lt, eq_by_cmp}
use Rattle.std.specs.FinMap.{empty, entries, entries_sorted, find, get, get-empty, get-entries, is_sorted}
use Rattle.std.specs.FinMap.Entries.{below_all}
use Rattle.std.specs.Map.{values_of}
use lib.Dec.{T}
use Rattle.rk_base.specs.Text.{Text, text_cmp, parent}
use Rattle.rk_tree.specs.Content.{Content, Own, Unread, Read, bytes_of}
use Rattle.rk_tree.specs.Copies.{numbered, snapshot_of, tree_of}
use Rattle.rk_tree.specs.Entries.{Entries, IsFit, IsWholeSnapshot, is_dir}
use Rattle.rk_tree.specs.Full.{Told, From, AreFrom, EntriesFrom, bytes_at, full, full_content, full_entries, full_node, full_row, in_full, own}
use Rattle.rk_tree.specs.Hierarchy.{Hierarchy, held_in, node, number_at}
use Rattle.rk_tree.specs.Node.{Node, File, Dir, Link}
use Rattle.rk_tree.specs.Rows.{map_of}
use Rattle.rk_tree.proofs.CopiesLemmas.{get-snapshot_of}
use Rattle.rk_tree.proofs.FullLemmas.{dir-of, node-full}
use Rattle.rk_tree.proofs.RowsLemmas.{and_first, and_second, entries-sorted_map, find_below, get-found, same_maps}
use Rattle.rk_tree.proofs.TextLemmas.{ties_itself, told_apart}

-- a node with the bytes that are known as its own
abbrev pub own_node : Node → Node
own_node (File mode content) = File mode (Own (bytes_of content))
own_node (Dir mode) = Dir mode
own_node (Link text) = Link text

module _ (told : Told) where
  find-full : (rows : List (Text × Node)) (q : Text) → find text_cmp q (map (full_row told) rows) ≡ in_full told (find text_cmp q rows)
  find-full [] q = refl
  find-full (row ∷ rows) q = (elim (eq_by_cmp text_cmp q row.0) as (λ (b : Bool). cond b (Some (full_node told row.1)) (find text_cmp q (map (full_row told) rows)) ≡ in_full told (cond b (Some row.1) (find text_cmp q rows))) [
    | true ↦ refl
    | false ↦ find-full rows q
  ])

  -- what stands at a path in full
  pub get-full : (snapshot : Entries) (q : Text) → get (full_entries told snapshot) q ≡ in_full told (get snapshot q)
  unfolding full_entries
  get-full snapshot q = get-found (map (full_row told) (entries snapshot)) q ∙ find-full (entries snapshot) q ∙ ap (in_full told) (sym (get-entries snapshot q))

  below-full : (k : Text) (rows : List (Text × Node)) → below_all text_cmp k (map (full_row told) rows) ≡ below_all text_cmp k rows
  below-full k [] = refl
  below-full k (row ∷ rows) = ap (λ (b : Bool). Rattle.std.specs.Prelude.◌&&◌ (is_lt (text_cmp k row.0)) b) (below-full k rows)

  sorted-full : (rows : List (Text × Node)) → is_sorted text_cmp (map (full_row told) rows) ≡ is_sorted text_cmp rows
  sorted-full [] = refl
  sorted-full (row ∷ rows) = λ i. Rattle.std.specs.Prelude.◌&&◌ (below-full row.0 rows i) (sorted-full rows i)

  -- its rows
  pub rows-full : (snapshot : Entries) → entries (full_entries told snapshot) ≡ map (full_row told) (entries snapshot)
  unfolding full_entries
  rows-full snapshot = entries-sorted_map (map (full_row told) (entries snapshot)) (subst T (sym (sorted-full (entries snapshot))) (entries_sorted snapshot))

  -- Trees of what stands at paths.

  numbered-full : (k : ℕ) (rows : List (Text × Node)) → numbered k (map (full_row told) rows) ≡ numbered k rows
  numbered-full k [] = refl
  numbered-full k (row ∷ rows) = ap (λ (more : List (Text × ℕ)). (row.0, k) ∷ more) (numbered-full (k + 1) rows)

  values-full : (rows : List (Text × Node)) → map (λ (row : Text × Node). row.1) (map (full_row told) rows) ≡ map (full_node told) (map (λ (row : Text × Node). row.1) rows)
  values-full [] = refl
  values-full (row ∷ rows) = ap (λ (more : List Node). full_node told row.1 ∷ more) (values-full rows)

  pub tree-full : (snapshot : Entries) → full told (tree_of snapshot) ≡ tree_of (full_entries told snapshot)
  unfolding full tree_of
  tree-full snapshot = sym (
      ap (λ (rows : List (Text × Node)). record { paths = map_of (numbered 0 rows); nodes = map (λ (row : Text × Node). row.1) rows }) (rows-full snapshot)
      ∙ λ i. record { paths = map_of (numbered-full 0 (entries snapshot) i); nodes = values-full (entries snapshot) i }
      )

  then-full : (tree : Hierarchy) (o : Option ℕ) → in_full told (option_and_then (node tree) o) ≡ option_and_then (node (full told tree)) o
  then-full tree None = refl
  then-full tree (Some n) = sym (node-full told tree n)

  paths-full : (tree : Hierarchy) (q : Text) → number_at (full told tree) q ≡ number_at tree q
  unfolding full
  paths-full tree q = refl

  pub snapshot-full : (tree : Hierarchy) → full_entries told (snapshot_of tree) ≡ snapshot_of (full told tree)
  snapshot-full tree = same_maps _ _ (λ q.
      get-full (snapshot_of tree) q
      ∙ ap (in_full told) (get-snapshot_of tree q)
      ∙ then-full tree (number_at tree q)
      ∙ ap (option_and_then (node (full told tree))) (sym (paths-full tree q))
      ∙ sym (get-snapshot_of (full told tree) q))

  -- What is whole is whole in full.

  full-some : (o : Option Node) (it : Node) → in_full told o ≡ Some it → (was : Node) × (o ≡ Some was) × (it ≡ full_node told was)
  full-some None it is = cc
  full-some (Some was) it is = (was, refl, let q : full_node told was ≡ it = cc in sym q)

  fit-full : (it : Node) → IsFit it → IsFit (full_node told it)
  fit-full (File mode content) h = h
  fit-full (Dir mode) h = h
  fit-full (Link text) h = h

  dirs-full : (snapshot : Entries) (q : Text) → is_dir (get (full_entries told snapshot) q) ≡ is_dir (get snapshot q)
  dirs-full snapshot q = ap is_dir (get-full snapshot q) ∙ dir-of told (get snapshot q)

  pub whole-full : (snapshot : Entries) → IsWholeSnapshot snapshot → IsWholeSnapshot (full_entries told snapshot)
  whole-full snapshot whole = record {
    root_dir = dirs-full snapshot _ ∙ whole.root_dir;
    canonical = λ path it at. let was = full-some (get snapshot path) it (sym (get-full snapshot path) ∙ at) in whole.canonical path was.0 was.1;
    placed = λ path it at. let was = full-some (get snapshot path) it (sym (get-full snapshot path) ∙ at) in dirs-full snapshot (parent path) ∙ whole.placed path was.0 was.1;
    unseen = λ path within. get-full snapshot path ∙ ap (in_full told) (whole.unseen path within);
    fit = λ path it at. let was = full-some (get snapshot path) it (sym (get-full snapshot path) ∙ at) in subst IsFit (sym was.2) (fit-full was.0 (whole.fit path was.0 was.1));
  }

  -- What is from what is told.

  then-from : (tree : Hierarchy) (o : Option ℕ) → AreFrom (Some told) tree → From told (held_in (option_and_then (node tree) o))
  then-from tree None all = tt
  then-from tree (Some n) all = all n

  snapshot-told : (tree : Hierarchy) → AreFrom (Some told) tree → EntriesFrom (Some told) (snapshot_of tree)
  snapshot-told tree all path = subst (λ (o : Option Node). From told (held_in o)) (sym (get-snapshot_of tree path)) (then-from tree (number_at tree path) all)

-- the bytes of a file are its own
pub node-own : (it : Node) → full_node empty it ≡ own_node it
node-own (File mode (Own bytes)) = refl
node-own (File mode (Unread path)) = ap (λ (o : Option Text). File mode (Own (bytes_at o))) (get-empty text_cmp path)
node-own (File mode (Read path bytes)) = refl
node-own (Dir mode) = refl
node-own (Link text) = refl

twice-content : (told : Told) (it : Content) → full_content empty (full_content told it) ≡ full_content told it
twice-content told (Own bytes) = refl
twice-content told (Unread path) = refl
twice-content told (Read path bytes) = refl

twice-node : (told : Told) (o : Option Node) → in_full empty (in_full told o) ≡ in_full told o
twice-node told None = refl
twice-node told (Some (File mode content)) = ap (λ (c : Content). Some (File mode c)) (twice-content told content)
twice-node told (Some (Dir mode)) = refl
twice-node told (Some (Link text)) = refl

-- in full they are so already
pub full-own : (told : Told) (snapshot : Entries) → own (full_entries told snapshot) ≡ full_entries told snapshot
full-own told snapshot = same_maps _ _ (λ q.
    get-full empty (full_entries told snapshot) q
    ∙ ap (in_full empty) (get-full told snapshot q)
    ∙ twice-node told (get snapshot q)
    ∙ sym (get-full told snapshot q))

-- the nodes of sorted rows are from what is told where what they have at each path is
values-from : (told : Told) (rows : List (Text × Node)) → T (is_sorted text_cmp rows) → ((q : Text) → From told (held_in (find text_cmp q rows))) → (n : ℕ) → From told (held_in (slice_get (values_of rows) n))
values-from told [] h all n = tt
values-from told (row ∷ rows) h all zero = subst (λ (b : Bool). From told (held_in (cond b (Some row.1) (find text_cmp row.0 rows)))) (ties_itself row.0) (all row.0)
values-from told (row ∷ rows) h all (suc n) = values-from told rows (and_second _ _ h) (λ q. elim (told_apart q row.0) [
  | inl same ↦ subst (λ (o : Option Node). From told (held_in o)) (sym (ap (λ (t : Text). find text_cmp t rows) same.0 ∙ find_below row.0 rows (and_first _ _ h))) tt
  | inr apart ↦ subst (λ (b : Bool). From told (held_in (cond b (Some row.1) (find text_cmp q rows)))) apart.1 (all q)
]) n

tree-told : (told : Told) (snapshot : Entries) → EntriesFrom (Some told) snapshot → AreFrom (Some told) (tree_of snapshot)
unfolding tree_of
tree-told told snapshot all n = values-from told (entries snapshot) (entries_sorted snapshot) (λ q. subst (λ (o : Option Node). From told (held_in o)) (get-entries snapshot q) (all q)) n

pub tree-from : (o : Option Told) (snapshot : Entries) → EntriesFrom o snapshot → AreFrom o (tree_of snapshot)
tree-from None snapshot all = tt
tree-from (Some told) snapshot all = tree-told told snapshot all

pub snapshot-from : (o : Option Told) (tree : Hierarchy) → AreFrom o tree → EntriesFrom o (snapshot_of tree)
snapshot-from None tree all = tt
snapshot-from (Some told) tree all = snapshot-told told tree all
