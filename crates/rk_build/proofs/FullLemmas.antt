-- What a build finds and what its run leaves, in full.
use Rattle.std.proofs.Common.{◌≡◌, List, [], ◌∷◌, map, Bool, true, false, cond, Option, Some, None, option_map, refl, sym, ap, subst, ◌∙◌}
use Rattle.std.specs.Cmp.Lexicographic.{nat_list_cmp_total}
use Rattle.std.specs.FinMap.{entries, get, get-insert, insert}
use Rattle.std.specs.List.{cons_option, filter_map}
use Rattle.std.specs.Ordering.{eq_by_cmp}
use Rattle.rk_base.specs.Text.{Text, text_cmp, parent}
use Rattle.rk_tree.specs.Copies.{put_found, snapshot_of as entries_of}
use Rattle.rk_tree.specs.Entries.{Entries, IsWholeSnapshot, is_dir}
use Rattle.rk_tree.specs.Full.{Told, AreFrom, EntriesFrom, From, full_entries, full_node, full_row, in_full, own}
use Rattle.rk_tree.specs.Hierarchy.{held_in}
use Rattle.rk_tree.specs.Node.{Node as Entry, File, Dir, Link}
use Rattle.rk_tree.proofs.EntriesLemmas.{full-own, get-full, rows-full, snapshot-full, tree-from, tree-full, whole-full}
use Rattle.rk_tree.proofs.FullLemmas.{dir-of}
use Rattle.rk_tree.proofs.RowsLemmas.{same_maps}
use Rattle.rk_attrs.specs.declared.rows.AttrRow.{AttrRow}
use Rattle.rk_attrs.specs.declared.rows.AttrRow.TheVariants as row
use Rattle.rk_folder.specs.Attributes.{put_by, with_row, with_rows}
use Rattle.rk_folder.specs.Import.{listed_of, snapshot_of, told_of}
use Rattle.rk_folder.specs.Told.{Held}
use Rattle.rk_folder.proofs.ListedLemmas.{listed-full}
use Rattle.rk_kernel.specs.Full.{full_world}
use Rattle.rk_kernel.specs.World.{World, fresh, fresh_world}
use Rattle.rk_changes.specs.Attributes.{attr_row, attrs_of}
use Rattle.rk_changes.specs.Holdings.{full_holding}
use Rattle.rk_changes.specs.Imported.{holding_of, listed_holding}
use Rattle.rk_changes.specs.declared.holding.Holding.{Holding}
use Rattle.tr_record.specs.declared.records.Record.{Record}
use Rattle.rk_build.specs.Fresh.{attrs_bytes, held_after}

-- Rows of attributes.

module _ (told : Told) where
  put-by-full : (it : AttrRow) (in_dir : Bool) (o : Option Entry) → in_full told (put_by it in_dir o) ≡ put_by it in_dir (in_full told o)
  put-by-full (row.FileMode mode) in_dir None = refl
  put-by-full (row.FileMode mode) in_dir (Some (File old content)) = refl
  put-by-full (row.FileMode mode) in_dir (Some (Dir old)) = refl
  put-by-full (row.FileMode mode) in_dir (Some (Link text)) = refl
  put-by-full (row.DirMode mode) in_dir None = refl
  put-by-full (row.DirMode mode) in_dir (Some (File old content)) = refl
  put-by-full (row.DirMode mode) in_dir (Some (Dir old)) = refl
  put-by-full (row.DirMode mode) in_dir (Some (Link text)) = refl
  put-by-full (row.Link text) true None = refl
  put-by-full (row.Link text) false None = refl
  put-by-full (row.Link text) in_dir (Some it) = refl

  cond-full : (b : Bool) (it : Entry) (o : Option Entry) → in_full told (cond b (Some it) o) ≡ cond b (Some (full_node told it)) (in_full told o)
  cond-full true it o = refl
  cond-full false it o = refl

  put-full : (snapshot : Entries) (path : Text) (o : Option Entry) → full_entries told (put_found snapshot path o) ≡ put_found (full_entries told snapshot) path (in_full told o)
  put-full snapshot path None = refl
  put-full snapshot path (Some it) = same_maps _ _ (λ q.
      get-full told (insert snapshot path it) q
      ∙ ap (in_full told) (get-insert nat_list_cmp_total snapshot path it q)
      ∙ cond-full (eq_by_cmp text_cmp q path) it (get snapshot q)
      ∙ ap (λ (o : Option Entry). cond (eq_by_cmp text_cmp q path) (Some (full_node told it)) o) (sym (get-full told snapshot q))
      ∙ sym (get-insert nat_list_cmp_total (full_entries told snapshot) path (full_node told it) q))

  dirs-same : (snapshot : Entries) (q : Text) → is_dir (get (full_entries told snapshot) q) ≡ is_dir (get snapshot q)
  dirs-same snapshot q = ap is_dir (get-full told snapshot q) ∙ dir-of told (get snapshot q)

  row-full : (snapshot : Entries) (row : Text × AttrRow) → full_entries told (with_row snapshot row) ≡ with_row (full_entries told snapshot) row
  row-full snapshot row =
      put-full snapshot row.0 (put_by row.1 (is_dir (get snapshot (parent row.0))) (get snapshot row.0))
      ∙ ap (put_found (full_entries told snapshot) row.0) (
      put-by-full row.1 (is_dir (get snapshot (parent row.0))) (get snapshot row.0)
      ∙ ap (put_by row.1 (is_dir (get snapshot (parent row.0)))) (sym (get-full told snapshot row.0))
      ∙ ap (λ (d : Bool). put_by row.1 d (get (full_entries told snapshot) row.0)) (sym (dirs-same snapshot (parent row.0)))
      )

  pub with_rows-full : (snapshot : Entries) (rows : List (Text × AttrRow)) → full_entries told (with_rows snapshot rows) ≡ with_rows (full_entries told snapshot) rows
  with_rows-full snapshot [] = refl
  with_rows-full snapshot (row ∷ rows) = with_rows-full (with_row snapshot row) rows ∙ ap (λ (s : Entries). with_rows s rows) (row-full snapshot row)

  -- What was read is what is told, and what wasn't can be read, with the rows as well.

  put-by-from : (it : AttrRow) (in_dir : Bool) (o : Option Entry) → From told (held_in o) → From told (held_in (put_by it in_dir o))
  put-by-from (row.FileMode mode) in_dir None from = tt
  put-by-from (row.FileMode mode) in_dir (Some (File old content)) from = from
  put-by-from (row.FileMode mode) in_dir (Some (Dir old)) from = tt
  put-by-from (row.FileMode mode) in_dir (Some (Link text)) from = tt
  put-by-from (row.DirMode mode) in_dir None from = tt
  put-by-from (row.DirMode mode) in_dir (Some (File old content)) from = tt
  put-by-from (row.DirMode mode) in_dir (Some (Dir old)) from = tt
  put-by-from (row.DirMode mode) in_dir (Some (Link text)) from = tt
  put-by-from (row.Link text) true None from = tt
  put-by-from (row.Link text) false None from = tt
  put-by-from (row.Link text) in_dir (Some it) from = tt

  cond-from : (b : Bool) (it : Entry) (o : Option Entry) → From told (held_in (Some it)) → From told (held_in o) → From told (held_in (cond b (Some it) o))
  cond-from true it o here there = here
  cond-from false it o here there = there

  put-from : (snapshot : Entries) (path : Text) (o : Option Entry) → EntriesFrom (Some told) snapshot → From told (held_in o) → EntriesFrom (Some told) (put_found snapshot path o)
  put-from snapshot path None all from = all
  put-from snapshot path (Some it) all from = λ q. subst (λ (o : Option Entry). From told (held_in o)) (sym (get-insert nat_list_cmp_total snapshot path it q)) (cond-from (eq_by_cmp text_cmp q path) it (get snapshot q) from (all q))

  rows-told : (snapshot : Entries) (rows : List (Text × AttrRow)) → EntriesFrom (Some told) snapshot → EntriesFrom (Some told) (with_rows snapshot rows)
  rows-told snapshot [] all = all
  rows-told snapshot (row ∷ rows) all = rows-told (with_row snapshot row) rows (put-from snapshot row.0 _ all (put-by-from row.1 (is_dir (get snapshot (parent row.0))) (get snapshot row.0) (all row.0)))

pub with_rows-from : (o : Option Told) (snapshot : Entries) (rows : List (Text × AttrRow)) → EntriesFrom o snapshot → EntriesFrom o (with_rows snapshot rows)
with_rows-from None snapshot rows all = tt
with_rows-from (Some told) snapshot rows all = rows-told told snapshot rows all

-- of the world in which nothing has run
pub fresh-from : (o : Option Told) (snapshot : Entries) (rows : List (Text × AttrRow)) (world : World) → world ≡ fresh_world (with_rows snapshot rows) → EntriesFrom o snapshot → AreFrom o world.tree
fresh-from o snapshot rows world is all = subst (λ (w : World). AreFrom o w.tree) (sym is) (tree-from o (with_rows snapshot rows) (with_rows-from o snapshot rows all))

-- Worlds.

module _ (told : Told) where
  pub fresh-full : (snapshot : Entries) → full_world told (fresh_world snapshot) ≡ fresh_world (full_entries told snapshot)
  unfolding full_world
  fresh-full snapshot = ap fresh (tree-full told snapshot)

  pub out-full : (world : World) → (full_world told world).out ≡ world.out
  unfolding full_world
  out-full world = refl

  pub err-full : (world : World) → (full_world told world).err ≡ world.err
  unfolding full_world
  err-full world = refl

  pub entries-full : (world : World) → entries_of (full_world told world).tree ≡ full_entries told (entries_of world.tree)
  unfolding full_world
  entries-full world = sym (snapshot-full told world.tree)

  -- each file has its bytes already
  pub entries-own : (world : World) → own (entries_of (full_world told world).tree) ≡ entries_of (full_world told world).tree
  entries-own world = ap own (entries-full world) ∙ full-own told (entries_of world.tree) ∙ sym (entries-full world)

  -- What is to be held.

  attr-full : (place : Text × Entry) → attr_row (full_row told place) ≡ attr_row place
  attr-full place = (elim place.1 as (λ (it : Entry). attr_row (place.0, full_node told it) ≡ attr_row (place.0, it)) [
    | File mode content ↦ refl
    | Dir mode ↦ refl
    | Link text ↦ refl
  ])

  mapped : (places : List (Text × Entry)) → filter_map attr_row (map (full_row told) places) ≡ filter_map attr_row places
  mapped [] = refl
  mapped (place ∷ places) = λ i. cons_option (attr-full place i) (mapped places i)

  attrs-full : (snapshot : Entries) → attrs_of (full_entries told snapshot) ≡ attrs_of snapshot
  attrs-full snapshot = ap (filter_map attr_row) (rows-full told snapshot) ∙ mapped (entries snapshot)

  -- the rows of attributes and the tables are the same
  pub held_after-full : (world : World) (kept : List (List Record)) → held_after (full_world told world) kept ≡ full_holding told (held_after world kept)
  held_after-full world kept =
      ap (λ (s : Entries). record { entries = s; rkr = true; state = record { db = (held_after world kept).state.db; attrs = attrs_bytes (attrs_of s); install = None; fresh_list = false } }) (entries-full world)
      ∙ ap (λ (rows : List (Text × AttrRow)). record { entries = full_entries told (entries_of world.tree); rkr = true; state = record { db = (held_after world kept).state.db; attrs = attrs_bytes rows; install = None; fresh_list = false } }) (attrs-full (entries_of world.tree))

  pub whole-left : (world : World) → IsWholeSnapshot (entries_of world.tree) → IsWholeSnapshot (entries_of (full_world told world).tree)
  whole-left world whole = subst IsWholeSnapshot (sym (entries-full world)) (whole-full told (entries_of world.tree) whole)

-- What is imported of a folder.

-- in full it is what the folder holds
pub listed_holding-full : (fresh : Bool) (held : Held) → full_holding (told_of held) (listed_holding fresh held) ≡ holding_of fresh held
listed_holding-full fresh held = ap (λ (s : Entries). record { entries = s; rkr = (holding_of fresh held).rkr; state = (holding_of fresh held).state }) (listed-full held).0

pub listed_rows-full : (held : Held) (rows : List (Text × AttrRow)) → full_entries (told_of held) (with_rows (listed_of held) rows) ≡ with_rows (snapshot_of held) rows
listed_rows-full held rows = with_rows-full (told_of held) (listed_of held) rows ∙ ap (λ (s : Entries). with_rows s rows) (listed-full held).0

-- and each file can be read
pub listed_holding-from : (told : Option Held) (holding : Holding) (fresh : Bool) → Rattle.std.specs.Prelude.IfSome told (λ held. holding ≡ listed_holding fresh held) → EntriesFrom (option_map told_of told) holding.entries
listed_holding-from None holding fresh is = tt
listed_holding-from (Some held) holding fresh is = subst (λ (h : Holding). EntriesFrom (Some (told_of held)) h.entries) (sym is) (listed-full held).1
