-- The calls that the entries bring: removals, then directories, then files.
use Rattle.std.proofs.Common.{◌≡◌, List, [], ◌∷◌, ◌++◌, reverse, Bool, true, false, cond, not, ◌&&◌, ◌||◌, ◌⊎◌, inl, inr, Option, Some, None, refl, sym, ap, subst, ◌∙◌}
use Rattle.std.specs.List.{filter_map, list_all}
use Rattle.std.specs.declared.cmp.Ordering.TheVariants.{Less}
use Rattle.std.specs.FinMap.{find, get, entries, get-entries, entries_sorted}
use Rattle.rk_base.specs.Text.{Text, text_cmp, root, is_root, parent, name_of, is_in, is_within, same_text}
use Rattle.rk_base.specs.Canonical.{is_empty}
use Rattle.rk_base.proofs.PathLemmas.{path-is_cut, is_in-is}
use Rattle.rk_base.proofs.CanonicalLemmas.{both}
use Rattle.rk_folder.specs.Told.{Held, standing, is_file, is_dir, is_nothing, can_hold, items_of, item_in, item_of, is_odd, odd_in}
use Rattle.rk_folder.specs.declared.folder.Item.{Item}
use Rattle.rk_folder.specs.declared.folder.Item.TheVariants as item
use Rattle.rk_folder.specs.declared.folder.Standing.{Standing}
use Rattle.rk_folder.specs.declared.folder.Standing.TheVariants as standing
use Rattle.rk_tree.specs.Content.{bytes_of}
use Rattle.rk_tree.specs.Entries as tree
use Rattle.rk_tree.specs.Node.{Node as Entry, File, Dir, Link}
use Rattle.rk_tree.proofs.TextLemmas.{same_is, within-join, root_seen, hidden-back}
use Rattle.rk_seal.specs.declared.ops.Op.{Op}
use Rattle.rk_seal.specs.declared.ops.Op.TheVariants.{RemoveFile, RemoveDir, MakeDir, Write}
use Rattle.rk_changes.specs.declared.holding.Holding.{Holding}
use Rattle.rk_seal.specs.Effects.{allowed, after_all, AllowsAll}
use Rattle.rk_changes.specs.Holdings.{placed, hidden_dir, MayBecome}
use Rattle.rk_changes.specs.Planned.{removal, making, writing, removal_of, making_of, writing_of, is_file_of}
use Rattle.rk_changes.proofs.HiddenLemmas.{hidden_parent}
use Rattle.rk_changes.proofs.OrderLemmas.{clash, parent-less, none_made}
use Rattle.rk_changes.proofs.ReachLemmas.{made, standing-after, at_end-rows, at_end-rows_back}
use Rattle.rk_changes.proofs.AllowLemmas.{allows-rows, allows-rows_back}
use Rattle.rk_changes.proofs.EffectLemmas.{chosen, not_spared, removals_keep, makings_keep, writings_keep, stood_before, removed, dir_made, written, as_removed, as_made, as_written, removed_all, room_for_dir, room_for_file, dirs_stand, dirs_stay, all_stand, placed_dir}

absent : {X : Type 0} (it : X) → None ≡ Some it → ⊥
absent it e = cc

none_of : (op : Op) → None ≡ Some op → ⊥
none_of op e = cc

-- a directory outside the hidden one holds no odd name
not_odd : (path : Text) (odd : List Text) → is_within hidden_dir path ≡ false → list_all (λ dir. is_within hidden_dir dir) odd ≡ true → is_odd path odd ≡ false
not_odd path [] out h = refl
not_odd path (dir ∷ odd) out h = elim (same_text dir path) as (λ (b : Bool). same_text dir path ≡ b → (b || is_odd path odd) ≡ false) [
  | true ↦ λ e. absurd (clash _ (both _ _ h).0 (ap (is_within hidden_dir) (same_is dir path e) ∙ out))
  | false ↦ λ e. not_odd path odd out (both _ _ h).1
] refl

three : (a b c : Bool) → a ≡ true → b ≡ false → c ≡ true → (a && not b && c) ≡ true
three a b c p q r = ap (λ (x : Bool). x && not b && c) p ∙ ap (λ (x : Bool). not x && c) q ∙ r

two : (a b : Bool) → a ≡ true → b ≡ true → (a && b) ≡ true
two a b p q = ap (λ (x : Bool). x && b) p ∙ q

no_items : (held : Held) (dir : Text) → filter_map (item_in dir) (entries held.places) ≡ [] → is_odd dir held.odd ≡ false → is_empty (items_of held dir) ≡ true
no_items held dir none plain =
    ap (λ (items : List Item). is_empty (items ++ odd_in held.odd dir)) none
    ∙ ap (λ (b : Bool). is_empty (cond b (item.Odd ∷ []) [])) plain

module _ (held : Held) (before after : Holding) (ready : MayBecome held before after) where
  -- an entry isn't hidden
  pub old_outside : (path : Text) (entry : Entry) → get before.entries path ≡ Some entry → is_within hidden_dir path ≡ false
  old_outside path entry h = elim (is_within hidden_dir path) as (λ (b : Bool). is_within hidden_dir path ≡ b → b ≡ false) [
    | true ↦ λ e. absurd (absent entry (sym (ready.holds.unseen path e) ∙ h))
    | false ↦ λ e. refl
  ] refl

  pub new_outside : (path : Text) (entry : Entry) → get after.entries path ≡ Some entry → is_within hidden_dir path ≡ false
  new_outside path entry h = elim (is_within hidden_dir path) as (λ (b : Bool). is_within hidden_dir path ≡ b → b ≡ false) [
    | true ↦ λ e. absurd (absent entry (sym (ready.built.entries.unseen path e) ∙ h))
    | false ↦ λ e. refl
  ] refl

  dir_outside : (path : Text) → tree.is_dir (get after.entries path) ≡ true → is_within hidden_dir path ≡ false
  dir_outside path h = elim (get after.entries path) as (λ (it : Option Entry). get after.entries path ≡ it → tree.is_dir it ≡ true → is_within hidden_dir path ≡ false) [
    | None ↦ λ e k. cc
    | Some entry ↦ λ e k. new_outside path entry e
  ] refl h

  -- the root is a directory before and afterwards
  old_root : is_dir (placed (get before.entries root)) ≡ true
  old_root = ap is_dir (sym (ready.holds.outside root root_seen)) ∙ ready.whole.root_dir

  new_root : is_dir (placed (get after.entries root)) ≡ true
  new_root = placed_dir (get after.entries root) ready.built.entries.root_dir

  not_root : (it : Option Standing) (path : Text) → (path ≡ root → it ≡ placed (get after.entries root)) → is_dir it ≡ false → is_root path ≡ false
  not_root it path at h = elim (is_root path) as (λ (b : Bool). is_root path ≡ b → b ≡ false) [
    | true ↦ λ e. absurd (clash _ new_root (ap is_dir (sym (at (same_is path root e))) ∙ h))
    | false ↦ λ e. refl
  ] refl

  new_at_root : (path : Text) → path ≡ root → placed (get after.entries path) ≡ placed (get after.entries root)
  new_at_root path e = ap (λ (p : Text). placed (get after.entries p)) e

  -- Removals.

  unfoldable pub removals : List Op
  removals = reverse (filter_map (removal_of after.entries) (entries before.entries))

  -- what stands in a directory that isn't to stand goes before it
  no_child : (path : Text) (entry : Entry) (now : Held) (child : Text) (it : Standing) → get before.entries path ≡ Some entry → is_dir (placed (get after.entries path)) ≡ false
      → ((q : Text) → text_cmp path q ≡ Less → standing now q ≡ made (removal_of after.entries) q (find text_cmp q (entries before.entries)) (standing held q))
      → ((q : Text) → (standing now q ≡ standing held q) ⊎ (standing now q ≡ made (removal_of after.entries) q (find text_cmp q (entries before.entries)) (standing held q)))
      → standing now child ≡ Some it → is_in path child ≡ true → ⊥
  no_child path entry now child it old gone upper any here inside =
      let in_dir = is_in-is path child inside in
      let stood : is_nothing (standing held child) ≡ false = elim (any child) [
        | inl same ↦ ap is_nothing (sym same ∙ here)
        | inr left ↦ stood_before after.entries child (find text_cmp child (entries before.entries)) (standing held child) (ap is_nothing (sym left ∙ here))
      ] in
      let canonical = ready.whole.paths child stood in
      let less : text_cmp path child ≡ Less = ap (λ (p : Text). text_cmp p child) (sym in_dir.1) ∙ parent-less child canonical in_dir.0 in
      let cut = path-is_cut child canonical in_dir.0 in
      let path_outside = old_outside path entry old in
      let path_not_root : path ≡ root → ⊥ = λ e. clash _ new_root (ap is_dir (sym (new_at_root path e)) ∙ gone) in
      let outside : is_within hidden_dir child ≡ false = elim (is_within hidden_dir child) as (λ (b : Bool). is_within hidden_dir child ≡ b → b ≡ false) [
        | true ↦ λ e. elim (within-join hidden_dir (parent child) (name_of child) hidden-back cut.dir cut.name (ap (is_within hidden_dir) cut.whole ∙ e)) [
          | inl same ↦ absurd (path_not_root (sym in_dir.1 ∙ ap parent (sym cut.whole ∙ same) ∙ hidden_parent))
          | inr above ↦ absurd (clash _ above (ap (is_within hidden_dir) in_dir.1 ∙ path_outside))
        ]
        | false ↦ λ e. refl
      ] refl in
      let new_none : get after.entries child ≡ None = elim (get after.entries child) as (λ (found : Option Entry). get after.entries child ≡ found → found ≡ None) [
        | None ↦ λ e. refl
        | Some found ↦ λ e. absurd (clash _ (placed_dir _ (ready.built.entries.placed child found e)) (ap (λ (p : Text). is_dir (placed (get after.entries p))) in_dir.1 ∙ gone))
      ] refl in
      let left : standing now child ≡ None =
      upper child less
      ∙ ap (λ (found : Option Entry). made (removal_of after.entries) child found (standing held child)) (sym (get-entries before.entries child))
      ∙ as_removed after.entries child (get before.entries child) (standing held child)
      ∙ ap (λ (found : Option Entry). removed child (get before.entries child) (placed found) (standing held child)) new_none
      ∙ ap (removed child (get before.entries child) None) (ready.holds.outside child outside)
      ∙ removed_all child (get before.entries child) in
      absent it (sym left ∙ here)

  allows_removal : (path : Text) (entry : Entry) (op : Op) (now : Held) → get before.entries path ≡ Some entry → removal path entry (placed (get after.entries path)) ≡ Some op → now.odd ≡ held.odd → standing now path ≡ standing held path
      → ((q : Text) → text_cmp path q ≡ Less → standing now q ≡ made (removal_of after.entries) q (find text_cmp q (entries before.entries)) (standing held q))
      → ((q : Text) → (standing now q ≡ standing held q) ⊎ (standing now q ≡ made (removal_of after.entries) q (find text_cmp q (entries before.entries)) (standing held q)))
      → allowed op now ≡ true
  allows_removal path (File mode content) op now old e odd own upper any =
      let stands : standing now path ≡ Some (standing.File (bytes_of content)) = own ∙ ready.holds.outside path (old_outside path (File mode content) old) ∙ ap placed old in
      subst (λ (o : Op). allowed o now ≡ true) (chosen (is_file (placed (get after.entries path))) (RemoveFile path) op e) (ap is_file stands)
  allows_removal path (Dir mode) op now old e odd own upper any =
      let outside = old_outside path (Dir mode) old in
      let stands : standing now path ≡ Some standing.Dir = own ∙ ready.holds.outside path outside ∙ ap placed old in
      let gone = not_spared (is_dir (placed (get after.entries path))) (RemoveDir path) op e in
      let none : filter_map (item_in path) (entries now.places) ≡ [] = none_made (item_in path) (entries now.places) (entries_sorted now.places) (λ row found.
      elim (is_in path row.0) as (λ (b : Bool). is_in path row.0 ≡ b → cond b (Some (item_of (name_of row.0) row.1)) None ≡ None) [
        | true ↦ λ inside. absurd (no_child path (Dir mode) now row.0 row.1 old gone upper any (get-entries now.places row.0 ∙ found) inside)
        | false ↦ λ inside. refl
      ] refl) in
      subst (λ (o : Op). allowed o now ≡ true) (chosen (is_dir (placed (get after.entries path))) (RemoveDir path) op e) (
      three _ _ _ (ap is_dir stands) (not_root (placed (get after.entries path)) path (new_at_root path) gone)
      (no_items now path none (ap (is_odd path) odd ∙ not_odd path held.odd outside ready.odd)))
  allows_removal path (Link text) op now old e odd own upper any = absurd (none_of op e)

  pub removals_allowed : AllowsAll removals held
  unfolding removals
  removals_allowed = allows-rows_back (removal_of after.entries) (removals_keep after.entries) (entries before.entries) held
      (λ row op now found e odd own upper any. allows_removal row.0 row.1 op now (get-entries before.entries row.0 ∙ found) e odd own upper any)
      (entries before.entries) (entries_sorted before.entries) (λ q. inl refl)

  abbrev pub held_removed : Held
  held_removed = after_all removals held

  pub standing-removed : (q : Text) → standing held_removed q ≡ removed q (get before.entries q) (placed (get after.entries q)) (standing held q)
  unfolding removals
  standing-removed q =
      standing-after removals held q
      ∙ at_end-rows_back (removal_of after.entries) (removals_keep after.entries) (entries before.entries) (entries_sorted before.entries) q (standing held q)
      ∙ ap (λ (found : Option Entry). made (removal_of after.entries) q found (standing held q)) (sym (get-entries before.entries q))
      ∙ as_removed after.entries q (get before.entries q) (standing held q)

  -- Directories made.

  unfoldable pub makings : List Op
  makings = filter_map (making_of before.entries) (entries after.entries)

  -- what stands at a path outside the hidden directory, once directories were made
  abbrev with_dirs : Text → Option Standing
  with_dirs q = dir_made q (get after.entries q) (placed (get before.entries q)) (removed q (get before.entries q) (placed (get after.entries q)) (placed (get before.entries q)))

  removed_outside : (q : Text) → is_within hidden_dir q ≡ false → standing held_removed q ≡ removed q (get before.entries q) (placed (get after.entries q)) (placed (get before.entries q))
  removed_outside q out = standing-removed q ∙ ap (removed q (get before.entries q) (placed (get after.entries q))) (ready.holds.outside q out)

  made_outside : (q : Text) → is_within hidden_dir q ≡ false → made (making_of before.entries) q (find text_cmp q (entries after.entries)) (standing held_removed q) ≡ with_dirs q
  made_outside q out =
      ap (λ (found : Option Entry). made (making_of before.entries) q found (standing held_removed q)) (sym (get-entries after.entries q))
      ∙ as_made before.entries q (get after.entries q) (standing held_removed q)
      ∙ ap (dir_made q (get after.entries q) (placed (get before.entries q))) (removed_outside q out)

  allows_making : (path : Text) (entry : Entry) (op : Op) (now : Held) → get after.entries path ≡ Some entry → making path entry (placed (get before.entries path)) ≡ Some op → standing now path ≡ standing held_removed path
      → ((q : Text) → text_cmp q path ≡ Less → standing now q ≡ made (making_of before.entries) q (find text_cmp q (entries after.entries)) (standing held_removed q))
      → allowed op now ≡ true
  allows_making path (File mode content) op now new e own lower = absurd (none_of op e)
  allows_making path (Dir mode) op now new e own lower =
      let new_dir = not_spared (is_dir (placed (get before.entries path))) (MakeDir path) op e in
      let at_root : is_root path ≡ false = elim (is_root path) as (λ (b : Bool). is_root path ≡ b → b ≡ false) [
        | true ↦ λ r. absurd (clash _ old_root (ap (λ (p : Text). is_dir (placed (get before.entries p))) (sym (same_is path root r)) ∙ new_dir))
        | false ↦ λ r. refl
      ] refl in
      let less = parent-less path (ready.built.entries.canonical path (Dir mode) new) at_root in
      let in_dir = ready.built.entries.placed path (Dir mode) new in
      let free : is_nothing (standing now path) ≡ true =
      ap is_nothing (own ∙ removed_outside path (new_outside path (Dir mode) new) ∙ ap (λ (found : Option Entry). removed path (get before.entries path) (placed found) (placed (get before.entries path))) new)
      ∙ room_for_dir path (get before.entries path) new_dir in
      let within : is_dir (standing now (parent path)) ≡ true =
      ap is_dir (lower (parent path) less ∙ made_outside (parent path) (dir_outside (parent path) in_dir))
      ∙ dirs_stand (parent path) (get before.entries (parent path)) (get after.entries (parent path)) in_dir in
      subst (λ (o : Op). allowed o now ≡ true) (chosen (is_dir (placed (get before.entries path))) (MakeDir path) op e) (two _ _ free within)
  allows_making path (Link text) op now new e own lower = absurd (none_of op e)

  pub makings_allowed : AllowsAll makings held_removed
  unfolding makings
  makings_allowed = allows-rows (making_of before.entries) (makings_keep before.entries) (entries after.entries) (standing held_removed)
      (λ row op now found e own lower. allows_making row.0 row.1 op now (get-entries after.entries row.0 ∙ found) e own lower)
      (entries after.entries) (entries_sorted after.entries) held_removed (λ q. inl (refl, refl))

  abbrev pub held_made : Held
  held_made = after_all makings held_removed

  pub standing-made : (q : Text) → standing held_made q ≡ made (making_of before.entries) q (find text_cmp q (entries after.entries)) (standing held_removed q)
  unfolding makings
  standing-made q =
      standing-after makings held_removed q
      ∙ at_end-rows (making_of before.entries) (makings_keep before.entries) (entries after.entries) (entries_sorted after.entries) q (standing held_removed q)

  -- Files written.

  unfoldable pub writings : List Op
  writings = filter_map (writing_of before.entries) (entries after.entries)

  written_outside : (q : Text) → is_within hidden_dir q ≡ false → made (writing_of before.entries) q (find text_cmp q (entries after.entries)) (standing held_made q) ≡ written q (get after.entries q) (placed (get before.entries q)) (with_dirs q)
  written_outside q out =
      ap (λ (found : Option Entry). made (writing_of before.entries) q found (standing held_made q)) (sym (get-entries after.entries q))
      ∙ as_written before.entries q (get after.entries q) (standing held_made q)
      ∙ ap (written q (get after.entries q) (placed (get before.entries q))) (standing-made q ∙ made_outside q out)

  allows_writing : (path : Text) (entry : Entry) (op : Op) (now : Held) → get after.entries path ≡ Some entry → writing path entry (placed (get before.entries path)) ≡ Some op → standing now path ≡ standing held_made path
      → ((q : Text) → text_cmp q path ≡ Less → standing now q ≡ made (writing_of before.entries) q (find text_cmp q (entries after.entries)) (standing held_made q))
      → allowed op now ≡ true
  allows_writing path (File mode content) op now new e own lower =
      let at_root : is_root path ≡ false = not_root (placed (get after.entries path)) path (new_at_root path) (ap (λ (found : Option Entry). is_dir (placed found)) new) in
      let less = parent-less path (ready.built.entries.canonical path (File mode content) new) at_root in
      let in_dir = ready.built.entries.placed path (File mode content) new in
      let out = dir_outside (parent path) in_dir in
      let within : is_dir (standing now (parent path)) ≡ true =
      ap is_dir (lower (parent path) less ∙ written_outside (parent path) out ∙ dirs_stay (parent path) (get after.entries (parent path)) (placed (get before.entries (parent path))) (with_dirs (parent path)) in_dir)
      ∙ dirs_stand (parent path) (get before.entries (parent path)) (get after.entries (parent path)) in_dir in
      let left : standing now path ≡ removed path (get before.entries path) (Some (standing.File (bytes_of content))) (placed (get before.entries path)) =
      own ∙ standing-made path ∙ made_outside path (new_outside path (File mode content) new)
      ∙ ap (λ (found : Option Entry). dir_made path found (placed (get before.entries path)) (removed path (get before.entries path) (placed found) (placed (get before.entries path)))) new in
      subst (λ (o : Op). allowed o now ≡ true) (chosen (is_file_of (bytes_of content) (placed (get before.entries path))) (Write path (bytes_of content)) op e) (
      ap (can_hold (standing now path)) within ∙ ap (λ (it : Option Standing). can_hold it true) left ∙ room_for_file path (get before.entries path) (bytes_of content))
  allows_writing path (Dir mode) op now new e own lower = absurd (none_of op e)
  allows_writing path (Link text) op now new e own lower = absurd (none_of op e)

  pub writings_allowed : AllowsAll writings held_made
  unfolding writings
  writings_allowed = allows-rows (writing_of before.entries) (writings_keep before.entries) (entries after.entries) (standing held_made)
      (λ row op now found e own lower. allows_writing row.0 row.1 op now (get-entries after.entries row.0 ∙ found) e own lower)
      (entries after.entries) (entries_sorted after.entries) held_made (λ q. inl (refl, refl))

  abbrev pub held_written : Held
  held_written = after_all writings held_made

  standing-written : (q : Text) → standing held_written q ≡ made (writing_of before.entries) q (find text_cmp q (entries after.entries)) (standing held_made q)
  unfolding writings
  standing-written q =
      standing-after writings held_made q
      ∙ at_end-rows (writing_of before.entries) (writings_keep before.entries) (entries after.entries) (entries_sorted after.entries) q (standing held_made q)

  -- outside the hidden directory what is to stand does
  pub entries_stand : (q : Text) → is_within hidden_dir q ≡ false → standing held_written q ≡ placed (get after.entries q)
  entries_stand q out = standing-written q ∙ written_outside q out ∙ all_stand q (get before.entries q) (get after.entries q)

  -- and what is hidden stays
  pub hidden_stays : (q : Text) → is_within hidden_dir q ≡ true → standing held_written q ≡ standing held q
  hidden_stays q within =
      let new_none : find text_cmp q (entries after.entries) ≡ None = sym (get-entries after.entries q) ∙ ready.built.entries.unseen q within in
      standing-written q ∙ ap (λ (found : Option Entry). made (writing_of before.entries) q found (standing held_made q)) new_none
      ∙ standing-made q ∙ ap (λ (found : Option Entry). made (making_of before.entries) q found (standing held_removed q)) new_none
      ∙ standing-removed q ∙ ap (λ (found : Option Entry). removed q found (placed (get after.entries q)) (standing held q)) (ready.holds.unseen q within)
