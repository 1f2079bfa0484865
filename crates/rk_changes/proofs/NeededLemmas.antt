-- Each planned call changes what stands at its path.
use Rattle.std.proofs.Common.{◌≡◌, ◌⊎◌, inl, inr, List, [], ◌∷◌, reverse, Bool, true, false, cond, Option, Some, None, option_map, refl, sym, ap, subst, ◌∙◌}
use Rattle.std.specs.List.{All, filter_map, cons_option}
use Rattle.std.proofs.lemmas.List.{reverse-append}
use Rattle.std.proofs.lemmas.List.Elements.{All-nil, All-cons, All-head, All-tail, All-append, All-same}
use Rattle.std.specs.FinMap.{find, get, entries, get-entries, entries_sorted}
use Rattle.rk_base.specs.Text.{Text, text_cmp}
use Rattle.rk_folder.specs.Told.{Held, standing, is_file, is_dir, is_nothing}
use Rattle.rk_folder.specs.declared.folder.Standing.{Standing}
use Rattle.rk_folder.specs.declared.folder.Standing.TheVariants as standing
use Rattle.rk_tree.specs.Content.{bytes_of}
use Rattle.rk_tree.specs.Node.{Node as Entry, File, Dir, Link}
use Rattle.rk_tree.proofs.TextLemmas.{same_itself}
use Rattle.rk_seal.specs.declared.ops.Op.{Op}
use Rattle.rk_seal.specs.declared.ops.Op.TheVariants.{RemoveFile, RemoveDir, MakeDir, Write}
use Rattle.rk_changes.specs.declared.holding.Holding.{Holding}
use Rattle.rk_changes.specs.Planned.{IsNeeded}
use Rattle.rk_changes.specs.Holdings.{placed, hidden_dir, attrs_file, db_file, dir_where, MayBecome}
use Rattle.rk_changes.specs.Planned.{IsPassed, planned, removal, making, writing, removal_of, making_of, writing_of, is_file_of, is_bytes, hidden_making, state_writing, attrs_calls, db_calls}
use Rattle.rk_changes.proofs.OrderLemmas.{clash, InOrder, in_order_first, in_order_rest, find_first, find_later}
use Rattle.rk_changes.proofs.EffectLemmas.{chosen, not_spared}
use Rattle.rk_changes.proofs.PhaseLemmas.{old_outside, new_outside}

absent : (op : Op) → None ≡ Some op → ⊥
absent op e = cc

All-reverse : (P : Op → Type 0) (ops : List Op) → All P ops → All P (reverse ops)
All-reverse P [] h = h
All-reverse P (op ∷ ops) h = All-same P _ _ (reverse-append (op ∷ []) ops) (All-append P (reverse ops) (op ∷ []) (All-reverse P ops (All-tail P op ops h)) (All-cons P op [] (All-head P op ops h) (All-nil P)))

All-cons_option : (P : Op → Type 0) (op : Option Op) (ops : List Op) → ((it : Op) → op ≡ Some it → P it) → All P ops → All P (cons_option op ops)
All-cons_option P None ops h k = k
All-cons_option P (Some op) ops h k = All-cons P op ops (h op refl) k

-- what holds of the call of each row
all_made : (P : Op → Type 0) (make : Text × Entry → Option Op) (rows : List (Text × Entry)) → InOrder rows → ((row : Text × Entry) (op : Op) → find text_cmp row.0 rows ≡ Some row.1 → make row ≡ Some op → P op) → All P (filter_map make rows)
all_made P make [] o h = All-nil P
all_made P make (row ∷ rows) o h = All-cons_option P (make row) (filter_map make rows) (λ op e. h row op (find_first row rows) e)
    (all_made P make rows (in_order_rest row rows o) (λ r op f e. h r op (find_later row rows r.0 r.1 (in_order_first row rows o) f) e))

-- the call of an entry, by what stands at its path

needed_removal : (held : Held) (path : Text) (entry : Entry) (after : Option Standing) (op : Op) → removal path entry after ≡ Some op → standing held path ≡ placed (Some entry) → IsNeeded held op
needed_removal held path (File mode content) after op e stands = subst (IsNeeded held) (chosen (is_file after) (RemoveFile path) op e) (λ same. clash _ (sym (ap is_nothing same)) (ap is_nothing stands))
needed_removal held path (Dir mode) after op e stands = subst (IsNeeded held) (chosen (is_dir after) (RemoveDir path) op e) (λ same. clash _ (sym (ap is_nothing same)) (ap is_nothing stands))
needed_removal held path (Link text) after op e stands = absurd (absent op e)

needed_making : (held : Held) (path : Text) (entry : Entry) (before : Option Standing) (op : Op) → making path entry before ≡ Some op → standing held path ≡ before → IsNeeded held op
needed_making held path (File mode content) before op e stands = absurd (absent op e)
needed_making held path (Dir mode) before op e stands = subst (IsNeeded held) (chosen (is_dir before) (MakeDir path) op e) (λ same. clash _ (ap is_dir (sym (same ∙ stands))) (not_spared (is_dir before) (MakeDir path) op e))
needed_making held path (Link text) before op e stands = absurd (absent op e)

needed_writing : (held : Held) (path : Text) (entry : Entry) (before : Option Standing) (op : Op) → writing path entry before ≡ Some op → standing held path ≡ before → IsNeeded held op
needed_writing held path (File mode content) before op e stands = subst (IsNeeded held) (chosen (is_file_of (bytes_of content) before) (Write path (bytes_of content)) op e) (λ same. clash _ (ap (is_file_of (bytes_of content)) (sym (same ∙ stands)) ∙ same_itself (bytes_of content)) (not_spared (is_file_of (bytes_of content) before) (Write path (bytes_of content)) op e))
needed_writing held path (Dir mode) before op e stands = absurd (absent op e)
needed_writing held path (Link text) before op e stands = absurd (absent op e)

needed_hidden : (held : Held) (before after : Bool) → standing held hidden_dir ≡ dir_where before → All (IsNeeded held) (hidden_making before after)
needed_hidden held before false stands = All-nil (IsNeeded held)
needed_hidden held true true stands = All-nil (IsNeeded held)
needed_hidden held false true stands = All-cons (IsNeeded held) (MakeDir hidden_dir) [] (λ same. clash _ (ap is_dir (sym (same ∙ stands))) refl) (All-nil (IsNeeded held))

is_bytes_itself : (bytes : Text) (before : Option Text) → Some (standing.File bytes) ≡ option_map standing.File before → is_bytes bytes before ≡ true
is_bytes_itself bytes None e = absurd (clash _ refl (ap is_nothing (sym e)))
is_bytes_itself bytes (Some old) e = ap (is_file_of bytes) (sym e) ∙ same_itself bytes

needed_state : (held : Held) (path : Text) (before : Option Text) (bytes : Text) → standing held path ≡ option_map standing.File before → All (IsNeeded held) (state_writing path before bytes)
needed_state held path before bytes stands = elim (is_bytes bytes before) as (λ (b : Bool). is_bytes bytes before ≡ b → All (IsNeeded held) (cond b [] (Write path bytes ∷ []))) [
  | true ↦ λ e. All-nil (IsNeeded held)
  | false ↦ λ e. All-cons (IsNeeded held) (Write path bytes) [] (λ same. clash _ (is_bytes_itself bytes before (same ∙ stands)) e) (All-nil (IsNeeded held))
] refl

needed_attrs : (held : Held) (before after : Option Text) → standing held attrs_file ≡ option_map standing.File before → All (IsNeeded held) (attrs_calls before after)
needed_attrs held None None stands = All-nil (IsNeeded held)
needed_attrs held (Some old) None stands = All-cons (IsNeeded held) (RemoveFile attrs_file) [] (λ same. clash _ (sym (ap is_nothing same)) (ap is_nothing stands)) (All-nil (IsNeeded held))
needed_attrs held None (Some bytes) stands = needed_state held attrs_file None bytes stands
needed_attrs held (Some old) (Some bytes) stands = needed_state held attrs_file (Some old) bytes stands

-- a call that changes something, or writes a database that was passed over
abbrev pub IsDue : Held → Holding → Op → Type 0
IsDue held before op = IsNeeded held op ⊎ IsPassed held before op

due : (held : Held) (before : Holding) (ops : List Op) → All (IsNeeded held) ops → All (IsDue held before) ops
due held before [] needed = All-nil (IsDue held before)
due held before (op ∷ ops) needed = All-cons (IsDue held before) op ops (inl (All-head (IsNeeded held) op ops needed)) (due held before ops (All-tail (IsNeeded held) op ops needed))

due_write : (held : Held) (before : Holding) (stood : Option Text) (bytes : Text) → before.state.db ≡ None → standing held db_file ≡ option_map standing.File stood → IsDue held before (Write db_file bytes)
due_write held before None bytes none stands = inl (λ same. clash _ (ap is_file (sym (same ∙ stands))) refl)
due_write held before (Some old) bytes none stands = inr (refl, ap is_file stands, none)

due_db : (held : Held) (before : Holding) (stood after : Option Text) → (before.state.db ≡ None) ⊎ (before.state.db ≡ stood) → standing held db_file ≡ option_map standing.File stood → All (IsDue held before) (db_calls before.state.db after)
due_db held before stood None read stands = All-nil (IsDue held before)
due_db held before stood (Some bytes) read stands = elim read [
  | inl none ↦ subst (λ (db : Option Text). All (IsDue held before) (db_calls db (Some bytes))) (sym none) (All-cons (IsDue held before) (Write db_file bytes) [] (due_write held before stood bytes none stands) (All-nil (IsDue held before)))
  | inr same ↦ due held before _ (needed_state held db_file before.state.db bytes (stands ∙ ap (option_map standing.File) (sym same)))
]

module _ (held : Held) (before after : Holding) (ready : MayBecome held before after) where
  needed_removals : All (IsNeeded held) (filter_map (removal_of after.entries) (entries before.entries))
  needed_removals = all_made (IsNeeded held) (removal_of after.entries) (entries before.entries) (entries_sorted before.entries) (λ row op found e.
      let old : get before.entries row.0 ≡ Some row.1 = get-entries before.entries row.0 ∙ found in
      needed_removal held row.0 row.1 _ op e (ready.holds.outside row.0 (old_outside held before after ready row.0 row.1 old) ∙ ap placed old))

  stands_at : (row : Text × Entry) → find text_cmp row.0 (entries after.entries) ≡ Some row.1 → standing held row.0 ≡ placed (get before.entries row.0)
  stands_at row found = ready.holds.outside row.0 (new_outside held before after ready row.0 row.1 (get-entries after.entries row.0 ∙ found))

  needed_makings : All (IsNeeded held) (filter_map (making_of before.entries) (entries after.entries))
  needed_makings = all_made (IsNeeded held) (making_of before.entries) (entries after.entries) (entries_sorted after.entries) (λ row op found e. needed_making held row.0 row.1 _ op e (stands_at row found))

  needed_writings : All (IsNeeded held) (filter_map (writing_of before.entries) (entries after.entries))
  needed_writings = all_made (IsNeeded held) (writing_of before.entries) (entries after.entries) (entries_sorted after.entries) (λ row op found e. needed_writing held row.0 row.1 _ op e (stands_at row found))

  pub all_due : All (IsDue held before) (planned before after)
  all_due =
      All-append (IsDue held before) _ _ (due held before _ (
      All-append (IsNeeded held) _ _ (
      All-append (IsNeeded held) _ _ (
      All-append (IsNeeded held) _ _ (
      All-append (IsNeeded held) _ _ (All-reverse (IsNeeded held) _ needed_removals) needed_makings)
      needed_writings)
      (needed_hidden held before.rkr after.rkr ready.holds.rkr))
      (needed_attrs held before.state.attrs after.state.attrs ready.holds.attrs)))
      (due_db held before ready.db after.state.db ready.read ready.holds.db)
