-- What the three kinds of calls that entries bring make of what stands at a path.
use Rattle.std.proofs.Common.{◌≡◌, ℕ, Bool, true, false, cond, Option, Some, None, refl, sym, ap, ◌∙◌, unwrap_or}
use Rattle.std.specs.FinMap.{get}
use Rattle.rk_base.specs.Text.{Text, same_text}
use Rattle.rk_folder.specs.Told.{is_file, is_dir, is_nothing, can_hold}
use Rattle.rk_folder.specs.declared.folder.Standing.{Standing}
use Rattle.rk_folder.specs.declared.folder.Standing.TheVariants as standing
use Rattle.rk_tree.specs.Content.{bytes_of}
use Rattle.rk_tree.specs.Entries as tree
use Rattle.rk_tree.specs.Entries.{Entries}
use Rattle.rk_tree.specs.Node.{Node as Entry, File, Dir, Link}
use Rattle.rk_tree.proofs.TextLemmas.{same_is}
use Rattle.rk_seal.specs.declared.ops.Op.{Op}
use Rattle.rk_seal.specs.declared.ops.Op.TheVariants.{RemoveFile, RemoveDir, MakeDir, Write}
use Rattle.rk_seal.specs.Ops.{path_of}
use Rattle.rk_seal.specs.Effects.{left_by}
use Rattle.rk_changes.specs.Holdings.{placed}
use Rattle.rk_changes.specs.Planned.{removal, making, writing, removal_of, making_of, writing_of, is_file_of}
use Rattle.rk_changes.proofs.ReachLemmas.{KeepsPath, made, made_at}

pub chosen : (b : Bool) (it op : Op) → cond b None (Some it) ≡ Some op → it ≡ op
chosen true it op e = cc
chosen false it op e = ap (λ (o : Option Op). unwrap_or o it) e

pub not_spared : (b : Bool) (it op : Op) → cond b None (Some it) ≡ Some op → b ≡ false
not_spared true it op e = cc
not_spared false it op e = refl

absent : (op : Op) → None ≡ Some op → ⊥
absent op e = cc

-- each call is at the path of its entry
removal_path : (path : Text) (entry : Entry) (after : Option Standing) (op : Op) → removal path entry after ≡ Some op → path_of op ≡ path
removal_path path (File mode content) after op e = ap path_of (sym (chosen (is_file after) (RemoveFile path) op e))
removal_path path (Dir mode) after op e = ap path_of (sym (chosen (is_dir after) (RemoveDir path) op e))
removal_path path (Link text) after op e = absurd (absent op e)

making_path : (path : Text) (entry : Entry) (before : Option Standing) (op : Op) → making path entry before ≡ Some op → path_of op ≡ path
making_path path (File mode content) before op e = absurd (absent op e)
making_path path (Dir mode) before op e = ap path_of (sym (chosen (is_dir before) (MakeDir path) op e))
making_path path (Link text) before op e = absurd (absent op e)

writing_path : (path : Text) (entry : Entry) (before : Option Standing) (op : Op) → writing path entry before ≡ Some op → path_of op ≡ path
writing_path path (File mode content) before op e = ap path_of (sym (chosen (is_file_of (bytes_of content) before) (Write path (bytes_of content)) op e))
writing_path path (Dir mode) before op e = absurd (absent op e)
writing_path path (Link text) before op e = absurd (absent op e)

pub removals_keep : (after : Entries) → KeepsPath (removal_of after)
removals_keep after row op e = removal_path row.0 row.1 (placed (get after row.0)) op e

pub makings_keep : (before : Entries) → KeepsPath (making_of before)
makings_keep before row op e = making_path row.0 row.1 (placed (get before row.0)) op e

pub writings_keep : (before : Entries) → KeepsPath (writing_of before)
writings_keep before row op e = writing_path row.0 row.1 (placed (get before row.0)) op e

-- a removal leaves nothing
removal_leaves : (path : Text) (entry : Entry) (after : Option Standing) (op : Op) → removal path entry after ≡ Some op → left_by op ≡ None
removal_leaves path (File mode content) after op e = ap left_by (sym (chosen (is_file after) (RemoveFile path) op e))
removal_leaves path (Dir mode) after op e = ap left_by (sym (chosen (is_dir after) (RemoveDir path) op e))
removal_leaves path (Link text) after op e = absurd (absent op e)

-- what removals leave stood before
pub stood_before : (after : Entries) (path : Text) (found : Option Entry) (it : Option Standing) → is_nothing (made (removal_of after) path found it) ≡ false → is_nothing it ≡ false
stood_before after path None it h = h
stood_before after path (Some entry) it h = elim (removal path entry (placed (get after path))) as (λ (op : Option Op). removal path entry (placed (get after path)) ≡ op → is_nothing (made_at op it) ≡ false → is_nothing it ≡ false) [
  | None ↦ λ e k. k
  | Some op ↦ λ e k. absurd (no (ap is_nothing (sym (removal_leaves path entry (placed (get after path)) op e)) ∙ k))
] refl h where
  no : true ≡ false → ⊥
  no e = cc

-- The same by what an entry at the path is before and afterwards.

abbrev pub removed : Text → Option Entry → Option Standing → Option Standing → Option Standing
removed path None after it = it
removed path (Some entry) after it = made_at (removal path entry after) it

abbrev pub dir_made : Text → Option Entry → Option Standing → Option Standing → Option Standing
dir_made path None before it = it
dir_made path (Some entry) before it = made_at (making path entry before) it

abbrev pub written : Text → Option Entry → Option Standing → Option Standing → Option Standing
written path None before it = it
written path (Some entry) before it = made_at (writing path entry before) it

pub as_removed : (after : Entries) (path : Text) (found : Option Entry) (it : Option Standing) → made (removal_of after) path found it ≡ removed path found (placed (get after path)) it
as_removed after path None it = refl
as_removed after path (Some entry) it = refl

pub as_made : (before : Entries) (path : Text) (found : Option Entry) (it : Option Standing) → made (making_of before) path found it ≡ dir_made path found (placed (get before path)) it
as_made before path None it = refl
as_made before path (Some entry) it = refl

pub as_written : (before : Entries) (path : Text) (found : Option Entry) (it : Option Standing) → made (writing_of before) path found it ≡ written path found (placed (get before path)) it
as_written before path None it = refl
as_written before path (Some entry) it = refl

-- nothing is left where nothing stands afterwards
pub removed_all : (path : Text) (old : Option Entry) → removed path old None (placed old) ≡ None
removed_all path None = refl
removed_all path (Some (File mode content)) = refl
removed_all path (Some (Dir mode)) = refl
removed_all path (Some (Link text)) = refl

-- a directory is made where nothing is left
pub room_for_dir : (path : Text) (old : Option Entry) → is_dir (placed old) ≡ false → is_nothing (removed path old (Some standing.Dir) (placed old)) ≡ true
room_for_dir path None h = refl
room_for_dir path (Some (File mode content)) h = refl
room_for_dir path (Some (Dir mode)) h = cc
room_for_dir path (Some (Link text)) h = refl

-- a file is written where a file or nothing is left
pub room_for_file : (path : Text) (old : Option Entry) (bytes : Text) → can_hold (removed path old (Some (standing.File bytes)) (placed old)) true ≡ true
room_for_file path None bytes = refl
room_for_file path (Some (File mode old)) bytes = refl
room_for_file path (Some (Dir mode)) bytes = refl
room_for_file path (Some (Link text)) bytes = refl

-- a directory that is to stand does so before any file is written
dir_stands : (path : Text) (old : Option Entry) (mode : ℕ) → is_dir (dir_made path (Some (Dir mode)) (placed old) (removed path old (Some standing.Dir) (placed old))) ≡ true
dir_stands path None mode = refl
dir_stands path (Some (File m content)) mode = refl
dir_stands path (Some (Dir m)) mode = refl
dir_stands path (Some (Link text)) mode = refl

pub dirs_stand : (path : Text) (old new : Option Entry) → tree.is_dir new ≡ true → is_dir (dir_made path new (placed old) (removed path old (placed new) (placed old))) ≡ true
dirs_stand path old None h = cc
dirs_stand path old (Some (File mode content)) h = cc
dirs_stand path old (Some (Dir mode)) h = dir_stands path old mode
dirs_stand path old (Some (Link text)) h = cc

-- and still does when they are
pub dirs_stay : (path : Text) (new : Option Entry) (before it : Option Standing) → tree.is_dir new ≡ true → written path new before it ≡ it
dirs_stay path None before it h = cc
dirs_stay path (Some (File mode content)) before it h = cc
dirs_stay path (Some (Dir mode)) before it h = refl
dirs_stay path (Some (Link text)) before it h = cc

-- at the end what is to stand does
file_stands : (path bytes : Text) (old : Option Entry) → made_at (cond (is_file_of bytes (placed old)) None (Some (Write path bytes))) (removed path old (Some (standing.File bytes)) (placed old)) ≡ Some (standing.File bytes)
file_stands path bytes None = refl
file_stands path bytes (Some (File mode content)) = elim (same_text (bytes_of content) bytes) as (λ (b : Bool). same_text (bytes_of content) bytes ≡ b → made_at (cond b None (Some (Write path bytes))) (Some (standing.File (bytes_of content))) ≡ Some (standing.File bytes)) [
  | true ↦ λ e. ap (λ (t : Text). Some (standing.File t)) (same_is (bytes_of content) bytes e)
  | false ↦ λ e. refl
] refl
file_stands path bytes (Some (Dir mode)) = refl
file_stands path bytes (Some (Link text)) = refl

made_dir_stands : (path : Text) (old : Option Entry) (mode : ℕ) → dir_made path (Some (Dir mode)) (placed old) (removed path old (Some standing.Dir) (placed old)) ≡ Some standing.Dir
made_dir_stands path None mode = refl
made_dir_stands path (Some (File m content)) mode = refl
made_dir_stands path (Some (Dir m)) mode = refl
made_dir_stands path (Some (Link text)) mode = refl

pub all_stand : (path : Text) (old new : Option Entry) → written path new (placed old) (dir_made path new (placed old) (removed path old (placed new) (placed old))) ≡ placed new
all_stand path old None = removed_all path old
all_stand path old (Some (File mode content)) = file_stands path (bytes_of content) old
all_stand path old (Some (Dir mode)) = made_dir_stands path old mode
all_stand path old (Some (Link text)) = removed_all path old

pub placed_dir : (it : Option Entry) → tree.is_dir it ≡ true → is_dir (placed it) ≡ true
placed_dir None h = cc
placed_dir (Some (File mode content)) h = cc
placed_dir (Some (Dir mode)) h = refl
placed_dir (Some (Link text)) h = cc
