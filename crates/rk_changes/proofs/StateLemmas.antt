-- The calls for the hidden directory and its state files.
use Rattle.std.proofs.Common.{◌≡◌, ◌⊎◌, inl, inr, List, [], ◌∷◌, Bool, true, false, cond, ◌&&◌, Option, Some, None, option_map, is_some, refl, sym, ap, subst, ◌∙◌}
use Rattle.std.specs.Ordering.{eq_by_cmp}
use Rattle.rk_base.specs.Text.{Text, text_cmp, root, parent, same_text}
use Rattle.rk_folder.specs.Told.{Held, standing, is_file, is_dir, is_nothing, can_hold, can_write}
use Rattle.rk_folder.specs.declared.folder.Standing.{Standing}
use Rattle.rk_folder.specs.declared.folder.Standing.TheVariants.{File, Dir}
use Rattle.rk_tree.proofs.TextLemmas.{same_is, same_itself, ties_itself}
use Rattle.rk_seal.specs.declared.ops.Op.{Op}
use Rattle.rk_seal.specs.declared.ops.Op.TheVariants.{RemoveFile, RemoveDir, MakeDir, Write}
use Rattle.rk_seal.specs.Ops.{path_of}
use Rattle.rk_seal.specs.Effects.{AllowsAll}
use Rattle.rk_changes.specs.Holdings.{hidden_dir, attrs_file, db_file, dir_where}
use Rattle.rk_changes.specs.Planned.{is_bytes, hidden_making, state_writing, attrs_calls, db_calls}
use Rattle.rk_changes.proofs.HiddenLemmas.{hidden_parent}
use Rattle.rk_changes.proofs.ReachLemmas.{at_end}

-- all calls are at this path
abbrev pub AllAt : Text → List Op → Type 0
AllAt path [] = Unit {0}
AllAt path (op ∷ ops) = (path_of op ≡ path) × AllAt path ops

pub elsewhere : (path : Text) (ops : List Op) → AllAt path ops → (q : Text) (it : Option Standing) → eq_by_cmp text_cmp q path ≡ false → at_end ops q it ≡ it
elsewhere path [] at q it e = refl
elsewhere path (RemoveFile p ∷ ops) at q it e = ap (at_end ops q) (ap (λ (t : Text). cond (eq_by_cmp text_cmp q t) None it) at.0 ∙ ap (λ (b : Bool). cond b None it) e) ∙ elsewhere path ops at.1 q it e
elsewhere path (RemoveDir p ∷ ops) at q it e = ap (at_end ops q) (ap (λ (t : Text). cond (eq_by_cmp text_cmp q t) None it) at.0 ∙ ap (λ (b : Bool). cond b None it) e) ∙ elsewhere path ops at.1 q it e
elsewhere path (MakeDir p ∷ ops) at q it e = ap (at_end ops q) (ap (λ (t : Text). cond (eq_by_cmp text_cmp q t) (Some Dir) it) at.0 ∙ ap (λ (b : Bool). cond b (Some Dir) it) e) ∙ elsewhere path ops at.1 q it e
elsewhere path (Write p bytes ∷ ops) at q it e = ap (at_end ops q) (ap (λ (t : Text). cond (eq_by_cmp text_cmp q t) (Some (File bytes)) it) at.0 ∙ ap (λ (b : Bool). cond b (Some (File bytes)) it) e) ∙ elsewhere path ops at.1 q it e

-- a call at a path settles what stands there
settles : (path : Text) (it left : Option Standing) → cond (eq_by_cmp text_cmp path path) left it ≡ left
settles path it left = ap (λ (b : Bool). cond b left it) (ties_itself path)

-- The hidden directory.

pub hidden_making_at : (before after : Bool) → AllAt hidden_dir (hidden_making before after)
hidden_making_at before false = tt
hidden_making_at false true = (refl, tt)
hidden_making_at true true = tt

pub hidden_making_end : (before : Bool) → at_end (hidden_making before true) hidden_dir (dir_where before) ≡ Some Dir
hidden_making_end true = refl
hidden_making_end false = settles hidden_dir None (Some Dir)

pub hidden_making_allowed : (before : Bool) (held : Held) → standing held hidden_dir ≡ dir_where before → is_dir (standing held root) ≡ true → AllowsAll (hidden_making before true) held
hidden_making_allowed true held h r = tt
hidden_making_allowed false held h r = (ap (λ (it : Option Standing). is_nothing it && is_dir (standing held (parent hidden_dir))) h ∙ ap (λ (p : Text). is_dir (standing held p)) hidden_parent ∙ r, tt)

-- A state file.

pub state_writing_at : (path : Text) (before : Option Text) (bytes : Text) → AllAt path (state_writing path before bytes)
state_writing_at path before bytes = elim (is_bytes bytes before) as (λ (b : Bool). AllAt path (cond b [] (Write path bytes ∷ []))) [ true ↦ tt | false ↦ (refl, tt) ]

state_writing_end : (path : Text) (before : Option Text) (bytes : Text) → at_end (state_writing path before bytes) path (option_map File before) ≡ Some (File bytes)
state_writing_end path None bytes = settles path None (Some (File bytes))
state_writing_end path (Some old) bytes = elim (same_text old bytes) as (λ (b : Bool). same_text old bytes ≡ b → at_end (cond b [] (Write path bytes ∷ [])) path (Some (File old)) ≡ Some (File bytes)) [
  | true ↦ λ e. ap (λ (t : Text). Some (File t)) (same_is old bytes e)
  | false ↦ λ e. settles path (Some (File old)) (Some (File bytes))
] refl

state_writing_allowed : (path : Text) (before : Option Text) (bytes : Text) (held : Held) → standing held path ≡ option_map File before → is_dir (standing held (parent path)) ≡ true → AllowsAll (state_writing path before bytes) held
state_writing_allowed path None bytes held h d = (ap (λ (it : Option Standing). can_hold it (is_dir (standing held (parent path)))) h ∙ d, tt)
state_writing_allowed path (Some old) bytes held h d = elim (same_text old bytes) as (λ (b : Bool). AllowsAll (cond b [] (Write path bytes ∷ [])) held) [
  | true ↦ tt
  | false ↦ (ap (λ (it : Option Standing). can_hold it (is_dir (standing held (parent path)))) h, tt)
]

pub attrs_calls_at : (before after : Option Text) → AllAt attrs_file (attrs_calls before after)
attrs_calls_at None None = tt
attrs_calls_at (Some old) None = (refl, tt)
attrs_calls_at None (Some bytes) = state_writing_at attrs_file None bytes
attrs_calls_at (Some old) (Some bytes) = state_writing_at attrs_file (Some old) bytes

pub attrs_calls_end : (before after : Option Text) → at_end (attrs_calls before after) attrs_file (option_map File before) ≡ option_map File after
attrs_calls_end None None = refl
attrs_calls_end (Some old) None = settles attrs_file (Some (File old)) None
attrs_calls_end None (Some bytes) = state_writing_end attrs_file None bytes
attrs_calls_end (Some old) (Some bytes) = state_writing_end attrs_file (Some old) bytes

pub attrs_calls_allowed : (before after : Option Text) (held : Held) → standing held attrs_file ≡ option_map File before → is_dir (standing held (parent attrs_file)) ≡ true → AllowsAll (attrs_calls before after) held
attrs_calls_allowed None None held h d = tt
attrs_calls_allowed (Some old) None held h d = (ap is_file h, tt)
attrs_calls_allowed None (Some bytes) held h d = state_writing_allowed attrs_file None bytes held h d
attrs_calls_allowed (Some old) (Some bytes) held h d = state_writing_allowed attrs_file (Some old) bytes held h d

pub db_calls_at : (before after : Option Text) → AllAt db_file (db_calls before after)
db_calls_at before None = tt
db_calls_at before (Some bytes) = state_writing_at db_file before bytes

-- a database that stands, and may have been passed over
db_written : (stood : Option Text) (bytes : Text) (held : Held) → standing held db_file ≡ option_map File stood → is_dir (standing held (parent db_file)) ≡ true → can_write db_file held ≡ true
db_written None bytes held h d = ap (λ (it : Option Standing). can_hold it (is_dir (standing held (parent db_file)))) h ∙ d
db_written (Some old) bytes held h d = ap (λ (it : Option Standing). can_hold it (is_dir (standing held (parent db_file)))) h

pub db_calls_end : (before stood after : Option Text) → (before ≡ None) ⊎ (before ≡ stood) → is_some after ≡ true → at_end (db_calls before after) db_file (option_map File stood) ≡ option_map File after
db_calls_end before stood None read h = cc
db_calls_end before stood (Some bytes) read h = elim read [
  | inl none ↦ ap (λ (b : Option Text). at_end (db_calls b (Some bytes)) db_file (option_map File stood)) none ∙ settles db_file (option_map File stood) (Some (File bytes))
  | inr same ↦ ap (λ (s : Option Text). at_end (db_calls before (Some bytes)) db_file (option_map File s)) (sym same) ∙ state_writing_end db_file before bytes
]

pub db_calls_allowed : (before stood after : Option Text) (held : Held) → (before ≡ None) ⊎ (before ≡ stood) → standing held db_file ≡ option_map File stood → is_dir (standing held (parent db_file)) ≡ true → AllowsAll (db_calls before after) held
db_calls_allowed before stood None held read h d = tt
db_calls_allowed before stood (Some bytes) held read h d = elim read [
  | inl none ↦ subst (λ (b : Option Text). AllowsAll (db_calls b (Some bytes)) held) (sym none) (db_written stood bytes held h d, tt)
  | inr same ↦ state_writing_allowed db_file before bytes held (h ∙ ap (option_map File) (sym same)) d
]

-- Nothing is to be done where both are the same.

pub same_hidden : (stands : Bool) → hidden_making stands stands ≡ []
same_hidden true = refl
same_hidden false = refl

same_state : (path bytes : Text) → state_writing path (Some bytes) bytes ≡ []
same_state path bytes = ap (λ (b : Bool). cond b [] (Write path bytes ∷ [])) (same_itself bytes)

pub same_attrs : (it : Option Text) → attrs_calls it it ≡ []
same_attrs None = refl
same_attrs (Some bytes) = same_state attrs_file bytes

pub same_db : (it : Option Text) → db_calls it it ≡ []
same_db None = refl
same_db (Some bytes) = same_state db_file bytes
