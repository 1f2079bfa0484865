-- Nothing special comes of what is changed outside `.rkr`.
use Rattle.std.proofs.Common.{◌≡◌, ℕ, List, [], ◌∷◌, Bool, true, false, ◌&&◌, ◌||◌, cond, Option, Some, None, refl, sym, ap, ◌∙◌}
use Rattle.std.specs.List.{AllByRecursion}
use Rattle.std.specs.FinMap.{empty, get-empty}
use Rattle.rk_base.specs.Text.{Text, is_within, join, root, same_text, text_cmp}
use Rattle.rk_folder.specs.Hidden.{hidden_dir}
use Rattle.rk_folder.specs.Listing.{IsFirst}
use Rattle.rk_folder.specs.Specials.{first_special, is_fault, is_hidden_fault, is_special, is_state_file}
use Rattle.rk_folder.specs.Told.{Held, can_remove_file, can_write, is_dir, is_odd, root_alone, standing, with_standing, without}
use Rattle.rk_folder.specs.declared.folder.Standing.{Standing}
use Rattle.rk_folder.specs.declared.folder.Standing.TheVariants.{Dir, File as a_file}
use Rattle.rk_folder.proofs.FirstLemmas.{clash, first_special-is}
use Rattle.rk_folder.proofs.HeldLemmas.{one_path, same_path, standing-with, standing-without}
use Rattle.rk_gen.specs.Edits.{edited}
use Rattle.rk_gen.specs.Start.{Made, files_of}
use Rattle.rk_gen.specs.declared.edits.Edit.{Edit}
use Rattle.rk_gen.specs.declared.edits.Edit.TheVariants.{Write, Remove, Nothing}
use Rattle.rk_gen.specs.declared.files.File.{File}
use Rattle.rk_gen.specs.Changed.{changed, with_file, with_files, without_file}
use Rattle.rk_gen.specs.Visible.{IsPlainStart, LeavesPlain}
use Rattle.rk_gen.proofs.PathLemmas.{IsVisible, IsVisibleEdit, IsVisibleFile, edited-visible, files-visible}

none_first : (test : Text → Bool) (o : Option Text) → ((q : Text) → test q ≡ false) → IsFirst test o → o ≡ None
none_first test None none first = refl
none_first test (Some p) none first = absurd (clash (test p) first.0 (none p))

nothing_first : (test : Text → Bool) (o : Option Text) → o ≡ None → IsFirst test o → (q : Text) → test q ≡ false
nothing_first test None e first = first
nothing_first test (Some p) e first = absurd (let bad : Some p ≡ None = e in cc)

-- A change at a path outside `.rkr`, to nothing or to what is neither special nor a directory.

abbrev pub IsOrdinary : Option Standing → Type 0
IsOrdinary o = (is_special o ≡ false) × (is_dir o ≡ false)

-- of what stands at a path, whether it is a fault there
abbrev pub fault_of : Bool → List Text → Text → Option Standing → Bool
fault_of within odd q it = cond within (is_hidden_fault q it) (is_special it || is_dir it && is_odd q odd)

fault_is : (held : Held) (q : Text) → is_fault held q ≡ fault_of (is_within hidden_dir q) held.odd q (standing held q)
unfolding is_fault
fault_is held q = refl

outside-fault : (within : Bool) (odd : List Text) (q : Text) (it : Option Standing) → within ≡ false → IsOrdinary it → fault_of within odd q it ≡ false
outside-fault true odd q it e o = cc
outside-fault false odd q it e o = simp (o.0, o.1) refl

module _ (held to : Held) (path : Text) (o : Option Standing) (visible : IsVisible path) (odd : to.odd ≡ held.odd) (at : (q : Text) → standing to q ≡ cond (same_path q path) o (standing held q)) where
  pub still-hidden : (q : Text) → is_within hidden_dir q ≡ true → standing to q ≡ standing held q
  still-hidden q inside = at q ∙ (elim (same_path q path) as (λ b. same_path q path ≡ b → cond b o (standing held q) ≡ standing held q) [
    | true ↦ λ e. absurd (clash (is_within hidden_dir path) (sym (ap (is_within hidden_dir) (one_path q path e)) ∙ inside) visible)
    | false ↦ λ e. refl
  ]) refl

  no_fault : IsOrdinary o → ((q : Text) → is_fault held q ≡ false) → (q : Text) → is_fault to q ≡ false
  no_fault ordinary none q =
      fault_is to q ∙ ap (λ (dirs : List Text). fault_of (is_within hidden_dir q) dirs q (standing to q)) odd
      ∙ ap (fault_of (is_within hidden_dir q) held.odd q) (at q)
      ∙ (elim (same_path q path) as (λ b. same_path q path ≡ b → fault_of (is_within hidden_dir q) held.odd q (cond b o (standing held q)) ≡ false) [
        | true ↦ λ e. outside-fault (is_within hidden_dir q) held.odd q o (ap (is_within hidden_dir) (one_path q path e) ∙ visible) ordinary
        | false ↦ λ e. sym (fault_is held q) ∙ none q
      ]) refl

  pub leaves-plain : IsOrdinary o → LeavesPlain held to
  leaves-plain ordinary = record {
    hidden = still-hidden;
    plain = λ plain. none_first (is_fault to) (first_special to) (no_fault ordinary (nothing_first (is_fault held) (first_special held) plain (first_special-is held))) (first_special-is to);
  }

same-plain : (held : Held) → LeavesPlain held held
same-plain held = record { hidden = λ path inside. refl; plain = λ plain. plain }

by_test : (b : Bool) (held to : Held) → LeavesPlain held to → LeavesPlain held (cond b to held)
by_test true held to l = l
by_test false held to l = same-plain held

file-plain : (file : File) (held : Held) → IsVisibleFile file → LeavesPlain held (with_file file held)
file-plain file held visible =
    by_test (can_write file.path held) held (with_standing file.path (a_file file.bytes) held)
    (leaves-plain held (with_standing file.path (a_file file.bytes) held) file.path (Some (a_file file.bytes)) visible refl (standing-with file.path (a_file file.bytes) held) (refl, refl))

gone-plain : (path : Text) (held : Held) → IsVisible path → LeavesPlain held (without_file path held)
gone-plain path held visible =
    by_test (can_remove_file path held) held (without path held)
    (leaves-plain held (without path held) path None visible refl (standing-without path held) (refl, refl))

edit-plain : (edit : Edit) (held : Held) → IsVisibleEdit edit → LeavesPlain held (changed edit held)
edit-plain (Write file) held visible = file-plain file held visible
edit-plain (Remove path) held visible = gone-plain path held visible
edit-plain Nothing held visible = same-plain held

pub edits-plainly : (made : Made) (held : Held) → LeavesPlain held (changed (edited made).edit held)
edits-plainly made held = edit-plain (edited made).edit held (edited-visible made)

-- The start.

no_left : (b : Bool) → (b && false) ≡ false
no_left true = refl
no_left false = refl

neither : (x y : Bool) → x ≡ false → y ≡ false → (x || y) ≡ false
neither x y h g = cc

none_hidden : (q : Text) → is_hidden_fault q None ≡ false
none_hidden q = neither _ _ (no_left (same_text q hidden_dir)) (no_left (is_state_file q))

root-visible : IsVisible root
unfolding is_within join
root-visible = refl

alone : (q : Text) → standing root_alone q ≡ cond (same_path q root) (Some Dir) None
alone q = standing-with root Dir (record { places = empty; odd = [] }) q ∙ ap (λ (o : Option Standing). cond (same_path q root) (Some Dir) o) (get-empty text_cmp q)

alone_hidden : (path : Text) → is_within hidden_dir path ≡ true → standing root_alone path ≡ None
alone_hidden path inside = alone path ∙ (elim (same_path path root) as (λ (b : Bool). same_path path root ≡ b → cond b (Some Dir) None ≡ None) [
  | true ↦ λ e. absurd (clash (is_within hidden_dir root) (sym (ap (is_within hidden_dir) (one_path path root e)) ∙ inside) root-visible)
  | false ↦ λ e. refl
]) refl

outside_dir : (q : Text) → fault_of (is_within hidden_dir root) [] q (Some Dir) ≡ false
outside_dir q = ap (λ (b : Bool). fault_of b [] q (Some Dir)) root-visible

none-fault : (within : Bool) (q : Text) → fault_of within [] q None ≡ false
none-fault true q = none_hidden q
none-fault false q = refl

alone-fault : (q : Text) → is_fault root_alone q ≡ false
alone-fault q = fault_is root_alone q ∙ ap (fault_of (is_within hidden_dir q) [] q) (alone q) ∙ (elim (same_path q root) as (λ (b : Bool). same_path q root ≡ b → fault_of (is_within hidden_dir q) [] q (cond b (Some Dir) None) ≡ false) [
  | true ↦ λ e. ap (λ (p : Text). fault_of (is_within hidden_dir p) [] q (Some Dir)) (one_path q root e) ∙ outside_dir q
  | false ↦ λ e. none-fault (is_within hidden_dir q) q
]) refl

alone-plain : IsPlainStart root_alone
alone-plain = record {
  hidden = alone_hidden;
  plain = none_first (is_fault root_alone) (first_special root_alone) alone-fault (first_special-is root_alone);
}

start-more : (held to : Held) → IsPlainStart held → LeavesPlain held to → IsPlainStart to
start-more held to is l = record { hidden = λ path inside. l.hidden path inside ∙ is.hidden path inside; plain = l.plain is.plain }

files-plain : (files : List File) (held : Held) → AllByRecursion IsVisibleFile files → IsPlainStart held → IsPlainStart (with_files files held)
files-plain [] held all is = is
files-plain (file ∷ files) held all is = files-plain files (with_file file held) all.1 (start-more held (with_file file held) is (file-plain file held all.0))

pub starts-plainly : (seed : ℕ) → IsPlainStart (with_files (files_of seed) root_alone)
starts-plainly seed = files-plain (files_of seed) root_alone (files-visible seed) alone-plain
