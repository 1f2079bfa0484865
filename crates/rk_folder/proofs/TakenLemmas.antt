-- What the parts of an import tell of what they put in the snapshot, where the folder tells what it holds.
use Rattle.std.proofs.Common.{◌≡◌, List, Bool, true, false, Option, Some, None, IfSome, Result, Ok, Err, OnOk, arith, refl, sym, ap, subst, ◌∙◌}
use Rattle.std.specs.FinMap.{get}
use Rattle.std.specs.List.{list_any}
use Rattle.rk_base.specs.Text.{Text, root, join, is_within, same_text}
use Rattle.rk_base.specs.Canonical.{is_canonical, is_name}
use Rattle.rk_base.proofs.CanonicalLemmas.{both, join-canonical}
use Rattle.rk_tree.proofs.TextLemmas.{same_is}
use Rattle.rk_tree.specs.Entries as tree
use Rattle.rk_tree.specs.Entries.{Entries, IsWholeSnapshot}
use Rattle.rk_tree.specs.Node.{Node as Entry}
use Rattle.rk_tree.specs.Node as entry
use Rattle.rk_tree.specs.declared.content.Content.{Content}
use Rattle.rk_tree.specs.declared.content.Content.TheVariants.{Unread}
use Rattle.rk_folder.specs.Told.{Held, standing, is_file, is_dir, can_list, items_of}
use Rattle.rk_folder.specs.Whole.{IsWhole, TellsWhole}
use Rattle.rk_folder.specs.Hidden.{hidden_dir}
use Rattle.rk_folder.specs.Specials.{is_special, is_other_than_dir, is_fault, first_special, hidden_fault, state_special}
use Rattle.rk_folder.specs.Import.{Tells, listed_of}
use Rattle.rk_folder.specs.Steps.{agrees, is_odd_item, first_within, special_in, first_fault, with_entry, with_within, with_items, root_entry}
use Rattle.rk_folder.specs.declared.folder.Item.{Item}
use Rattle.rk_folder.specs.declared.folder.Item.TheVariants as item
use Rattle.rk_folder.specs.declared.folder.Standing.{Standing}
use Rattle.rk_folder.specs.declared.folder.Standing.TheVariants.{File, Dir, Special}
use Rattle.rk_folder.specs.declared.importing.ImportErr.{ImportErr}
use Rattle.rk_folder.specs.declared.importing.ImportErr.TheVariants as err
use Rattle.rk_folder.proofs.HeldLemmas.{file_of}
use Rattle.rk_folder.proofs.ListingLemmas.{odd_item-is}
use Rattle.rk_folder.proofs.ReadingLemmas.{ToldItems, moved-told}
use Rattle.rk_folder.proofs.WithinLemmas.{seen-child}
use Rattle.rk_folder.proofs.SpecialLemmas.{special-root, special-itself, special-fault, special-file, special-odd, special-items}
use Rattle.rk_folder.proofs.HiddenLemmas.{bad_dir, special-hidden}
use Rattle.rk_folder.proofs.SnapshotLemmas.{dir_is, within-items, within-one, within-with_entry, within-hidden, within-whole, with_entry-dir, with_entry-whole, placed-above}

abbrev pub FirstIs : Option Held → Text → Option Text → Type 0
FirstIs told path o = IfSome told (λ held. first_within held path ≡ o)

-- the item is as it was told
abbrev pub Agrees : Option Held → Text → Item → Type 0
Agrees told dir it = IfSome told (λ held. agrees held dir it ≡ true)

-- A path of another term.

pub not_hidden : (path dir name : Text) (b : Bool) → path ≡ join dir name → b ≡ same_text path hidden_dir → b ≡ false → same_text (join dir name) hidden_dir ≡ false
not_hidden path dir name b at is other = ap (λ (t : Text). same_text t hidden_dir) (sym at) ∙ sym is ∙ other

pub entered-canonical : (path dir name : Text) → path ≡ join dir name → is_canonical dir ≡ true → is_name name ≡ true → is_canonical path ≡ true
entered-canonical path dir name at c n = ap is_canonical at ∙ join-canonical dir name c n

pub entered-seen : (path dir name : Text) → path ≡ join dir name → is_canonical dir ≡ true → is_name name ≡ true → is_within hidden_dir dir ≡ false → same_text (join dir name) hidden_dir ≡ false → is_within hidden_dir path ≡ false
entered-seen path dir name at c n seen other = ap (is_within hidden_dir) at ∙ seen-child dir name c n seen other

pub with_entry-same : (new old : Entries) (path dir name : Text) (it : Entry) → new ≡ with_entry path it old → path ≡ join dir name → new ≡ with_entry (join dir name) it old
with_entry-same new old path dir name it is at = is ∙ ap (λ (t : Text). with_entry t it old) at

-- the snapshot stays whole
pub with_file-whole : (old new : Entries) (path dir name : Text) (content : Content) → IsWholeSnapshot old → tree.is_dir (get old dir) ≡ true → is_canonical dir ≡ true → is_name name ≡ true → is_within hidden_dir dir ≡ false → same_text (join dir name) hidden_dir ≡ false → path ≡ join dir name → new ≡ with_entry path (entry.File 420 content) old → IsWholeSnapshot new
with_file-whole old new path dir name content whole d c n seen other at is =
    subst IsWholeSnapshot (sym (with_entry-same new old path dir name (entry.File 420 content) is at)) (with_entry-whole old dir name (entry.File 420 content) whole d c n (seen-child dir name c n seen other) (omega arith))

pub with_dir-whole : (old new : Entries) (path dir name : Text) → IsWholeSnapshot old → tree.is_dir (get old dir) ≡ true → is_canonical dir ≡ true → is_name name ≡ true → is_within hidden_dir dir ≡ false → same_text (join dir name) hidden_dir ≡ false → path ≡ join dir name → new ≡ with_entry path (entry.Dir 493) old → IsWholeSnapshot new
with_dir-whole old new path dir name whole d c n seen other at is =
    subst IsWholeSnapshot (sym (with_entry-same new old path dir name (entry.Dir 493) is at)) (with_entry-whole old dir name (entry.Dir 493) whole d c n (seen-child dir name c n seen other) (omega arith))

pub with_dir-stands : (old new : Entries) (copy path : Text) → copy ≡ path → new ≡ with_entry copy (entry.Dir 493) old → tree.is_dir (get new path) ≡ true
with_dir-stands old new copy path at is = ap (λ (t : Text). tree.is_dir (get new t)) (sym at) ∙ ap (λ (s : Entries). tree.is_dir (get s copy)) is ∙ with_entry-dir copy 493 old

-- A file.

file_other : (o : Option Standing) → is_file o ≡ true → is_other_than_dir o ≡ true
file_other None h = cc
file_other (Some (File bytes)) h = refl
file_other (Some Dir) h = cc
file_other (Some Special) h = cc

pub told-hidden_file : (told : Option Held) (dir name path : Text) (b : Bool) → Agrees told dir (item.File name) → path ≡ join dir name → b ≡ same_text path hidden_dir → b ≡ true → FirstIs told (join dir name) (Some path)
told-hidden_file None dir name path b a at is h = tt
told-hidden_file (Some held) dir name path b a at is h =
    let same : join dir name ≡ hidden_dir = sym at ∙ same_is path hidden_dir (sym is ∙ h) in
    special-itself held (join dir name) (ap (is_fault held) same ∙ bad_dir held (file_other (standing held hidden_dir) (ap (λ (t : Text). is_file (standing held t)) (sym same) ∙ (both (is_name name) _ a).1)))
    ∙ ap (λ (t : Text). Some t) (sym at)

pub told-file : (told : Option Held) (dir name path copy : Text) (old new : Entries) → TellsWhole told → is_within hidden_dir dir ≡ false → is_canonical dir ≡ true → is_name name ≡ true → Agrees told dir (item.File name) → path ≡ join dir name → same_text (join dir name) hidden_dir ≡ false
    → copy ≡ path → new ≡ with_entry path (entry.File 420 (Unread copy)) old → IfSome told (λ held. (first_within held (join dir name) ≡ None) × (new ≡ with_within held (join dir name) old))
told-file None dir name path copy old new whole seen c n a at other same is = tt
told-file (Some held) dir name path copy old new whole seen c n a at other same is =
    let out = seen-child dir name c n seen other in
    let file = (both (is_name name) _ a).1 in
    let f = file_of (standing held (join dir name)) file in (
      special-file held (join dir name) whole out file,
      with_entry-same new old path dir name (entry.File 420 (Unread copy)) is at ∙ ap (λ (t : Text). with_entry (join dir name) (entry.File 420 (Unread t)) old) (same ∙ at) ∙ within-one held (join dir name) f.0 old whole out f.1,
    )

-- A directory.

pub told-lists : (told now : Option Held) (dir name path : Text) → now ≡ told → Agrees told dir (item.Dir name) → path ≡ join dir name → IfSome now (λ held. can_list path held ≡ true)
told-lists told now dir name path is a at = moved-told (λ held. can_list path held ≡ true) told now (sym is) (here told a) where
  here : (t : Option Held) → Agrees t dir (item.Dir name) → IfSome t (λ held. can_list path held ≡ true)
  here None b = tt
  here (Some held) b = ap (λ (t : Text). is_dir (standing held t)) at ∙ (both (is_name name) _ b).1

pub told-lists_hidden : (told : Option Held) (dir name path : Text) (b : Bool) → Agrees told dir (item.Dir name) → path ≡ join dir name → b ≡ same_text path hidden_dir → b ≡ true → IfSome told (λ held. can_list hidden_dir held ≡ true)
told-lists_hidden None dir name path b a at is h = tt
told-lists_hidden (Some held) dir name path b a at is h =
    ap (λ (t : Text). is_dir (standing held t)) (sym (same_is path hidden_dir (sym is ∙ h)) ∙ at) ∙ (both (is_name name) _ a).1

pub told-state_fault : (told : Option Held) (dir name path : Text) (b : Bool) (o : Option Text) → TellsWhole told → Agrees told dir (item.Dir name) → path ≡ join dir name → b ≡ same_text path hidden_dir → b ≡ true → IfSome told (λ held. state_special held ≡ o) → FirstIs told (join dir name) o
told-state_fault None dir name path b o whole a at is h fault = tt
told-state_fault (Some held) dir name path b o whole a at is h fault =
    let same : join dir name ≡ hidden_dir = sym at ∙ same_is path hidden_dir (sym is ∙ h) in
    let dir : standing held hidden_dir ≡ Some Dir = dir_is (standing held hidden_dir) (ap (λ (t : Text). is_dir (standing held t)) (sym same) ∙ (both (is_name name) _ a).1) in
    ap (first_within held) same ∙ special-hidden held whole ∙ ap (λ (s : Option Standing). hidden_fault s (state_special held)) dir ∙ fault

pub told-state_taken : (told : Option Held) (dir name path : Text) (b : Bool) (snapshot : Entries) (result : Result (Unit {0}) ImportErr) → TellsWhole told → Agrees told dir (item.Dir name) → path ≡ join dir name → b ≡ same_text path hidden_dir → b ≡ true → Tells told state_special (λ held it. Unit {0}) result
    → Tells told (λ held. first_within held (join dir name)) (λ held it. snapshot ≡ with_within held (join dir name) snapshot) result
told-state_taken None dir name path b snapshot (Ok it) whole a at is h tells = tt
told-state_taken None dir name path b snapshot (Err (err.Special p)) whole a at is h tells = tt
told-state_taken None dir name path b snapshot (Err err.ReadFault) whole a at is h tells = tt
told-state_taken None dir name path b snapshot (Err err.NoMemory) whole a at is h tells = tt
told-state_taken (Some held) dir name path b snapshot (Ok it) whole a at is h tells =
    let same : join dir name ≡ hidden_dir = sym at ∙ same_is path hidden_dir (sym is ∙ h) in
    (told-state_fault (Some held) dir name path b None whole a at is h tells.0, within-hidden held snapshot ∙ ap (λ (t : Text). with_within held t snapshot) (sym same))
told-state_taken (Some held) dir name path b snapshot (Err (err.Special p)) whole a at is h tells = told-state_fault (Some held) dir name path b (Some p) whole a at is h tells
told-state_taken (Some held) dir name path b snapshot (Err err.ReadFault) whole a at is h tells = tt
told-state_taken (Some held) dir name path b snapshot (Err err.NoMemory) whole a at is h tells = tt

pub told-dir : (told now : Option Held) (dir name path copy : Text) (old grown new : Entries) (result : Result (Unit {0}) ImportErr) → now ≡ told → is_within hidden_dir dir ≡ false → is_canonical dir ≡ true → is_name name ≡ true → Agrees told dir (item.Dir name) → path ≡ join dir name → copy ≡ path → same_text (join dir name) hidden_dir ≡ false → grown ≡ with_entry copy (entry.Dir 493) old
    → Tells now (λ held. first_within held path) (λ held it. new ≡ with_within held path grown) result → Tells told (λ held. first_within held (join dir name)) (λ held it. new ≡ with_within held (join dir name) old) result
told-dir told now dir name path copy old grown new result is seen c n a at again other put tells =
    here told result a (subst (λ (t : Option Held). Tells t (λ held. first_within held (join dir name)) (λ held it. new ≡ with_within held (join dir name) grown) result) is
    (subst (λ (p : Text). Tells now (λ held. first_within held p) (λ held it. new ≡ with_within held p grown) result) at tells)) where
      here : (t : Option Held) (r : Result (Unit {0}) ImportErr) → Agrees t dir (item.Dir name) → Tells t (λ held. first_within held (join dir name)) (λ held it. new ≡ with_within held (join dir name) grown) r → Tells t (λ held. first_within held (join dir name)) (λ held it. new ≡ with_within held (join dir name) old) r
      here None (Ok it) b k = tt
      here None (Err (err.Special p)) b k = tt
      here None (Err err.ReadFault) b k = tt
      here None (Err err.NoMemory) b k = tt
      here (Some held) (Ok it) b k = (
        k.0,
        k.1 ∙ ap (with_within held (join dir name)) (with_entry-same grown old copy dir name (entry.Dir 493) put (again ∙ at))
            ∙ within-with_entry held (join dir name) old (seen-child dir name c n seen other) (dir_is (standing held (join dir name)) (both (is_name name) _ b).1),
      )
      here (Some held) (Err (err.Special p)) b k = k
      here (Some held) (Err err.ReadFault) b k = tt
      here (Some held) (Err err.NoMemory) b k = tt

-- what the directory stands in still stands
pub placed-on : (new : Entries) (dir name path : Text) (result : Result (Unit {0}) ImportErr) → is_canonical dir ≡ true → is_name name ≡ true → path ≡ join dir name → OnOk result (IsWholeSnapshot new) → OnOk result (tree.is_dir (get new path) ≡ true) → OnOk result (tree.is_dir (get new dir) ≡ true)
placed-on new dir name path (Ok it) c n at whole placed = placed-above new dir name whole c n (ap (λ (t : Text). tree.is_dir (get new t)) (sym at) ∙ placed)
placed-on new dir name path (Err e) c n at whole placed = tt

-- What is special.

pub told-special : (told : Option Held) (dir name path : Text) → Agrees told dir (item.Special name) → is_canonical dir ≡ true → is_within hidden_dir dir ≡ false → path ≡ join dir name → FirstIs told (join dir name) (Some path)
told-special None dir name path a c seen at = tt
told-special (Some held) dir name path a c seen at =
    let e = both (is_name name) _ a in
    special-itself held (join dir name) (special_fault (same_text (join dir name) hidden_dir) refl e.0 e.1) ∙ ap (λ (t : Text). Some t) (sym at) where
      other : (o : Option Standing) → is_special o ≡ true → is_other_than_dir o ≡ true
      other None h = cc
      other (Some (File bytes)) h = cc
      other (Some Dir) h = cc
      other (Some Special) h = refl

      special_fault : (b : Bool) → same_text (join dir name) hidden_dir ≡ b → is_name name ≡ true → is_special (standing held (join dir name)) ≡ true → is_fault held (join dir name) ≡ true
      special_fault true s n h =
          let same = same_is (join dir name) hidden_dir s in
          ap (is_fault held) same ∙ bad_dir held (other (standing held hidden_dir) (ap (λ (t : Text). is_special (standing held t)) (sym same) ∙ h))
      special_fault false s n h = special-fault held (join dir name) (seen-child dir name c n seen s) h

pub told-special_item : (told : Option Held) (dir : Text) (it : Item) (name path : Text) → Agrees told dir it → it ≡ item.Special name → is_canonical dir ≡ true → is_within hidden_dir dir ≡ false → path ≡ join dir name → IfSome told (λ held. special_in held dir it ≡ Some path)
told-special_item told dir it name path a is c seen at =
    subst (λ (i : Item). IfSome told (λ held. special_in held dir i ≡ Some path)) (sym is) (told-special told dir name path (subst (Agrees told dir) is a) c seen at)

-- All that is listed.

pub told-odd : (told : Option Held) (dir path : Text) (items : List Item) (b : Bool) → IfSome told (λ held. can_list dir held ≡ true) → is_within hidden_dir dir ≡ false → ToldItems told dir items → b ≡ list_any is_odd_item items → b ≡ true → path ≡ dir → FirstIs told dir (Some path)
told-odd None dir path items b lists seen listed is odd at = tt
told-odd (Some held) dir path items b lists seen listed is odd at =
    special-odd held dir seen lists (sym (odd_item-is held dir) ∙ ap (list_any is_odd_item) (sym listed.1) ∙ sym is ∙ odd) ∙ ap (λ (t : Text). Some t) (sym at)

first_is : (held : Held) (dir : Text) (items : List Item) (b : Bool) (o : Option Text) → IsWhole held → is_canonical dir ≡ true → can_list dir held ≡ true → is_within hidden_dir dir ≡ false → items ≡ items_of held dir → b ≡ list_any is_odd_item items → b ≡ false → first_fault (special_in held dir) items ≡ o → first_within held dir ≡ o
first_is held dir items b o whole c lists seen is odd plain fault =
    special-items held dir whole c seen lists (sym (odd_item-is held dir) ∙ ap (list_any is_odd_item) (sym is) ∙ sym odd ∙ plain) ∙ ap (first_fault (special_in held dir)) (sym is) ∙ fault

-- by what the items tell
pub told-items : {A : Type 0} (told now : Option Held) (dir : Text) (items all : List Item) (b : Bool) (old new : Entries) (result : Result A ImportErr) → now ≡ told → all ≡ items → TellsWhole told → is_canonical dir ≡ true → IfSome told (λ held. can_list dir held ≡ true) → is_within hidden_dir dir ≡ false → tree.is_dir (get old dir) ≡ true → ToldItems told dir items → b ≡ list_any is_odd_item items → b ≡ false
    → Tells now (λ held. first_fault (special_in held dir) all) (λ held it. new ≡ with_items held dir old all) result → Tells told (λ held. first_within held dir) (λ held it. new ≡ with_within held dir old) result
told-items {A = A} told now dir items all b old new result is same whole c lists seen d listed odd plain tells =
    here told result whole lists listed (subst (λ (t : Option Held). Tells t (λ held. first_fault (special_in held dir) items) (λ held it. new ≡ with_items held dir old items) result) is
    (subst (λ (x : List Item). Tells now (λ held. first_fault (special_in held dir) x) (λ held it. new ≡ with_items held dir old x) result) same tells)) where
      here : (t : Option Held) (r : Result A ImportErr) → TellsWhole t → IfSome t (λ held. can_list dir held ≡ true) → ToldItems t dir items → Tells t (λ held. first_fault (special_in held dir) items) (λ held it. new ≡ with_items held dir old items) r
          → Tells t (λ held. first_within held dir) (λ held it. new ≡ with_within held dir old) r
      here None (Ok it) w l i k = tt
      here None (Err (err.Special path)) w l i k = tt
      here None (Err err.ReadFault) w l i k = tt
      here None (Err err.NoMemory) w l i k = tt
      here (Some held) (Ok it) w l i k = (first_is held dir items b None w c l seen i.1 odd plain k.0, k.1 ∙ ap (with_items held dir old) i.1 ∙ within-items held dir old w c d)
      here (Some held) (Err (err.Special path)) w l i k = first_is held dir items b (Some path) w c l seen i.1 odd plain k
      here (Some held) (Err err.ReadFault) w l i k = tt
      here (Some held) (Err err.NoMemory) w l i k = tt

-- The whole folder.

pub told-whole : (told : Option Held) (dir : Text) (old new : Entries) → TellsWhole told → dir ≡ root → old ≡ root_entry → IfSome told (λ held. (first_within held dir ≡ None) × (new ≡ with_within held dir old)) → IfSome told (λ held. (first_special held ≡ None) × (new ≡ listed_of held))
told-whole None dir old new whole at is taken = tt
told-whole (Some held) dir old new whole at is taken =
    (special-root held whole ∙ ap (first_within held) (sym at) ∙ taken.0, taken.1 ∙ ap (λ (t : Text). with_within held t old) at ∙ ap (with_within held root) is ∙ within-whole held whole)

pub told-stop : {A B : Type 0} (told : Option Held) (dir : Text) (P : Held → A → Type 0) (Q : Held → B → Type 0) (e : ImportErr) → TellsWhole told → dir ≡ root → Tells {T = A} told (λ held. first_within held dir) P (Err e) → Tells {T = B} told first_special Q (Err e)
told-stop None dir P Q (err.Special path) whole at tells = tt
told-stop (Some held) dir P Q (err.Special path) whole at tells = special-root held whole ∙ ap (first_within held) (sym at) ∙ tells
told-stop told dir P Q err.ReadFault whole at tells = tt
told-stop told dir P Q err.NoMemory whole at tells = tt
