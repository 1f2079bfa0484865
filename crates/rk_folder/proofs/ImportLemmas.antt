-- What a whole import tells, by what is listed in the root, where the folder tells what it holds.
use Rattle.std.proofs.Common.{◌≡◌, List, Bool, true, false, Option, Some, None, IfSome, is_some, Result, Ok, Err, option_map, refl, sym, ap, subst, ◌∙◌, cond}
use Rattle.std.specs.FinMap.{get}
use Rattle.std.specs.List.{list_all, list_any}
use Rattle.rk_base.specs.Text.{Text, root, hidden, depth, is_within}
use Rattle.rk_base.specs.Canonical.{is_canonical}
use Rattle.rk_base.proofs.CanonicalLemmas.{root-canonical}
use Rattle.rk_tree.specs.Entries as tree
use Rattle.rk_tree.specs.Entries.{Entries}
use Rattle.rk_tree.proofs.TextLemmas.{root_seen}
use Rattle.rk_folder.specs.Told.{Held, standing, is_dir, is_file, bytes_in, can_list, item_of}
use Rattle.rk_folder.specs.Whole.{IsWhole, TellsWhole}
use Rattle.rk_folder.specs.Hidden.{hidden_dir, attrs_file, db_file, install_file, fresh_list_file}
use Rattle.rk_folder.specs.Listing.{IsFirst}
use Rattle.rk_folder.specs.Specials.{is_fault, first_special, state_special, hidden_fault, hidden_special}
use Rattle.rk_folder.specs.Import.{Tells, has_database, hidden_read, listed_of}
use Rattle.rk_folder.specs.Steps.{ListsRoot, agrees, has_db, hidden_listed, is_dir_item, is_odd_item, item_named, listed_in, nothing_found, first_within, first_fault, special_in, with_within, with_items, nothing_special, root_entry}
use Rattle.rk_folder.specs.declared.hidden_files.Hidden.{Hidden}
use Rattle.rk_folder.specs.declared.hidden_listing.Listed.{Listed}
use Rattle.rk_folder.specs.declared.folder.Item.{Item}
use Rattle.rk_folder.specs.declared.folder.Standing.{Standing}
use Rattle.rk_folder.specs.declared.folder.Standing.TheVariants.{File, Dir, Special}
use Rattle.rk_folder.specs.declared.importing.ImportErr.{ImportErr}
use Rattle.rk_folder.specs.declared.importing.ImportErr.TheVariants as err
use Rattle.rk_folder.proofs.FirstLemmas.{clash, first_special-is}
use Rattle.rk_folder.proofs.SpecialLemmas.{special-none}
use Rattle.rk_folder.proofs.HiddenLemmas.{special-hidden}
use Rattle.rk_folder.proofs.ReadingLemmas.{ToldItems, told-same, told-agree, found, hidden_item, is_gone}
use Rattle.rk_folder.proofs.SnapshotLemmas.{root_entry-dir}
use Rattle.rk_folder.proofs.TakenLemmas.{told-odd, told-items, told-whole, told-stop}

-- the same items, as a listing of the root tells them
pub told-listed : (told : Option Held) (items : List Item) → ListsRoot told items → ToldItems told root items
told-listed None items listed = tt
told-listed (Some held) items listed = (refl, listed)

-- the root can be listed
pub told-root : (told : Option Held) → TellsWhole told → IfSome told (λ held. can_list root held ≡ true)
told-root None whole = tt
told-root (Some held) whole = whole.root_dir

-- where nothing is special, nothing of the hidden directory is
pub hidden-plain : (held : Held) → IsWhole held → first_special held ≡ None → hidden_special held ≡ None
hidden-plain held whole plain = sym (special-hidden held whole) ∙ special-none held hidden_dir (λ q within fault. clash _ fault (nowhere q)) where
  nowhere : (q : Text) → is_fault held q ≡ false
  nowhere = subst (IsFirst (is_fault held)) plain (first_special-is held)

pub told-plain : (told : Option Held) (P : Held → Type 0) → TellsWhole told → IfSome told (λ held. (first_special held ≡ None) × P held) → IfSome told (λ held. hidden_special held ≡ None)
told-plain None P whole plain = tt
told-plain (Some held) P whole plain = hidden-plain held whole plain.0

-- The hidden directory.

no_dir : (o : Option Standing) (state : Option Text) → is_dir o ≡ false → hidden_fault o state ≡ None → o ≡ None
no_dir None state d h = refl
no_dir (Some (File bytes)) state d h = cc
no_dir (Some Dir) state d h = cc
no_dir (Some Special) state d h = cc

pub a_dir : (o : Option Standing) → is_dir o ≡ true → o ≡ Some Dir
a_dir None h = cc
a_dir (Some (File bytes)) h = cc
a_dir (Some Dir) h = refl
a_dir (Some Special) h = cc

pub item_dir : (o : Option Standing) → is_dir_item (option_map (item_of hidden) o) ≡ is_dir o
item_dir None = refl
item_dir (Some (File bytes)) = refl
item_dir (Some Dir) = refl
item_dir (Some Special) = refl

-- nothing is found where nothing stands
gone_found : (skips_db : Bool) (held : Held) (dir attrs db install fresh_list : Option Standing) → dir ≡ None → attrs ≡ None → db ≡ None → install ≡ None → fresh_list ≡ None
    → nothing_found ≡ found (is_dir dir) (cond skips_db None (bytes_in db)) (bytes_in attrs) (bytes_in install) (is_file fresh_list)
gone_found true held dir attrs db install fresh_list g a d i n = ap (λ (o : Option Standing). found (is_dir o) None None None false) (sym g) ∙ ap (λ (o : Option Standing). found (is_dir dir) None (bytes_in o) None false) (sym a)
    ∙ ap (λ (o : Option Standing). found (is_dir dir) None (bytes_in attrs) (bytes_in o) false) (sym i) ∙ ap (λ (o : Option Standing). found (is_dir dir) None (bytes_in attrs) (bytes_in install) (is_file o)) (sym n)
gone_found false held dir attrs db install fresh_list g a d i n = ap (λ (o : Option Standing). found (is_dir o) None None None false) (sym g) ∙ ap (λ (o : Option Standing). found (is_dir dir) None (bytes_in o) None false) (sym a)
    ∙ ap (λ (o : Option Standing). found (is_dir dir) (bytes_in o) (bytes_in attrs) None false) (sym d)
    ∙ ap (λ (o : Option Standing). found (is_dir dir) (bytes_in db) (bytes_in attrs) (bytes_in o) false) (sym i) ∙ ap (λ (o : Option Standing). found (is_dir dir) (bytes_in db) (bytes_in attrs) (bytes_in install) (is_file o)) (sym n)

not_listed : (held : Held) (b : Bool) → is_dir (standing held hidden_dir) ≡ b → None ≡ cond b (Some (listed_in held)) None → b ≡ false
not_listed held true d h = cc
not_listed held false d h = refl

pub told-nothing_found : (told : Option Held) (skips_db : Bool) (listed : Option Listed) (s : Hidden) → TellsWhole told → IfSome told (λ held. listed ≡ hidden_listed held) → listed ≡ None → IfSome told (λ held. hidden_special held ≡ None) → s ≡ nothing_found
    → IfSome told (λ held. (nothing_special held ≡ None) × (s ≡ hidden_read skips_db held))
told-nothing_found None skips_db listed s whole is none plain at = tt
told-nothing_found (Some held) skips_db listed s whole is none plain at =
    let gone : standing held hidden_dir ≡ None = no_dir (standing held hidden_dir) (state_special held) (not_listed held (is_dir (standing held hidden_dir)) refl (sym none ∙ is)) plain in
    let g = is_gone held whole gone in
    (refl, at ∙ gone_found skips_db held (standing held hidden_dir) (standing held attrs_file) (standing held db_file) (standing held install_file) (standing held fresh_list_file) gone g.attrs g.db g.install g.fresh_list)

-- what is listed in it, it being a directory
listed_dir : (held : Held) (o : Option Standing) (it : Listed) → Some it ≡ cond (is_dir o) (Some (listed_in held)) None → (o ≡ Some Dir) × (it ≡ listed_in held)
listed_dir held None it h = cc
listed_dir held (Some (File bytes)) it h = cc
listed_dir held (Some Dir) it h = (refl, cc)
listed_dir held (Some Special) it h = cc

pub told-listed_dir : (told : Option Held) (listed : Option Listed) (it : Listed) → IfSome told (λ held. listed ≡ hidden_listed held) → listed ≡ Some it → IfSome told (λ held. standing held hidden_dir ≡ Some Dir)
told-listed_dir None listed it is some = tt
told-listed_dir (Some held) listed it is some = (listed_dir held (standing held hidden_dir) it (sym some ∙ is)).0

pub told-listed_in : (told : Option Held) (listed : Option Listed) (it : Listed) → IfSome told (λ held. listed ≡ hidden_listed held) → listed ≡ Some it → IfSome told (λ held. it ≡ listed_in held)
told-listed_in None listed it is some = tt
told-listed_in (Some held) listed it is some = (listed_dir held (standing held hidden_dir) it (sym some ∙ is)).1

-- what a directory's fault is
dir_fault : (held : Held) → standing held hidden_dir ≡ Some Dir → hidden_special held ≡ state_special held
dir_fault held dir = ap (λ (o : Option Standing). hidden_fault o (state_special held)) dir

pub told-state_plain : (told : Option Held) → IfSome told (λ held. standing held hidden_dir ≡ Some Dir) → IfSome told (λ held. hidden_special held ≡ None) → IfSome told (λ held. state_special held ≡ None)
told-state_plain None dir plain = tt
told-state_plain (Some held) dir plain = sym (dir_fault held dir) ∙ plain

pub told-lists_hidden_dir : (told : Option Held) → IfSome told (λ held. standing held hidden_dir ≡ Some Dir) → IfSome told (λ held. can_list hidden_dir held ≡ true)
told-lists_hidden_dir None dir = tt
told-lists_hidden_dir (Some held) dir = ap is_dir dir

-- where `.rkr` is a directory, what is special in it is told of it
pub told-hidden_failed : {A B : Type 0} (told : Option Held) (P : Held → A → Type 0) (Q : Held → B → Type 0) (e : ImportErr) → IfSome told (λ held. standing held hidden_dir ≡ Some Dir) → Tells {T = A} told state_special P (Err e) → Tells {T = B} told hidden_special Q (Err e)
told-hidden_failed None P Q (err.Special path) dir tells = tt
told-hidden_failed (Some held) P Q (err.Special path) dir tells = dir_fault held dir ∙ tells
told-hidden_failed told P Q err.ReadFault dir tells = tt
told-hidden_failed told P Q err.NoMemory dir tells = tt

-- nothing stands there
no_item : (o : Option Standing) → option_map (item_of hidden) o ≡ None → o ≡ None
no_item None h = refl
no_item (Some it) h = cc

pub told-no_hidden : (told : Option Held) (items : List Item) → TellsWhole told → ListsRoot told items → item_named hidden items ≡ None → IfSome told (λ held. (hidden_special held ≡ None) × (None ≡ hidden_listed held))
told-no_hidden None items whole listed none = tt
told-no_hidden (Some held) items whole listed none =
    let gone : standing held hidden_dir ≡ None = no_item (standing held hidden_dir) (sym (hidden_item held items whole listed) ∙ none) in
    (ap (λ (o : Option Standing). hidden_fault o (state_special held)) gone, sym (ap (λ (o : Option Standing). cond (is_dir o) (Some (listed_in held)) None) gone))

-- and it is a directory
pub told-hidden_listed : (told : Option Held) (it : Listed) → IfSome told (λ held. standing held hidden_dir ≡ Some Dir) → IfSome told (λ held. (state_special held ≡ None) × (it ≡ listed_in held)) → IfSome told (λ held. (hidden_special held ≡ None) × (Some it ≡ hidden_listed held))
told-hidden_listed None it dir is = tt
told-hidden_listed (Some held) it dir is =
    (dir_fault held dir ∙ is.0, ap (λ (l : Listed). Some l) is.1 ∙ sym (ap (λ (o : Option Standing). cond (is_dir o) (Some (listed_in held)) None) dir))

-- the database stands where it is listed
db_stands : (held : Held) (o : Option Standing) → IsWhole held → standing held hidden_dir ≡ o → hidden_fault o (state_special held) ≡ None → has_db (cond (is_dir o) (Some (listed_in held)) None) ≡ has_database held
db_stands held None whole at plain = sym (ap (λ (x : Option Standing). is_some (bytes_in x)) (is_gone held whole at).db)
db_stands held (Some (File bytes)) whole at plain = cc
db_stands held (Some Dir) whole at plain = refl
db_stands held (Some Special) whole at plain = cc

pub told-has_database : (told : Option Held) (listed : Option Listed) (b : Bool) → TellsWhole told → IfSome told (λ held. (hidden_special held ≡ None) × (listed ≡ hidden_listed held)) → b ≡ has_db listed → IfSome told (λ held. (hidden_special held ≡ None) × (b ≡ has_database held))
told-has_database None listed b whole is at = tt
told-has_database (Some held) listed b whole is at = (is.0, at ∙ ap has_db is.1 ∙ db_stands held (standing held hidden_dir) whole refl is.0)

pub told-has_database_now : (told now : Option Held) (listed : Option Listed) (b : Bool) → TellsWhole told → now ≡ told → IfSome now (λ held. (hidden_special held ≡ None) × (listed ≡ hidden_listed held)) → b ≡ has_db listed → IfSome told (λ held. (hidden_special held ≡ None) × (b ≡ has_database held))
told-has_database_now told now listed b whole same is at = told-has_database told listed b whole (subst (λ (t : Option Held). IfSome t (λ held. (hidden_special held ≡ None) × (listed ≡ hidden_listed held))) same is) at

-- The whole folder.

same_dir : (told : Option Held) (dir : Text) (items : List Item) → dir ≡ root → ListsRoot told items → ToldItems told dir items
same_dir told dir items at listed = told-same told root dir items items (told-listed told items listed) (sym at) refl

can_list_dir : (told : Option Held) (dir : Text) → TellsWhole told → dir ≡ root → IfSome told (λ held. can_list dir held ≡ true)
can_list_dir told dir whole at = subst (λ (p : Text). IfSome told (λ held. can_list p held ≡ true)) (sym at) (told-root told whole)

pub told-agree_root : (told : Option Held) (dir : Text) (items : List Item) → TellsWhole told → dir ≡ root → ListsRoot told items → IfSome told (λ held. list_all (agrees held dir) items ≡ true)
told-agree_root told dir items whole at listed = told-agree told dir items whole (same_dir told dir items at listed)

pub told-odd_root : (told : Option Held) (dir : Text) (items : List Item) (b : Bool) → TellsWhole told → dir ≡ root → ListsRoot told items → b ≡ list_any is_odd_item items → b ≡ true → IfSome told (λ held. first_special held ≡ Some dir)
told-odd_root told dir items b whole at listed odd has =
    told-stop {A = Unit {0}} {B = Unit {0}} told dir (λ held it. Unit {0}) (λ held it. Unit {0}) (err.Special dir) whole at
    (told-odd told dir dir items b (can_list_dir told dir whole at) (ap (is_within hidden_dir) at ∙ root_seen) (same_dir told dir items at listed) odd has refl)

-- what its items tell is what the root tells
taken_root : {A : Type 0} (told now : Option Held) (dir : Text) (items : List Item) (b : Bool) (old new : Entries) (result : Result A ImportErr) → now ≡ told → TellsWhole told → dir ≡ root → ListsRoot told items → old ≡ root_entry → b ≡ list_any is_odd_item items → b ≡ false
    → Tells now (λ held. first_fault (special_in held dir) items) (λ held it. new ≡ with_items held dir old items) result → Tells told (λ held. first_within held dir) (λ held it. new ≡ with_within held dir old) result
taken_root told now dir items b old new result is whole at listed first odd plain tells =
    told-items told now dir items items b old new result is refl whole (ap is_canonical at ∙ root-canonical) (can_list_dir told dir whole at) (ap (is_within hidden_dir) at ∙ root_seen)
    (ap (λ (s : Entries). tree.is_dir (get s dir)) first ∙ ap (λ (p : Text). tree.is_dir (get root_entry p)) at ∙ root_entry-dir) (same_dir told dir items at listed) odd plain tells

pub told-entries : {A : Type 0} (told now : Option Held) (dir : Text) (items : List Item) (b : Bool) (old new : Entries) (it : A) → now ≡ told → TellsWhole told → dir ≡ root → ListsRoot told items → old ≡ root_entry → b ≡ list_any is_odd_item items → b ≡ false
    → Tells now (λ held. first_fault (special_in held dir) items) (λ held it. new ≡ with_items held dir old items) (Ok it) → IfSome told (λ held. (first_special held ≡ None) × (new ≡ listed_of held))
told-entries told now dir items b old new it is whole at listed first odd plain tells =
    told-whole told dir old new whole at first (taken_root told now dir items b old new (Ok it) is whole at listed first odd plain tells)

pub told-no_entries : (A : Type 0) {B : Type 0} (told now : Option Held) (dir : Text) (items : List Item) (b : Bool) (old new : Entries) (Q : Held → B → Type 0) (e : ImportErr) → now ≡ told → TellsWhole told → dir ≡ root → ListsRoot told items → old ≡ root_entry → b ≡ list_any is_odd_item items → b ≡ false
    → Tells {T = A} now (λ held. first_fault (special_in held dir) items) (λ held it. new ≡ with_items held dir old items) (Err e) → Tells {T = B} told first_special Q (Err e)
told-no_entries A {B = B} told now dir items b old new Q e is whole at listed first odd plain tells =
    told-stop {A = A} {B = B} told dir (λ held it. new ≡ with_within held dir old) Q e whole at (taken_root {A = A} told now dir items b old new (Err e) is whole at listed first odd plain tells)

pub root-depth : depth root ≡ 0
unfolding depth
root-depth = refl
