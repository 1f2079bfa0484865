-- What the parts of an import tell, where the folder tells what it holds.
use Rattle.std.proofs.Common.{◌≡◌, List, Bool, true, false, Option, Some, None, IfSome, is_some, option_map, refl, sym, ap, subst, ◌∙◌, cond}
use Rattle.std.specs.List.{list_all}
use Rattle.rk_base.specs.Text.{Text, root, hidden, join}
use Rattle.rk_base.specs.Canonical.{is_name}
use Rattle.rk_base.proofs.CanonicalLemmas.{root-canonical}
use Rattle.rk_folder.specs.Told.{Held, standing, is_file, bytes_in, item_of, items_of}
use Rattle.rk_folder.specs.Whole.{IsWhole, TellsWhole}
use Rattle.rk_folder.specs.Hidden.{hidden_dir, attrs_name, db_name, install_name, fresh_list_name, attrs_file, db_file, install_file, fresh_list_file}
use Rattle.rk_folder.specs.Specials.{or_else, state_fault, state_special, hidden_fault, hidden_special}
use Rattle.rk_folder.specs.Import.{has_database}
use Rattle.rk_folder.specs.Steps.{agrees, file_path, item_named, is_no_file, listed_among, listed_in, special_file, nothing_special}
use Rattle.rk_folder.specs.declared.hidden_files.Hidden.{Hidden}
use Rattle.rk_folder.specs.declared.hidden_listing.Listed.{Listed}
use Rattle.rk_folder.specs.declared.hidden_listing.StateFile.{StateFile}
use Rattle.rk_folder.specs.declared.hidden_listing.StateFile.TheVariants as state
use Rattle.rk_folder.specs.declared.folder.Item.{Item}
use Rattle.rk_folder.specs.declared.folder.Item.TheVariants as item
use Rattle.rk_folder.specs.declared.folder.Standing.{Standing}
use Rattle.rk_folder.specs.declared.folder.Standing.TheVariants.{File, Dir, Special}
use Rattle.rk_folder.proofs.HiddenLemmas.{hidden-is_name, attrs-named, db-named, install-named, fresh_list-named, hidden-canonical, nothing_below}
use Rattle.rk_folder.proofs.ListingLemmas.{items-agree, item_named-is}

-- a directory's items, where the folder tells what it holds
abbrev pub ToldItems : Option Held → Text → List Item → Type 0
ToldItems told dir items = IfSome told (λ held. (nothing_special held ≡ None) × (items ≡ items_of held dir))

-- the same items of the same directory, by other terms
pub told-same : (told : Option Held) (dir other : Text) (items same : List Item) → ToldItems told dir items → dir ≡ other → same ≡ items → ToldItems told other same
told-same told dir other items same listed d i = subst (λ (x : List Item). ToldItems told other x) (sym i) (subst (λ (x : Text). ToldItems told x items) d listed)

pub told-agree : (told : Option Held) (dir : Text) (items : List Item) → TellsWhole told → ToldItems told dir items → IfSome told (λ held. list_all (agrees held dir) items ≡ true)
told-agree None dir items whole listed = tt
told-agree (Some held) dir items whole listed = ap (list_all (agrees held dir)) listed.1 ∙ items-agree held dir whole

-- a folder that tells the same
pub moved-told : (P : Held → Type 0) (now told : Option Held) → now ≡ told → IfSome now P → IfSome told P
moved-told P now told is h = subst (λ (t : Option Held). IfSome t P) is h

pub told-agree-now : (told now : Option Held) (dir : Text) (items : List Item) → now ≡ told → TellsWhole told → ToldItems told dir items → IfSome now (λ held. list_all (agrees held dir) items ≡ true)
told-agree-now told now dir items is whole listed = moved-told (λ held. list_all (agrees held dir) items ≡ true) told now (sym is) (told-agree told dir items whole listed)

-- The hidden directory.

-- one state file, and those behind it
one_special : (name path : Text) (file : StateFile) (o : Option Standing) (rest : Option StateFile) (more : Option Text) → file_path file ≡ path → option_map file_path rest ≡ more
    → option_map file_path (cond (is_no_file (option_map (item_of name) o)) (Some file) rest) ≡ or_else (state_fault path o) more
one_special name path file None rest more at is = is
one_special name path file (Some (File bytes)) rest more at is = is
one_special name path file (Some Dir) rest more at is = ap (λ (p : Text). Some p) at
one_special name path file (Some Special) rest more at is = ap (λ (p : Text). Some p) at

last_special : (o : Option Standing) → option_map file_path (cond (is_no_file (option_map (item_of fresh_list_name) o)) (Some state.FreshList) None) ≡ state_fault fresh_list_file o
last_special None = refl
last_special (Some (File bytes)) = refl
last_special (Some Dir) = refl
last_special (Some Special) = refl

abbrev pub special_by : Option Standing → Option Standing → Option Standing → Option Standing → Option StateFile
special_by a d i n = special_file (option_map (item_of attrs_name) a) (option_map (item_of db_name) d) (option_map (item_of install_name) i) (option_map (item_of fresh_list_name) n)

file_special : (a d i n : Option Standing) → option_map file_path (special_by a d i n) ≡ or_else (state_fault attrs_file a) (or_else (state_fault db_file d) (or_else (state_fault install_file i) (state_fault fresh_list_file n)))
file_special a d i n =
    one_special attrs_name attrs_file state.Attrs a _ _ refl
    (one_special db_name db_file state.Db d _ _ refl (one_special install_name install_file state.Install i _ _ refl (last_special n)))

-- a name in its listing
named_in : (held : Held) (items : List Item) (name : Text) → IsWhole held → items ≡ items_of held hidden_dir → is_name name ≡ true → item_named name items ≡ option_map (item_of name) (standing held (join hidden_dir name))
named_in held items name whole is n = ap (item_named name) is ∙ item_named-is held hidden_dir name whole hidden-canonical n

-- the first special state file by its listing
abbrev pub special_among : List Item → Option StateFile
special_among items = special_file (item_named attrs_name items) (item_named db_name items) (item_named install_name items) (item_named fresh_list_name items)

among_is : (held : Held) (items : List Item) → IsWhole held → items ≡ items_of held hidden_dir → special_among items ≡ special_by (standing held attrs_file) (standing held db_file) (standing held install_file) (standing held fresh_list_file)
among_is held items whole is =
    ap (λ (x : Option Item). special_file x (item_named db_name items) (item_named install_name items) (item_named fresh_list_name items)) (named_in held items attrs_name whole is attrs-named)
    ∙ ap (λ (x : Option Item). special_file (option_map (item_of attrs_name) (standing held attrs_file)) x (item_named install_name items) (item_named fresh_list_name items)) (named_in held items db_name whole is db-named)
    ∙ ap (λ (x : Option Item). special_file (option_map (item_of attrs_name) (standing held attrs_file)) (option_map (item_of db_name) (standing held db_file)) x (item_named fresh_list_name items)) (named_in held items install_name whole is install-named)
    ∙ ap (special_file (option_map (item_of attrs_name) (standing held attrs_file)) (option_map (item_of db_name) (standing held db_file)) (option_map (item_of install_name) (standing held install_file))) (named_in held items fresh_list_name whole is fresh_list-named)

state_is : (held : Held) (items : List Item) (o : Option StateFile) → IsWhole held → items ≡ items_of held hidden_dir → o ≡ special_among items → state_special held ≡ option_map file_path o
state_is held items o whole is file =
    sym (ap (option_map file_path) (file ∙ among_is held items whole is) ∙ file_special (standing held attrs_file) (standing held db_file) (standing held install_file) (standing held fresh_list_file))

pub told-state : (told : Option Held) (items : List Item) (o : Option StateFile) (file : StateFile) (path : Text) → TellsWhole told → ToldItems told hidden_dir items → o ≡ special_among items → o ≡ Some file → path ≡ file_path file → IfSome told (λ held. state_special held ≡ Some path)
told-state None items o file path whole listed o_is is at = tt
told-state (Some held) items o file path whole listed o_is is at = state_is held items o whole listed.1 o_is ∙ ap (option_map file_path) is ∙ ap (λ (p : Text). Some p) (sym at)

-- where none of two is there, neither is
pub or_else-none : (first second : Option Text) → or_else first second ≡ None → (first ≡ None) × (second ≡ None)
or_else-none None second h = (refl, h)
or_else-none (Some path) second h = cc

-- where no state file is special, each is a file, or nothing
pub record ArePlain (held : Held) : Type 0 where
  pub attrs : state_fault attrs_file (standing held attrs_file) ≡ None
  pub db : state_fault db_file (standing held db_file) ≡ None
  pub install : state_fault install_file (standing held install_file) ≡ None
  pub fresh_list : state_fault fresh_list_file (standing held fresh_list_file) ≡ None

pub are_plain : (held : Held) → state_special held ≡ None → ArePlain held
are_plain held plain =
    let a = or_else-none (state_fault attrs_file (standing held attrs_file)) _ plain in
    let d = or_else-none (state_fault db_file (standing held db_file)) _ a.1 in
    let i = or_else-none (state_fault install_file (standing held install_file)) _ d.1 in
    record { attrs = a.0; db = d.0; install = i.0; fresh_list = i.1 }

-- it stands where it is listed
db_listed : (path name : Text) (o : Option Standing) → state_fault path o ≡ None → is_some (option_map (item_of name) o) ≡ is_some (bytes_in o)
db_listed path name None plain = refl
db_listed path name (Some (File bytes)) plain = refl
db_listed path name (Some Dir) plain = cc
db_listed path name (Some Special) plain = cc

file_listed : (path name : Text) (o : Option Standing) → state_fault path o ≡ None → is_some (option_map (item_of name) o) ≡ is_file o
file_listed path name None plain = refl
file_listed path name (Some (File bytes)) plain = refl
file_listed path name (Some Dir) plain = cc
file_listed path name (Some Special) plain = cc

abbrev listed : Bool → Bool → Bool → Listed
listed db install fresh_list = record { db = db; install = install; fresh_list = fresh_list }

listed_is : (held : Held) (items : List Item) → IsWhole held → items ≡ items_of held hidden_dir → ArePlain held → listed_among items ≡ listed_in held
listed_is held items whole is plain =
    let of : (name : Text) → is_name name ≡ true → is_some (item_named name items) ≡ is_some (option_map (item_of name) (standing held (join hidden_dir name))) = λ name n. ap (λ (x : Option Item). is_some x) (named_in held items name whole is n) in
    ap (λ (b : Bool). listed b (is_some (item_named install_name items)) (is_some (item_named fresh_list_name items))) (of db_name db-named ∙ db_listed db_file db_name (standing held db_file) plain.db)
    ∙ ap (λ (b : Bool). listed (has_database held) b (is_some (item_named fresh_list_name items))) (of install_name install-named ∙ file_listed install_file install_name (standing held install_file) plain.install)
    ∙ ap (listed (has_database held) (is_file (standing held install_file))) (of fresh_list_name fresh_list-named ∙ file_listed fresh_list_file fresh_list_name (standing held fresh_list_file) plain.fresh_list)

pub told-no_state : (told : Option Held) (items : List Item) (o : Option StateFile) (it : Listed) → TellsWhole told → ToldItems told hidden_dir items → o ≡ special_among items → o ≡ None → it ≡ listed_among items
    → IfSome told (λ held. (state_special held ≡ None) × (it ≡ listed_in held))
told-no_state None items o it whole listed o_is none is = tt
told-no_state (Some held) items o it whole listed o_is none is =
    let plain : state_special held ≡ None = state_is held items o whole listed.1 o_is ∙ ap (option_map file_path) none in
    (plain, is ∙ listed_is held items whole listed.1 (are_plain held plain))

-- The state files.

pub hidden_item : (held : Held) (items : List Item) → IsWhole held → items ≡ items_of held root → item_named hidden items ≡ option_map (item_of hidden) (standing held hidden_dir)
hidden_item held items whole is = ap (item_named hidden) is ∙ item_named-is held root hidden whole root-canonical hidden-is_name

no_item : (o : Option Standing) → option_map (item_of hidden) o ≡ None → o ≡ None
no_item None h = refl
no_item (Some it) h = cc

dir_item : (o : Option Standing) (name : Text) → option_map (item_of hidden) o ≡ Some (item.Dir name) → o ≡ Some Dir
dir_item None name h = cc
dir_item (Some (File bytes)) name h = cc
dir_item (Some Dir) name h = refl
dir_item (Some Special) name h = cc

-- where the directory doesn't stand
pub record IsGone (held : Held) : Type 0 where
  pub attrs : standing held attrs_file ≡ None
  pub db : standing held db_file ≡ None
  pub install : standing held install_file ≡ None
  pub fresh_list : standing held fresh_list_file ≡ None

pub is_gone : (held : Held) → IsWhole held → standing held hidden_dir ≡ None → IsGone held
is_gone held whole gone = record {
  attrs = nothing_below held attrs_name whole attrs-named gone;
  db = nothing_below held db_name whole db-named gone;
  install = nothing_below held install_name whole install-named gone;
  fresh_list = nothing_below held fresh_list_name whole fresh_list-named gone;
}

-- whether the directory stands, and the state files
abbrev pub found : Bool → Option Text → Option Text → Option Text → Bool → Hidden
found rkr db attrs install fresh_list = record { rkr = rkr; state = record { db = db; attrs = attrs; install = install; fresh_list = fresh_list } }

pub told-hidden_dir : (told : Option Held) (items : List Item) (name : Text) → TellsWhole told → ToldItems told root items → item_named hidden items ≡ Some (item.Dir name) → IfSome told (λ held. standing held hidden_dir ≡ Some Dir)
told-hidden_dir None items name whole listed is = tt
told-hidden_dir (Some held) items name whole listed is = dir_item _ name (sym (hidden_item held items whole listed.1) ∙ is)

abbrev pub is_dir_item : Item → Bool
is_dir_item (item.File name) = false
is_dir_item (item.Dir name) = true
is_dir_item (item.Special name) = false
is_dir_item item.Odd = false

other_item : (o : Option Standing) (it : Item) → option_map (item_of hidden) o ≡ Some it → is_dir_item it ≡ false → (state : Option Text) → hidden_fault o state ≡ Some hidden_dir
other_item None it h d state = cc
other_item (Some (File bytes)) it h d state = refl
other_item (Some Dir) it h d state = let same : item.Dir hidden ≡ it = cc in let dir : is_dir_item it ≡ true = ap is_dir_item (sym same) in cc
other_item (Some Special) it h d state = refl

pub told-no_dir : (told : Option Held) (items : List Item) (it : Item) (path : Text) → TellsWhole told → ToldItems told root items → item_named hidden items ≡ Some it → is_dir_item it ≡ false → path ≡ hidden_dir → IfSome told (λ held. hidden_special held ≡ Some path)
told-no_dir None items it path whole listed is d at = tt
told-no_dir (Some held) items it path whole listed is d at =
    other_item (standing held hidden_dir) it (sym (hidden_item held items whole listed.1) ∙ is) d (state_special held) ∙ ap (λ (p : Text). Some p) (sym at)
