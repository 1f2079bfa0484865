-- What listings tell of a path, name by name.
use Rattle.std.proofs.Common.{◌≡◌, ℕ, List, [], ◌∷◌, ◌++◌, Bool, true, false, ◌&&◌, not, cond, Option, Some, None, IfSome, is_some, drop, option_map, position, refl, sym, ap, subst, ◌∙◌, append_assoc}
use Rattle.std.specs.List.{list_all, join_with_byte}
use Rattle.std.proofs.lemmas.Bool.{eqb-true}
use Rattle.std.proofs.lemmas.List.Splits.{join_with_byte-slice_split}
use Rattle.rk_base.specs.Text.{Text, hidden, is_slash, is_root, root, stem, join, name_of, parent, components}
use Rattle.rk_base.specs.Canonical.{is_canonical, is_empty, is_name}
use Rattle.rk_base.proofs.CanonicalLemmas.{both, components_alone, components_first, join-canonical, root-canonical}
use Rattle.rk_base.proofs.PathLemmas.{join-not_root, parent-join, path-is_cut}
use Rattle.rk_base.proofs.WithinLemmas.{stem-below}
use Rattle.rk_folder.specs.Told.{Held, standing, bytes_in, can_hold, can_list, can_make_dir, can_remove_dir, can_remove_file, can_write, is_dir, is_file, is_nothing, item_of, items_of}
use Rattle.rk_folder.specs.Whole.{IsWhole, TellsWhole}
use Rattle.rk_folder.specs.Hidden.{hidden_dir, install_file, install_name}
use Rattle.rk_folder.specs.Calls.{Reads, got_of}
use Rattle.rk_folder.specs.Looks.{lists, reads, state_listings}
use Rattle.rk_folder.specs.Steps.{item_named}
use Rattle.rk_folder.specs.Schedule.{MakesCalls, Schedule}
use Rattle.rk_folder.proofs.CallsLemmas.{makes-first, makes-same, makes-then, reads-at}
use Rattle.rk_folder.proofs.HiddenLemmas.{hidden-canonical, hidden-is_name, install-named}
use Rattle.rk_folder.proofs.ListingLemmas.{item_named-is}
use Rattle.rk_folder.specs.declared.folder.Item.{Item}
use Rattle.rk_folder.specs.declared.folder.Got.{Got}
use Rattle.rk_folder.specs.declared.folder.Got.TheVariants.{Content, Absent}
use Rattle.rk_folder.specs.declared.folder.Standing.{Standing}
use Rattle.rk_folder.specs.declared.folder.Standing.TheVariants as standing
use Rattle.rk_install.specs.Looks.{content_of, is_dir_place, is_file_place, is_free_place, lists_down, may_hold, place_at, place_below, place_by, place_of}
use Rattle.rk_install.specs.Recovery.{seal_looks}
use Rattle.rk_install.specs.declared.looking.Place.{Place}
use Rattle.rk_install.specs.declared.looking.Place.TheVariants.{Nowhere, Free}

clash : (b : Bool) → b ≡ true → b ≡ false → ⊥
clash b t f = cc

-- of a folder that tells the same
pub moved-told : (P : Held → Type 0) (now told : Option Held) → now ≡ told → IfSome now P → IfSome told P
moved-told P now told is h = subst (λ (t : Option Held). IfSome t P) is h

-- A name of a directory.

dir_place : (o : Option Standing) → is_dir_place (place_of true o) ≡ is_dir o
dir_place None = refl
dir_place (Some (standing.File bytes)) = refl
dir_place (Some standing.Dir) = refl
dir_place (Some standing.Special) = refl

-- whether it is a directory
pub told-is_dir : (told : Option Held) (dir name : Text) (place : Place) (b is : Bool) → IfSome told (λ held. place ≡ place_of true (standing held (join dir name))) → b ≡ is_dir_place place → b ≡ is → IfSome told (λ held. is ≡ is_dir (standing held (join dir name)))
told-is_dir None dir name place b is found at so = tt
told-is_dir (Some held) dir name place b is found at so = sym so ∙ at ∙ ap is_dir_place found ∙ dir_place (standing held (join dir name))

-- The names of a path.

-- below a path, by names
abbrev pub below : Text → List Text → Text
below path [] = path
below path (name ∷ names) = below (join path name) names

below-text : (path name : Text) (names : List Text) → list_all is_name (name ∷ names) ≡ true → below path (name ∷ names) ≡ stem path ++ 47 ∷ join_with_byte 47 (name ∷ names)
unfolding join
below-text path name [] all = refl
below-text path name (more ∷ names) all =
    let named = both (is_name name) (list_all is_name (more ∷ names)) all in
    below-text (join path name) more names named.1
    ∙ ap (λ (t : Text). t ++ 47 ∷ join_with_byte 47 (more ∷ names)) (stem-below (join path name) (join-not_root path name named.0))
    ∙ append_assoc (stem path) (47 ∷ name) (47 ∷ join_with_byte 47 (more ∷ names))

-- what stands after the root's slash
after_root : (path : Text) → is_canonical path ≡ true → is_root path ≡ false → (path ≡ 47 ∷ drop 1 path) × (is_empty (drop 1 path) ≡ false) × (list_all is_name (components (drop 1 path)) ≡ true)
unfolding is_canonical
after_root [] c r = cc
after_root (x ∷ []) c r = absurd (clash _ (ap (λ (b : Bool). b && true) (both (is_slash x) _ c).0) r)
after_root (x ∷ y ∷ ys) c r = let h = both (is_slash x) _ c in (ap (λ (b : ℕ). b ∷ y ∷ ys) (eqb-true x 47 h.0), refl, h.1)

pub names-are : (path : Text) → is_canonical path ≡ true → is_root path ≡ false → list_all is_name (components (drop 1 path)) ≡ true
names-are path c r = (after_root path c r).2

nil_cons : (x : Text) (xs : List Text) → [] ≡ x ∷ xs → ⊥
nil_cons x xs h = cc

-- a text has a component at least
some_component : (text : Text) → components text ≡ [] → ⊥
some_component text none = (elim (position is_slash text) as (λ (o : Option ℕ). position is_slash text ≡ o → ⊥) [
  | None ↦ λ e. nil_cons _ _ (sym none ∙ components_alone text e)
  | Some i ↦ λ e. nil_cons _ _ (sym none ∙ components_first text i e)
]) refl

whole_path : (path : Text) (names : List Text) → is_canonical path ≡ true → is_root path ≡ false → components (drop 1 path) ≡ names → below root names ≡ path
whole_path path [] c r are = absurd (some_component (drop 1 path) are)
whole_path path (name ∷ names) c r are =
    let h = after_root path c r in
    below-text root name names (ap (list_all is_name) (sym are) ∙ h.2) ∙ ap (λ (t : Text). 47 ∷ t) (ap (join_with_byte 47) (sym are) ∙ join_with_byte-slice_split 47 (drop 1 path)) ∙ sym h.0

-- Below what is no directory nothing stands.

none_in : (held : Held) (path : Text) → IsWhole held → is_dir (standing held (parent path)) ≡ false → standing held path ≡ None
none_in held path whole deny = (elim (standing held path) as (λ (o : Option Standing). standing held path ≡ o → o ≡ None) [
  | None ↦ λ e. refl
  | Some it ↦ λ e. absurd (clash _ (whole.parents path (ap is_nothing e)) deny)
]) refl

nowhere_in : (held : Held) (path : Text) → IsWhole held → is_dir (standing held (parent path)) ≡ false → place_at held path ≡ Nowhere
nowhere_in held path whole deny = ap (place_of (is_dir (standing held (parent path)))) (none_in held path whole deny) ∙ ap (λ (b : Bool). cond b Free Nowhere) deny

nowhere_below : (held : Held) (dir name : Text) (names : List Text) → IsWhole held → is_canonical dir ≡ true → list_all is_name (name ∷ names) ≡ true → is_dir (standing held dir) ≡ false → place_at held (below dir (name ∷ names)) ≡ Nowhere
nowhere_below held dir name [] whole c all deny =
    nowhere_in held (join dir name) whole (ap (λ (p : Text). is_dir (standing held p)) (parent-join dir name c (both (is_name name) _ all).0) ∙ deny)
nowhere_below held dir name (more ∷ names) whole c all deny =
    let named = both (is_name name) (list_all is_name (more ∷ names)) all in
    nowhere_below held (join dir name) more names whole (join-canonical dir name c named.0) named.1
    (ap is_dir (none_in held (join dir name) whole (ap (λ (p : Text). is_dir (standing held p)) (parent-join dir name c named.0) ∙ deny)))

below_is : (held : Held) (dir name : Text) (names : List Text) → IsWhole held → is_canonical dir ≡ true → list_all is_name (name ∷ names) ≡ true → is_dir (standing held dir) ≡ true → place_below held dir (name ∷ names) ≡ place_at held (below dir (name ∷ names))
below_is held dir name [] whole c all is =
    ap (λ (b : Bool). place_of b (standing held (join dir name))) (sym (ap (λ (p : Text). is_dir (standing held p)) (parent-join dir name c (both (is_name name) _ all).0) ∙ is))
below_is held dir name (more ∷ names) whole c all is =
    let named = both (is_name name) (list_all is_name (more ∷ names)) all in
    let next = join-canonical dir name c named.0 in
    (elim (is_dir (standing held (join dir name))) as (λ (b : Bool). is_dir (standing held (join dir name)) ≡ b → cond b (place_below held (join dir name) (more ∷ names)) Nowhere ≡ place_at held (below (join dir name) (more ∷ names))) [
      | true ↦ λ e. below_is held (join dir name) more names whole next named.1 e
      | false ↦ λ e. sym (nowhere_below held (join dir name) more names whole next named.1 e)
    ]) refl

path_is : (held : Held) (path : Text) (names : List Text) → IsWhole held → is_canonical path ≡ true → is_root path ≡ false → components (drop 1 path) ≡ names → place_below held root names ≡ place_at held path
path_is held path [] whole c r are = absurd (some_component (drop 1 path) are)
path_is held path (name ∷ names) whole c r are =
    below_is held root name names whole root-canonical (ap (list_all is_name) (sym are) ∙ names-are path c r) whole.root_dir ∙ ap (place_at held) (whole_path path (name ∷ names) c r are)

-- from the root on
pub told-from_root : (told : Option Held) (path dir names : Text) → TellsWhole told → is_canonical path ≡ true → is_root path ≡ false → dir ≡ root → names ≡ drop 1 path → IfSome told (λ held. place_below held dir (components names) ≡ place_at held path)
told-from_root None path dir names whole c r at is = tt
told-from_root (Some held) path dir names whole c r at is =
    ap (λ (d : Text). place_below held d (components names)) at ∙ ap (λ (t : Text). place_below held root (components t)) is ∙ path_is held path (components (drop 1 path)) whole c r refl

pub told-root_dir : (told : Option Held) (dir : Text) → TellsWhole told → dir ≡ root → IfSome told (λ held. is_dir (standing held dir) ≡ true)
told-root_dir None dir whole at = tt
told-root_dir (Some held) dir whole at = ap (λ (d : Text). is_dir (standing held d)) at ∙ whole.root_dir

-- one name more
one_more : (held : Held) (dir name : Text) (more : List Text) (b : Bool) → (more ≡ [] → ⊥) → is_dir (standing held (join dir name)) ≡ b → place_below held dir (name ∷ more) ≡ cond b (place_below held (join dir name) more) Nowhere
one_more held dir name [] b some is = absurd (some refl)
one_more held dir name (next ∷ more) b some is = ap (λ (d : Bool). cond d (place_below held (join dir name) (next ∷ more)) Nowhere) is

pub told-entered : (told : Option Held) (dir name rest names path next : Text) → components names ≡ name ∷ components rest → next ≡ join dir name → IfSome told (λ held. true ≡ is_dir (standing held (join dir name))) → IfSome told (λ held. place_below held dir (components names) ≡ place_at held path)
    → IfSome told (λ held. place_below held next (components rest) ≡ place_at held path)
told-entered None dir name rest names path next are at is so = tt
told-entered (Some held) dir name rest names path next are at is so =
    ap (λ (d : Text). place_below held d (components rest)) at ∙ sym (ap (place_below held dir) are ∙ one_more held dir name (components rest) true (some_component rest) (sym is)) ∙ so

pub told-entered_dir : (told : Option Held) (dir name next : Text) → next ≡ join dir name → IfSome told (λ held. true ≡ is_dir (standing held (join dir name))) → IfSome told (λ held. is_dir (standing held next) ≡ true)
told-entered_dir None dir name next at is = tt
told-entered_dir (Some held) dir name next at is = ap (λ (d : Text). is_dir (standing held d)) at ∙ sym is

pub told-nowhere : (told : Option Held) (dir name rest names path : Text) → components names ≡ name ∷ components rest → IfSome told (λ held. false ≡ is_dir (standing held (join dir name))) → IfSome told (λ held. place_below held dir (components names) ≡ place_at held path)
    → IfSome told (λ held. Nowhere ≡ place_at held path)
told-nowhere None dir name rest names path are is so = tt
told-nowhere (Some held) dir name rest names path are is so = sym (ap (place_below held dir) are ∙ one_more held dir name (components rest) false (some_component rest) (sym is)) ∙ so

pub told-last : (told : Option Held) (dir names path : Text) (place : Place) → components names ≡ names ∷ [] → IfSome told (λ held. place_below held dir (components names) ≡ place_at held path) → IfSome told (λ held. place ≡ place_of true (standing held (join dir names))) → IfSome told (λ held. place ≡ place_at held path)
told-last None dir names path place alone so found = tt
told-last (Some held) dir names path place alone so found = found ∙ sym (ap (place_below held dir) alone) ∙ so

-- the path that was entered
pub next-path : (dir name next : Text) (it : Option Text) → it ≡ Some next → IfSome it (λ path. path ≡ join dir name) → next ≡ join dir name
next-path dir name next it is h = subst (λ (o : Option Text). IfSome o (λ path. path ≡ join dir name)) is h

-- whether it was entered
pub told-some : (now told : Option Held) (dir name next : Text) (it : Option Text) → now ≡ told → it ≡ Some next → IfSome now (λ held. is_some it ≡ is_dir (standing held (join dir name))) → IfSome told (λ held. true ≡ is_dir (standing held (join dir name)))
told-some now told dir name next it same is h = moved-told (λ held. true ≡ is_dir (standing held (join dir name))) now told same (subst (λ (o : Option Text). IfSome now (λ held. is_some o ≡ is_dir (standing held (join dir name)))) is h)

pub told-none : (now told : Option Held) (dir name : Text) (it : Option Text) → now ≡ told → it ≡ None → IfSome now (λ held. is_some it ≡ is_dir (standing held (join dir name))) → IfSome told (λ held. false ≡ is_dir (standing held (join dir name)))
told-none now told dir name it same is h = moved-told (λ held. false ≡ is_dir (standing held (join dir name))) now told same (subst (λ (o : Option Text). IfSome now (λ held. is_some o ≡ is_dir (standing held (join dir name)))) is h)

-- the sealed list isn't at the root
pub install-below_root : is_root install_file ≡ false
unfolding join
install-below_root = refl

-- the names that are left
pub first-named : (name rest names : Text) → components names ≡ name ∷ components rest → list_all is_name (components names) ≡ true → is_name name ≡ true
first-named name rest names are all = (both (is_name name) _ (ap (list_all is_name) (sym are) ∙ all)).0

pub rest-named : (name rest names : Text) → components names ≡ name ∷ components rest → list_all is_name (components names) ≡ true → list_all is_name (components rest) ≡ true
rest-named name rest names are all = (both (is_name name) _ (ap (list_all is_name) (sym are) ∙ all)).1

-- Whether a call is allowed.

file_allowed : (in_dir : Bool) (o : Option Standing) → is_file_place (place_of in_dir o) ≡ is_file o
file_allowed true None = refl
file_allowed false None = refl
file_allowed in_dir (Some (standing.File bytes)) = refl
file_allowed in_dir (Some standing.Dir) = refl
file_allowed in_dir (Some standing.Special) = refl

free_allowed : (in_dir : Bool) (o : Option Standing) → is_free_place (place_of in_dir o) ≡ (is_nothing o && in_dir)
free_allowed true None = refl
free_allowed false None = refl
free_allowed in_dir (Some (standing.File bytes)) = refl
free_allowed in_dir (Some standing.Dir) = refl
free_allowed in_dir (Some standing.Special) = refl

hold_allowed : (in_dir : Bool) (o : Option Standing) → may_hold (place_of in_dir o) ≡ can_hold o in_dir
hold_allowed true None = refl
hold_allowed false None = refl
hold_allowed in_dir (Some (standing.File bytes)) = refl
hold_allowed in_dir (Some standing.Dir) = refl
hold_allowed in_dir (Some standing.Special) = refl

dir_allowed : (in_dir : Bool) (o : Option Standing) → is_dir_place (place_of in_dir o) ≡ is_dir o
dir_allowed true None = refl
dir_allowed false None = refl
dir_allowed in_dir (Some (standing.File bytes)) = refl
dir_allowed in_dir (Some standing.Dir) = refl
dir_allowed in_dir (Some standing.Special) = refl

abbrev pub Found : Option Held → Text → Place → Type 0
Found told path place = IfSome told (λ held. place ≡ place_at held path)

pub told-may_remove : (told : Option Held) (path : Text) (place : Place) (b : Bool) → Found told path place → b ≡ is_file_place place → IfSome told (λ held. b ≡ can_remove_file path held)
told-may_remove None path place b found is = tt
told-may_remove (Some held) path place b found is = is ∙ ap is_file_place found ∙ file_allowed (is_dir (standing held (parent path))) (standing held path)

pub told-may_make : (told : Option Held) (path : Text) (place : Place) (b : Bool) → Found told path place → b ≡ is_free_place place → IfSome told (λ held. b ≡ can_make_dir path held)
told-may_make None path place b found is = tt
told-may_make (Some held) path place b found is = is ∙ ap is_free_place found ∙ free_allowed (is_dir (standing held (parent path))) (standing held path)

pub told-may_write : (told : Option Held) (path : Text) (place : Place) (b : Bool) → Found told path place → b ≡ may_hold place → IfSome told (λ held. b ≡ can_write path held)
told-may_write None path place b found is = tt
told-may_write (Some held) path place b found is = is ∙ ap may_hold found ∙ hold_allowed (is_dir (standing held (parent path))) (standing held path)

found_dir : (told : Option Held) (path : Text) (place : Place) (b : Bool) → Found told path place → b ≡ is_dir_place place → b ≡ true → IfSome told (λ held. can_list path held ≡ true)
found_dir None path place b found is on = tt
found_dir (Some held) path place b found is on = sym (dir_allowed (is_dir (standing held (parent path))) (standing held path)) ∙ ap is_dir_place (sym found) ∙ sym is ∙ on

pub told-found_dir : (now told : Option Held) (path : Text) (place : Place) (b : Bool) → now ≡ told → Found told path place → b ≡ is_dir_place place → b ≡ true → IfSome now (λ held. can_list path held ≡ true)
told-found_dir now told path place b same found is on = moved-told (λ held. can_list path held ≡ true) told now (sym same) (found_dir told path place b found is on)

and_not : (a b c : Bool) → a ≡ true → b ≡ false → (a && (not b) && c) ≡ c
and_not true false c h g = refl
and_not true true c h g = cc
and_not false b c h g = cc

bare_dir : (told : Option Held) (path : Text) (place : Place) (b bare : Bool) → is_root path ≡ false → Found told path place → b ≡ is_dir_place place → b ≡ true → IfSome told (λ held. bare ≡ is_empty (items_of held path)) → IfSome told (λ held. bare ≡ can_remove_dir path held)
bare_dir None path place b bare r found is on at = tt
bare_dir (Some held) path place b bare r found is on at = at ∙ sym (and_not (is_dir (standing held path)) (is_root path) (is_empty (items_of held path)) (found_dir (Some held) path place b found is on) r)

pub told-may_remove_dir : (now told : Option Held) (path : Text) (place : Place) (b bare : Bool) → now ≡ told → is_root path ≡ false → Found told path place → b ≡ is_dir_place place → b ≡ true → IfSome now (λ held. bare ≡ is_empty (items_of held path)) → IfSome told (λ held. bare ≡ can_remove_dir path held)
told-may_remove_dir now told path place b bare same r found is on at = bare_dir told path place b bare r found is on (moved-told (λ held. bare ≡ is_empty (items_of held path)) now told same at)

pub told-may_not : (told : Option Held) (path : Text) (place : Place) (b : Bool) → Found told path place → b ≡ is_dir_place place → b ≡ false → IfSome told (λ held. false ≡ can_remove_dir path held)
told-may_not None path place b found is off = tt
told-may_not (Some held) path place b found is off =
    let none : is_dir (standing held path) ≡ false = sym (dir_allowed (is_dir (standing held (parent path))) (standing held path)) ∙ ap is_dir_place (sym found) ∙ sym is ∙ off in
    sym (ap (λ (d : Bool). d && not (is_root path) && is_empty (items_of held path)) none)

-- What a listing of its directory tells of a path.

item_place : (name : Text) (o : Option Standing) → place_by (option_map (item_of name) o) ≡ place_of true o
item_place name None = refl
item_place name (Some (standing.File bytes)) = refl
item_place name (Some standing.Dir) = refl
item_place name (Some standing.Special) = refl

listed_place : (held : Held) (path : Text) → IsWhole held → is_canonical path ≡ true → is_root path ≡ false → place_by (item_named (name_of path) (items_of held (parent path))) ≡ place_of true (standing held path)
listed_place held path whole c r =
    let cut = path-is_cut path c r in
    ap place_by (item_named-is held (parent path) (name_of path) whole cut.dir cut.name)
    ∙ item_place (name_of path) (standing held (join (parent path) (name_of path)))
    ∙ ap (λ (p : Text). place_of true (standing held p)) cut.whole

pub told-listed : (told : Option Held) (path dir name : Text) (items same : List Item) (found : Option Item) (place : Place) → TellsWhole told → is_canonical path ≡ true → is_root path ≡ false → dir ≡ parent path → name ≡ name_of path → IfSome told (λ held. items ≡ items_of held dir) → same ≡ items → found ≡ item_named name same → place ≡ place_by found
    → IfSome told (λ held. place ≡ place_of true (standing held path))
told-listed None path dir name items same found place whole c r at called are is first so = tt
told-listed (Some held) path dir name items same found place whole c r at called are is first so =
    so ∙ ap place_by (first ∙ ap (λ (n : Text). item_named n same) called ∙ ap (item_named (name_of path)) (is ∙ are ∙ ap (items_of held) at)) ∙ listed_place held path whole c r

-- The sealed list.

hidden-parent : parent hidden_dir ≡ root
hidden-parent = parent-join root hidden root-canonical hidden-is_name

install-parent : parent install_file ≡ hidden_dir
install-parent = parent-join hidden_dir install_name hidden-canonical install-named

pub install-canonical : is_canonical install_file ≡ true
install-canonical = join-canonical hidden_dir install_name hidden-canonical install-named

-- the directory `.rkr`
pub hidden-below_root : is_root hidden_dir ≡ false
unfolding join
hidden-below_root = refl

pub told-hidden_listed : (told : Option Held) (dir : Text) → TellsWhole told → dir ≡ hidden_dir → IfSome told (λ held. can_list (parent dir) held ≡ true)
told-hidden_listed None dir whole at = tt
told-hidden_listed (Some held) dir whole at = ap (λ (p : Text). can_list (parent p) held) at ∙ ap (λ (p : Text). can_list p held) hidden-parent ∙ whole.root_dir

is_hidden_dir : (held : Held) (dir : Text) (place : Place) (b : Bool) → dir ≡ hidden_dir → place ≡ place_of true (standing held dir) → b ≡ is_dir_place place → is_dir (standing held hidden_dir) ≡ b
is_hidden_dir held dir place b at found is = ap (λ (p : Text). is_dir (standing held p)) (sym at) ∙ sym (dir_place (standing held dir)) ∙ ap is_dir_place (sym found) ∙ sym is

-- it is a directory
seal_listed : (told : Option Held) (path dir : Text) (place : Place) (b : Bool) → path ≡ install_file → dir ≡ hidden_dir → IfSome told (λ held. place ≡ place_of true (standing held dir)) → b ≡ is_dir_place place → b ≡ true → IfSome told (λ held. can_list (parent path) held ≡ true)
seal_listed None path dir place b in_dir at found is on = tt
seal_listed (Some held) path dir place b in_dir at found is on =
    ap (λ (p : Text). can_list (parent p) held) in_dir ∙ ap (λ (p : Text). can_list p held) install-parent ∙ is_hidden_dir held dir place b at found is ∙ on

pub told-seal_listed : (now told : Option Held) (path dir : Text) (place : Place) (b : Bool) → now ≡ told → path ≡ install_file → dir ≡ hidden_dir → IfSome told (λ held. place ≡ place_of true (standing held dir)) → b ≡ is_dir_place place → b ≡ true
    → IfSome now (λ held. can_list (parent path) held ≡ true)
told-seal_listed now told path dir place b same in_dir at found is on = moved-told (λ held. can_list (parent path) held ≡ true) told now (sym same) (seal_listed told path dir place b in_dir at found is on)

-- it is none
pub told-no_hidden_dir : (told : Option Held) (dir : Text) (place : Place) (b : Bool) → TellsWhole told → dir ≡ hidden_dir → IfSome told (λ held. place ≡ place_of true (standing held dir)) → b ≡ is_dir_place place → b ≡ false → IfSome told (λ held. false ≡ is_file (standing held install_file))
told-no_hidden_dir None dir place b whole at found is off = tt
told-no_hidden_dir (Some held) dir place b whole at found is off =
    sym (ap is_file (none_in held install_file whole (ap (λ (p : Text). is_dir (standing held p)) install-parent ∙ is_hidden_dir held dir place b at found is ∙ off)))

-- whether it stands
seal_stands : (told : Option Held) (path : Text) (place : Place) (b : Bool) → path ≡ install_file → IfSome told (λ held. place ≡ place_of true (standing held path)) → b ≡ is_file_place place → IfSome told (λ held. b ≡ is_file (standing held install_file))
seal_stands None path place b at found is = tt
seal_stands (Some held) path place b at found is = is ∙ ap is_file_place found ∙ file_allowed true (standing held path) ∙ ap (λ (p : Text). is_file (standing held p)) at

pub told-seal_stands : (now told : Option Held) (path : Text) (place : Place) (b : Bool) → now ≡ told → path ≡ install_file → IfSome now (λ held. place ≡ place_of true (standing held path)) → b ≡ is_file_place place → IfSome told (λ held. b ≡ is_file (standing held install_file))
told-seal_stands now told path place b same at found is = moved-told (λ held. b ≡ is_file (standing held install_file)) now told same (seal_stands now path place b at found is)

content_read : (o : Option Standing) (got : Got) → got_of o ≡ Some got → content_of got ≡ bytes_in o
content_read None got h = ap content_of (sym (some_got h)) where
  some_got : Some Absent ≡ Some got → Absent ≡ got
  some_got e = cc
content_read (Some (standing.File bytes)) got h = ap content_of (sym (some_got h)) where
  some_got : Some (Content bytes) ≡ Some got → Content bytes ≡ got
  some_got e = cc
content_read (Some standing.Dir) got h = cc
content_read (Some standing.Special) got h = cc

pub told-content : (told : Option Held) (path : Text) (got : Got) (bytes : Option Text) → Reads told path got → bytes ≡ content_of got → IfSome told (λ held. bytes ≡ bytes_in (standing held path))
told-content None path got bytes reads is = tt
told-content (Some held) path got bytes reads is = is ∙ content_read (standing held path) got reads

-- What is asked on the way.

pub calls-start : (path dir names : Text) (schedule now : Option Schedule) → dir ≡ root → names ≡ drop 1 path → MakesCalls (lists_down dir (components names)) schedule now → MakesCalls (lists_down root (components (drop 1 path))) schedule now
calls-start path dir names schedule now at is calls =
    subst (λ (t : Text). MakesCalls (lists_down root (components t)) schedule now) is (subst (λ (d : Text). MakesCalls (lists_down d (components names)) schedule now) at calls)

-- one directory was listed, and then those behind it, or none
pub calls-next : (dir name rest names next : Text) (before on now : Option Schedule) → components names ≡ name ∷ components rest → next ≡ join dir name → MakesCalls (lists dir) before on → MakesCalls (lists_down next (components rest)) on now → MakesCalls (lists_down dir (components names)) before now
calls-next dir name rest names next before on now are at first more =
    makes-same (lists dir ++ lists_down (join dir name) (components rest)) (lists_down dir (components names)) before now (sym (ap (lists_down dir) are))
    (makes-then (lists dir) (lists_down (join dir name) (components rest)) before on now first (subst (λ (d : Text). MakesCalls (lists_down d (components rest)) on now) at more))

pub calls-stop : (dir name rest names : Text) (before on : Option Schedule) → components names ≡ name ∷ components rest → MakesCalls (lists dir) before on → MakesCalls (lists_down dir (components names)) before on
calls-stop dir name rest names before on are first =
    makes-same (lists dir ++ lists_down (join dir name) (components rest)) (lists_down dir (components names)) before on (sym (ap (lists_down dir) are)) (makes-first (lists dir) (lists_down (join dir name) (components rest)) before on first)

pub calls-last : (dir names : Text) (before now : Option Schedule) → components names ≡ names ∷ [] → MakesCalls (lists dir) before now → MakesCalls (lists_down dir (components names)) before now
calls-last dir names before now alone calls = makes-same (lists dir) (lists_down dir (components names)) before now (sym (ap (lists_down dir) alone)) calls

-- to the sealed list
listings-at : (dir path : Text) → dir ≡ hidden_dir → path ≡ install_file → lists (parent dir) ++ lists (parent path) ≡ state_listings
listings-at dir path at in_dir = ap (λ (d : Text). lists d ++ lists (parent path)) (ap parent at ∙ hidden-parent) ∙ ap (λ (d : Text). lists root ++ lists d) (ap parent in_dir ∙ install-parent)

pub calls-root : (dir path : Text) (before now : Option Schedule) → dir ≡ hidden_dir → path ≡ install_file → MakesCalls (lists (parent dir)) before now → MakesCalls state_listings before now
calls-root dir path before now at in_dir calls = makes-same (lists (parent dir) ++ lists (parent path)) state_listings before now (listings-at dir path at in_dir) (makes-first (lists (parent dir)) (lists (parent path)) before now calls)

pub calls-hidden : (dir path : Text) (before on now : Option Schedule) → dir ≡ hidden_dir → path ≡ install_file → MakesCalls (lists (parent dir)) before on → MakesCalls (lists (parent path)) on now → MakesCalls state_listings before now
calls-hidden dir path before on now at in_dir first more = makes-same (lists (parent dir) ++ lists (parent path)) state_listings before now (listings-at dir path at in_dir) (makes-then (lists (parent dir)) (lists (parent path)) before on now first more)

pub calls-listed : (before now : Option Schedule) → MakesCalls state_listings before now → MakesCalls seal_looks before now
calls-listed before now calls = makes-first state_listings (reads install_file) before now calls

pub calls-read : (path : Text) (before on now : Option Schedule) → path ≡ install_file → MakesCalls state_listings before on → MakesCalls (reads path) on now → MakesCalls seal_looks before now
calls-read path before on now at calls read = makes-then state_listings (reads install_file) before on now calls (reads-at path install_file on now at read)
