-- What a listing tells of each name.
use Rattle.std.proofs.Common.{◌≡◌, List, [], ◌∷◌, ◌++◌, Bool, true, false, ◌&&◌, ◌||◌, Option, Some, None, option_map, refl, sym, ap, ◌∙◌, cond}
use lib.Dec.{T}
use Rattle.std.specs.Ordering.{is_lt, is_eq}
use Rattle.std.specs.declared.cmp.Ordering.{Ordering}
use Rattle.std.specs.declared.cmp.Ordering.TheVariants.{Less, Equal, Greater}
use Rattle.std.specs.List.{filter_map, list_all, list_any, cons_option}
use Rattle.std.specs.Cmp.{eq_by_cmp_equiv}
use Rattle.std.specs.Cmp.Lexicographic.{nat_list_cmp_total}
use Rattle.std.specs.FinMap.{entries, entries_sorted, find, get-entries, is_sorted}
use Rattle.std.specs.FinMap.Entries.{below_all}
use Rattle.rk_base.specs.Text.{Text, text_cmp, join, is_in, name_of, same_text}
use Rattle.rk_base.specs.Canonical.{is_canonical, is_name}
use Rattle.rk_base.proofs.PathLemmas.{join-is_in, is_in-join, name_of-join}
use Rattle.rk_tree.proofs.TextLemmas.{same_is, same_itself, ties_itself}
use Rattle.rk_folder.specs.Told.{Held, standing, is_nothing, is_file, is_dir, item_in, item_of, items_of, is_odd, odd_in}
use Rattle.rk_folder.specs.Whole.{IsWhole}
use Rattle.rk_folder.specs.Specials.{is_special}
use Rattle.rk_folder.specs.Steps.{agrees, is_named, item_named, is_odd_item}
use Rattle.rk_folder.specs.declared.folder.Item.{Item}
use Rattle.rk_folder.specs.declared.folder.Item.TheVariants as item
use Rattle.rk_folder.specs.declared.folder.Standing.{Standing}
use Rattle.rk_folder.specs.declared.folder.Standing.TheVariants.{File, Dir, Special}
use Rattle.rk_folder.proofs.HeldLemmas.{same_path, one_path}

-- Each row of a map is what the map has at its path.

abbrev pub EachStands : (Text → Option Standing) → List (Text × Standing) → Type 0
EachStands at [] = Unit {0}
EachStands at (row ∷ rows) = (at row.0 ≡ Some row.1) × EachStands at rows

pub parted : (a b : Bool) → T (a && b) → T a × T b
parted true b h = (tt, h)
parted false b h = absurd h

less_apart : (o : Ordering) → T (is_lt o) → is_eq o ≡ false
less_apart Less h = refl
less_apart Equal h = absurd h
less_apart Greater h = absurd h

later : (row : Text × Standing) (all rows : List (Text × Standing)) → T (below_all text_cmp row.0 rows) → EachStands (λ q. find text_cmp q all) rows → EachStands (λ q. find text_cmp q (row ∷ all)) rows
later row all [] below each = tt
later row all (next ∷ rows) below each =
    let b = parted (is_lt (text_cmp row.0 next.0)) _ below in
    (ap (λ (c : Bool). cond c (Some row.1) (find text_cmp next.0 all)) ((eq_by_cmp_equiv nat_list_cmp_total).symm next.0 row.0 ∙ less_apart (text_cmp row.0 next.0) b.0) ∙ each.0, later row all rows b.1 each.1)

each_stands-sorted : (rows : List (Text × Standing)) → T (is_sorted text_cmp rows) → EachStands (λ q. find text_cmp q rows) rows
each_stands-sorted [] h = tt
each_stands-sorted (row ∷ rows) h =
    let p = parted (below_all text_cmp row.0 rows) _ h in
    (ap (λ (c : Bool). cond c (Some row.1) (find text_cmp row.0 rows)) (ties_itself row.0), later row rows rows p.0 (each_stands-sorted rows p.1))

same_each : (f g : Text → Option Standing) (rows : List (Text × Standing)) → ((q : Text) → g q ≡ f q) → EachStands f rows → EachStands g rows
same_each f g [] h each = tt
same_each f g (row ∷ rows) h each = (h row.0 ∙ each.0, same_each f g rows h each.1)

pub each_stands : (held : Held) → EachStands (standing held) (entries held.places)
each_stands held = same_each (λ q. find text_cmp q (entries held.places)) (standing held) (entries held.places) (λ q. get-entries held.places q) (each_stands-sorted (entries held.places) (entries_sorted held.places))

pub row_path : (held : Held) (path : Text) (it : Standing) → IsWhole held → standing held path ≡ Some it → is_canonical path ≡ true
row_path held path it whole at = whole.paths path (ap is_nothing at)

-- What is listed is so.

agrees_item : (held : Held) (dir name : Text) (it : Standing) → is_name name ≡ true → standing held (join dir name) ≡ Some it → agrees held dir (item_of name it) ≡ true
agrees_item held dir name (File bytes) n at = ap (λ (b : Bool). b && is_file (standing held (join dir name))) n ∙ ap is_file at
agrees_item held dir name Dir n at = ap (λ (b : Bool). b && is_dir (standing held (join dir name))) n ∙ ap is_dir at
agrees_item held dir name Special n at = ap (λ (b : Bool). b && is_special (standing held (join dir name))) n ∙ ap is_special at

all_odd : (held : Held) (dir : Text) (b : Bool) → list_all (agrees held dir) (cond b (item.Odd ∷ []) []) ≡ true
all_odd held dir true = refl
all_odd held dir false = refl

agrees_row : (held : Held) (dir : Text) (b : Bool) (row : Text × Standing) (its : List Item) → IsWhole held → standing held row.0 ≡ Some row.1 → is_in dir row.0 ≡ b → list_all (agrees held dir) its ≡ true → list_all (agrees held dir) (cons_option (cond b (Some (item_of (name_of row.0) row.1)) None) its) ≡ true
agrees_row held dir true row its whole at here rest =
    let j = join-is_in dir row.0 (row_path held row.0 row.1 whole at) here in
    ap (λ (b : Bool). b && list_all (agrees held dir) its) (agrees_item held dir (name_of row.0) row.1 j.1 (ap (standing held) j.0 ∙ at)) ∙ rest
agrees_row held dir false row its whole at here rest = rest

pub onto : (o : Option Item) (its more : List Item) → cons_option o its ++ more ≡ cons_option o (its ++ more)
onto None its more = refl
onto (Some it) its more = refl

agrees_rows : (held : Held) (dir : Text) (rows : List (Text × Standing)) (more : List Item) → IsWhole held → EachStands (standing held) rows → list_all (agrees held dir) more ≡ true → list_all (agrees held dir) (filter_map (item_in dir) rows ++ more) ≡ true
agrees_rows held dir [] more whole each rest = rest
agrees_rows held dir (row ∷ rows) more whole each rest =
    ap (list_all (agrees held dir)) (onto (item_in dir row) (filter_map (item_in dir) rows) more)
    ∙ agrees_row held dir (is_in dir row.0) row (filter_map (item_in dir) rows ++ more) whole each.0 refl (agrees_rows held dir rows more whole each.1 rest)

pub items-agree : (held : Held) (dir : Text) → IsWhole held → list_all (agrees held dir) (items_of held dir) ≡ true
items-agree held dir whole = agrees_rows held dir (entries held.places) (odd_in held.odd dir) whole (each_stands held) (all_odd held dir (is_odd dir held.odd))

-- What stands at a name is listed, and else nothing of this name is.

named_item : (n name : Text) (it : Standing) → is_named name (item_of n it) ≡ same_text n name
named_item n name (File bytes) = refl
named_item n name Dir = refl
named_item n name Special = refl

named_odd : (name : Text) (b : Bool) → item_named name (cond b (item.Odd ∷ []) []) ≡ None
named_odd name true = refl
named_odd name false = refl

named_here : (dir name : Text) (s : Bool) (row : Text × Standing) (its : List Item) (rest : Option Standing) → is_canonical row.0 ≡ true → is_in dir row.0 ≡ true → is_name name ≡ true → same_text (name_of row.0) name ≡ s → item_named name its ≡ option_map (item_of name) rest
    → cond s (Some (item_of (name_of row.0) row.1)) (item_named name its) ≡ option_map (item_of name) (cond (same_path (join dir name) row.0) (Some row.1) rest)
named_here dir name true row its rest c here n s h =
    let is : name_of row.0 ≡ name = same_is _ _ s in
    let at : join dir name ≡ row.0 = ap (join dir) (sym is) ∙ (join-is_in dir row.0 c here).0 in
    ap (λ (t : Text). Some (item_of t row.1)) is ∙ sym (ap (λ (b : Bool). option_map (item_of name) (cond b (Some row.1) rest)) (ap (λ (p : Text). same_path p row.0) at ∙ ties_itself row.0))
named_here dir name false row its rest c here n s h =
    h ∙ (elim (same_path (join dir name) row.0) as (λ (b : Bool). same_path (join dir name) row.0 ≡ b → option_map (item_of name) rest ≡ option_map (item_of name) (cond b (Some row.1) rest)) [
      | true ↦ λ e. let yes : same_text (name_of row.0) name ≡ true = ap (λ (t : Text). same_text t name) (ap name_of (sym (one_path (join dir name) row.0 e)) ∙ name_of-join dir name n) ∙ same_itself name in cc
      | false ↦ λ e. refl
    ] refl)

named_row : (dir name : Text) (b : Bool) (row : Text × Standing) (its : List Item) (rest : Option Standing) → is_canonical row.0 ≡ true → is_canonical dir ≡ true → is_in dir row.0 ≡ b → is_name name ≡ true → item_named name its ≡ option_map (item_of name) rest
    → item_named name (cons_option (cond b (Some (item_of (name_of row.0) row.1)) None) its) ≡ option_map (item_of name) (cond (same_path (join dir name) row.0) (Some row.1) rest)
named_row dir name true row its rest c d here n h =
    ap (λ (b : Bool). cond b (Some (item_of (name_of row.0) row.1)) (item_named name its)) (named_item (name_of row.0) name row.1)
    ∙ named_here dir name (same_text (name_of row.0) name) row its rest c here n refl h
named_row dir name false row its rest c d here n h =
    h ∙ (elim (same_path (join dir name) row.0) as (λ (b : Bool). same_path (join dir name) row.0 ≡ b → option_map (item_of name) rest ≡ option_map (item_of name) (cond b (Some row.1) rest)) [
      | true ↦ λ e. let yes : is_in dir row.0 ≡ true = ap (is_in dir) (sym (one_path (join dir name) row.0 e)) ∙ is_in-join dir name d n in cc
      | false ↦ λ e. refl
    ] refl)

named_rows : (held : Held) (dir name : Text) (rows : List (Text × Standing)) (more : List Item) → IsWhole held → is_canonical dir ≡ true → is_name name ≡ true → EachStands (standing held) rows → item_named name more ≡ None
    → item_named name (filter_map (item_in dir) rows ++ more) ≡ option_map (item_of name) (find text_cmp (join dir name) rows)
named_rows held dir name [] more whole d n each none = none
named_rows held dir name (row ∷ rows) more whole d n each none =
    ap (item_named name) (onto (item_in dir row) (filter_map (item_in dir) rows) more)
    ∙ named_row dir name (is_in dir row.0) row (filter_map (item_in dir) rows ++ more) (find text_cmp (join dir name) rows) (row_path held row.0 row.1 whole each.0) d refl n (named_rows held dir name rows more whole d n each.1 none)

pub item_named-is : (held : Held) (dir name : Text) → IsWhole held → is_canonical dir ≡ true → is_name name ≡ true → item_named name (items_of held dir) ≡ option_map (item_of name) (standing held (join dir name))
item_named-is held dir name whole d n =
    named_rows held dir name (entries held.places) (odd_in held.odd dir) whole d n (each_stands held) (named_odd name (is_odd dir held.odd))
    ∙ ap (option_map (item_of name)) (sym (get-entries held.places (join dir name)))

-- An odd name is listed.

no_odd_item : (name : Text) (it : Standing) → is_odd_item (item_of name it) ≡ false
no_odd_item name (File bytes) = refl
no_odd_item name Dir = refl
no_odd_item name Special = refl

odd_rest : (b : Bool) (name : Text) (it : Standing) (its : List Item) → list_any is_odd_item (cons_option (cond b (Some (item_of name it)) None) its) ≡ list_any is_odd_item its
odd_rest true name it its = ap (λ (c : Bool). c || list_any is_odd_item its) (no_odd_item name it)
odd_rest false name it its = refl

odd_only : (b : Bool) → list_any is_odd_item (cond b (item.Odd ∷ []) []) ≡ b
odd_only true = refl
odd_only false = refl

odd_rows : (dir : Text) (rows : List (Text × Standing)) (more : List Item) → list_any is_odd_item (filter_map (item_in dir) rows ++ more) ≡ list_any is_odd_item more
odd_rows dir [] more = refl
odd_rows dir (row ∷ rows) more =
    ap (list_any is_odd_item) (onto (item_in dir row) (filter_map (item_in dir) rows) more)
    ∙ odd_rest (is_in dir row.0) (name_of row.0) row.1 (filter_map (item_in dir) rows ++ more) ∙ odd_rows dir rows more

pub odd_item-is : (held : Held) (dir : Text) → list_any is_odd_item (items_of held dir) ≡ is_odd dir held.odd
odd_item-is held dir = odd_rows dir (entries held.places) (odd_in held.odd dir) ∙ odd_only (is_odd dir held.odd)
