-- The first special within a directory, by what is listed in it.
use Rattle.std.proofs.Common.{◌≡◌, ◌⊎◌, inl, inr, List, [], ◌∷◌, ◌++◌, Bool, true, false, ◌&&◌, ◌||◌, Option, Some, None, arith, refl, sym, ap, subst, ◌∙◌, cond}
use lib.Dec.{T}
use Rattle.std.specs.Ordering.{is_lt}
use Rattle.std.specs.declared.cmp.Ordering.{Ordering}
use Rattle.std.specs.declared.cmp.Ordering.TheVariants.{Less, Equal, Greater}
use Rattle.std.specs.List.{filter_map, list_any, cons_option}
use Rattle.std.specs.FinMap.{entries, entries_sorted, find, get-entries, is_sorted}
use Rattle.std.specs.FinMap.Entries.{below_all}
use Rattle.rk_base.specs.Text.{Text, text_cmp, root, join, name_of, is_in, is_within, depth}
use Rattle.rk_base.specs.Canonical.{is_canonical, is_name}
use Rattle.rk_base.proofs.CanonicalLemmas.{both}
use Rattle.rk_base.proofs.PathLemmas.{join-is_in, is_in-join, parent-join}
use Rattle.rk_tree.proofs.TextLemmas.{one_of, or_right}
use Rattle.rk_folder.specs.Told.{Held, standing, is_nothing, is_file, is_dir, item_in, item_of, items_of, is_odd, odd_in}
use Rattle.rk_folder.specs.Whole.{IsWhole}
use Rattle.rk_folder.specs.Hidden.{hidden_dir}
use Rattle.rk_folder.specs.Listing.{is_listed_before, IsFirst}
use Rattle.rk_folder.specs.Specials.{is_special, is_hidden_fault, is_fault, first_special, or_else}
use Rattle.rk_folder.specs.Steps.{first_within, special_in, first_fault}
use Rattle.rk_folder.specs.declared.folder.Item.{Item}
use Rattle.rk_folder.specs.declared.folder.Item.TheVariants as item
use Rattle.rk_folder.specs.declared.folder.Standing.{Standing}
use Rattle.rk_folder.specs.declared.folder.Standing.TheVariants.{File, Dir, Special}
use Rattle.rk_folder.proofs.HeldLemmas.{same_path, one_path}
use Rattle.rk_folder.proofs.ListingLemmas.{EachStands, each_stands, row_path, parted, onto}
use Rattle.rk_folder.proofs.OrderLemmas.{above-first, sibling-first}
use Rattle.rk_folder.proofs.FirstLemmas.{clash, first-same, first-unique, first-or, same_and, fault-stands, first_within-is, first_special-is}
use Rattle.rk_folder.proofs.WithinLemmas.{within-itself, within-root, within-parent, over}

stands_at : (held : Held) (path : Text) (it : Standing) → standing held path ≡ Some it → is_nothing (standing held path) ≡ false
stands_at held path it at = ap is_nothing at

-- in the whole folder
pub special-root : (held : Held) → IsWhole held → first_special held ≡ first_within held root
special-root held whole =
    first-unique (is_fault held) (first_special held) (first_within held root) (first_special-is held)
    (first-same (λ q. is_within root q && is_fault held q) (is_fault held) (first_within held root)
    (λ q. same_and (is_fault held q) (is_within root q) (λ t. let s = fault-stands held q t in within-root q (whole.paths q (stands_at held q s.0 s.1))))
    (first_within-is held root))

-- a path that is special itself comes first
pub special-itself : (held : Held) (path : Text) → is_fault held path ≡ true → first_within held path ≡ Some path
special-itself held path fault =
    first-unique (λ q. is_within path q && is_fault held q) (first_within held path) (Some path) (first_within-is held path)
    (ap (λ (b : Bool). b && is_fault held path) (within-itself path) ∙ fault, λ q t. above-first path q (both (is_within path q) _ t).0)

-- where nothing stands but at the path, and that isn't special
pub special-none : (held : Held) (path : Text) → ((q : Text) → is_within path q ≡ true → is_fault held q ≡ true → ⊥) → first_within held path ≡ None
special-none held path never =
    first-unique (λ q. is_within path q && is_fault held q) (first_within held path) None (first_within-is held path) (λ q. none q (is_within path q && is_fault held q) refl) where
      none : (q : Text) (b : Bool) → (is_within path q && is_fault held q) ≡ b → b ≡ false
      none q true t = let e = both (is_within path q) _ t in absurd (never q e.0 e.1)
      none q false t = refl

-- What is special at a path outside the hidden directory.

fault_seen : (held : Held) (path : Text) → is_within hidden_dir path ≡ false → is_fault held path ≡ (is_special (standing held path) || (is_dir (standing held path) && is_odd path held.odd))
unfolding is_fault
fault_seen held path seen = ap (λ (b : Bool). cond b (is_hidden_fault path (standing held path)) (is_special (standing held path) || (is_dir (standing held path) && is_odd path held.odd))) seen

pub special-fault : (held : Held) (path : Text) → is_within hidden_dir path ≡ false → is_special (standing held path) ≡ true → is_fault held path ≡ true
special-fault held path seen h = fault_seen held path seen ∙ ap (λ (b : Bool). b || (is_dir (standing held path) && is_odd path held.odd)) h

file_plain : (o : Option Standing) (b : Bool) → is_file o ≡ true → (is_special o || (is_dir o && b)) ≡ false
file_plain None b h = cc
file_plain (Some (File bytes)) b h = refl
file_plain (Some Dir) b h = cc
file_plain (Some Special) b h = cc

dir_plain : (o : Option Standing) (b : Bool) → is_dir o ≡ true → (is_special o || (is_dir o && b)) ≡ b
dir_plain None b h = cc
dir_plain (Some (File bytes)) b h = cc
dir_plain (Some Dir) b h = refl
dir_plain (Some Special) b h = cc

pub dir-fault : (held : Held) (path : Text) → is_within hidden_dir path ≡ false → is_dir (standing held path) ≡ true → is_fault held path ≡ is_odd path held.odd
dir-fault held path seen d = fault_seen held path seen ∙ dir_plain (standing held path) (is_odd path held.odd) d

file_no_dir : (o : Option Standing) → is_file o ≡ true → is_dir o ≡ true → ⊥
file_no_dir None f d = cc
file_no_dir (Some (File bytes)) f d = cc
file_no_dir (Some Dir) f d = cc
file_no_dir (Some Special) f d = cc

file_there : (o : Option Standing) → is_file o ≡ true → is_nothing o ≡ false
file_there None h = cc
file_there (Some it) h = refl

-- what stands within a file is the file
pub within-file : (held : Held) (path q : Text) → IsWhole held → is_file (standing held path) ≡ true → is_within path q ≡ true → is_nothing (standing held q) ≡ false → q ≡ path
within-file held path q whole file h stands =
    let c = whole.paths path (file_there (standing held path) file) in
    elim (over (depth q) held path q (omega arith) whole c stands h) [
      | inl same ↦ same
      | inr found ↦
          let dir = whole.parents (join path found.0) found.1.stands in
          absurd (file_no_dir (standing held path) file (ap (λ (t : Text). is_dir (standing held t)) (sym (parent-join path found.0 c found.1.named)) ∙ dir))
    ]

pub special-file : (held : Held) (path : Text) → IsWhole held → is_within hidden_dir path ≡ false → is_file (standing held path) ≡ true → first_within held path ≡ None
special-file held path whole seen file = special-none held path (λ q h t.
    let s = fault-stands held q t in
    let same = within-file held path q whole file h (stands_at held q s.0 s.1) in
    clash (is_fault held path) (ap (is_fault held) (sym same) ∙ t) (fault_seen held path seen ∙ file_plain (standing held path) (is_odd path held.odd) file))

-- By rows of the map.

unfoldable pub in_rows : Text → List (Text × Standing) → Text → Bool
in_rows dir rows q = list_any (λ row. is_in dir row.0 && is_within row.0 q) rows

special_item : (held : Held) (dir name : Text) (it : Standing) → special_in held dir (item_of name it) ≡ first_within held (join dir name)
special_item held dir name (File bytes) = refl
special_item held dir name Dir = refl
special_item held dir name Special = refl

odd_none : (held : Held) (dir : Text) (b : Bool) → first_fault (special_in held dir) (cond b (item.Odd ∷ []) []) ≡ None
odd_none held dir true = refl
odd_none held dir false = refl

less_is : (o : Ordering) → T (is_lt o) → o ≡ Less
less_is Less h = refl
less_is Equal h = absurd h
less_is Greater h = absurd h

later_rows : (held : Held) (dir m p q : Text) (rows : List (Text × Standing)) → IsWhole held → EachStands (standing held) rows → is_name m ≡ true → is_within (join dir m) p ≡ true → T (below_all text_cmp (join dir m) rows) → in_rows dir rows q ≡ true → is_listed_before q p ≡ false
unfolding in_rows
later_rows held dir m p q [] whole each u h below some = cc
later_rows held dir m p q (row ∷ rows) whole each u h below some =
    let b = parted (is_lt (text_cmp (join dir m) row.0)) _ below in
    elim (one_of (is_in dir row.0 && is_within row.0 q) _ some) [
      | inl here ↦
          let e = both (is_in dir row.0) _ here in
          let j = join-is_in dir row.0 (row_path held row.0 row.1 whole each.0) e.0 in
          sibling-first dir m (name_of row.0) p q u j.1 (ap (text_cmp (join dir m)) j.0 ∙ less_is (text_cmp (join dir m) row.0) b.0) h (ap (λ (t : Text). is_within t q) j.0 ∙ e.1)
      | inr later ↦ later_rows held dir m p q rows whole each.1 u h b.1 later
    ]

spread : (w r x : Bool) → ((w && x) || (r && x)) ≡ ((w || r) && x)
spread true true true = refl
spread true true false = refl
spread true false true = refl
spread true false false = refl
spread false r x = refl

one_row : (held : Held) (dir : Text) (b : Bool) (row : Text × Standing) (rows : List (Text × Standing)) (its : List Item) → IsWhole held → EachStands (standing held) (row ∷ rows) → T (is_sorted text_cmp (row ∷ rows)) → is_in dir row.0 ≡ b
    → IsFirst (λ q. in_rows dir rows q && is_fault held q) (first_fault (special_in held dir) its)
    → IsFirst (λ q. ((b && is_within row.0 q) || in_rows dir rows q) && is_fault held q) (first_fault (special_in held dir) (cons_option (cond b (Some (item_of (name_of row.0) row.1)) None) its))
one_row held dir false row rows its whole each sorted here first = first
one_row held dir true row rows its whole each sorted here first =
    let j = join-is_in dir row.0 (row_path held row.0 row.1 whole each.0) here in
    let below = (parted (below_all text_cmp row.0 rows) _ sorted).0 in
    let is : special_in held dir (item_of (name_of row.0) row.1) ≡ first_within held row.0 = special_item held dir (name_of row.0) row.1 ∙ ap (first_within held) j.0 in
    subst (λ (o : Option Text). IsFirst (λ q. (is_within row.0 q || in_rows dir rows q) && is_fault held q) (or_else o (first_fault (special_in held dir) its))) (sym is)
    (first-same (λ q. (is_within row.0 q && is_fault held q) || (in_rows dir rows q && is_fault held q)) (λ q. (is_within row.0 q || in_rows dir rows q) && is_fault held q) (or_else (first_within held row.0) (first_fault (special_in held dir) its))
    (λ q. spread (is_within row.0 q) (in_rows dir rows q) (is_fault held q))
    (first-or (λ q. is_within row.0 q && is_fault held q) (λ q. in_rows dir rows q && is_fault held q) (first_within held row.0) (first_fault (special_in held dir) its)
    (λ p q f g. later_rows held dir (name_of row.0) p q rows whole each.1 j.1 (ap (λ (t : Text). is_within t p) j.0 ∙ (both (is_within row.0 p) _ f).0) (subst (λ (t : Text). T (below_all text_cmp t rows)) (sym j.0) below) (both (in_rows dir rows q) _ g).0)
    (first_within-is held row.0) first))

rows-first : (held : Held) (dir : Text) (rows : List (Text × Standing)) → IsWhole held → EachStands (standing held) rows → T (is_sorted text_cmp rows) → IsFirst (λ q. in_rows dir rows q && is_fault held q) (first_fault (special_in held dir) (filter_map (item_in dir) rows ++ odd_in held.odd dir))
unfolding in_rows
rows-first held dir [] whole each sorted =
    subst (λ (o : Option Text). IsFirst (λ q. false) o) (sym (odd_none held dir (is_odd dir held.odd))) (λ q. refl)
rows-first held dir (row ∷ rows) whole each sorted =
    subst (λ (its : List Item). IsFirst (λ q. in_rows dir (row ∷ rows) q && is_fault held q) (first_fault (special_in held dir) its)) (sym (onto (item_in dir row) (filter_map (item_in dir) rows) (odd_in held.odd dir)))
    (one_row held dir (is_in dir row.0) row rows (filter_map (item_in dir) rows ++ odd_in held.odd dir) whole each sorted refl
    (rows-first held dir rows whole each.1 (parted (below_all text_cmp row.0 rows) _ sorted).1))

-- what is within a row of a directory is within the directory
pub in_rows-within : (held : Held) (dir q : Text) (rows : List (Text × Standing)) → IsWhole held → EachStands (standing held) rows → in_rows dir rows q ≡ true → is_within dir q ≡ true
unfolding in_rows
in_rows-within held dir q [] whole each some = cc
in_rows-within held dir q (row ∷ rows) whole each some = elim (one_of (is_in dir row.0 && is_within row.0 q) _ some) [
  | inl here ↦
      let e = both (is_in dir row.0) _ here in
      let j = join-is_in dir row.0 (row_path held row.0 row.1 whole each.0) e.0 in
      within-parent dir (name_of row.0) q j.1 (ap (λ (t : Text). is_within t q) j.0 ∙ e.1)
  | inr later ↦ in_rows-within held dir q rows whole each.1 later
]

row-in : (dir path q : Text) (rows : List (Text × Standing)) → is_nothing (find text_cmp path rows) ≡ false → is_in dir path ≡ true → is_within path q ≡ true → in_rows dir rows q ≡ true
unfolding in_rows
row-in dir path q [] stands here h = cc
row-in dir path q (row ∷ rows) stands here h = (elim (same_path path row.0) as (λ (b : Bool). same_path path row.0 ≡ b → is_nothing (cond b (Some row.1) (find text_cmp path rows)) ≡ false → ((is_in dir row.0 && is_within row.0 q) || in_rows dir rows q) ≡ true) [
  | true ↦ λ e found.
      let same = one_path path row.0 e in
      ap (λ (b : Bool). b || in_rows dir rows q) (ap (λ (t : Text). is_in dir t && is_within t q) (sym same) ∙ ap (λ (b : Bool). b && is_within path q) here ∙ h)
  | false ↦ λ e found. or_right (is_in dir row.0 && is_within row.0 q) _ (row-in dir path q rows found here h)
]) refl stands

-- what stands within a directory is that, or within a row of it
pub below-listed : (held : Held) (dir q : Text) → IsWhole held → is_canonical dir ≡ true → is_within dir q ≡ true → is_nothing (standing held q) ≡ false → (q ≡ dir) ⊎ (in_rows dir (entries held.places) q ≡ true)
below-listed held dir q whole d h stands = elim (over (depth q) held dir q (omega arith) whole d stands h) [
  | inl same ↦ inl same
  | inr found ↦ inr (row-in dir (join dir found.0) q (entries held.places) (sym (ap is_nothing (get-entries held.places (join dir found.0))) ∙ found.1.stands) (is_in-join dir found.0 d found.1.named) found.1.within)
]

alike : (a b x : Bool) → (a ≡ true → b ≡ true) → (b ≡ true → x ≡ true → a ≡ true) → (a && x) ≡ (b && x)
alike true b x f g = ap (λ (c : Bool). c && x) (sym (f refl))
alike false true true f g = absurd (clash true refl (sym (g refl refl)))
alike false true false f g = refl
alike false false x f g = refl

-- A directory outside the hidden one: itself where it holds an odd name, else what is first special among its items.

pub special-odd : (held : Held) (dir : Text) → is_within hidden_dir dir ≡ false → is_dir (standing held dir) ≡ true → is_odd dir held.odd ≡ true → first_within held dir ≡ Some dir
special-odd held dir seen d odd = special-itself held dir (dir-fault held dir seen d ∙ odd)

pub special-items : (held : Held) (dir : Text) → IsWhole held → is_canonical dir ≡ true → is_within hidden_dir dir ≡ false → is_dir (standing held dir) ≡ true → is_odd dir held.odd ≡ false → first_within held dir ≡ first_fault (special_in held dir) (items_of held dir)
special-items held dir whole c seen d odd =
    first-unique (λ q. is_within dir q && is_fault held q) (first_within held dir) (first_fault (special_in held dir) (items_of held dir)) (first_within-is held dir)
    (first-same (λ q. in_rows dir (entries held.places) q && is_fault held q) (λ q. is_within dir q && is_fault held q) (first_fault (special_in held dir) (items_of held dir))
    (λ q. alike (in_rows dir (entries held.places) q) (is_within dir q) (is_fault held q)
    (in_rows-within held dir q (entries held.places) whole (each_stands held))
    (λ h t. let s = fault-stands held q t in elim (below-listed held dir q whole c h (stands_at held q s.0 s.1)) [
      | inl same ↦ absurd (clash (is_fault held dir) (ap (is_fault held) (sym same) ∙ t) (dir-fault held dir seen d ∙ odd))
      | inr some ↦ some
    ]))
    (rows-first held dir (entries held.places) whole (each_stands held) (entries_sorted held.places)))
