-- The rows of a snapshot are rows, and keep what a folder doesn't.
use Rattle.std.proofs.Common.{◌≡◌, ◌≤◌, ℕ, List, [], ◌∷◌, Bool, true, false, not, cond, ◌==◌, ◌&&◌, inl, inr, Option, Some, None, option_map, refl, sym, ap, subst, ◌∙◌}
use lib.Dec.{T}
use Rattle.std.specs.List.{filter_map, cons_option, list_all}
use Rattle.std.specs.Option.{option_and_then}
use Rattle.std.specs.Ordering.{eq_by_cmp, is_lt}
use Rattle.std.specs.FinMap.{empty, entries, entries_sorted, find, get, get-entries}
use Rattle.std.proofs.lemmas.Bool.{le-leb, eqb-true}
use Rattle.rk_base.specs.Text.{Text, text_cmp, root, hidden, join, parent, is_root, is_within}
use Rattle.rk_tree.specs.Content.{bytes_of}
use Rattle.rk_tree.specs.Full.{in_full, own}
use Rattle.rk_tree.specs.declared.content.Content.TheVariants.{Own}
use Rattle.rk_tree.proofs.EntriesLemmas.{get-full, node-own, own_node}
use Rattle.rk_tree.specs.Entries.{Entries, is_dir, IsFit, IsWholeSnapshot}
use Rattle.rk_tree.specs.Node.{Node as Entry, File, Dir, Link}
use Rattle.rk_tree.proofs.TextLemmas.{same_is, told_apart}
use Rattle.rk_tree.proofs.RowsLemmas.{get-found, same_maps}
use Rattle.rk_attrs.specs.Rows.{file_mode, dir_mode, is_mode, is_link_text, suits, is_row, ascend_from, ascend, are_rows}
use Rattle.rk_attrs.specs.declared.rows.AttrRow.{AttrRow}
use Rattle.rk_attrs.specs.declared.rows.AttrRow.TheVariants as row
use Rattle.rk_attrs.proofs.RowLemmas.{rows_are}
use Rattle.rk_folder.specs.Attributes.{with_rows, stands_with}
use Rattle.rk_folder.specs.Hidden.{hidden_dir}
use Rattle.rk_folder.specs.Import.{snapshot_of}
use Rattle.rk_folder.specs.Told.{Held, standing}
use Rattle.rk_folder.specs.declared.folder.Standing.{Standing}
use Rattle.rk_folder.proofs.AttributesLemmas.{get-with_rows}
use Rattle.rk_changes.specs.Attributes.{row_of, attr_row, attrs_of, plain_of, plain_row, plain}
use Rattle.rk_changes.specs.Holdings.{placed, Holds}
use Rattle.rk_changes.specs.declared.holding.Holding.{Holding}
use Rattle.rk_changes.proofs.ImportedLemmas.{shown, get-imported}
use Rattle.rk_changes.proofs.OrderLemmas.{Below, InOrder, below_first, below_rest, in_order_first, in_order_rest, find_below, find_first, find_other, find_later}

-- What is found among the rows that are made of others.

module _ {X Y : Type 0} (f : X → Option Y) where
  abbrev made : Text × X → Option (Text × Y)
  made place = option_map (λ y. (place.0, y)) (f place.1)

  made_here : (path : Text) (o : Option Y) (rest : List (Text × Y)) → find text_cmp path rest ≡ None → find text_cmp path (cons_option (option_map (λ y. (path, y)) o) rest) ≡ o
  made_here path None rest none = none
  made_here path (Some y) rest none = find_first (path, y) rest

  made_there : (q path : Text) (o : Option Y) (rest : List (Text × Y)) → eq_by_cmp text_cmp q path ≡ false → find text_cmp q (cons_option (option_map (λ y. (path, y)) o) rest) ≡ find text_cmp q rest
  made_there q path None rest e = refl
  made_there q path (Some y) rest e = find_other q (path, y) rest e

  find_made : (rows : List (Text × X)) → InOrder rows → (q : Text) → find text_cmp q (filter_map made rows) ≡ option_and_then f (find text_cmp q rows)
  find_made [] o q = refl
  find_made (place ∷ rows) o q = elim (told_apart q place.0) [
    | inl same ↦
        let none : find text_cmp place.0 (filter_map made rows) ≡ None = find_made rows (in_order_rest place rows o) place.0 ∙ ap (option_and_then f) (find_below place.0 rows (in_order_first place rows o)) in
        ap (λ (p : Text). find text_cmp p (filter_map made (place ∷ rows))) same.0
        ∙ made_here place.0 (f place.1) (filter_map made rows) none
        ∙ sym (ap (λ (p : Text). option_and_then f (find text_cmp p (place ∷ rows))) same.0 ∙ ap (option_and_then f) (find_first place rows))
    | inr other ↦
        made_there q place.0 (f place.1) (filter_map made rows) other.1
        ∙ find_made rows (in_order_rest place rows o) q
        ∙ sym (ap (option_and_then f) (find_other q place rows other.1))
  ]

found_row : (snapshot : Entries) (q : Text) → find text_cmp q (attrs_of snapshot) ≡ option_and_then row_of (get snapshot q)
found_row snapshot q = find_made row_of (entries snapshot) (entries_sorted snapshot) q ∙ sym (ap (option_and_then row_of) (get-entries snapshot q))

get-plain : (snapshot : Entries) (q : Text) → get (plain snapshot) q ≡ option_and_then plain_of (get snapshot q)
get-plain snapshot q =
    get-found (filter_map plain_row (entries snapshot)) q ∙ find_made plain_of (entries snapshot) (entries_sorted snapshot) q ∙ sym (ap (option_and_then plain_of) (get-entries snapshot q))

-- They are rows.

yes : (b : Bool) → T b → b ≡ true
yes true h = refl
yes false h = absurd h

both_are : (a b : Bool) → a ≡ true → b ≡ true → (a && b) ≡ true
both_are a b h k = ap (λ (x : Bool). x && b) h ∙ k

ascend_cons : (p path : Text) (it : Option AttrRow) (rest : List (Text × AttrRow)) → is_lt (text_cmp p path) ≡ true → ascend_from p rest ≡ true → ascend_from path rest ≡ true → ascend_from p (cons_option (option_map (λ r. (path, r)) it) rest) ≡ true
ascend_cons p path None rest lt passed more = passed
ascend_cons p path (Some it) rest lt passed more = both_are _ _ lt more

ascend_made : (p : Text) (rows : List (Text × Entry)) → Below p rows → InOrder rows → ascend_from p (filter_map attr_row rows) ≡ true
ascend_made p [] b o = refl
ascend_made p (place ∷ rows) b o =
    ascend_cons p place.0 (row_of place.1) (filter_map attr_row rows) (ap is_lt (below_first p place rows b))
    (ascend_made p rows (below_rest p place rows b) (in_order_rest place rows o))
    (ascend_made place.0 rows (in_order_first place rows o) (in_order_rest place rows o))

ascend_first : (path : Text) (it : Option AttrRow) (rest : List (Text × AttrRow)) → ascend rest ≡ true → ascend_from path rest ≡ true → ascend (cons_option (option_map (λ r. (path, r)) it) rest) ≡ true
ascend_first path None rest passed more = passed
ascend_first path (Some it) rest passed more = more

ascend_all : (rows : List (Text × Entry)) → InOrder rows → ascend (filter_map attr_row rows) ≡ true
ascend_all [] o = refl
ascend_all (place ∷ rows) o =
    ascend_first place.0 (row_of place.1) (filter_map attr_row rows) (ascend_all rows (in_order_rest place rows o)) (ascend_made place.0 rows (in_order_first place rows o) (in_order_rest place rows o))

nothing : (it : AttrRow) → None ≡ Some it → ⊥
nothing it h = cc

some_is : (a b : AttrRow) → Some a ≡ Some b → a ≡ b
some_is a b h = cc

mode_is : (mode default : ℕ) → mode ≤ 511 → (mode == default) ≡ false → is_mode default mode ≡ true
mode_is mode default le other = both_are _ _ (le-leb mode 511 le) (ap not other)

text_is : (text : List ℕ) → IsFit (Link text) → is_link_text text ≡ true
text_is [] fit = absurd (fit.0 refl)
text_is (b ∷ bs) fit = ap not fit.1

suits_by : (path : Text) (e : Entry) (it : AttrRow) → IsFit e → ((text : List ℕ) → e ≡ Link text → is_root path ≡ false) → row_of e ≡ Some it → suits path it ≡ true
suits_by path (File mode content) it fit link is = (elim (mode == file_mode) as (λ (b : Bool). (mode == file_mode) ≡ b → cond b None (Some (row.FileMode mode)) ≡ Some it → suits path it ≡ true) [
  | true ↦ λ e h. absurd (nothing it h)
  | false ↦ λ e h. subst (λ (r : AttrRow). suits path r ≡ true) (some_is (row.FileMode mode) it h) (mode_is mode file_mode fit e)
]) refl is
suits_by path (Dir mode) it fit link is = (elim (mode == dir_mode) as (λ (b : Bool). (mode == dir_mode) ≡ b → cond b None (Some (row.DirMode mode)) ≡ Some it → suits path it ≡ true) [
  | true ↦ λ e h. absurd (nothing it h)
  | false ↦ λ e h. subst (λ (r : AttrRow). suits path r ≡ true) (some_is (row.DirMode mode) it h) (mode_is mode dir_mode fit e)
]) refl is
suits_by path (Link text) it fit link is = subst (λ (r : AttrRow). suits path r ≡ true) (some_is (row.Link text) it is) (both_are _ _ (text_is text fit) (ap not (link text refl)))

all_cons : (path : Text) (it : Option AttrRow) (rest : List (Text × AttrRow)) → ((r : AttrRow) → it ≡ Some r → is_row (path, r) ≡ true) → list_all is_row rest ≡ true → list_all is_row (cons_option (option_map (λ r. (path, r)) it) rest) ≡ true
all_cons path None rest h more = more
all_cons path (Some it) rest h more = both_are _ _ (h it refl) more

-- what is said of one row holds of all
each_made : (rows : List (Text × Entry)) → InOrder rows → ((q : Text) (e : Entry) (it : AttrRow) → find text_cmp q rows ≡ Some e → row_of e ≡ Some it → is_row (q, it) ≡ true) → list_all is_row (filter_map attr_row rows) ≡ true
each_made [] o h = refl
each_made (place ∷ rows) o h =
    all_cons place.0 (row_of place.1) (filter_map attr_row rows) (λ it is. h place.0 place.1 it (find_first place rows) is)
    (each_made rows (in_order_rest place rows o) (λ q e it at. h q e it (find_later place rows q e (in_order_first place rows o) at)))

no_link : (o : Option Entry) (text : List ℕ) → is_dir o ≡ true → o ≡ Some (Link text) → ⊥
no_link None text d e = cc
no_link (Some (File mode content)) text d e = cc
no_link (Some (Dir mode)) text d e = cc
no_link (Some (Link t)) text d e = cc

none_some : (o : Option Entry) (e : Entry) → o ≡ None → o ≡ Some e → ⊥
none_some o e n s = cc

module _ (snapshot : Entries) (whole : IsWholeSnapshot snapshot) where
  not_root : (q : Text) (e : Entry) → get snapshot q ≡ Some e → (text : List ℕ) → e ≡ Link text → is_root q ≡ false
  not_root q e at text is = elim (is_root q) as (λ (b : Bool). is_root q ≡ b → b ≡ false) [
    | true ↦ λ r. absurd (no_link (get snapshot root) text whole.root_dir (ap (get snapshot) (sym (same_is q root r)) ∙ at ∙ ap Some is))
    | false ↦ λ r. refl
  ] refl

  not_hidden : (q : Text) (e : Entry) → get snapshot q ≡ Some e → is_within (join root hidden) q ≡ false
  not_hidden q e at = elim (is_within (join root hidden) q) as (λ (b : Bool). is_within (join root hidden) q ≡ b → b ≡ false) [
    | true ↦ λ h. absurd (none_some (get snapshot q) e (whole.unseen q h) at)
    | false ↦ λ h. refl
  ] refl

  row_is : (q : Text) (e : Entry) (it : AttrRow) → find text_cmp q (entries snapshot) ≡ Some e → row_of e ≡ Some it → is_row (q, it) ≡ true
  row_is q e it found is =
      let at : get snapshot q ≡ Some e = get-entries snapshot q ∙ found in
      both_are _ _ (both_are _ _ (whole.canonical q e at) (ap not (not_hidden q e at))) (suits_by q e it (whole.fit q e at) (not_root q e at) is)

  pub attrs_ascend : ascend (attrs_of snapshot) ≡ true
  attrs_ascend = ascend_all (entries snapshot) (entries_sorted snapshot)

  pub attrs_are : are_rows (attrs_of snapshot) ≡ true
  attrs_are = rows_are (attrs_of snapshot) (each_made (entries snapshot) (entries_sorted snapshot) row_is) attrs_ascend

pub taken : (b : Bool) (rows : List (Text × AttrRow)) (o : Option (List (Text × AttrRow))) → o ≡ cond b (Some rows) None → b ≡ true → o ≡ None → ⊥
taken true rows o e h n = cc
taken false rows o e h n = cc

-- They keep what a folder doesn't.

plain_dir : (o : Option Entry) → is_dir (option_and_then plain_of o) ≡ is_dir o
plain_dir None = refl
plain_dir (Some (File mode content)) = refl
plain_dir (Some (Dir mode)) = refl
plain_dir (Some (Link text)) = refl

kept_at : (o : Option Entry) (d : Bool) → ((e : Entry) → o ≡ Some e → d ≡ true) → stands_with (option_and_then row_of o) d (option_and_then plain_of o) ≡ option_map own_node o
kept_at None d h = refl
kept_at (Some (File mode content)) d h = elim (mode == file_mode) as (λ (b : Bool). (mode == file_mode) ≡ b → stands_with (cond b None (Some (row.FileMode mode))) d (Some (File file_mode (Own (bytes_of content)))) ≡ Some (File mode (Own (bytes_of content)))) [
  | true ↦ λ e. ap (λ (m : ℕ). Some (File m (Own (bytes_of content)))) (sym (eqb-true mode file_mode e))
  | false ↦ λ e. refl
] refl
kept_at (Some (Dir mode)) d h = elim (mode == dir_mode) as (λ (b : Bool). (mode == dir_mode) ≡ b → stands_with (cond b None (Some (row.DirMode mode))) d (Some (Dir dir_mode)) ≡ Some (Dir mode)) [
  | true ↦ λ e. ap (λ (m : ℕ). Some (Dir m)) (sym (eqb-true mode dir_mode e))
  | false ↦ λ e. refl
] refl
kept_at (Some (Link text)) d h = ap (λ (b : Bool). stands_with (Some (row.Link text)) b None) (h (Link text) refl)

owned : (o : Option Entry) → in_full empty o ≡ option_map own_node o
owned None = refl
owned (Some it) = ap (λ (e : Entry). Some e) (node-own it)

pub rows-keep : (snapshot : Entries) → IsWholeSnapshot snapshot → with_rows (plain snapshot) (attrs_of snapshot) ≡ own snapshot
rows-keep snapshot whole = same_maps (with_rows (plain snapshot) (attrs_of snapshot)) (own snapshot) (λ q.
    get-with_rows (plain snapshot) (attrs_of snapshot) q (attrs_ascend snapshot whole)
    ∙ ap (λ (r : Option AttrRow). stands_with r (is_dir (get (plain snapshot) (parent q))) (get (plain snapshot) q)) (found_row snapshot q)
    ∙ ap (λ (d : Bool). stands_with (option_and_then row_of (get snapshot q)) d (get (plain snapshot) q)) (ap is_dir (get-plain snapshot (parent q)) ∙ plain_dir (get snapshot (parent q)))
    ∙ ap (stands_with (option_and_then row_of (get snapshot q)) (is_dir (get snapshot (parent q)))) (get-plain snapshot q)
    ∙ kept_at (get snapshot q) (is_dir (get snapshot (parent q))) (λ e at. whole.placed q e at)
    ∙ sym (get-full empty snapshot q ∙ owned (get snapshot q)))

-- A folder that holds a snapshot.

shown_placed : (o : Option Entry) → shown (placed o) false ≡ option_and_then plain_of o
shown_placed None = refl
shown_placed (Some (File mode content)) = refl
shown_placed (Some (Dir mode)) = refl
shown_placed (Some (Link text)) = refl

shown_hidden : (o : Option Standing) → shown o true ≡ None
shown_hidden None = refl
shown_hidden (Some it) = refl

pub plain-held : (held : Held) (holding : Holding) → Holds held holding → snapshot_of held ≡ plain holding.entries
plain-held held holding h = same_maps (snapshot_of held) (plain holding.entries) (λ q.
    get-imported held q
    ∙ (elim (is_within hidden_dir q) as (λ (b : Bool). is_within hidden_dir q ≡ b → shown (standing held q) b ≡ option_and_then plain_of (get holding.entries q)) [
      | true ↦ λ e. shown_hidden (standing held q) ∙ ap (option_and_then plain_of) (sym (h.unseen q e))
      | false ↦ λ e. ap (λ (o : Option Standing). shown o false) (h.outside q e) ∙ shown_placed (get holding.entries q)
    ] refl)
    ∙ sym (get-plain holding.entries q))

pub built-held : (held : Held) (holding : Holding) → Holds held holding → IsWholeSnapshot holding.entries → with_rows (snapshot_of held) (attrs_of holding.entries) ≡ own holding.entries
built-held held holding h whole = ap (λ (s : Entries). with_rows s (attrs_of holding.entries)) (plain-held held holding h) ∙ rows-keep holding.entries whole
