-- What stands where after a change, and what a listing has.
use Rattle.std.proofs.Common.{◌≡◌, ◌≤◌, max, List, [], ◌∷◌, ◌++◌, append-nil, Bool, true, false, ◌&&◌, not, Option, Some, None, arith, refl, sym, ap, ◌∙◌, cond}
use Rattle.std.specs.Ordering.{eq_by_cmp}
use Rattle.std.specs.List.{filter_map, cons_option}
use Rattle.std.specs.Cmp.{Equal-is, eq_by_cmp_equiv}
use Rattle.std.specs.Cmp.Lexicographic.{nat_list_cmp_total}
use Rattle.std.specs.BTreeMap.{is_at}
use Rattle.std.specs.FinMap.{entries, find, get-entries, get-insert, get-remove, remove}
use Rattle.rk_base.specs.Text.{Text, text_cmp, is_in, is_root, parent, name_of, last_of, same_text, depth}
use Rattle.rk_base.specs.Canonical.{is_empty}
use Rattle.rk_tree.specs.Rows.{map_of}
use Rattle.rk_tree.proofs.TextLemmas.{exact_texts}
use Rattle.rk_tree.proofs.RowsLemmas.{get-map_of, row_at, same_maps}
use Rattle.rk_folder.specs.Told.{Held, Places, standing, is_nothing, is_file, is_dir, can_list, bytes_in, item_in, item_of, items_of, is_odd, odd_in, with_standing, without, with_any, renamed, deepest, reach_of}
use Rattle.rk_folder.specs.declared.folder.Item.{Item}
use Rattle.rk_folder.specs.declared.folder.Item.TheVariants as item
use Rattle.rk_folder.specs.declared.folder.Standing.{Standing}
use Rattle.rk_folder.specs.declared.folder.Standing.TheVariants.{File, Dir, Special}

abbrev pub same_path : Text → Text → Bool
same_path = eq_by_cmp text_cmp

pub one_path : (q path : Text) → same_path q path ≡ true → q ≡ path
one_path q path e = exact_texts q path ((Equal-is (text_cmp q path)).0 e)

-- the rows of a map with one taken out
pub map_of-take : {X : Type 0} (rows fewer : List (Text × X)) (path : Text) → ((q : Text) → row_at fewer q ≡ cond (is_at (text_cmp path) q) None (row_at rows q)) → map_of fewer ≡ remove (map_of rows) path
map_of-take rows fewer path h = same_maps _ _ (λ q.
    get-map_of fewer q ∙ h q ∙ ap (λ b. cond b None (row_at rows q)) ((eq_by_cmp_equiv nat_list_cmp_total).symm path q)
    ∙ sym (get-remove nat_list_cmp_total (map_of rows) path q ∙ ap (cond (eq_by_cmp text_cmp q path) None) (get-map_of rows q)))

pub standing-with : (path : Text) (it : Standing) (held : Held) (q : Text) → standing (with_standing path it held) q ≡ cond (same_path q path) (Some it) (standing held q)
standing-with path it held q = get-insert nat_list_cmp_total held.places path it q

pub standing-without : (path : Text) (held : Held) (q : Text) → standing (without path held) q ≡ cond (same_path q path) None (standing held q)
standing-without path held q = get-remove nat_list_cmp_total held.places path q

-- what holds the same at each path, with the same odd names, is the same
pub same_held : (one two : Held) → one.odd ≡ two.odd → ((q : Text) → standing one q ≡ standing two q) → one ≡ two
same_held one two odd at =
    ap (λ (o : List Text). record { places = one.places; odd = o }) odd ∙ ap (λ (m : Places). record { places = m; odd = two.odd }) (same_maps one.places two.places at)

-- A file that is renamed.

pub renamed-same : (path : Text) (it : Standing) (held : Held) → standing held path ≡ Some it → renamed path path held ≡ held
renamed-same path it held is =
    ap (λ (o : Option Standing). with_any path o (without path held)) is
    ∙ same_held (with_standing path it (without path held)) held refl (λ q. standing-with path it (without path held) q ∙ ap (cond (same_path q path) (Some it)) (standing-without path held q)
    ∙ (elim (same_path q path) as (λ (b : Bool). same_path q path ≡ b → cond b (Some it) (cond b None (standing held q)) ≡ standing held q) [
      | true ↦ λ e. sym is ∙ sym (ap (standing held) (one_path q path e))
      | false ↦ λ e. refl
    ] refl))

swapped : (from to q : Text) (o it : Option Standing) → (from ≡ to → ⊥) → cond (same_path q from) None (cond (same_path q to) it o) ≡ cond (same_path q to) it (cond (same_path q from) None o)
swapped from to q o it other =
    elim (same_path q from) as (λ (b : Bool). same_path q from ≡ b → cond b None (cond (same_path q to) it o) ≡ cond (same_path q to) it (cond b None o)) [
      | true ↦ λ e. (elim (same_path q to) as (λ (c : Bool). same_path q to ≡ c → None ≡ cond c it None) [
        | true ↦ λ f. absurd (other (sym (one_path q from e) ∙ one_path q to f))
        | false ↦ λ f. refl
      ] refl)
      | false ↦ λ e. refl
    ] refl

pub renamed-apart : (from to : Text) (it : Standing) (held : Held) → (from ≡ to → ⊥) → standing held from ≡ Some it → without from (with_standing to it held) ≡ renamed from to held
renamed-apart from to it held other is =
    same_held (without from (with_standing to it held)) (with_standing to it (without from held)) refl (λ q.
    standing-without from (with_standing to it held) q ∙ ap (cond (same_path q from) None) (standing-with to it held q) ∙ swapped from to q (standing held q) (Some it) other
    ∙ sym (standing-with to it (without from held) q ∙ ap (cond (same_path q to) (Some it)) (standing-without from held q)))
    ∙ sym (ap (λ (o : Option Standing). with_any to o (without from held)) is)

pub file_of : (o : Option Standing) → is_file o ≡ true → (bytes : Text) × (o ≡ Some (File bytes))
file_of None h = cc
file_of (Some (File bytes)) h = (bytes, refl)
file_of (Some Dir) h = cc
file_of (Some Special) h = cc

pub file_with : (o : Option Standing) (bytes : Text) → bytes_in o ≡ Some bytes → o ≡ Some (File bytes)
file_with None bytes h = cc
file_with (Some (File b)) bytes h = cc
file_with (Some Dir) bytes h = cc
file_with (Some Special) bytes h = cc

pub no_file : (o : Option Standing) → bytes_in o ≡ None → is_file o ≡ true → ⊥
no_file None h f = cc
no_file (Some (File b)) h f = cc
no_file (Some Dir) h f = cc
no_file (Some Special) h f = cc

pub still_file : (from to : Text) (it : Standing) (held : Held) → (from ≡ to → ⊥) → is_file (standing held from) ≡ true → is_file (standing (with_standing to it held) from) ≡ true
still_file from to it held other file = ap is_file (standing-with to it held from) ∙ (elim (same_path from to) as (λ (b : Bool). same_path from to ≡ b → is_file (cond b (Some it) (standing held from)) ≡ true) [
  | true ↦ λ e. absurd (other (one_path from to e))
  | false ↦ λ e. file
] refl)

-- What stands in a directory is listed.

listed_here : (dir path : Text) (b : Bool) (row : Text × Standing) (items more : List Item) → is_in dir row.0 ≡ b → b ≡ true → is_empty (cons_option (cond b (Some (item_of (name_of row.0) row.1)) None) items ++ more) ≡ false
listed_here dir path true row items more is h = refl
listed_here dir path false row items more is h = cc

listed_later : (o : Option Item) (items more : List Item) → is_empty (items ++ more) ≡ false → is_empty (cons_option o items ++ more) ≡ false
listed_later None items more h = h
listed_later (Some item) items more h = refl

listed : (dir path : Text) (rows : List (Text × Standing)) (more : List Item) → is_in dir path ≡ true → is_nothing (find text_cmp path rows) ≡ false → is_empty (filter_map (item_in dir) rows ++ more) ≡ false
listed dir path [] more here stands = cc
listed dir path (row ∷ rows) more here stands = (elim (same_path path row.0) as (λ (b : Bool). same_path path row.0 ≡ b → is_nothing (cond b (Some row.1) (find text_cmp path rows)) ≡ false → is_empty (cons_option (item_in dir row) (filter_map (item_in dir) rows) ++ more) ≡ false) [
  | true ↦ λ e found. listed_here dir path (is_in dir row.0) row (filter_map (item_in dir) rows) more refl (ap (is_in dir) (sym (one_path path row.0 e)) ∙ here)
  | false ↦ λ e found. listed_later (item_in dir row) (filter_map (item_in dir) rows) more (listed dir path rows more here found)
]) refl stands

either_way : (b : Bool) → (b ≡ false → ⊥) → b ≡ true
either_way true h = refl
either_way false h = absurd (h refl)

-- in a directory in which nothing is listed nothing stands
pub empty_holds_none : (dir path : Text) (held : Held) → is_empty (items_of held dir) ≡ true → is_in dir path ≡ true → is_nothing (standing held path) ≡ true
empty_holds_none dir path held none here = either_way (is_nothing (standing held path)) (λ stands.
    let found = listed dir path (entries held.places) (odd_in held.odd dir) here (sym (ap is_nothing (get-entries held.places path)) ∙ stands) in cc)

odd_listed : (b : Bool) (dir : Text) (items : List Item) → is_empty (items ++ cond b (item.Odd ∷ []) []) ≡ true → b ≡ false
odd_listed true dir [] h = cc
odd_listed true dir (it ∷ items) h = cc
odd_listed false dir items h = refl

pub empty_not_odd : (dir : Text) (held : Held) → is_empty (items_of held dir) ≡ true → is_odd dir held.odd ≡ false
empty_not_odd dir held none = odd_listed (is_odd dir held.odd) dir (filter_map (item_in dir) (entries held.places)) none

-- A listing of rows.

-- what has no last name stands in no directory
pub item_in-nameless : (dir path : Text) (it : Standing) → last_of path ≡ None → None ≡ item_in dir (path, it)
unfolding is_in
item_in-nameless dir path it h = (elim (is_root path) as (λ (b : Bool). cond b None (Some (name_of path)) ≡ None → None ≡ cond (not b && same_text (parent path) dir) (Some (item_of (name_of path) it)) None) [
  | true ↦ λ e. refl
  | false ↦ λ e. cc
]) h

-- what a listing has at its end
pub at_end : {A B : Type 0} (f : A → Option B) (items : List B) (left all rows : List A) → items ++ filter_map f left ≡ filter_map f all → left ≡ [] → rows ≡ all → items ≡ filter_map f rows
at_end f items left all rows so_far done same = sym (append-nil items) ∙ ap (λ xs. items ++ filter_map f xs) (sym done) ∙ so_far ∙ ap (filter_map f) (sym same)

-- How deep.

deep_enough : (path : Text) (rows : List (Text × Standing)) → is_nothing (find text_cmp path rows) ≡ false → depth path ≤ deepest rows
deep_enough path [] stands = cc
deep_enough path (row ∷ rows) stands = (elim (same_path path row.0) as (λ (b : Bool). same_path path row.0 ≡ b → is_nothing (cond b (Some row.1) (find text_cmp path rows)) ≡ false → depth path ≤ max (depth row.0) (deepest rows)) [
  | true ↦ λ e found. let same : depth path ≡ depth row.0 = ap depth (one_path path row.0 e) in omega arith
  | false ↦ λ e found. let later : depth path ≤ deepest rows = deep_enough path rows found in omega arith
]) refl stands

-- no path that stands is deeper than the reach
pub within_reach : (path : Text) (held : Held) → is_nothing (standing held path) ≡ false → depth path ≤ reach_of held
within_reach path held stands = deep_enough path (entries held.places) (sym (ap is_nothing (get-entries held.places path)) ∙ stands)

pub dir_there : (o : Option Standing) → is_dir o ≡ true → is_nothing o ≡ false
dir_there None h = cc
dir_there (Some (File bytes)) h = cc
dir_there (Some Dir) h = refl
dir_there (Some Special) h = cc

pub list-within_reach : (dir : Text) (held : Held) → can_list dir held ≡ true → depth dir ≤ reach_of held
list-within_reach dir held may = within_reach dir held (dir_there (standing held dir) may)
