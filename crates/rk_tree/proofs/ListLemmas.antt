-- The names in a directory.
use Rattle.std.proofs.Common.{◌≡◌, inl, inr, ℕ, suc, List, [], ◌∷◌, Bool, true, false, cond, if◌then◌else◌, ◌&&◌, Option, Some, None, Result, Ok, Err, Vec, Global, refl, sym, ap, subst, ◌∙◌, map}
use lib.Dec.{T}
use Rattle.std.specs.Prelude.{All, IfOk, slice_get, slice_index_or}
use Rattle.std.specs.List.{cons_option, filter_map, list_all}
use Rattle.std.specs.Option.{option_and_then}
use Rattle.std.specs.declared.cmp.Ordering.{Ordering}
use Rattle.std.specs.Ordering.{eq_by_cmp, is_eq, is_lt}
use Rattle.std.specs.Cmp.Lexicographic.{nat_list_cmp_total}
use Rattle.std.specs.FinMap.Entries.{below_all, same_entries}
use Rattle.std.specs.FinMap.{entries, entries_sorted, find, get, get-entries, is_sorted, keys}
use Rattle.rk_base.specs.Text.{Text, text_cmp, stem, name_of, join, is_in}
use Rattle.rk_base.specs.Canonical.{is_empty, is_name, is_canonical}
use Rattle.rk_base.specs.Names.{ascend, ascend_from, are_names}
use Rattle.rk_base.proofs.PathLemmas.{is_in-join, join-is_in}
use Rattle.rk_tree.specs.declared.inode.Inode.{Inode}
use Rattle.rk_tree.specs.Entries.{is_dir}
use Rattle.rk_tree.specs.Hierarchy.{Hierarchy, Paths, node, path_of, names, names_at, name_in, child}
use Rattle.rk_tree.specs.Inodes.{names_in, under, hierarchy_of, AreAttached}
use Rattle.rk_tree.specs.Rows.{IsRowOf}
use Rattle.rk_tree.specs.Whole.{IsWhole}
use Rattle.rk_tree.proofs.BelowLemmas.{none_some, row_stands}
use Rattle.rk_tree.proofs.CompareLemmas.{cmp-front}
use Rattle.rk_tree.proofs.HierarchyLemmas.{dir_path, path_stands}
use Rattle.rk_tree.proofs.RowsLemmas.{all_rows, and_both, and_first, and_second, is_yes}
use Rattle.rk_tree.proofs.ShownLemmas.{Steps}
use Rattle.rk_tree.proofs.TextLemmas.{exact_texts, told_apart}
use Rattle.rk_tree.proofs.UnderLemmas.{child-under, none_of}

-- They are names, and ascend.

abbrev AreCanonical : List (Text × ℕ) → Type 0
AreCanonical rows = (i : ℕ) (row : Text × ℕ) → slice_get rows i ≡ Some row → is_canonical row.0 ≡ true

all_named : (dir : Text) (rows : List (Text × ℕ)) → AreCanonical rows → list_all is_name (filter_map (name_in dir) rows) ≡ true
all_named dir [] c = refl
all_named dir (row ∷ rows) c = (elim (is_in dir row.0) as (λ (b : Bool). is_in dir row.0 ≡ b → list_all is_name (cons_option (cond b (Some (name_of row.0)) None) (filter_map (name_in dir) rows)) ≡ true) [
  | true ↦ λ h. ap (λ (b : Bool). b && list_all is_name (filter_map (name_in dir) rows)) (join-is_in dir row.0 (c 0 row refl) h).1 ∙ all_named dir rows (λ i. c (suc i))
  | false ↦ λ h. all_named dir rows (λ i. c (suc i))
]) refl

-- names compare as their paths in a directory do
cmp-join : (dir a b : Text) → text_cmp (join dir a) (join dir b) ≡ text_cmp a b
unfolding join
cmp-join dir a b = cmp-front (stem dir) (47 ∷ a) (47 ∷ b) ∙ cmp-front (47 ∷ []) a b

ascends_from : (dir last : Text) (rows : List (Text × ℕ)) → T (below_all text_cmp (join dir last) rows) → T (is_sorted text_cmp rows) → AreCanonical rows → ascend_from last (filter_map (name_in dir) rows) ≡ true
ascends_from dir last [] below h c = refl
ascends_from dir last (row ∷ rows) below h c = (elim (is_in dir row.0) as (λ (b : Bool). is_in dir row.0 ≡ b → ascend_from last (cons_option (cond b (Some (name_of row.0)) None) (filter_map (name_in dir) rows)) ≡ true) [
  | true ↦ λ e.
      let path_by : join dir (name_of row.0) ≡ row.0 = (join-is_in dir row.0 (c 0 row refl) e).0 in
      ap (λ (b : Bool). b && ascend_from (name_of row.0) (filter_map (name_in dir) rows))
      (ap is_lt (sym (cmp-join dir last (name_of row.0)) ∙ ap (text_cmp (join dir last)) path_by) ∙ is_yes _ (and_first _ _ below))
      ∙ ascends_from dir (name_of row.0) rows (subst (λ (t : Text). T (below_all text_cmp t rows)) (sym path_by) (and_first _ _ h)) (and_second _ _ h) (λ i. c (suc i))
  | false ↦ λ e. ascends_from dir last rows (and_second _ _ below) (and_second _ _ h) (λ i. c (suc i))
]) refl

all_ascend : (dir : Text) (rows : List (Text × ℕ)) → T (is_sorted text_cmp rows) → AreCanonical rows → ascend (filter_map (name_in dir) rows) ≡ true
all_ascend dir [] h c = refl
all_ascend dir (row ∷ rows) h c = (elim (is_in dir row.0) as (λ (b : Bool). is_in dir row.0 ≡ b → ascend (cons_option (cond b (Some (name_of row.0)) None) (filter_map (name_in dir) rows)) ≡ true) [
  | true ↦ λ e. ascends_from dir (name_of row.0) rows (subst (λ (t : Text). T (below_all text_cmp t rows)) (sym (join-is_in dir row.0 (c 0 row refl) e).0) (and_first _ _ h)) (and_second _ _ h) (λ i. c (suc i))
  | false ↦ λ e. all_ascend dir rows (and_second _ _ h) (λ i. c (suc i))
]) refl

are-names : (tree : Hierarchy) (o : Option Text) → IsWhole tree → are_names (names_at tree.paths o) ≡ true
unfolding are_names
are-names tree None whole = refl
are-names tree (Some dir) whole =
    let canon : AreCanonical (entries tree.paths) = λ i row at. whole.canonical row.0 row.1 (row_stands tree i row.0 row.1 at) in
    ap (λ (b : Bool). b && ascend (filter_map (name_in dir) (entries tree.paths))) (all_named dir (entries tree.paths) canon) ∙ all_ascend dir (entries tree.paths) (entries_sorted tree.paths) canon

pub names-are : (tree : Hierarchy) (dir : ℕ) → IsWhole tree → are_names (names tree dir) ≡ true
unfolding names
names-are tree dir whole = are-names tree (path_of tree dir) whole

-- so a list is made of them
pub no_list : (given : List Text) (tree : Hierarchy) (dir : ℕ) → IsWhole tree → given ≡ names tree dir → ◌≡◌ {A = Option (List Text)} None (cond (are_names given) (Some given) None) → ⊥
no_list given tree dir whole is none = nothing (none ∙ ap (λ (b : Bool). cond b (Some given) None) (ap are_names is ∙ names-are tree dir whole)) where
  nothing : ◌≡◌ {A = Option (List Text)} None (Some given) → ⊥
  nothing e = cc

-- They are what the directory's node has.

pub if_rows : {E : Type 0} (r : Result (Vec (Text × ℕ) Global) E) (all : List (Text × ℕ)) (P : List (Text × ℕ) → Type 0) → ((rows : List (Text × ℕ)) → rows ≡ all → P rows) → IfOk r (λ rows. rows.items ≡ all) → IfOk r (λ rows. P rows.items)
if_rows (Ok rows) all P h is = h rows.items is
if_rows (Err e) all P h is = is

abbrev row_in : Text → Text × ℕ → Option (Text × ℕ)
row_in dir row = if is_in dir row.0 then Some (name_of row.0, row.1) else None

abbrev rows_in : Text → List (Text × ℕ) → List (Text × ℕ)
rows_in dir rows = filter_map (row_in dir) rows

names_of_rows : (dir : Text) (rows : List (Text × ℕ)) → map (λ (row : Text × ℕ). row.0) (rows_in dir rows) ≡ filter_map (name_in dir) rows
names_of_rows dir [] = refl
names_of_rows dir (row ∷ rows) = elim (is_in dir row.0) as (λ (b : Bool). map (λ (row : Text × ℕ). row.0) (cons_option (cond b (Some (name_of row.0, row.1)) None) (rows_in dir rows)) ≡ cons_option (cond b (Some (name_of row.0)) None) (filter_map (name_in dir) rows)) [
  | true ↦ ap (λ (names : List Text). name_of row.0 ∷ names) (names_of_rows dir rows)
  | false ↦ names_of_rows dir rows
]

below_in : (dir last : Text) (rows : List (Text × ℕ)) → T (below_all text_cmp (join dir last) rows) → AreCanonical rows → T (below_all text_cmp last (rows_in dir rows))
below_in dir last [] below c = tt
below_in dir last (row ∷ rows) below c = (elim (is_in dir row.0) as (λ (b : Bool). is_in dir row.0 ≡ b → T (below_all text_cmp last (cons_option (cond b (Some (name_of row.0, row.1)) None) (rows_in dir rows)))) [
  | true ↦ λ e. and_both _ _
      (subst (λ (o : Ordering). T (is_lt o)) (ap (text_cmp (join dir last)) (sym (join-is_in dir row.0 (c 0 row refl) e).0) ∙ cmp-join dir last (name_of row.0)) (and_first _ _ below))
      (below_in dir last rows (and_second _ _ below) (λ i. c (suc i)))
  | false ↦ λ e. below_in dir last rows (and_second _ _ below) (λ i. c (suc i))
]) refl

sorted_in : (dir : Text) (rows : List (Text × ℕ)) → T (is_sorted text_cmp rows) → AreCanonical rows → T (is_sorted text_cmp (rows_in dir rows))
sorted_in dir [] h c = tt
sorted_in dir (row ∷ rows) h c = (elim (is_in dir row.0) as (λ (b : Bool). is_in dir row.0 ≡ b → T (is_sorted text_cmp (cons_option (cond b (Some (name_of row.0, row.1)) None) (rows_in dir rows)))) [
  | true ↦ λ e. and_both _ _
      (below_in dir (name_of row.0) rows (subst (λ (t : Text). T (below_all text_cmp t rows)) (sym (join-is_in dir row.0 (c 0 row refl) e).0) (and_first _ _ h)) (λ i. c (suc i)))
      (sorted_in dir rows (and_second _ _ h) (λ i. c (suc i)))
  | false ↦ λ e. sorted_in dir rows (and_second _ _ h) (λ i. c (suc i))
]) refl

clash : (b : Bool) → b ≡ true → b ≡ false → ⊥
clash b t f = cc

-- a name is found as its path is
found_in : (dir q : Text) (rows : List (Text × ℕ)) → is_canonical dir ≡ true → is_name q ≡ true → AreCanonical rows → find text_cmp q (rows_in dir rows) ≡ find text_cmp (join dir q) rows
found_in dir q [] d n c = refl
found_in dir q (row ∷ rows) d n c = (elim (is_in dir row.0) as (λ (b : Bool). is_in dir row.0 ≡ b → find text_cmp q (cons_option (cond b (Some (name_of row.0, row.1)) None) (rows_in dir rows)) ≡ cond (eq_by_cmp text_cmp (join dir q) row.0) (Some row.1) (find text_cmp (join dir q) rows)) [
  | true ↦ λ e. ap (λ (o : Option ℕ). cond (eq_by_cmp text_cmp q (name_of row.0)) (Some row.1) o) (found_in dir q rows d n (λ i. c (suc i)))
      ∙ ap (λ (o : Ordering). cond (is_eq o) (Some row.1) (find text_cmp (join dir q) rows)) (sym (cmp-join dir q (name_of row.0)) ∙ ap (text_cmp (join dir q)) (join-is_in dir row.0 (c 0 row refl) e).0)
  | false ↦ λ e. elim (told_apart (join dir q) row.0) [
    | inl same ↦ absurd (clash _ (ap (is_in dir) (sym same.0) ∙ is_in-join dir q d n) e)
    | inr apart ↦ found_in dir q rows d n (λ i. c (suc i)) ∙ sym (ap (λ (b : Bool). cond b (Some row.1) (find text_cmp (join dir q) rows)) apart.1)
  ]
]) refl

-- what is no name isn't found
unnamed_in : (dir q : Text) (rows : List (Text × ℕ)) → is_name q ≡ false → AreCanonical rows → find text_cmp q (rows_in dir rows) ≡ None
unnamed_in dir q [] n c = refl
unnamed_in dir q (row ∷ rows) n c = (elim (is_in dir row.0) as (λ (b : Bool). is_in dir row.0 ≡ b → find text_cmp q (cons_option (cond b (Some (name_of row.0, row.1)) None) (rows_in dir rows)) ≡ None) [
  | true ↦ λ e. elim (told_apart q (name_of row.0)) [
    | inl same ↦ absurd (clash _ (ap is_name same.0 ∙ (join-is_in dir row.0 (c 0 row refl) e).1) n)
    | inr apart ↦ ap (λ (b : Bool). cond b (Some row.1) (find text_cmp q (rows_in dir rows))) apart.1 ∙ unnamed_in dir q rows n (λ i. c (suc i))
  ]
  | false ↦ λ e. unnamed_in dir q rows n (λ i. c (suc i))
]) refl

empty_names : (rows : List (Text × ℕ)) → is_empty rows ≡ is_empty (map (λ (row : Text × ℕ). row.0) rows)
empty_names [] = refl
empty_names (row ∷ rows) = refl

module _ (paths : Paths) (nodes : List Inode) (whole : IsWhole (hierarchy_of paths nodes)) (step : Steps nodes paths) (attached : AreAttached paths nodes) (n : ℕ) (d : is_dir (node (hierarchy_of paths nodes) n) ≡ true) where
  rows_are : (path : Text) → get paths path ≡ Some n → rows_in path (entries paths) ≡ entries (names_in (slice_get nodes n))
  rows_are path at =
      let canon : AreCanonical (entries paths) = λ i row at. whole.canonical row.0 row.1 (row_stands (hierarchy_of paths nodes) i row.0 row.1 at) in
      same_entries text_cmp nat_list_cmp_total exact_texts (rows_in path (entries paths)) (entries (names_in (slice_get nodes n))) (sorted_in path (entries paths) (entries_sorted paths) canon) (entries_sorted (names_in (slice_get nodes n)))
      (λ q. (elim (is_name q) as (λ (b : Bool). is_name q ≡ b → find text_cmp q (rows_in path (entries paths)) ≡ find text_cmp q (entries (names_in (slice_get nodes n)))) [
        | true ↦ λ e. found_in path q (entries paths) (whole.canonical path n at) e canon ∙ sym (get-entries paths (join path q)) ∙ step path q (whole.canonical path n at) e
            ∙ ap (option_and_then (λ k. under nodes k q)) at ∙ get-entries (names_in (slice_get nodes n)) q
        | false ↦ λ e. unnamed_in path q (entries paths) e canon ∙ sym (none_of (under nodes n q) (λ m is. clash _ (attached n q m is).0 e)) ∙ get-entries (names_in (slice_get nodes n)) q
      ]) refl)

  none_are : path_of (hierarchy_of paths nodes) n ≡ None → [] ≡ entries (names_in (slice_get nodes n))
  none_are nowhere = same_entries text_cmp nat_list_cmp_total exact_texts [] (entries (names_in (slice_get nodes n))) tt (entries_sorted (names_in (slice_get nodes n)))
      (λ q. sym (none_of (under nodes n q) (λ m is. none_some nowhere (dir_path (hierarchy_of paths nodes) (attached n q m is).1 n whole d (attached n q m is).2))) ∙ get-entries (names_in (slice_get nodes n)) q)

  names-under : names (hierarchy_of paths nodes) n ≡ keys (names_in (slice_get nodes n))
  unfolding names
  names-under = (elim (path_of (hierarchy_of paths nodes) n) as (λ (o : Option Text). path_of (hierarchy_of paths nodes) n ≡ o → names_at paths o ≡ keys (names_in (slice_get nodes n))) [
    | None ↦ λ nowhere. ap (map (λ (row : Text × ℕ). row.0)) (none_are nowhere)
    | Some path ↦ λ at. sym (names_of_rows path (entries paths)) ∙ ap (map (λ (row : Text × ℕ). row.0)) (rows_are path (path_stands (hierarchy_of paths nodes) n path at))
  ]) refl

  -- the nodes are read, and show a tree
  pub names-read : (read : List Inode) (tree : Hierarchy) → read ≡ nodes → hierarchy_of paths nodes ≡ tree → keys (names_in (slice_get read n)) ≡ names tree n
  names-read read tree is view = ap (λ (ns : List Inode). keys (names_in (slice_get ns n))) is ∙ sym names-under ∙ ap (λ (h : Hierarchy). names h n) view

  pub none-read : (read : List Inode) (tree : Hierarchy) → read ≡ nodes → hierarchy_of paths nodes ≡ tree → is_empty (entries (names_in (slice_get read n))) ≡ is_empty (names tree n)
  none-read read tree is view = empty_names (entries (names_in (slice_get read n))) ∙ ap (λ (ts : List Text). is_empty ts) (names-read read tree is view)

  -- each name with the number under it
  pub rows-read : (read : List Inode) (tree : Hierarchy) → read ≡ nodes → hierarchy_of paths nodes ≡ tree → (rows : List (Text × ℕ)) → rows ≡ entries (names_in (slice_get read n)) → (map (λ (row : Text × ℕ). row.0) rows ≡ names tree n) × All (λ (row : Text × ℕ). Some row.1 ≡ child tree n row.0) rows
  rows-read read tree is view rows are = (
    ap (map (λ (row : Text × ℕ). row.0)) are ∙ names-read read tree is view,
    λ k row_else within.
        let row = slice_index_or rows k row_else in
        sym (subst (λ (rs : List (Text × ℕ)). All (IsRowOf (names_in (slice_get read n))) rs) (sym are) (all_rows (names_in (slice_get read n))) k row_else within)
        ∙ ap (λ (ns : List Inode). under ns n row.0) is ∙ child-under paths nodes whole step attached n row.0 d ∙ ap (λ (h : Hierarchy). child h n row.0) view,
  )
