-- The variables in their order, and those that are exported.
use Rattle.std.proofs.Common.{◌≡◌, List, [], ◌∷◌, Bool, true, false, cond, Option, Some, None, refl, sym, ap, ◌∙◌, not, ◌&&◌}
use lib.Dec.{T}
use Rattle.std.specs.Ordering.{eq_by_cmp, is_eq, is_lt, ordering_reverse}
use Rattle.std.specs.declared.cmp.Ordering.{Ordering}
use Rattle.std.specs.declared.cmp.Ordering.TheVariants.{Less, Equal, Greater}
use Rattle.std.specs.Cmp.Lexicographic.{nat_list_cmp_total}
use Rattle.std.specs.List.{list_all, filter_map, cons_option}
use Rattle.std.specs.FinMap.Entries.{below_all, find-put, find-where_key}
use Rattle.std.specs.FinMap.{empty, from_entries, find, put, insert, remove, get-insert, get-remove, entries, entries_sorted, from_sorted, get-from_sorted, entries-from_sorted, is_sorted}
use Rattle.rk_base.specs.Text.{Text, text_cmp}
use Rattle.rk_base.proofs.WithinLemmas.{exact_texts}
use Rattle.rk_base.specs.Names.{ascend, ascend_from}
use Rattle.rk_base.specs.Variables.{is_variable, names_of, are_variables}
use Rattle.rk_base.specs.declared.vars.Var.{Var}
use Rattle.sh_vars.specs.declared.variable.Variable.{Variable}
use Rattle.sh_vars.specs.Held.{Variables, exported_var, exported_of, with_value}
use Rattle.sh_vars.specs.Rows.{map_of}
use Rattle.sh_vars.specs.Tree.{Row, IsInOrder, without_row}
use Rattle.sh_vars.proofs.NameMap.{get_found, same_maps}
use Rattle.sh_vars.proofs.TreeLemmas.{and_first, and_second}

-- Rows in order are what the map lists.

entries_sorted_map : (rows : List (Text × Variable)) → T (is_sorted text_cmp rows) → entries (map_of rows) ≡ rows
entries_sorted_map rows h =
    ap entries (same_maps (map_of rows) (from_sorted rows) (λ q. get_found rows q ∙ sym (get-from_sorted text_cmp rows q h)))
    ∙ entries-from_sorted text_cmp rows h

-- What is exported.

pub exported_all : (rows : List Row) (m : Variables) → map_of rows ≡ m → IsInOrder rows → filter_map exported_var rows ≡ exported_of m
exported_all rows m view h = ap (filter_map exported_var) (sym (entries_sorted_map rows h) ∙ ap (λ (p : Variables). entries p) view)

is_yes : (b : Bool) → T b → b ≡ true
is_yes true h = refl
is_yes false h = absurd h

-- the names of variables stay in order where some are left out
exported_ascend : (last : Text) (rows : List (Text × Variable)) → T (below_all text_cmp last rows) → T (is_sorted text_cmp rows) → ascend_from last (names_of (filter_map exported_var rows)) ≡ true
exported_ascend last [] below sorted = refl
exported_ascend last (row ∷ rows) below sorted =
    shown row.1.exported (is_variable row.0) row.1.value (and_first _ _ below) (exported_ascend row.0 rows (and_first _ _ sorted) (and_second _ _ sorted)) (exported_ascend last rows (and_second _ _ below) (and_second _ _ sorted))
  where
    shown : (e v : Bool) (value : Option Text) → T (is_lt (text_cmp last row.0)) → ascend_from row.0 (names_of (filter_map exported_var rows)) ≡ true → ascend_from last (names_of (filter_map exported_var rows)) ≡ true → ascend_from last (names_of (cons_option (cond (e && v) (with_value row.0 value) None) (filter_map exported_var rows))) ≡ true
    shown false v value lt here other = other
    shown true false value lt here other = other
    shown true true None lt here other = other
    shown true true (Some text) lt here other = ap (λ (b : Bool). b && ascend_from row.0 (names_of (filter_map exported_var rows))) (is_yes _ lt) ∙ here

exported_ascends : (rows : List (Text × Variable)) → T (is_sorted text_cmp rows) → ascend (names_of (filter_map exported_var rows)) ≡ true
exported_ascends [] sorted = refl
exported_ascends (row ∷ rows) sorted = shown row.1.exported (is_variable row.0) row.1.value (exported_ascend row.0 rows (and_first _ _ sorted) (and_second _ _ sorted)) (exported_ascends rows (and_second _ _ sorted))
  where
    shown : (e v : Bool) (value : Option Text) → ascend_from row.0 (names_of (filter_map exported_var rows)) ≡ true → ascend (names_of (filter_map exported_var rows)) ≡ true → ascend (names_of (cons_option (cond (e && v) (with_value row.0 value) None) (filter_map exported_var rows))) ≡ true
    shown false v value here other = other
    shown true false value here other = other
    shown true true None here other = other
    shown true true (Some text) here other = here

exported_named : (rows : List (Text × Variable)) → list_all (λ (v : Var). is_variable v.name) (filter_map exported_var rows) ≡ true
exported_named [] = refl
exported_named (row ∷ rows) = shown row.1.exported (is_variable row.0) refl row.1.value (exported_named rows)
  where
    shown : (e v : Bool) → is_variable row.0 ≡ v → (value : Option Text) → list_all (λ (v : Var). is_variable v.name) (filter_map exported_var rows) ≡ true → list_all (λ (v : Var). is_variable v.name) (cons_option (cond (e && v) (with_value row.0 value) None) (filter_map exported_var rows)) ≡ true
    shown false v is value rest = rest
    shown true false is value rest = rest
    shown true true is None rest = rest
    shown true true is (Some text) rest = ap (λ (b : Bool). b && list_all (λ (v : Var). is_variable v.name) (filter_map exported_var rows)) is ∙ rest

-- what is exported is a list of variables
pub exported_variables : (m : Variables) → are_variables (exported_of m) ≡ true
unfolding are_variables
exported_variables m = ap (λ (b : Bool). b && ascend (names_of (exported_of m))) (exported_named (entries m)) ∙ exported_ascends (entries m) (entries_sorted m)

pub no_other : (vars : List Var) (m : Variables) → vars ≡ exported_of m → cond (are_variables vars) (Some vars) None ≡ None → ⊥
no_other vars m is none = let yes : are_variables vars ≡ true = ap are_variables is ∙ exported_variables m in cc

pub listed : (vars : List Var) (m : Variables) (list : List Var) → vars ≡ exported_of m → cond (are_variables vars) (Some vars) None ≡ Some list → list ≡ exported_of m
listed vars m list is some = let yes : are_variables vars ≡ true = ap are_variables is ∙ exported_variables m in cc

-- What a change of the rows is of the map.

pub rows_none : (rows : List Row) → rows ≡ [] → map_of rows ≡ empty
unfolding map_of
rows_none rows none = ap (λ (r : List Row). from_entries r) none

pub put_is : (rows more : List Row) (name : Text) (v : Variable) (m : Variables) → map_of rows ≡ m → more ≡ put text_cmp name v rows → map_of more ≡ insert m name v
put_is rows more name v m view is =
    ap (λ (r : List Row). map_of r) is
    ∙ same_maps _ _ (λ q. get_found (put text_cmp name v rows) q
    ∙ find-put text_cmp nat_list_cmp_total q name v rows
    ∙ sym (get-insert nat_list_cmp_total (map_of rows) name v q ∙ ap (cond (eq_by_cmp text_cmp q name) (Some v)) (get_found rows q)))
    ∙ ap (λ (p : Variables). insert p name v) view

other_way : (o : Ordering) (found : Option Variable) → cond (not (is_eq (ordering_reverse o))) found None ≡ cond (is_eq o) None found
other_way Less found = refl
other_way Equal found = refl
other_way Greater found = refl

pub take_is : (rows more : List Row) (name : Text) (m : Variables) → map_of rows ≡ m → more ≡ without_row name rows → map_of more ≡ remove m name
take_is rows more name m view is =
    ap (λ (r : List Row). map_of r) is
    ∙ same_maps _ _ (λ q. get_found (without_row name rows) q
    ∙ find-where_key text_cmp (λ (key : Text). not (eq_by_cmp text_cmp name key)) q (λ x e. ap (λ (t : Text). not (eq_by_cmp text_cmp name t)) (sym (exact_texts q x e))) rows
    ∙ ap (λ (o : Ordering). cond (not (is_eq o)) (find text_cmp q rows) None) (nat_list_cmp_total.antisymm name q)
    ∙ other_way (text_cmp q name) (find text_cmp q rows)
    ∙ sym (get-remove nat_list_cmp_total (map_of rows) name q ∙ ap (cond (eq_by_cmp text_cmp q name) None) (get_found rows q)))
    ∙ ap (λ (p : Variables). remove p name) view
