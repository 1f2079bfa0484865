-- What the map that rows make has, by the words of a `BTreeMap`.
use Rattle.std.proofs.Common.{◌≡◌, ◌⊎◌, ℕ, zero, suc, inl, inr, List, [], ◌∷◌, Option, Some, None, IsSome, Bool, true, false, ◌&&◌, ◌<◌, arith, length, refl, map, sym, ap, subst, ◌∙◌, cond}
use Rattle.std.specs.Ordering.{eq_by_cmp, is_lt, is_eq}
use Rattle.std.specs.declared.cmp.Ordering.{Ordering}
use Rattle.std.specs.declared.cmp.Ordering.TheVariants.{Less, Equal, Greater}
use lib.Dec.{T}
use Rattle.std.specs.List.{AllByRecursion}
use Rattle.std.specs.List.Sorted.{IsStrictlySortedBy}
use Rattle.std.specs.Cmp.{eq_by_cmp_equiv, Equal-is}
use Rattle.std.specs.Cmp.Lexicographic.{nat_list_cmp_total}
use Rattle.std.specs.BTreeMap.{is_at}
use Rattle.std.specs.Map.{lookup, update, update_all}
use Rattle.std.specs.FinMap.Entries.{below_all}
use Rattle.std.specs.FinMap.{FinMap, empty, get, insert, find, is_sorted, entries, entries_sorted, from_entries, get-entries, from_sorted, get-from_sorted, entries-from_sorted, get-from_entries, get-insert, same_map, len, len-entries}
use Rattle.std.specs.Prelude.{All, slice_get, slice_index_or}
use Rattle.std.specs.List.{cons_option, fold}
use Rattle.std.proofs.lemmas.List.Elements.{All-tail}
use Rattle.std.specs.Option.{option_or}
use Rattle.std.specs.FinMap.{get-empty}
use Rattle.rk_base.specs.Text.{Text, text_cmp}
use Rattle.std.proofs.lemmas.Option.{slice_get-get_or}
use Rattle.rk_tree.specs.Rows.{IsRowOf, map_of}
use Rattle.rk_tree.proofs.TextLemmas.{exact_texts, told_apart, ties_itself}

pub is_yes : (b : Bool) → T b → b ≡ true
is_yes true h = refl
is_yes false h = absurd h

pub and_both : (a b : Bool) → T a → T b → T (a && b)
and_both true b h k = k
and_both false b h k = absurd h

less_apart : (o : Ordering) → T (is_lt o) → is_eq o ≡ false
less_apart Less h = refl
less_apart Equal h = absurd h
less_apart Greater h = absurd h

pub and_first : (a b : Bool) → T (a && b) → T a
and_first true b h = tt
and_first false b h = absurd h

pub and_second : (a b : Bool) → T (a && b) → T b
and_second true b h = h
and_second false b h = absurd h

module _ {X : Type 0} where
  -- what rows have at a path
  abbrev pub row_at : List (Text × X) → Text → Option X
  row_at rows path = lookup (is_at (text_cmp path)) rows

  find_row : (rows : List (Text × X)) (path : Text) → find text_cmp path rows ≡ row_at rows path
  find_row [] path = refl
  find_row (row ∷ rows) path = ap (cond (is_at (text_cmp path) row.0) (Some row.1)) (find_row rows path)

  pub get-map_of : (rows : List (Text × X)) (path : Text) → get (map_of rows) path ≡ row_at rows path
  unfolding map_of
  get-map_of rows path = get-from_entries nat_list_cmp_total rows path ∙ find_row rows path

  -- maps are one where they have the same at each path
  pub same_maps : (m n : FinMap text_cmp X) → ((path : Text) → get m path ≡ get n path) → m ≡ n
  same_maps = same_map nat_list_cmp_total exact_texts

  -- rows that differ at one path
  pub map_of-put : (rows more : List (Text × X)) (path : Text) (it : X) → ((q : Text) → row_at more q ≡ cond (is_at (text_cmp path) q) (Some it) (row_at rows q)) → map_of more ≡ insert (map_of rows) path it
  map_of-put rows more path it h = same_maps _ _ (λ q.
      get-map_of more q ∙ h q ∙ ap (λ b. cond b (Some it) (row_at rows q)) ((eq_by_cmp_equiv nat_list_cmp_total).symm path q)
      ∙ sym (get-insert nat_list_cmp_total (map_of rows) path it q ∙ ap (cond (eq_by_cmp text_cmp q path) (Some it)) (get-map_of rows q)))

  below_rest : (key : Text) (rows : List (Text × X)) → AllByRecursion (λ k. text_cmp key k ≡ Less) (map (λ (row : Text × X). row.0) rows) → T (below_all text_cmp key rows)
  below_rest key [] h = tt
  below_rest key (row ∷ rows) h = and_both _ _ (subst (λ r. T (is_lt r)) (sym h.0) tt) (below_rest key rows h.1)

  sorted_rows : (rows : List (Text × X)) → IsStrictlySortedBy text_cmp (map (λ (row : Text × X). row.0) rows) → T (is_sorted text_cmp rows)
  unfolding IsStrictlySortedBy
  sorted_rows [] h = tt
  sorted_rows (row ∷ rows) h = and_both _ _ (below_rest row.0 rows h.0) (sorted_rows rows h.1)

  -- the same by the test of the order
  pub entries-sorted_map : (rows : List (Text × X)) → T (is_sorted text_cmp rows) → entries (map_of rows) ≡ rows
  entries-sorted_map rows h =
      ap entries (same_maps (map_of rows) (from_sorted rows) (λ q. get-map_of rows q ∙ sym (get-from_sorted text_cmp rows q h ∙ find_row rows q)))
      ∙ entries-from_sorted text_cmp rows h

  -- rows in order are what the map lists
  pub entries-map_of : (rows : List (Text × X)) → IsStrictlySortedBy text_cmp (map (λ (row : Text × X). row.0) rows) → entries (map_of rows) ≡ rows
  entries-map_of rows h = entries-sorted_map rows (sorted_rows rows h)

  -- rows with none in them
  pub empty_rows : (rows : List (Text × X)) → rows ≡ [] → map_of rows ≡ empty
  unfolding map_of
  empty_rows rows none = ap (λ (r : List (Text × X)). from_entries r) none

  pub no_rows : (rows : List (Text × X)) (q : Text) → (0 < length rows → false ≡ true) → get (map_of rows) q ≡ None
  no_rows [] q none = get-map_of [] q
  no_rows (row ∷ rows) q none = let clash : false ≡ true = none (omega arith) in cc

  -- what comes after each row's path
  pub past_all : (rows : List (Text × X)) (last q : Text) → ((q : Text) → IsSome (row_at rows q) → is_lt (text_cmp last q) ≡ false) → text_cmp last q ≡ Less → get (map_of rows) q ≡ None
  past_all rows last q bound less = get-map_of rows q ∙ by (row_at rows q) (bound q) where
    by : (o : Option X) → (IsSome o → is_lt (text_cmp last q) ≡ false) → o ≡ None
    by None h = refl
    by (Some x) h = let clash : is_lt (text_cmp last q) ≡ true = ap is_lt less in let not : is_lt (text_cmp last q) ≡ false = h refl in cc

  pub len-map_of : (rows : List (Text × X)) → IsStrictlySortedBy text_cmp (map (λ (row : Text × X). row.0) rows) → len (map_of rows) ≡ length rows
  len-map_of rows h = len-entries (map_of rows) ∙ ap length (entries-map_of rows h)

  pub get-found : (rows : List (Text × X)) (path : Text) → get (map_of rows) path ≡ find text_cmp path rows
  unfolding map_of
  get-found rows path = get-from_entries nat_list_cmp_total rows path

  -- what a map has after a row was put into it
  pub insert_cases : (m : FinMap text_cmp X) (key : Text) (x : X) (q : Text) → ((q ≡ key) × (get (insert m key x) q ≡ Some x)) ⊎ ((q ≡ key → ⊥) × (get (insert m key x) q ≡ get m q))
  insert_cases m key x q = elim (told_apart q key) [
    | inl same ↦ inl (same.0, get-insert nat_list_cmp_total m key x q ∙ ap (λ (b : Bool). cond b (Some x) (get m q)) same.1)
    | inr apart ↦ inr (apart.0, get-insert nat_list_cmp_total m key x q ∙ ap (λ (b : Bool). cond b (Some x) (get m q)) apart.1)
  ]

  -- Rows in order.

  pub find_below : (q : Text) (rows : List (Text × X)) → T (below_all text_cmp q rows) → find text_cmp q rows ≡ None
  find_below q [] h = refl
  find_below q (row ∷ rows) h = ap (λ (b : Bool). cond b (Some row.1) (find text_cmp q rows)) (less_apart _ (and_first _ _ h)) ∙ find_below q rows (and_second _ _ h)

  -- what a row at its head has
  pub find_head : (path : Text) (row : Text × X) (rows : List (Text × X)) → path ≡ row.0 → find text_cmp path (row ∷ rows) ≡ Some row.1
  find_head path row rows same = ap (λ (t : Text). find text_cmp t (row ∷ rows)) same ∙ ap (λ (b : Bool). cond b (Some row.1) (find text_cmp row.0 rows)) (ties_itself row.0)

  none_some : (x : X) (o : Option X) → o ≡ None → o ≡ Some x → ⊥
  none_some x o n s = cc

  pub find_later : (path : Text) (row : Text × X) (rows : List (Text × X)) (x : X) → T (is_sorted text_cmp (row ∷ rows)) → find text_cmp path rows ≡ Some x → find text_cmp path (row ∷ rows) ≡ Some x
  find_later path row rows x h at = elim (told_apart path row.0) [
    | inl same ↦ absurd (none_some x _ (ap (λ (t : Text). find text_cmp t rows) same.0 ∙ find_below row.0 rows (and_first _ _ h)) at)
    | inr apart ↦ ap (λ (b : Bool). cond b (Some row.1) (find text_cmp path rows)) apart.1 ∙ at
  ]

  -- each row is put in turn
  abbrev pub puts : FinMap text_cmp X → List (Text × X) → FinMap text_cmp X
  puts m rows = fold (λ n row. insert n row.0 row.1) m rows

  or_put : (o : Option X) (b : Bool) (x : X) (rest : Option X) → (b ≡ true → o ≡ None) → option_or o (cond b (Some x) rest) ≡ option_or (cond b (Some x) o) rest
  or_put o true x rest h = ap (λ (p : Option X). option_or p (Some x)) (h refl)
  or_put o false x rest h = refl

  get-puts : (rows : List (Text × X)) (m : FinMap text_cmp X) (q : Text) → T (is_sorted text_cmp rows) → get (puts m rows) q ≡ option_or (find text_cmp q rows) (get m q)
  get-puts [] m q h = refl
  get-puts (row ∷ rows) m q h =
      get-puts rows (insert m row.0 row.1) q (and_second _ _ h)
      ∙ ap (option_or (find text_cmp q rows)) (get-insert nat_list_cmp_total m row.0 row.1 q)
      ∙ or_put (find text_cmp q rows) (eq_by_cmp text_cmp q row.0) row.1 (get m q) (λ e. ap (λ (t : Text). find text_cmp t rows) (exact_texts q row.0 ((Equal-is (text_cmp q row.0)).0 e)) ∙ find_below row.0 rows (and_first _ _ h))

  -- what rows put one after another into a map have at a path, by the words of a `BTreeMap`
  get-put_on : (rows : List (Text × X)) (m : FinMap text_cmp X) (f : Text → Option X) (q : Text) → ((k : Text) → get m k ≡ f k) → get (puts m rows) q ≡ update_all (eq_by_cmp text_cmp) f rows q
  get-put_on [] m f q same = same q
  get-put_on (row ∷ rows) m f q same = get-put_on rows (insert m row.0 row.1) (update (eq_by_cmp text_cmp) f row.0 (Some row.1)) q (λ k.
      get-insert nat_list_cmp_total m row.0 row.1 k
      ∙ ap (cond (eq_by_cmp text_cmp k row.0) (Some row.1)) (same k)
      ∙ ap (λ (b : Bool). cond b (Some row.1) (f k)) ((eq_by_cmp_equiv nat_list_cmp_total).symm k row.0))

  pub collected : (rows : List (Text × X)) (made : List (Text × X)) → ((q : Text) → row_at made q ≡ update_all (eq_by_cmp text_cmp) (λ _. None) rows q) → map_of made ≡ puts empty rows
  collected rows made h = same_maps _ _ (λ q. get-map_of made q ∙ h q ∙ sym (get-put_on rows empty (λ _. None) q (λ k. get-empty text_cmp k)))

  option_or-none : (o : Option X) → option_or o None ≡ o
  option_or-none None = refl
  option_or-none (Some x) = refl

  -- rows in order, put in turn, make their map
  pub puts-map_of : (rows : List (Text × X)) → T (is_sorted text_cmp rows) → puts empty rows ≡ map_of rows
  puts-map_of rows h = same_maps _ _ (λ q. get-puts rows empty q h ∙ ap (option_or (find text_cmp q rows)) (get-empty text_cmp q) ∙ option_or-none _ ∙ sym (get-found rows q))

  pub ordered : (rows : List (Text × X)) → IsStrictlySortedBy text_cmp (map (λ (row : Text × X). row.0) rows) → T (is_sorted text_cmp rows)
  ordered = sorted_rows

  same_row : {o : Option (Text × X)} (a b : Text × X) → o ≡ Some a → o ≡ Some b → a ≡ b
  same_row a b p q = cc

  -- what is among rows in order has its row's value
  pub place_found : (rows : List (Text × X)) (path : Text) (place : ℕ) (x : X) → T (is_sorted text_cmp rows) → slice_get rows place ≡ Some (path, x) → find text_cmp path rows ≡ Some x
  place_found [] path place x h at = cc
  place_found (row ∷ rows) path zero x h at = find_head path row rows (ap (λ (r : Text × X). r.0) (same_row (path, x) row at refl)) ∙ ap (λ (r : Text × X). Some r.1) (same_row row (path, x) refl at)
  place_found (row ∷ rows) path (suc place) x h at = find_later path row rows x h (place_found rows path place x (and_second _ _ h) at)

  -- each row that a map lists
  pub all_rows : (m : FinMap text_cmp X) → All (IsRowOf m) (entries m)
  all_rows m = λ place d within.
      let row = slice_index_or (entries m) place d in
      get-entries m row.0 ∙ place_found (entries m) row.0 place row.1 (entries_sorted m) (slice_get-get_or (entries m) place d within)

  -- of rows that have one in front
  pub first_row : (m : FinMap text_cmp X) (first : Option (Text × X)) (rows : List (Text × X)) (row : Text × X) → first ≡ Some row → All (IsRowOf m) (cons_option first rows) → IsRowOf m row
  first_row m first rows row is all = subst (λ (o : Option (Text × X)). All (IsRowOf m) (cons_option o rows)) is all 0 row (omega arith)

  pub later_rows : (m : FinMap text_cmp X) (first : Option (Text × X)) (rows : List (Text × X)) (row : Text × X) → first ≡ Some row → All (IsRowOf m) (cons_option first rows) → All (IsRowOf m) rows
  later_rows m first rows row is all = All-tail (IsRowOf m) row rows (subst (λ (o : Option (Text × X)). All (IsRowOf m) (cons_option o rows)) is all)
