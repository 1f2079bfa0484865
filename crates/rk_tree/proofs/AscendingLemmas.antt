-- Names that came in order.
use Rattle.std.proofs.Common.{◌≡◌, ◌⊎◌, ◌<◌, ◌≤◌, ◌+◌, ◌-◌, ℕ, zero, suc, arith, inl, inr, List, [], ◌∷◌, ◌++◌, Bool, true, false, cond, not, nat_eq, Option, Some, None, length, get_or, drop, drop-cons, append-nil, append_assoc, refl, sym, ap, subst, ◌∙◌}
use lib.Dec.{T}
use Rattle.std.specs.Prelude.{slice_get, HoldsAt}
use Rattle.std.specs.List.{cons_option, filter}
use Rattle.std.specs.List.Sorted.{IsSortedBy, IsNonDecreasingBy, IsPartitionPoint}
use Rattle.std.specs.Option.{is_none, is_some, option_map}
use Rattle.std.specs.Ordering.{eq_by_cmp, is_eq, is_lt, ordering_index, ordering_reverse}
use Rattle.std.specs.declared.cmp.Ordering.{Ordering}
use Rattle.std.specs.declared.cmp.Ordering.TheVariants.{Less, Equal, Greater}
use Rattle.std.specs.Cmp.Lexicographic.{nat_list_cmp_total}
use Rattle.std.specs.FinMap.Entries.{below_all, by_order, find-put, is_sorted-put, put}
use Rattle.std.specs.FinMap.{entries, empty, find, get, insert, remove, get-insert, get-remove, is_sorted, len, len-empty, len-entries, len-insert, len-remove, get-entries}
use Rattle.std.proofs.Math.ListN.{set, length-set}
use Rattle.std.specs.Int.{from_bool as bool_byte}
use Rattle.std.proofs.lemmas.Bool.Decides.{nat_tests}
use Rattle.std.proofs.lemmas.Cmp.{tied_itself}
use Rattle.std.proofs.lemmas.List.{drop_all, get_or-map, map-set}
use Rattle.std.proofs.lemmas.List.Sorted.{searchable_from_sorted}
use Rattle.rk_base.specs.Canonical.{is_empty}
use Rattle.rk_base.specs.Text.{Text, text_cmp}
use Rattle.rk_tree.specs.Ascending.{comes_last, held, map_held, stated}
use Rattle.rk_tree.specs.Hierarchy.{Paths}
use Rattle.rk_tree.specs.Rows.{map_of}
use Rattle.rk_tree.proofs.NamesLemmas.{Key}
use Rattle.rk_tree.proofs.RowsLemmas.{is_yes, and_both, and_first, and_second, empty_rows, entries-sorted_map, find_below, get-found, puts, puts-map_of, same_maps}
use Rattle.rk_tree.proofs.TextLemmas.{exact_texts, told_apart}

abbrev pub Stated : Type 0
Stated = List (Text × Option ℕ)

abbrev pub Row : Type 0
Row = Key × Option ℕ

abbrev pub AreSorted : Stated → Type 0
AreSorted rows = T (is_sorted text_cmp rows)

less : (o : Ordering) → is_lt o ≡ true → o ≡ Less
less Less h = refl
less Equal h = cc
less Greater h = cc

is_less : (o : Ordering) → T (is_lt o) → o ≡ Less
is_less Less h = refl
is_less Equal h = absurd h
is_less Greater h = absurd h

pub not_less : (o : Ordering) → (o ≡ Less → ⊥) → is_lt o ≡ false
not_less Less h = absurd (h refl)
not_less Equal h = refl
not_less Greater h = refl

-- What the rows hold.

abbrev pub joined : Option (Option ℕ) → Option ℕ
joined None = None
joined (Some o) = o

joined_cond : (b : Bool) (o : Option ℕ) (rest : Option (Option ℕ)) → joined (cond b (Some o) rest) ≡ cond b o (joined rest)
joined_cond true o rest = refl
joined_cond false o rest = refl

find_held : (rows : Stated) (q : Text) → AreSorted rows → find text_cmp q (held rows) ≡ joined (find text_cmp q rows)
find_held [] q h = refl
find_held (row ∷ rows) q h =
    here (find_held rows q (and_second _ _ h)) row.1 where
      here : find text_cmp q (held rows) ≡ joined (find text_cmp q rows) → (o : Option ℕ) → find text_cmp q (cons_option (option_map (λ (n : ℕ). (row.0, n)) o) (held rows)) ≡ joined (cond (eq_by_cmp text_cmp q row.0) (Some o) (find text_cmp q rows))
      here later None = elim (told_apart q row.0) [
        | inl same ↦ later ∙ ap joined (ap (λ (t : Text). find text_cmp t rows) same.0 ∙ find_below row.0 rows (and_first _ _ h)) ∙ sym (ap (λ (b : Bool). joined (cond b (Some None) (find text_cmp q rows))) same.1)
        | inr apart ↦ later ∙ sym (ap (λ (b : Bool). joined (cond b (Some None) (find text_cmp q rows))) apart.1)
      ]
      here later (Some n) = ap (cond (eq_by_cmp text_cmp q row.0) (Some n)) later ∙ sym (joined_cond (eq_by_cmp text_cmp q row.0) (Some n) (find text_cmp q rows))

pub get_held : (rows : Stated) (q : Text) → AreSorted rows → get (map_of (held rows)) q ≡ joined (find text_cmp q rows)
get_held rows q h = get-found (held rows) q ∙ find_held rows q h

put_held : (rows : Stated) (name : Text) (n : ℕ) → AreSorted rows → map_of (held (put text_cmp name (Some n) rows)) ≡ insert (map_of (held rows)) name n
put_held rows name n h = same_maps _ _ (λ q.
    get_held (put text_cmp name (Some n) rows) q (is_sorted-put text_cmp nat_list_cmp_total name (Some n) rows h) ∙ ap joined (find-put text_cmp nat_list_cmp_total q name (Some n) rows) ∙ joined_cond (eq_by_cmp text_cmp q name) (Some n) (find text_cmp q rows)
    ∙ sym (get-insert nat_list_cmp_total (map_of (held rows)) name n q ∙ ap (cond (eq_by_cmp text_cmp q name) (Some n)) (get_held rows q h)))

take_held : (rows : Stated) (name : Text) → AreSorted rows → map_of (held (put text_cmp name None rows)) ≡ remove (map_of (held rows)) name
take_held rows name h = same_maps _ _ (λ q.
    get_held (put text_cmp name None rows) q (is_sorted-put text_cmp nat_list_cmp_total name None rows h) ∙ ap joined (find-put text_cmp nat_list_cmp_total q name None rows) ∙ joined_cond (eq_by_cmp text_cmp q name) None (find text_cmp q rows)
    ∙ sym (get-remove nat_list_cmp_total (map_of (held rows)) name q ∙ ap (cond (eq_by_cmp text_cmp q name) None) (get_held rows q h)))

absent_held : (rows : Stated) (name : Text) → AreSorted rows → find text_cmp name rows ≡ None → map_of (held rows) ≡ remove (map_of (held rows)) name
absent_held rows name h none = same_maps _ _ (λ q. elim (told_apart q name) [
  | inl same ↦ ap (get (map_of (held rows))) same.0 ∙ get_held rows name h ∙ ap joined none ∙ sym (get-remove nat_list_cmp_total (map_of (held rows)) name q ∙ ap (λ (b : Bool). cond b None (get (map_of (held rows)) q)) same.1)
  | inr apart ↦ sym (get-remove nat_list_cmp_total (map_of (held rows)) name q ∙ ap (λ (b : Bool). cond b None (get (map_of (held rows)) q)) apart.1)
])

-- Where a row is put.

below_at : (x : Text) (rows : Stated) (i : ℕ) (d : Text × Option ℕ) → T (below_all text_cmp x rows) → i < length rows → text_cmp x (get_or rows i d).0 ≡ Less
below_at x [] i d h lt = absurd (omega arith)
below_at x (row ∷ rows) zero d h lt = is_less _ (and_first _ _ h)
below_at x (row ∷ rows) (suc i) d h lt = below_at x rows i d (and_second _ _ h) (omega arith)

greater : (a b : Text) → text_cmp a b ≡ Less → text_cmp b a ≡ Greater
greater a b h = nat_list_cmp_total.antisymm b a ∙ ap ordering_reverse h

set_put : (rows : Stated) (i : ℕ) (name : Text) (o : Option ℕ) (d : Text × Option ℕ) → AreSorted rows → i < length rows → (get_or rows i d).0 ≡ name → set rows i (name, o) ≡ put text_cmp name o rows
set_put [] i name o d h lt at = absurd (omega arith)
set_put (row ∷ rows) zero name o d h lt at =
    ap (λ (t : Text). (t, o) ∷ rows) (sym at)
    ∙ sym (ap (λ (r : Ordering). by_order r ((name, o) ∷ row ∷ rows) ((row.0, o) ∷ rows) (row ∷ put text_cmp name o rows)) (ap (text_cmp name) at ∙ tied_itself nat_list_cmp_total name))
set_put (row ∷ rows) (suc i) name o d h lt at =
    ap (λ (rest : Stated). row ∷ rest) (set_put rows i name o d (and_second _ _ h) (omega arith) at)
    ∙ sym (ap (λ (r : Ordering). by_order r ((name, o) ∷ row ∷ rows) ((row.0, o) ∷ rows) (row ∷ put text_cmp name o rows)) (greater row.0 name (ap (text_cmp row.0) (sym at) ∙ below_at row.0 rows i d (and_first _ _ h) (omega arith))))

head_before : (row : Text × Option ℕ) (rows : Stated) (name : Text) → AreSorted (row ∷ rows) → comes_last (row ∷ rows) name ≡ true → text_cmp row.0 name ≡ Less
head_before row [] name h last = less _ last
head_before row (next ∷ rows) name h last = nat_list_cmp_total.trans row.0 next.0 name (is_less _ (and_first _ _ (and_first _ _ h))) (head_before next rows name (and_second _ _ h) last)

rest_last : (row : Text × Option ℕ) (rows : Stated) (name : Text) → comes_last (row ∷ rows) name ≡ true → comes_last rows name ≡ true
rest_last row [] name last = refl
rest_last row (next ∷ rows) name last = last

last_absent : (rows : Stated) (name : Text) → AreSorted rows → comes_last rows name ≡ true → find text_cmp name rows ≡ None
last_absent [] name h last = refl
last_absent (row ∷ rows) name h last =
    ap (λ (b : Bool). cond b (Some row.1) (find text_cmp name rows)) (ap is_eq (greater row.0 name (head_before row rows name h last)))
    ∙ last_absent rows name (and_second _ _ h) (rest_last row rows name last)

push_put : (rows : Stated) (name : Text) (o : Option ℕ) → AreSorted rows → comes_last rows name ≡ true → rows ++ (name, o) ∷ [] ≡ put text_cmp name o rows
push_put [] name o h last = refl
push_put (row ∷ rows) name o h last =
    ap (λ (rest : Stated). row ∷ rest) (push_put rows name o (and_second _ _ h) (rest_last row rows name last))
    ∙ sym (ap (λ (r : Ordering). by_order r ((name, o) ∷ row ∷ rows) ((row.0, o) ∷ rows) (row ∷ put text_cmp name o rows)) (greater row.0 name (head_before row rows name h last)))

-- The last row.

one_less : (n : ℕ) → suc (suc n - 1) ≡ suc (suc n) - 1
one_less n = omega arith

pub last_got : (rows : List Row) (row : Row) (name : Text) → slice_get rows (length rows - 1) ≡ Some row → comes_last (stated rows) name ≡ is_lt (text_cmp row.0.items name)
last_got [] row name at = cc
last_got (first ∷ []) row name at = ap (λ (r : Row). is_lt (text_cmp r.0.items name)) (one first row at) where
  one : (a b : Row) → Some a ≡ Some b → a ≡ b
  one a b e = cc
last_got (first ∷ second ∷ rows) row name at = last_got (second ∷ rows) row name (ap (slice_get (first ∷ second ∷ rows)) (one_less (length rows)) ∙ at)

pub last_none : (rows : List Row) (name : Text) → slice_get rows (length rows - 1) ≡ None → comes_last (stated rows) name ≡ true
last_none [] name at = refl
last_none (first ∷ []) name at = cc
last_none (first ∷ second ∷ rows) name at = last_none (second ∷ rows) name (ap (slice_get (first ∷ second ∷ rows)) (one_less (length rows)) ∙ at)

-- A search.

rises : (rows : List Row) → AreSorted (stated rows) → IsSortedBy (λ a b. is_lt (text_cmp a.0.items b.0.items)) rows
rises [] h = λ k d low lt. absurd (omega arith)
rises (row ∷ []) h = λ k d low lt. absurd (omega arith)
rises (row ∷ next ∷ rows) h = λ k d low lt. at (rises (next ∷ rows) (and_second _ _ h)) k d lt where
  up : (k : ℕ) → suc k + 1 ≡ suc (k + 1)
  up k = omega arith

  at : IsSortedBy (λ (a : Row) (b : Row). is_lt (text_cmp a.0.items b.0.items)) (next ∷ rows) → (k : ℕ) (d : Row) → k + 1 < length (row ∷ next ∷ rows) → is_lt (text_cmp (get_or (row ∷ next ∷ rows) (k + 1) d).0.items (get_or (row ∷ next ∷ rows) k d).0.items) ≡ false
  at rest zero d lt = ap is_lt (greater row.0.items next.0.items (is_less _ (and_first _ _ (and_first _ _ h))))
  at rest (suc k) d lt =
      ap (λ (j : ℕ). is_lt (text_cmp (get_or (row ∷ next ∷ rows) j d).0.items (get_or (next ∷ rows) k d).0.items)) (up k)
      ∙ rest k d (omega arith) (omega arith)

pub searchable : (rows : List Row) (name : Text) → AreSorted (stated rows) → IsNonDecreasingBy (λ (row : Row). ordering_index (text_cmp row.0.items name)) rows
searchable rows name h = searchable_from_sorted nat_list_cmp_total (λ (row : Row). row.0.items) rows name (rises rows h)

none_found : (rows : List Row) (name : Text) → ((k : ℕ) (d : Row) → k < length rows → text_cmp (get_or rows k d).0.items name ≡ Equal → ⊥) → find text_cmp name (stated rows) ≡ None
none_found [] name h = refl
none_found (row ∷ rows) name h = elim (told_apart name row.0.items) [
  | inl same ↦ absurd (h 0 row (omega arith) (ap (λ (t : Text). text_cmp t name) (sym same.0) ∙ tied_itself nat_list_cmp_total name))
  | inr apart ↦ ap (λ (b : Bool). cond b (Some row.1) (find text_cmp name (stated rows))) apart.1 ∙ none_found rows name (λ k d lt. h (suc k) d (omega arith))
]

pub missed : (rows : List Row) (name : Text) (i : ℕ) → IsPartitionPoint (λ (row : Row). text_cmp row.0.items name ≡ Less) (λ (row : Row). text_cmp row.0.items name ≡ Greater) rows i → find text_cmp name (stated rows) ≡ None
missed rows name i parts = none_found rows name (λ k d lt. elim (side k i) [
  | inl before ↦ clash _ (parts.0 k d (omega arith) before)
  | inr behind ↦ clash_greater _ (parts.1 k d behind lt)
]) where
  side : (k i : ℕ) → (k < i) ⊎ (i ≤ k)
  side zero zero = inr (omega arith)
  side zero (suc i) = inl (omega arith)
  side (suc k) zero = inr (omega arith)
  side (suc k) (suc i) = elim (side k i) [
    | inl lt ↦ inl (omega arith)
    | inr le ↦ inr (omega arith)
  ]

  clash : (o : Ordering) → o ≡ Less → o ≡ Equal → ⊥
  clash o l e = cc

  clash_greater : (o : Ordering) → o ≡ Greater → o ≡ Equal → ⊥
  clash_greater o l e = cc

pub same_name : (rows : List Row) (name : Text) (i : ℕ) → HoldsAt (λ (row : Row). text_cmp row.0.items name ≡ Equal) rows i → HoldsAt (λ (row : Row). row.0.items ≡ name) rows i
same_name rows name i tied = λ d. exact_texts _ name (tied d)

found_at : (rows : List Row) (i : ℕ) (name : Text) (d : Row) → AreSorted (stated rows) → i < length rows → (get_or rows i d).0.items ≡ name → find text_cmp name (stated rows) ≡ Some (get_or rows i d).1
found_at [] i name d h lt at = absurd (omega arith)
found_at (row ∷ rows) zero name d h lt at = ap (λ (b : Bool). cond b (Some row.1) (find text_cmp name (stated rows))) (ap (λ (t : Text). is_eq (text_cmp name t)) at ∙ ap is_eq (tied_itself nat_list_cmp_total name))
found_at (row ∷ rows) (suc i) name d h lt at =
    ap (λ (b : Bool). cond b (Some row.1) (find text_cmp name (stated rows))) (ap is_eq (greater row.0.items name (ap (text_cmp row.0.items) (sym (stated_at rows i d (omega arith) ∙ at)) ∙ below_at row.0.items (stated rows) i (d.0.items, d.1) (and_first _ _ h) (long rows i (omega arith)))))
    ∙ found_at rows i name d (and_second _ _ h) (omega arith) at where
      stated_at : (rows : List Row) (i : ℕ) (d : Row) → i < length rows → (get_or (stated rows) i (d.0.items, d.1)).0 ≡ (get_or rows i d).0.items
      stated_at [] i d lt = absurd (omega arith)
      stated_at (row ∷ rows) zero d lt = refl
      stated_at (row ∷ rows) (suc i) d lt = stated_at rows i d (omega arith)

      long : (rows : List Row) (i : ℕ) → i < length rows → i < length (stated rows)
      long [] i lt = absurd (omega arith)
      long (row ∷ rows) zero lt = omega arith
      long (row ∷ rows) (suc i) lt = let more : i < length (stated rows) = long rows i (omega arith) in omega arith

-- Rows without those that were taken.

abbrev pub is_held : Row → Bool
is_held row = is_some row.1

pub held_filter : (rows : List Row) → held (stated (filter is_held rows)) ≡ held (stated rows)
held_filter [] = refl
held_filter (row ∷ rows) = by (held_filter rows) row.1 where
  by : held (stated (filter is_held rows)) ≡ held (stated rows) → (o : Option ℕ) → held (stated (cond (is_some o) ((row.0, o) ∷ filter is_held rows) (filter is_held rows))) ≡ cons_option (option_map (λ (n : ℕ). (row.0.items, n)) o) (held (stated rows))
  by later None = later
  by later (Some n) = ap (λ (rest : List (Text × ℕ)). (row.0.items, n) ∷ rest) later

below_filter : (x : Text) (rows : List Row) → T (below_all text_cmp x (stated rows)) → T (below_all text_cmp x (stated (filter is_held rows)))
below_filter x [] h = tt
below_filter x (row ∷ rows) h = by (below_filter x rows (and_second _ _ h)) (is_held row) where
  by : T (below_all text_cmp x (stated (filter is_held rows))) → (b : Bool) → T (below_all text_cmp x (stated (cond b (row ∷ filter is_held rows) (filter is_held rows))))
  by later true = and_both _ _ (and_first _ _ h) later
  by later false = later

pub sorted_filter : (rows : List Row) → AreSorted (stated rows) → AreSorted (stated (filter is_held rows))
sorted_filter [] h = tt
sorted_filter (row ∷ rows) h = by (sorted_filter rows (and_second _ _ h)) (is_held row) where
  by : AreSorted (stated (filter is_held rows)) → (b : Bool) → AreSorted (stated (cond b (row ∷ filter is_held rows) (filter is_held rows)))
  by later true = and_both _ _ (below_filter row.0.items rows (and_first _ _ h)) later
  by later false = later

-- The rows that are held, in order.

below_held : (x : Text) (rows : Stated) → T (below_all text_cmp x rows) → T (below_all text_cmp x (held rows))
below_held x [] h = tt
below_held x (row ∷ rows) h = by (below_held x rows (and_second _ _ h)) row.1 where
  by : T (below_all text_cmp x (held rows)) → (o : Option ℕ) → T (below_all text_cmp x (cons_option (option_map (λ (n : ℕ). (row.0, n)) o) (held rows)))
  by later None = later
  by later (Some n) = and_both _ _ (and_first _ _ h) later

pub sorted_held : (rows : Stated) → AreSorted rows → T (is_sorted text_cmp (held rows))
sorted_held [] h = tt
sorted_held (row ∷ rows) h = by (sorted_held rows (and_second _ _ h)) row.1 where
  by : T (is_sorted text_cmp (held rows)) → (o : Option ℕ) → T (is_sorted text_cmp (cons_option (option_map (λ (n : ℕ). (row.0, n)) o) (held rows)))
  by later None = later
  by later (Some n) = and_both _ _ (below_held row.0 rows (and_first _ _ h)) later

held_within : (rows : List Row) → length (held (stated rows)) ≤ length rows
held_within [] = omega arith
held_within (row ∷ rows) = by (held_within rows) row.1 where
  by : length (held (stated rows)) ≤ length rows → (o : Option ℕ) → length (cons_option (option_map (λ (n : ℕ). (row.0.items, n)) o) (held (stated rows))) ≤ length (row ∷ rows)
  by later None = omega arith
  by later (Some n) = omega arith

pub len_held : (rows : List Row) → AreSorted (stated rows) → len (map_held rows) ≤ length rows
len_held rows h =
    let is : len (map_held rows) ≡ length (held (stated rows)) = len-entries (map_held rows) ∙ ap length (entries-sorted_map (held (stated rows)) (sorted_held (stated rows) h)) in
    let within : length (held (stated rows)) ≤ length rows = held_within rows in
    omega arith

pub yes : (b : Bool) → b ≡ true → T b
yes b h = subst T (sym h) tt

pub held_new : (rows : List Row) → rows ≡ [] → map_held rows ≡ empty
held_new rows none = empty_rows (held (stated rows)) (ap (λ (r : List Row). held (stated r)) none)

pub filtered : (rows more : List Row) → more ≡ filter is_held rows → is_sorted text_cmp (stated rows) ≡ true → (is_sorted text_cmp (stated more) ≡ true) × (map_held more ≡ map_held rows)
filtered rows more is h = (
  ap (λ (r : List Row). is_sorted text_cmp (stated r)) is ∙ is_yes _ (sorted_filter rows (yes _ h)),
  ap (λ (r : List Row). map_held r) is ∙ ap (λ (r : List (Text × ℕ)). map_of r) (held_filter rows),
)

-- Rows after a change.

abbrev pub IsKept : List Row → ℕ → Type 0
IsKept rows n = (is_sorted text_cmp (stated rows) ≡ true) × (n ≡ len (map_held rows))

pub kept_new : (rows : List Row) → rows ≡ [] → IsKept rows 0
kept_new rows none = (ap (λ (r : List Row). is_sorted text_cmp (stated r)) none, sym (ap (λ (m : Paths). len m) (held_new rows none) ∙ len-empty text_cmp ℕ))

above_none : (n : ℕ) → nat_eq (suc n) 0 ≡ false
above_none n = grind (arith, nat_tests)

empty_by_len : (rows : List (Text × ℕ)) → nat_eq (length rows) 0 ≡ is_empty rows
empty_by_len [] = refl
empty_by_len (row ∷ rows) = above_none (length rows)

pub none_held : (n : ℕ) (rows : List Row) (m : Paths) → n ≡ len (map_held rows) → map_held rows ≡ m → nat_eq n 0 ≡ is_empty (entries m)
none_held n rows m count view = ap (λ (k : ℕ). nat_eq k 0) (count ∙ ap (λ (p : Paths). len p) view ∙ len-entries m) ∙ empty_by_len (entries m)

pub pushed : (rows more : List Row) (key : Key) (n : ℕ) → more ≡ rows ++ (key, Some n) ∷ [] → is_sorted text_cmp (stated rows) ≡ true → comes_last (stated rows) key.items ≡ true → (is_sorted text_cmp (stated more) ≡ true) × (map_held more ≡ insert (map_held rows) key.items n)
pushed rows more key n is h last =
    let put_so = ap (λ (r : List Row). stated r) is ∙ stated_push rows (key, Some n) ∙ push_put (stated rows) key.items (Some n) (yes _ h) last in (
      ap (λ (r : Stated). is_sorted text_cmp r) put_so ∙ is_yes _ (is_sorted-put text_cmp nat_list_cmp_total key.items (Some n) (stated rows) (yes _ h)),
      ap (λ (r : Stated). map_of (held r)) put_so ∙ put_held (stated rows) key.items n (yes _ h),
    ) where
      stated_push : (rows : List Row) (row : Row) → stated (rows ++ row ∷ []) ≡ stated rows ++ (row.0.items, row.1) ∷ []
      stated_push [] row = refl
      stated_push (first ∷ rows) row = ap (λ (rest : Stated). (first.0.items, first.1) ∷ rest) (stated_push rows row)

-- How many are held.

pub count_put : (rows more : List Row) (name : Text) (n k : ℕ) (o : Option ℕ) → k ≡ len (map_held rows) → map_held more ≡ insert (map_held rows) name n → get (map_held rows) name ≡ o → k + cond (is_none o) 1 0 ≡ len (map_held more)
count_put rows more name n k o count is was = by o was where
  all : len (map_held more) ≡ cond (is_some (get (map_held rows) name)) (len (map_held rows)) (len (map_held rows) + 1)
  all = ap (λ (m : Paths). len m) is ∙ len-insert nat_list_cmp_total (map_held rows) name n

  by : (o : Option ℕ) → get (map_held rows) name ≡ o → k + cond (is_none o) 1 0 ≡ len (map_held more)
  by None w = let now : len (map_held more) ≡ len (map_held rows) + 1 = all ∙ ap (λ (p : Option ℕ). cond (is_some p) (len (map_held rows)) (len (map_held rows) + 1)) w in omega arith
  by (Some m) w = let now : len (map_held more) ≡ len (map_held rows) = all ∙ ap (λ (p : Option ℕ). cond (is_some p) (len (map_held rows)) (len (map_held rows) + 1)) w in omega arith

pub count_take : (rows more : List Row) (name : Text) (k : ℕ) (o : Option ℕ) → k ≡ len (map_held rows) → map_held more ≡ remove (map_held rows) name → get (map_held rows) name ≡ o → k - cond (is_some o) 1 0 ≡ len (map_held more)
count_take rows more name k o count is was = by o was where
  all : len (map_held more) ≡ cond (is_some (get (map_held rows) name)) (len (map_held rows) - 1) (len (map_held rows))
  all = ap (λ (m : Paths). len m) is ∙ len-remove nat_list_cmp_total (map_held rows) name

  by : (o : Option ℕ) → get (map_held rows) name ≡ o → k - cond (is_some o) 1 0 ≡ len (map_held more)
  by None w = let now : len (map_held more) ≡ len (map_held rows) = all ∙ ap (λ (p : Option ℕ). cond (is_some p) (len (map_held rows) - 1) (len (map_held rows))) w in omega arith
  by (Some m) w = let now : len (map_held more) ≡ len (map_held rows) - 1 = all ∙ ap (λ (p : Option ℕ). cond (is_some p) (len (map_held rows) - 1) (len (map_held rows))) w in omega arith

pub some_held : (rows : List Row) (name : Text) (k : ℕ) (o : Option ℕ) → k ≡ len (map_held rows) → get (map_held rows) name ≡ o → cond (is_some o) 1 0 ≤ k
some_held rows name k None count was = omega arith
some_held rows name k (Some n) count was = by (entries (map_held rows)) (sym (get-entries (map_held rows) name) ∙ was) (count ∙ len-entries (map_held rows)) where
  by : (es : List (Text × ℕ)) → find text_cmp name es ≡ Some n → k ≡ length es → 1 ≤ k
  by [] found is = cc
  by (e ∷ es) found is = omega arith

pub absent_last : (rows : List Row) (name : Text) → is_sorted text_cmp (stated rows) ≡ true → comes_last (stated rows) name ≡ true → get (map_held rows) name ≡ None
absent_last rows name h last = get_held (stated rows) name (yes _ h) ∙ ap joined (last_absent (stated rows) name (yes _ h) last)

pub get_absent : (rows : List Row) (name : Text) → is_sorted text_cmp (stated rows) ≡ true → find text_cmp name (stated rows) ≡ None → None ≡ get (map_held rows) name
get_absent rows name h none = sym (get_held (stated rows) name (yes _ h) ∙ ap joined none)

abbrev pub IsPlaceOf : Text → List Row → ℕ → Type 0
IsPlaceOf name rows i = (i < length rows) × HoldsAt (λ (row : Row). row.0.items ≡ name) rows i

pub placed_in : (seen rows : List Row) (i : ℕ) (given name : Text) → seen ≡ rows → given ≡ name → IsPlaceOf given seen i → IsPlaceOf name rows i
placed_in seen rows i given name is text place = subst (λ (t : Text). IsPlaceOf t rows i) text (subst (λ (r : List Row). IsPlaceOf given r i) is place)

pub absent_in : (seen rows : List Row) (given name : Text) → seen ≡ rows → given ≡ name → find text_cmp given (stated seen) ≡ None → find text_cmp name (stated rows) ≡ None
absent_in seen rows given name is text none = sym (ap (λ (t : Text). find text_cmp t (stated rows)) text) ∙ sym (ap (λ (r : List Row). find text_cmp given (stated r)) is) ∙ none

-- at a place that was found
module _ (rows more : List Row) (i : ℕ) (name : Text) (place : IsPlaceOf name rows i) (h : is_sorted text_cmp (stated rows) ≡ true) where
  long : (rows : List Row) → length (stated rows) ≡ length rows
  long [] = refl
  long (row ∷ rows) = let rest : length (stated rows) ≡ length rows = long rows in omega arith

  place_put : (o : Option ℕ) (d : Row) → more ≡ set rows i ((get_or rows i d).0, o) → stated more ≡ put text_cmp name o (stated rows)
  place_put o d is =
      ap (λ (r : List Row). stated r) is ∙ map-set (λ (row : Row). (row.0.items, row.1)) rows i ((get_or rows i d).0, o)
      ∙ ap (λ (t : Text). set (stated rows) i (t, o)) (place.1 d)
      ∙ set_put (stated rows) i name o (d.0.items, d.1) (yes _ h) (let same : length (stated rows) ≡ length rows = long rows in let within : i < length rows = place.0 in omega arith) (ap (λ (row : Text × Option ℕ). row.0) (get_or-map (λ (row : Row). (row.0.items, row.1)) rows i d (d.0.items, d.1) place.0) ∙ place.1 d)

  pub get_place : (d : Row) → d ≡ get_or rows i d → get (map_held rows) name ≡ d.1
  get_place d seen = get_held (stated rows) name (yes _ h) ∙ ap joined (found_at rows i name d (yes _ h) place.0 (place.1 d)) ∙ sym (ap (λ (row : Row). row.1) seen)

  pub put_place : (n : ℕ) (d : Row) → d ≡ get_or rows i d → more ≡ set rows i (d.0, Some n) → (is_sorted text_cmp (stated more) ≡ true) × (map_held more ≡ insert (map_held rows) name n)
  put_place n d seen given = let is = given ∙ ap (λ (row : Row). set rows i (row.0, Some n)) seen in (
    ap (λ (r : Stated). is_sorted text_cmp r) (place_put (Some n) d is) ∙ is_yes _ (is_sorted-put text_cmp nat_list_cmp_total name (Some n) (stated rows) (yes _ h)),
    ap (λ (r : Stated). map_of (held r)) (place_put (Some n) d is) ∙ put_held (stated rows) name n (yes _ h),
  )

  pub take_place : (d : Row) → d ≡ get_or rows i d → more ≡ set rows i (d.0, None) → (is_sorted text_cmp (stated more) ≡ true) × (map_held more ≡ remove (map_held rows) name)
  take_place d seen given = let is = given ∙ ap (λ (row : Row). set rows i (row.0, None)) seen in (
    ap (λ (r : Stated). is_sorted text_cmp r) (place_put None d is) ∙ is_yes _ (is_sorted-put text_cmp nat_list_cmp_total name None (stated rows) (yes _ h)),
    ap (λ (r : Stated). map_of (held r)) (place_put None d is) ∙ take_held (stated rows) name (yes _ h),
  )

none_byte : (o : Option ℕ) (b : Bool) → is_some o ≡ not b → bool_byte b ≡ cond (is_none o) 1 0
none_byte None true e = refl
none_byte None false e = cc
none_byte (Some n) true e = cc
none_byte (Some n) false e = refl

some_byte : (b : Bool) → bool_byte b ≡ cond b 1 0
some_byte true = refl
some_byte false = refl

-- A row that was found, by the words of the code: what it was when it was looked at, and when it is written.
module _ (rows : List Row) (i : ℕ) (name : Text) (place : IsPlaceOf name rows i) (k : ℕ) (kept : IsKept rows k) (at seen : Row) (written : at ≡ get_or rows i at) (looked : seen ≡ get_or rows i seen) (b : Bool) (step : ℕ) (byte : step ≡ bool_byte b) where
  pub after_put : (n : ℕ) → is_some seen.1 ≡ not b → IsKept (set rows i (at.0, Some n)) (k + step) × (map_held (set rows i (at.0, Some n)) ≡ insert (map_held rows) name n)
  after_put n was =
      let made = put_place rows (set rows i (at.0, Some n)) i name place kept.0 n at written refl in (
        (made.0, ap (λ (j : ℕ). k + j) (byte ∙ none_byte seen.1 b was) ∙ count_put rows (set rows i (at.0, Some n)) name n k seen.1 kept.1 made.1 (get_place rows rows i name place kept.0 seen looked)),
        made.1,
      )

  pub after_take : b ≡ is_some seen.1 → IsKept (set rows i (at.0, None)) (k - step) × (map_held (set rows i (at.0, None)) ≡ remove (map_held rows) name)
  after_take was =
      let made = take_place rows (set rows i (at.0, None)) i name place kept.0 at written refl in (
        (made.0, ap (λ (j : ℕ). k - j) (byte ∙ some_byte b ∙ ap (λ (t : Bool). cond t 1 0) was) ∙ count_take rows (set rows i (at.0, None)) name k seen.1 kept.1 made.1 (get_place rows rows i name place kept.0 seen looked)),
        made.1,
      )

  pub enough : b ≡ is_some seen.1 → step ≤ k
  enough was =
      let is : step ≡ cond (is_some seen.1) 1 0 = byte ∙ some_byte b ∙ ap (λ (t : Bool). cond t 1 0) was in
      let within : cond (is_some seen.1) 1 0 ≤ k = some_held rows name k seen.1 kept.1 (get_place rows rows i name place kept.0 seen looked) in
      omega arith

pub kept_within : (rows : List Row) (k : ℕ) → IsKept rows k → k ≤ length rows
kept_within rows k kept = let within : len (map_held rows) ≤ length rows = len_held rows (yes _ kept.0) in let is : k ≡ len (map_held rows) = kept.1 in omega arith

pub after_push : (rows more : List Row) (key : Key) (n k : ℕ) → more ≡ rows ++ (key, Some n) ∷ [] → IsKept rows k → comes_last (stated rows) key.items ≡ true → IsKept more (k + 1) × (map_held more ≡ insert (map_held rows) key.items n)
after_push rows more key n k is kept last =
    let made = pushed rows more key n is kept.0 last in (
      (made.0, count_put rows more key.items n k None kept.1 made.1 (absent_last rows key.items kept.0 last)),
      made.1,
    )

pub last_in : (seen rows : List Row) (given name : Text) → seen ≡ rows → given ≡ name → comes_last (stated seen) given ≡ true → comes_last (stated rows) name ≡ true
last_in seen rows given name is text last = sym (ap (λ (t : Text). comes_last (stated rows) t) text) ∙ sym (ap (λ (r : List Row). comes_last (stated r) given) is) ∙ last

pub put_within : (rows : List Row) (i : ℕ) (row : Row) (k : ℕ) → IsKept (set rows i row) k → k ≤ length rows
put_within rows i row k kept =
    let within : k ≤ length (set rows i row) = kept_within (set rows i row) k kept in
    let same : length (set rows i row) ≡ length rows = length-set rows i row in
    omega arith

pub absent_held_rows : (rows : List Row) (name : Text) → is_sorted text_cmp (stated rows) ≡ true → find text_cmp name (stated rows) ≡ None → map_held rows ≡ remove (map_held rows) name
absent_held_rows rows name h none = absent_held (stated rows) name (yes _ h) none

-- Row by row.

abbrev pub held_row : Row → Option (Text × ℕ)
held_row row = option_map (λ n. (row.0.items, n)) row.1

pub next_held : (rows : List Row) (i : ℕ) (row : Row) → i < length rows → row ≡ get_or rows i row → held (stated (drop i rows)) ≡ cons_option (held_row row) (held (stated (drop (i + 1) rows)))
next_held rows i row lt seen = ap (λ (r : List Row). held (stated r)) (drop-cons rows i row lt ∙ ap (λ (x : Row). x ∷ drop (suc i) rows) (sym seen) ∙ ap (λ (k : ℕ). row ∷ drop k rows) (one_up i)) where
  one_up : (i : ℕ) → suc i ≡ i + 1
  one_up i = omega arith

pub none_left : (rows : List Row) (i : ℕ) → length rows ≤ i → held (stated (drop i rows)) ≡ []
none_left rows i past = ap (λ (r : List Row). held (stated r)) (drop_all i rows past)

pub row_there : (rows : List Row) (i : ℕ) (row : Row) (n : ℕ) → is_sorted text_cmp (stated rows) ≡ true → i < length rows → row ≡ get_or rows i row → row.1 ≡ Some n → get (map_held rows) row.0.items ≡ Some n
row_there rows i row n h lt seen is = get_held (stated rows) row.0.items (yes _ h) ∙ ap joined (found_at rows i row.0.items row (yes _ h) lt (ap (λ (r : Row). r.0.items) (sym seen))) ∙ ap (λ (r : Row). r.1) (sym seen) ∙ is

pub held_entries : (rows : List Row) → is_sorted text_cmp (stated rows) ≡ true → held (stated rows) ≡ entries (map_held rows)
held_entries rows h = sym (entries-sorted_map (held (stated rows)) (sorted_held (stated rows) (yes _ h)))

pub held_puts : (rows : List Row) → is_sorted text_cmp (stated rows) ≡ true → puts empty (held (stated rows)) ≡ map_held rows
held_puts rows h = puts-map_of (held (stated rows)) (sorted_held (stated rows) (yes _ h))

held_some : (row : Row) (n : ℕ) (rest : List (Text × ℕ)) → row.1 ≡ Some n → cons_option (held_row row) rest ≡ (row.0.items, n) ∷ rest
held_some row n rest is = ap (λ (o : Option ℕ). cons_option (option_map (λ (n : ℕ). (row.0.items, n)) o) rest) is

held_none : (row : Row) (rest : List (Text × ℕ)) → row.1 ≡ None → cons_option (held_row row) rest ≡ rest
held_none row rest is = ap (λ (o : Option ℕ). cons_option (option_map (λ (n : ℕ). (row.0.items, n)) o) rest) is

pub more_held : (done more all left rest : List (Text × ℕ)) (row : Row) (name : Text) (n : ℕ) → done ++ left ≡ all → left ≡ cons_option (held_row row) rest → row.1 ≡ Some n → more ≡ done ++ (name, n) ∷ [] → name ≡ row.0.items → more ++ rest ≡ all
more_held done more all left rest row name n before steps is given text =
    ap (λ (r : List (Text × ℕ)). r ++ rest) given ∙ append_assoc done ((name, n) ∷ []) rest ∙ ap (λ (t : Text). done ++ (t, n) ∷ rest) text
    ∙ sym (ap (λ (r : List (Text × ℕ)). done ++ r) (steps ∙ held_some row n rest is)) ∙ before

pub same_held : (done more all left rest : List (Text × ℕ)) (row : Row) → done ++ left ≡ all → left ≡ cons_option (held_row row) rest → row.1 ≡ None → more ≡ done → more ++ rest ≡ all
same_held done more all left rest row before steps is given = ap (λ (r : List (Text × ℕ)). r ++ rest) given ∙ sym (ap (λ (r : List (Text × ℕ)). done ++ r) (steps ∙ held_none row rest is)) ∙ before

pub all_held : (done all left : List (Text × ℕ)) → done ++ left ≡ all → left ≡ [] → done ≡ all
all_held done all left before none = sym (append-nil done) ∙ sym (ap (λ (r : List (Text × ℕ)). done ++ r) none) ∙ before

pub more_put : (made more all : Paths) (left rest : List (Text × ℕ)) (row : Row) (n : ℕ) → puts made left ≡ all → left ≡ cons_option (held_row row) rest → row.1 ≡ Some n → more ≡ insert made row.0.items n → puts more rest ≡ all
more_put made more all left rest row n before steps is given = ap (λ (m : Paths). puts m rest) given ∙ sym (ap (puts made) (steps ∙ held_some row n rest is)) ∙ before

pub same_put : (made more all : Paths) (left rest : List (Text × ℕ)) (row : Row) → puts made left ≡ all → left ≡ cons_option (held_row row) rest → row.1 ≡ None → more ≡ made → puts more rest ≡ all
same_put made more all left rest row before steps is given = ap (λ (m : Paths). puts m rest) given ∙ sym (ap (puts made) (steps ∙ held_none row rest is)) ∙ before

pub all_put : (made all : Paths) (left : List (Text × ℕ)) → puts made left ≡ all → left ≡ [] → made ≡ all
all_put made all left before none = sym (ap (puts made) none) ∙ before
