-- The names in a directory, by the words of a `BTreeMap`.
use Rattle.std.proofs.Common.{◌≡◌, inl, inr, ℕ, List, [], ◌∷◌, Bool, true, false, cond, length, Option, Some, None, Result, Ok, Err, refl, sym, ap, subst, ◌∙◌, append-nil, append_assoc, map, Vec, Global, ◌&&◌, ◌++◌, suc, arith}
use lib.Dec.{T}
use Rattle.std.specs.Prelude.{MatchOption, OnOk, OnErr}
use Rattle.std.specs.Ordering.{eq_by_cmp, is_eq, is_lt, match_ordering}
use Rattle.std.specs.declared.cmp.Ordering.{Ordering}
use Rattle.std.specs.declared.cmp.Ordering.TheVariants.{Less, Equal, Greater}
use Rattle.std.specs.Cmp.{Equal-is}
use Rattle.std.specs.Cmp.Lexicographic.{nat_list_cmp_total}
use Rattle.std.specs.BTreeMap.{is_at, insert_entry}
use Rattle.std.specs.List.Sorted.{IsStrictlySortedBy}
use Rattle.std.specs.Bool.{IsTrue}
use Rattle.std.specs.List.{All, AllByRecursion, list_all}
use Rattle.std.specs.Map.{KeepsOthers, lookup}
use Rattle.std.specs.FinMap.Entries.{below_all, by_order, find-put, put}
use Rattle.std.specs.FinMap.{empty, entries, find, get, insert, remove, get-empty, get-entries, get-insert, get-remove, is_sorted}
use Rattle.rk_base.specs.Text.{Text, text_cmp}
use Rattle.rk_base.specs.Canonical.{is_empty, is_name}
use Rattle.rk_base.specs.Faults.{Reads}
use Rattle.rk_base.specs.declared.path.PathFault.{PathFault}
use Rattle.rk_base.specs.declared.path.PathFault.TheVariants.{Invalid, NoMemory}
use Rattle.rk_base.proofs.CanonicalLemmas.{both}
use Rattle.rk_tree.specs.Hierarchy.{Paths}
use Rattle.rk_tree.specs.Names.{named}
use Rattle.rk_tree.specs.Rows.{map_of}
use Rattle.rk_tree.proofs.BelowLemmas.{none_some}
use Rattle.rk_tree.proofs.RemovedLemmas.{stood_there}
use Rattle.rk_tree.proofs.RowsLemmas.{and_both, empty_rows, entries-sorted_map, get-found, insert_cases, same_maps}
use Rattle.rk_tree.proofs.TextLemmas.{exact_texts, told_apart, ties_itself}

clash : (b : Bool) → b ≡ true → b ≡ false → ⊥
clash b t f = cc

-- no names
pub no_entries : entries (empty {K = Text} {X = ℕ} {R = text_cmp}) ≡ []
no_entries = ap (λ (m : Paths). entries m) (sym (empty_rows [] refl)) ∙ entries-sorted_map [] tt

-- each key of a map is a name
abbrev pub AreNames : Paths → Type 0
AreNames m = (name : Text) (k : ℕ) → get m name ≡ Some k → is_name name ≡ true

pub names-empty : AreNames empty
names-empty name k at = absurd (none_some (get-empty text_cmp name) at)

pub names-insert : (m : Paths) (name : Text) (n : ℕ) → AreNames m → is_name name ≡ true → AreNames (insert m name n)
names-insert m name n h named q k at = elim (insert_cases m name n q) [
  | inl here ↦ ap is_name here.0 ∙ named
  | inr other ↦ h q k (sym other.1 ∙ at)
]

pub names-remove : (m : Paths) (name : Text) → AreNames m → AreNames (remove m name)
names-remove m name h q k at = h q k (stood_there m name q k at).1

-- after a put, done or refused
pub names-put : {A E : Type 0} (r : Result A E) (old new : Paths) (name : Text) (n : ℕ) → OnOk r (new ≡ insert old name n) → OnErr r (new ≡ old) → AreNames old → is_name name ≡ true → AreNames new
names-put (Ok x) old new name n done refused h named = subst AreNames (sym done) (names-insert old name n h named)
names-put (Err e) old new name n done refused h named = subst AreNames (sym refused) h

abbrev pub Key : Type 0
Key = Vec ℕ Global

-- a name that is handed back, or none
pub none_back : (o : Option Key) (P : Type 0) (Q : Key → Type 0) → ((key : Key) → o ≡ Some key → ⊥) → MatchOption o P Q → P
none_back None P Q not h = h
none_back (Some key) P Q not h = absurd (not key refl)

pub handed_back : (o : Option Key) (key : Key) (P : Type 0) (Q : Key → Type 0) → o ≡ Some key → MatchOption o P Q → Q key
handed_back o key P Q is h = subst (λ (o : Option Key). MatchOption o P Q) is h

-- the bytes of each key
abbrev pub texts : List (Key × ℕ) → List Text
texts rows = map (λ (row : Key × ℕ). row.0.items) rows

-- how a text compares to a key, and keys to one another
abbrev pub against : Text → Key → Ordering
against name key = text_cmp name key.items

abbrev pub by_items : Key → Key → Ordering
by_items a b = text_cmp a.items b.items

lookup_named : (rows : List (Key × ℕ)) (name : Text) → find text_cmp name (named rows) ≡ lookup (is_at (against name)) rows
lookup_named [] name = refl
lookup_named (row ∷ rows) name = ap (cond (eq_by_cmp text_cmp name row.0.items) (Some row.1)) (lookup_named rows name)

pub get_named : (rows : List (Key × ℕ)) (name : Text) → get (map_of (named rows)) name ≡ lookup (is_at (against name)) rows
get_named rows name = get-found (named rows) name ∙ lookup_named rows name

named_insert : (rows : List (Key × ℕ)) (key : Key) (n : ℕ) → named (insert_entry by_items rows key n) ≡ put text_cmp key.items n (named rows)
named_insert [] key n = refl
named_insert (row ∷ rows) key n = elim (text_cmp key.items row.0.items) as (λ (o : Ordering). named (match_ordering o ((key, n) ∷ row ∷ rows) ((row.0, n) ∷ rows) (row ∷ insert_entry by_items rows key n)) ≡ by_order o ((key.items, n) ∷ named (row ∷ rows)) ((row.0.items, n) ∷ named rows) ((row.0.items, row.1) ∷ put text_cmp key.items n (named rows))) [
  | Less ↦ refl
  | Equal ↦ refl
  | Greater ↦ ap (λ (rest : List (Text × ℕ)). (row.0.items, row.1) ∷ rest) (named_insert rows key n)
]

named_put : (rows : List (Key × ℕ)) (key : Key) (n : ℕ) → map_of (named (insert_entry by_items rows key n)) ≡ insert (map_of (named rows)) key.items n
named_put rows key n = same_maps _ _ (λ q.
    get-found (named (insert_entry by_items rows key n)) q
    ∙ ap (find text_cmp q) (named_insert rows key n)
    ∙ find-put text_cmp nat_list_cmp_total q key.items n (named rows)
    ∙ sym (get-insert nat_list_cmp_total (map_of (named rows)) key.items n q ∙ ap (cond (eq_by_cmp text_cmp q key.items) (Some n)) (get-found (named rows) q)))

pub put_is : (rows more : List (Key × ℕ)) (key : Key) (n : ℕ) (m : Paths) (name : Text) → map_of (named rows) ≡ m → key.items ≡ name → more ≡ insert_entry by_items rows key n → map_of (named more) ≡ insert m name n
put_is rows more key n m name view text is = ap (λ (r : List (Key × ℕ)). map_of (named r)) is ∙ named_put rows key n ∙ ap (λ (p : Paths). insert p key.items n) view ∙ ap (λ (t : Text). insert m t n) text

is_test : (q : Text) (x y : Key) → is_at (against q) x ≡ true → is_at (against q) y ≡ is_eq (by_items x y)
is_test q x y e = ap (λ (t : Text). is_eq (text_cmp t y.items)) (exact_texts q x.items ((Equal-is (text_cmp q x.items)).0 e))

apart_at : (name q : Text) → eq_by_cmp text_cmp q name ≡ false → (key : Key) → is_at (against name) key ≡ true → is_at (against q) key ≡ false
apart_at name q f key e = ap (λ (t : Text). is_eq (text_cmp q t)) (sym (exact_texts name key.items ((Equal-is (text_cmp name key.items)).0 e))) ∙ f

-- where a name is gone, and each other query finds what it found
named_take : (rows more : List (Key × ℕ)) (name : Text) → lookup (is_at (against name)) more ≡ None → KeepsOthers (eq_by_cmp by_items) (is_at (against name)) rows more → map_of (named more) ≡ remove (map_of (named rows)) name
unfolding KeepsOthers
named_take rows more name gone keeps = same_maps _ _ (λ q. elim (told_apart q name) [
  | inl same ↦ get_named more q ∙ ap (λ (t : Text). lookup (is_at (against t)) more) same.0 ∙ gone
      ∙ sym (get-remove nat_list_cmp_total (map_of (named rows)) name q ∙ ap (λ (b : Bool). cond b None (get (map_of (named rows)) q)) same.1)
  | inr other ↦ get_named more q ∙ keeps (is_at (against q)) (is_test q) (apart_at name q other.1) ∙ sym (get_named rows q)
      ∙ sym (get-remove nat_list_cmp_total (map_of (named rows)) name q ∙ ap (λ (b : Bool). cond b None (get (map_of (named rows)) q)) other.1)
])

pub take_is : (rows more : List (Key × ℕ)) (name : Text) (m : Paths) (taken : Text) → map_of (named rows) ≡ m → name ≡ taken → lookup (is_at (against name)) more ≡ None → KeepsOthers (eq_by_cmp by_items) (is_at (against name)) rows more → map_of (named more) ≡ remove m taken
take_is rows more name m taken view text gone keeps = named_take rows more name gone keeps ∙ ap (λ (p : Paths). remove p name) view ∙ ap (remove m) text

pub new_is : (rows : List (Key × ℕ)) → rows ≡ [] → map_of (named rows) ≡ empty
new_is rows none = empty_rows (named rows) (ap (λ (r : List (Key × ℕ)). named r) none)

-- a map of rows is empty where there are none
none_there : (rows : List (Key × ℕ)) → length rows ≡ 0 → is_empty (entries (map_of (named rows))) ≡ true
none_there [] e = ap (λ (r : List (Text × ℕ)). is_empty r) (entries-sorted_map [] tt)
none_there (row ∷ rows) e = absurd (omega arith)

some_there : (rows : List (Key × ℕ)) → (length rows ≡ 0 → ⊥) → is_empty (entries (map_of (named rows))) ≡ false
some_there [] h = absurd (h refl)
some_there (row ∷ rows) h = filled (entries (map_of (named (row ∷ rows)))) (λ none. none_some (get-entries (map_of (named (row ∷ rows))) row.0.items ∙ ap (find text_cmp row.0.items) none) (get_named (row ∷ rows) row.0.items ∙ ap (λ (b : Bool). cond b (Some row.1) (lookup (is_at (against row.0.items)) rows)) (ties_itself row.0.items))) where
  filled : (xs : List (Text × ℕ)) → (xs ≡ [] → ⊥) → is_empty xs ≡ false
  filled [] h = absurd (h refl)
  filled (x ∷ xs) h = refl

pub empty_is : (rows : List (Key × ℕ)) (m : Paths) (b : Bool) → map_of (named rows) ≡ m → (IsTrue b → length rows ≡ 0) → (length rows ≡ 0 → IsTrue b) → b ≡ is_empty (entries m)
empty_is rows m true view t f = sym (none_there rows (t refl)) ∙ ap (λ (p : Paths). is_empty (entries p)) view
empty_is rows m false view t f = sym (some_there rows (λ e. clash true refl (sym (f e)))) ∙ ap (λ (p : Paths). is_empty (entries p)) view

-- Each key is a name.

pub all_named : (rows more : List (Key × ℕ)) → AreNames (map_of (named rows)) → All (λ (e : Key × ℕ). lookup (is_at (against e.0.items)) rows ≡ Some e.1) more → list_all is_name (texts more) ≡ true
all_named rows [] h found = refl
all_named rows (e ∷ more) h found =
    ap (λ (b : Bool). b && list_all is_name (texts more)) (h e.0.items e.1 (get_named rows e.0.items ∙ found 0 e (omega arith)))
    ∙ all_named rows more h (λ k d lt. found (suc k) d (omega arith))

-- The rows, one by one.

below_named : (key : Key) (rows : List (Key × ℕ)) → AllByRecursion (λ k. by_items key k ≡ Less) (map (λ (row : Key × ℕ). row.0) rows) → T (below_all text_cmp key.items (named rows))
below_named key [] h = tt
below_named key (row ∷ rows) h = and_both _ _ (subst (λ (o : Ordering). T (is_lt o)) (sym h.0) tt) (below_named key rows h.1)

sorted_named : (rows : List (Key × ℕ)) → IsStrictlySortedBy by_items (map (λ (row : Key × ℕ). row.0) rows) → T (is_sorted text_cmp (named rows))
unfolding IsStrictlySortedBy
sorted_named [] h = tt
sorted_named (row ∷ rows) h = and_both _ _ (below_named row.0 rows h.0) (sorted_named rows h.1)

pub rows_are : (rows : List (Key × ℕ)) (m : Paths) → map_of (named rows) ≡ m → IsStrictlySortedBy by_items (map (λ (row : Key × ℕ). row.0) rows) → named rows ≡ entries m
rows_are rows m view h = sym (entries-sorted_map (named rows) (sorted_named rows h)) ∙ ap (λ (p : Paths). entries p) view

-- a row goes from what is left to what is done
pub one_more : (done more all : List (Text × ℕ)) (left rest : List (Key × ℕ)) (row : Key × ℕ) (name : Text) → done ++ named left ≡ all → left ≡ row ∷ rest → more ≡ done ++ (name, row.1) ∷ [] → name ≡ row.0.items → more ++ named rest ≡ all
one_more done more all left rest row name before steps is text =
    ap (λ (rows : List (Text × ℕ)). rows ++ named rest) is ∙ append_assoc done ((name, row.1) ∷ []) (named rest) ∙ ap (λ (t : Text). done ++ (t, row.1) ∷ named rest) text ∙ ap (λ (rows : List (Key × ℕ)). done ++ named rows) (sym steps) ∙ before

pub is_named : (left rest : List (Key × ℕ)) (row : Key × ℕ) → list_all is_name (texts left) ≡ true → left ≡ row ∷ rest → (is_name row.0.items ≡ true) × (list_all is_name (texts rest) ≡ true)
is_named left rest row named steps = both _ _ (ap (λ (rows : List (Key × ℕ)). list_all is_name (texts rows)) (sym steps) ∙ named)

pub all_done : (done all : List (Text × ℕ)) (left : List (Key × ℕ)) → done ++ named left ≡ all → left ≡ [] → done ≡ all
all_done done all left before none = sym (append-nil done) ∙ ap (λ (rows : List (Key × ℕ)). done ++ named rows) (sym none) ∙ before

-- a name is read as one
pub no_fault : (text name : Text) (fault : PathFault) → text ≡ name → is_name name ≡ true → Reads (is_name text) text (Err fault) → fault ≡ Invalid → ⊥
no_fault text name Invalid is named led_to e = clash _ (ap is_name is ∙ named) led_to
no_fault text name NoMemory is named led_to e = cc
