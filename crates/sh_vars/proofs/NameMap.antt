-- A map by name, by the words of a `BTreeMap`.
use Rattle.std.proofs.Common.{◌≡◌, ◌⊎◌, inl, inr, ℕ, List, [], ◌∷◌, Bool, true, false, cond, Option, Some, None, refl, sym, ap, ◌∙◌, Vec, Global}
use Rattle.std.specs.Ordering.{eq_by_cmp, is_eq, match_ordering}
use Rattle.std.specs.declared.cmp.Ordering.{Ordering}
use Rattle.std.specs.declared.cmp.Ordering.TheVariants.{Less, Equal, Greater}
use Rattle.std.specs.Cmp.{Equal-is, tied_itself}
use Rattle.std.specs.Cmp.Lexicographic.{nat_list_cmp_total}
use Rattle.std.specs.BTreeMap.{is_at, insert_entry}
use Rattle.std.specs.Map.{KeepsOthers, lookup}
use Rattle.std.specs.FinMap.Entries.{by_order, find-put, put}
use Rattle.std.specs.FinMap.{FinMap, empty, find, get, insert, remove, from_entries, get-insert, get-remove, get-from_entries, same_map}
use Rattle.rk_base.specs.Text.{Text, text_cmp}
use Rattle.rk_base.proofs.WithinLemmas.{exact_texts}
use Rattle.sh_vars.specs.Rows.{named, map_of}

abbrev pub Key : Type 0
Key = Vec ℕ Global

-- how a text compares to a key, and keys to one another
abbrev pub against : Text → Key → Ordering
against name key = text_cmp name key.items

abbrev pub by_items : Key → Key → Ordering
by_items a b = text_cmp a.items b.items

pub told_apart : (a b : Text) → ((a ≡ b) × (eq_by_cmp text_cmp a b ≡ true)) ⊎ (eq_by_cmp text_cmp a b ≡ false)
told_apart a b = elim (eq_by_cmp text_cmp a b) as (λ (t : Bool). eq_by_cmp text_cmp a b ≡ t → ((a ≡ b) × (eq_by_cmp text_cmp a b ≡ true)) ⊎ (eq_by_cmp text_cmp a b ≡ false)) [
  | true ↦ λ e. inl (exact_texts a b ((Equal-is (text_cmp a b)).0 e), e)
  | false ↦ λ e. inr e
] refl

pub same_maps : {V : Type 0} (m n : FinMap text_cmp V) → ((name : Text) → get m name ≡ get n name) → m ≡ n
same_maps = same_map nat_list_cmp_total exact_texts

pub get_found : {V : Type 0} (rows : List (Text × V)) (name : Text) → get (map_of rows) name ≡ find text_cmp name rows
unfolding map_of
get_found rows name = get-from_entries nat_list_cmp_total rows name

lookup_named : {V : Type 0} (rows : List (Key × V)) (name : Text) → find text_cmp name (named rows) ≡ lookup (is_at (against name)) rows
lookup_named [] name = refl
lookup_named (row ∷ rows) name = ap (cond (eq_by_cmp text_cmp name row.0.items) (Some row.1)) (lookup_named rows name)

pub get_named : {V : Type 0} (rows : List (Key × V)) (name : Text) → get (map_of (named rows)) name ≡ lookup (is_at (against name)) rows
get_named rows name = get_found (named rows) name ∙ lookup_named rows name

named_insert : {V : Type 0} (rows : List (Key × V)) (key : Key) (v : V) → named (insert_entry by_items rows key v) ≡ put text_cmp key.items v (named rows)
named_insert {V = V} [] key v = refl
named_insert {V = V} (row ∷ rows) key v = elim (text_cmp key.items row.0.items) as (λ (o : Ordering). named (match_ordering o ((key, v) ∷ row ∷ rows) ((row.0, v) ∷ rows) (row ∷ insert_entry by_items rows key v)) ≡ by_order o ((key.items, v) ∷ named (row ∷ rows)) ((row.0.items, v) ∷ named rows) ((row.0.items, row.1) ∷ put text_cmp key.items v (named rows))) [
  | Less ↦ refl
  | Equal ↦ refl
  | Greater ↦ ap (λ (rest : List (Text × V)). (row.0.items, row.1) ∷ rest) (named_insert rows key v)
]

named_put : {V : Type 0} (rows : List (Key × V)) (key : Key) (v : V) → map_of (named (insert_entry by_items rows key v)) ≡ insert (map_of (named rows)) key.items v
named_put rows key v = same_maps _ _ (λ q.
    get_found (named (insert_entry by_items rows key v)) q
    ∙ ap (find text_cmp q) (named_insert rows key v)
    ∙ find-put text_cmp nat_list_cmp_total q key.items v (named rows)
    ∙ sym (get-insert nat_list_cmp_total (map_of (named rows)) key.items v q ∙ ap (cond (eq_by_cmp text_cmp q key.items) (Some v)) (get_found (named rows) q)))

pub put_is : {V : Type 0} (rows more : List (Key × V)) (key : Key) (v : V) (m : FinMap text_cmp V) (name : Text) → map_of (named rows) ≡ m → key.items ≡ name → more ≡ insert_entry by_items rows key v → map_of (named more) ≡ insert m name v
put_is {V = V} rows more key v m name view text is = ap (λ (r : List (Key × V)). map_of (named r)) is ∙ named_put rows key v ∙ ap (λ (p : FinMap text_cmp V). insert p key.items v) view ∙ ap (λ (t : Text). insert m t v) text

is_test : (q : Text) (x y : Key) → is_at (against q) x ≡ true → is_at (against q) y ≡ is_eq (by_items x y)
is_test q x y e = ap (λ (t : Text). is_eq (text_cmp t y.items)) (exact_texts q x.items ((Equal-is (text_cmp q x.items)).0 e))

apart_at : (name q : Text) → eq_by_cmp text_cmp q name ≡ false → (key : Key) → is_at (against name) key ≡ true → is_at (against q) key ≡ false
apart_at name q f key e = ap (λ (t : Text). is_eq (text_cmp q t)) (sym (exact_texts name key.items ((Equal-is (text_cmp name key.items)).0 e))) ∙ f

-- where a name is gone, and each other query finds what it found
named_take : {V : Type 0} (rows more : List (Key × V)) (name : Text) → lookup (is_at (against name)) more ≡ None → KeepsOthers (eq_by_cmp by_items) (is_at (against name)) rows more → map_of (named more) ≡ remove (map_of (named rows)) name
unfolding KeepsOthers
named_take rows more name gone keeps = same_maps _ _ (λ q. elim (told_apart q name) [
  | inl same ↦ get_named more q ∙ ap (λ (t : Text). lookup (is_at (against t)) more) same.0 ∙ gone
      ∙ sym (get-remove nat_list_cmp_total (map_of (named rows)) name q ∙ ap (λ (b : Bool). cond b None (get (map_of (named rows)) q)) same.1)
  | inr other ↦ get_named more q ∙ keeps (is_at (against q)) (is_test q) (apart_at name q other) ∙ sym (get_named rows q)
      ∙ sym (get-remove nat_list_cmp_total (map_of (named rows)) name q ∙ ap (λ (b : Bool). cond b None (get (map_of (named rows)) q)) other)
])

pub take_is : {V : Type 0} (rows more : List (Key × V)) (name : Text) (m : FinMap text_cmp V) → map_of (named rows) ≡ m → lookup (is_at (against name)) more ≡ None → KeepsOthers (eq_by_cmp by_items) (is_at (against name)) rows more → map_of (named more) ≡ remove m name
take_is {V = V} rows more name m view gone keeps = named_take rows more name gone keeps ∙ ap (λ (p : FinMap text_cmp V). remove p name) view

pub new_is : {V : Type 0} (rows : List (Key × V)) → rows ≡ [] → map_of (named rows) ≡ empty
unfolding map_of
new_is {V = V} rows none = ap (λ (r : List (Key × V)). from_entries (named r)) none

-- A map where one name is put.

pub at_name : {V : Type 0} (m : FinMap text_cmp V) (x : Text) (v : V) → get (insert m x v) x ≡ Some v
at_name m x v = get-insert nat_list_cmp_total m x v x ∙ ap (λ (b : Bool). cond b (Some v) (get m x)) (ap is_eq (tied_itself nat_list_cmp_total x))

at_apart : {V : Type 0} (m : FinMap text_cmp V) (x : Text) (v : V) (y : Text) → eq_by_cmp text_cmp y x ≡ false → get (insert m x v) y ≡ get m y
at_apart m x v y apart = get-insert nat_list_cmp_total m x v y ∙ ap (λ (b : Bool). cond b (Some v) (get m y)) apart

-- what is read at a name is the same where a name is put, unless it is that name
pub at_each : {V W : Type 0} (m : FinMap text_cmp V) (x : Text) (v : V) (y : Text) (f : Option V → W) → f (Some v) ≡ f (get m x) → f (get (insert m x v) y) ≡ f (get m y)
at_each m x v y f is = elim (told_apart y x) [
  | inl same ↦ ap (λ (t : Text). f (get (insert m x v) t)) same.0 ∙ ap f (at_name m x v) ∙ is ∙ sym (ap (λ (t : Text). f (get m t)) same.0)
  | inr apart ↦ ap f (at_apart m x v y apart)
]

pub at_other : {V : Type 0} (m : FinMap text_cmp V) (x : Text) (v : V) (y : Text) → (y ≡ x → ⊥) → get (insert m x v) y ≡ get m y
at_other m x v y other = elim (told_apart y x) [
  | inl same ↦ absurd (other same.0)
  | inr apart ↦ at_apart m x v y apart
]
