-- What the first byte of a match may be.
use Rattle.std.proofs.Common.{◌≡◌, ℕ, zero, suc, ◌+◌, ◌<◌, ◌≤◌, ◌⊎◌, inl, inr, List, [], ◌∷◌, ◌++◌, Bool, true, false, refl, sym, ap, ◌∙◌, arith, subst, length, drop, slice_get, map, get_or, zero-add}
use Rattle.std.specs.Prelude.{Some, ◌==◌, ◌&&◌, ◌||◌}
use Rattle.std.specs.List.{range_with_len}
use Rattle.std.proofs.lemmas.Option.{slice_get_within, slice_get-get_or, get_or_from_slice_get}
use Rattle.std.proofs.lemmas.Bool.{cases_lt}
use Rattle.std.proofs.lemmas.List.FromFn.{map-range_with_len_more, get_or-map-range_with_len, length-map-range_with_len}
use Rattle.rk_base.specs.Text.{Text}
use Rattle.ut_bre.specs.declared.tree.Item.{Item}
use Rattle.ut_bre.specs.declared.tree.Times.{Times}
use Rattle.ut_bre.specs.Trees.{meets, ItemTree, one, group, ItemsTree, no_items, item_and, tree_of, trees_of, Expression}
use Rattle.ut_bre.specs.Matching.{MatchesOne, Turns, Repeated, MatchesItem, MatchesItems, Matches}
use Rattle.ut_bre.specs.Running.{NoneFrom}
use Rattle.ut_bre.specs.Starting.{starts_item, starts, IsTold, IsOut, AreOut}
use Rattle.ut_bre.proofs.ItemLemmas.{drop_item}
use Rattle.ut_bre.proofs.Standing.{Rel}

-- what takes nothing, where the byte behind may be any that may come behind, or begins with a byte that is told
abbrev Opened : Text → (Bool → ℕ → Bool) → ℕ → ℕ → Type 0
Opened line F i j = ((i ≡ j) × ((b : ℕ) → F true b ≡ true)) ⊎ ((b : ℕ) × (slice_get line i ≡ Some b) × ((behind : Bool) → F behind b ≡ true))

or-right : (a b : Bool) → b ≡ true → (a || b) ≡ true
or-right true b e = refl
or-right false b e = e

or-left : (n : ℕ) (b : Bool) → n ≡ 0 → (((n == 0) && true) || b) ≡ true
or-left n b e = subst (λ m. (((m == 0) && true) || b) ≡ true) (sym e) refl

moved : (line : Text) (F : Bool → ℕ → Bool) (i k j : ℕ) → i ≡ k → Opened line F k j → Opened line F i j
moved line F i k j e o = subst (λ x. Opened line F x j) (sym e) o

ends : (line : Text) (F : Bool → ℕ → Bool) (i k j : ℕ) → k ≡ j → Opened line F i k → Opened line F i j
ends line F i k j e o = subst (λ x. Opened line F i x) e o

both_open : (line : Text) (F : Bool → ℕ → Bool) (i k j : ℕ) → Opened line F i k → Opened line F k j → Opened line F i j
both_open line F i k j p o =
    elim p as (λ w. Opened line F i j) [
      | inl (e, all) ↦ moved line F i k j e o
      | inr x ↦ inr x
    ]

-- so many turns take nothing, or begin as one of them
abbrev Turned : Text → (Bool → ℕ → Bool) → ℕ → ℕ → ℕ → Type 0
Turned line F n i j = ((n ≡ 0) × (i ≡ j)) ⊎ Opened line F i j

turns-open : (line : Text) (F : Bool → ℕ → Bool) (R : Rel) → ((i j : ℕ) → R i j → Opened line F i j) → (n i j : ℕ) → Turns R n i j → Turned line F n i j
turns-open line F R begun zero i j e = inl (refl, e)
turns-open line F R begun (suc n) i j (k, t, r) =
    inr (elim (turns-open line F R begun n i k t) as (λ w. Opened line F i j) [
      | inl (z, e) ↦ moved line F i k j e (begun k j r)
      | inr o ↦ both_open line F i k j o (begun k j r)
    ])

abbrev repeated : Times → (Bool → ℕ → Bool) → Bool → ℕ → Bool
repeated times F behind b = ((times.least == 0) && behind) || F behind b

weaker : (line : Text) (times : Times) (F : Bool → ℕ → Bool) (i j : ℕ) → Opened line F i j → Opened line (repeated times F) i j
weaker line times F i j o =
    elim o as (λ w. Opened line (repeated times F) i j) [
      | inl (e, all) ↦ inl (e, λ b. or-right ((times.least == 0) && true) (F true b) (all b))
      | inr (b, at, all) ↦ inr (b, at, λ behind. or-right ((times.least == 0) && behind) (F behind b) (all behind))
    ]

none_or_more : (line : Text) (times : Times) (F : Bool → ℕ → Bool) (n i k j : ℕ) → Turned line F times.least i k → Turned line F n k j → Opened line (repeated times F) i j
none_or_more line times F n i k j p q =
    elim p as (λ w. Opened line (repeated times F) i j) [
      | inl (z, e) ↦ elim q as (λ w. Opened line (repeated times F) i j) [
        | inl (y, f) ↦ inl (e ∙ f, λ b. or-left times.least (F true b) z)
        | inr o ↦ weaker line times F i j (moved line F i k j e o)
      ]
      | inr o ↦ elim q as (λ w. Opened line (repeated times F) i j) [
        | inl (y, f) ↦ weaker line times F i j (ends line F i k j f o)
        | inr u ↦ weaker line times F i j (both_open line F i k j o u)
      ]
    ]

repeated-open : (line : Text) (F : Bool → ℕ → Bool) (R : Rel) (times : Times) → ((i j : ℕ) → R i j → Opened line F i j) → (i j : ℕ) → Repeated R times i j → Opened line (repeated times F) i j
repeated-open line F R times begun i j (k, t, (m, w, u)) =
    none_or_more line times F m i k j (turns-open line F R begun times.least i k t) (turns-open line F R begun m k j u)

chain-open : (line : Text) (F G : Bool → ℕ → Bool) (i k j : ℕ) → Opened line F i k → Opened line G k j → Opened line (λ behind b. F (G behind b) b) i j
chain-open line F G i k j p q =
    elim p as (λ w. Opened line (λ behind b. F (G behind b) b) i j) [
      | inr (b, at, all) ↦ inr (b, at, λ behind. all (G behind b))
      | inl (e, all) ↦ elim q as (λ w. Opened line (λ behind b. F (G behind b) b) i j) [
        | inl (f, more) ↦ inl (e ∙ f, λ b. ap (λ z. F z b) (more b) ∙ all b)
        | inr (b, at, more) ↦ inr (b, ap (slice_get line) e ∙ at, λ behind. ap (λ z. F z b) (more behind) ∙ all b)
      ]
    ]

mutual
  item-open : (line : Text) (x : ItemTree) (i j : ℕ) → MatchesItem line x i j → Opened line (starts_item x) i j
  item-open line (one times what) i j m = repeated-open line (λ behind b. meets what b) (MatchesOne line what) times (λ i j (b, at, e, z). inr (b, at, λ behind. e)) i j m
  item-open line (group times number body) i j m = repeated-open line (starts body) (MatchesItems line body) times (λ i j x. items-open line body i j x) i j m

  items-open : (line : Text) (xs : ItemsTree) (i j : ℕ) → MatchesItems line xs i j → Opened line (starts xs) i j
  items-open line no_items i j e = inl (e, λ b. refl)
  items-open line (item_and x xs) i j (k, m, n) = chain-open line (starts_item x) (starts xs) i k j (item-open line x i k m) (items-open line xs k j n)

-- no match begins with a byte with which none may
pub none-here : (e : Expression) (line : Text) (b i j : ℕ) → slice_get line i ≡ Some b → starts e.items true b ≡ false → Matches e line i j → ⊥
none-here e line b i j at out m =
    elim (items-open line e.items i j m.items) as (λ w. ⊥) [
      | inl (s, all) ↦ (let t : starts e.items true b ≡ true = all b in absurd (cc))
      | inr (c, here, all) ↦ (let same : c ≡ b = cc in let t : starts e.items true b ≡ true = subst (λ x. starts e.items true x ≡ true) same (all true) in absurd (cc))
    ]

-- nor where the table leaves out the byte
pub none-there : (e : Expression) (items : List Item) (table : List Bool) (line : Text) (i j : ℕ) → e.items ≡ trees_of items → IsTold items table → i < length line → IsOut table line i → Matches e line i j → ⊥
none-there e items table line i j same told within out m =
    let b = get_or line i 0 in
    let at : slice_get line i ≡ Some b = slice_get-get_or line i 0 within in
    let f : slice_get table b ≡ Some false = out b at in
    let t : slice_get table b ≡ Some (starts (trees_of items) true b) = told b (slice_get_within table b false f) in
    let s : starts (trees_of items) true b ≡ false = cc in
    none-here e line b i j at (ap (λ xs. starts xs true b) same ∙ s) m

-- items are looked at from the last one on
pub starts_more : (items : List Item) (at : ℕ) (item : Item) (b : ℕ) (behind on more : Bool) → at < length items → item ≡ get_or items at item → on ≡ starts (trees_of (drop (at + 1) items)) behind b → more ≡ starts_item (tree_of item) on b → more ≡ starts (trees_of (drop at items)) behind b
starts_more items at item b behind on more h e is it =
    it ∙ (ap (λ z. starts_item (tree_of item) z b) is ∙ ap (λ xs. starts (trees_of xs) behind b) (sym (drop_item items at item h e)))

-- one entry more of a table
pub table_step : (f : ℕ → Bool) (n b : ℕ) (v : Bool) (t t' : List Bool) → v ≡ f b → t' ≡ t ++ v ∷ [] → t ≡ map f (range_with_len 0 n) → b ≡ n → t' ≡ map f (range_with_len 0 (n + 1))
table_step f n b v t t' k g h e =
    g ∙ (ap (λ z. z ++ v ∷ []) h ∙ (ap (λ z. map f (range_with_len 0 n) ++ z ∷ []) (k ∙ ap f e) ∙ sym (map-range_with_len_more f 0 n n (zero-add n))))

pub table_length : (f : ℕ → Bool) (t : List Bool) (n : ℕ) → n ≡ 256 → t ≡ map f (range_with_len 0 n) → length t ≡ 256
table_length f t n k e = ap length e ∙ (length-map-range_with_len f 0 n ∙ k)

pub table_told : (items : List Item) (t : List Bool) (n : ℕ) → t ≡ map (λ b. starts (trees_of items) true b) (range_with_len 0 n) → IsTold items t
table_told items t n e b lt =
    let f : ℕ → Bool = λ b. starts (trees_of items) true b in
    let size : length t ≡ n = ap length e ∙ length-map-range_with_len f 0 n in
    let v : get_or t b false ≡ f b = ap (λ z. get_or z b false) e ∙ get_or-map-range_with_len f 0 n b b false (omega arith) (zero-add b) in
    slice_get-get_or t b false lt ∙ ap Some v

pub none-until : (e : Expression) (items : List Item) (table : List Bool) (line : Text) (at to : ℕ) → e.items ≡ trees_of items → IsTold items table → to ≤ length line → AreOut table line at to → NoneFrom e line at to
none-until e items table line at to same told within out i j ai it m = none-there e items table line i j same told (omega arith) (out i ai it) m

-- with a first `^` no match begins behind the line's first byte
pub none-behind : (e : Expression) (line : Text) (at : ℕ) → e.at_start ≡ true → 0 < at → (i j : ℕ) → at ≤ i → Matches e line i j → ⊥
none-behind e line at a h i j ai m = let z : i ≡ 0 = m.at_start a in absurd (omega arith)

pub none-first : (e : Expression) (items : List Item) (table : List Bool) (line : Text) (at : ℕ) → e.at_start ≡ true → e.items ≡ trees_of items → IsTold items table → 0 < length line → IsOut table line 0 → (i j : ℕ) → at ≤ i → Matches e line i j → ⊥
none-first e items table line at a same told within out i j ai m =
    none-there e items table line 0 j same told within out (let z : i ≡ 0 = m.at_start a in subst (λ x. Matches e line x j) z m)

-- the byte at a place is looked up
out_at : (table : List Bool) (line : Text) (at : ℕ) (v : Bool) → slice_get table (get_or line at 0) ≡ Some v → v ≡ false → IsOut table line at
out_at table line at v g f b here =
    let same : get_or line at 0 ≡ b = get_or_from_slice_get line at b 0 here in
    ap (slice_get table) (sym same) ∙ (g ∙ ap Some f)

pub out_more : (table : List Bool) (line : Text) (from at : ℕ) (v : Bool) → slice_get table (get_or line at 0) ≡ Some v → v ≡ false → AreOut table line from at → AreOut table line from (at + 1)
out_more table line from at v g f out k fk ka =
    elim (cases_lt k at) as (λ w. IsOut table line k) [
      | inl lt ↦ out k fk lt
      | inr ge ↦ (let same : k ≡ at = omega arith in subst (IsOut table line) (sym same) (out_at table line at v g f))
    ]
