-- A byte that each match holds.
use Rattle.std.proofs.Common.{◌≡◌, ℕ, zero, suc, ◌+◌, ◌<◌, ◌≤◌, ◌⊎◌, inl, inr, List, Bool, true, false, length, drop, get_or, refl, sym, ap, ◌∙◌, arith}
use Rattle.std.specs.Prelude.{Option, Some, None, IfSome, ◌==◌, if◌then◌else◌}
use Rattle.rk_base.specs.Text.{Text}
use Rattle.ut_bre.specs.declared.set.One.{One}
use Rattle.ut_bre.specs.declared.set.One.TheVariants.{Byte, Letter, Any, Bracket}
use Rattle.ut_bre.specs.declared.tree.Item.{Item}
use Rattle.ut_bre.specs.declared.tree.Times.{Times}
use Rattle.ut_bre.specs.Trees.{ItemTree, one, group, ItemsTree, no_items, item_and, tree_of, trees_of, Expression}
use Rattle.ut_bre.specs.Matching.{MatchesOne, Turns, Repeated, MatchesItem, MatchesItems}
use Rattle.ut_bre.specs.Running.{byte_of}
use Rattle.ut_bre.specs.Needing.{later, needed_item, needed_from, needed, StandsIn, IsHeld, IsNeeded}
use Rattle.ut_bre.proofs.Existing.{is-span_found}
use Rattle.ut_bre.proofs.FirstLemmas.{byte-is}
use Rattle.ut_bre.proofs.ItemLemmas.{drop_item}
use Rattle.ut_bre.proofs.Laws.{sound_one, sound_item, sound_items}
use Rattle.ut_bre.proofs.Standing.{Rel}

wider : (line : Text) (b i k l j : ℕ) → i ≤ k → l ≤ j → StandsIn line b k l → StandsIn line b i j
wider line b i k l j h g (m, low, high, at) = (m, (let a : i ≤ m = omega arith in a), (let a : m < j = omega arith in a), at)

pub turns-ordered : (R : Rel) → ((i j : ℕ) → R i j → i ≤ j) → (n i j : ℕ) → Turns R n i j → i ≤ j
turns-ordered R ordered zero i j e = omega arith
turns-ordered R ordered (suc n) i j (k, t, r) =
    let a : i ≤ k = turns-ordered R ordered n i k t in
    let b : k ≤ j = ordered k j r in
    omega arith

-- what each turn holds some turns hold
turns-hold : (line : Text) (b : ℕ) (R : Rel) → ((i j : ℕ) → R i j → i ≤ j) → ((i j : ℕ) → R i j → StandsIn line b i j) → (n i j : ℕ) → (n == 0) ≡ false → Turns R n i j → StandsIn line b i j
turns-hold line b R ordered holds zero i j e t = absurd (cc)
turns-hold line b R ordered holds (suc n) i j e (k, t, r) =
    let a : i ≤ k = turns-ordered R ordered n i k t in
    wider line b i k j j a (omega arith) (holds k j r)

repeated-hold : (line : Text) (b : ℕ) (R : Rel) → ((i j : ℕ) → R i j → i ≤ j) → ((i j : ℕ) → R i j → StandsIn line b i j) → (times : Times) (i j : ℕ) → (times.least == 0) ≡ false → Repeated R times i j → StandsIn line b i j
repeated-hold line b R ordered holds times i j e (k, t, (n, w, u)) =
    let a : k ≤ j = turns-ordered R ordered n k j u in
    wider line b i i k j (omega arith) a (turns-hold line b R ordered holds times.least i k e t)

own-holds : (line : Text) (own b : ℕ) → own ≡ b → (i j : ℕ) → MatchesOne line (Byte own) i j → StandsIn line b i j
own-holds line own b e i j m =
    let next : j ≡ i + 1 = m.3 in
    (i, (let a : i ≤ i = omega arith in a), (let a : i < j = omega arith in a), byte-is line own b i j e m)

byte-holds : (line : Text) (own b : ℕ) (times : Times) (z : Bool) (i j : ℕ) → (times.least == 0) ≡ z → (if z then None else Some own) ≡ Some b → Repeated (MatchesOne line (Byte own)) times i j → StandsIn line b i j
byte-holds line own b times true i j e f m = absurd (cc)
byte-holds line own b times false i j e f m =
    repeated-hold line b (MatchesOne line (Byte own)) (sound_one line (Byte own)).ordered (own-holds line own b (cc)) times i j e m

one-holds : (line : Text) (times : Times) (what : One) (b i j : ℕ) → byte_of times.least what ≡ Some b → Repeated (MatchesOne line what) times i j → StandsIn line b i j
one-holds line times (Byte own) b i j e m = byte-holds line own b times (times.least == 0) i j refl e m
one-holds line times (Letter own) b i j e m = absurd (cc)
one-holds line times Any b i j e m = absurd (cc)
one-holds line times (Bracket bracket) b i j e m = absurd (cc)

group-holds : (line : Text) (body : ItemsTree) (b : ℕ) (times : Times) (z : Bool) (i j : ℕ) → (times.least == 0) ≡ z → (if z then None else needed body) ≡ Some b → (needed body ≡ Some b → (i j : ℕ) → MatchesItems line body i j → StandsIn line b i j) → Repeated (MatchesItems line body) times i j → StandsIn line b i j
group-holds line body b times true i j e f holds m = absurd (cc)
group-holds line body b times false i j e f holds m = repeated-hold line b (MatchesItems line body) (sound_items line body).ordered (holds f) times i j e m

either-is : (found more : Option ℕ) (b : ℕ) → later found more ≡ Some b → (found ≡ Some b) ⊎ (more ≡ Some b)
either-is found None b e = inl e
either-is found (Some c) b e = inr e

from-none : (A : Type 0) (b : ℕ) → (let none : Option ℕ = None in none ≡ Some b) ⊎ A → A
from-none A b (inl e) = absurd (cc)
from-none A b (inr a) = a

mutual
  item-holds : (line : Text) (x : ItemTree) (b i j : ℕ) → needed_item x ≡ Some b → MatchesItem line x i j → StandsIn line b i j
  item-holds line (one times what) b i j e m = one-holds line times what b i j e m
  item-holds line (group times number body) b i j e m =
      group-holds line body b times (times.least == 0) i j refl e (λ f k l x. from-none (StandsIn line b k l) b (items-hold line body None b k l f x)) m

  items-hold : (line : Text) (xs : ItemsTree) (found : Option ℕ) (b i j : ℕ) → needed_from found xs ≡ Some b → MatchesItems line xs i j → (found ≡ Some b) ⊎ StandsIn line b i j
  items-hold line no_items found b i j e m = inl e
  items-hold line (item_and x xs) found b i j e (k, m, n) =
      let low : i ≤ k = (sound_item line x).ordered i k m in
      let high : k ≤ j = (sound_items line xs).ordered k j n in
      elim (items-hold line xs (later found (needed_item x)) b k j e n) as (λ w. (found ≡ Some b) ⊎ StandsIn line b i j) [
        | inr h ↦ inr (wider line b i k j j low (omega arith) h)
        | inl f ↦ elim (either-is found (needed_item x) b f) as (λ w. (found ≡ Some b) ⊎ StandsIn line b i j) [
          | inl g ↦ inl g
          | inr g ↦ inr (wider line b i i k j (omega arith) high (item-holds line x b i k g m))
        ]
      ]

pub is-held : (e : Expression) (r : Option ℕ) → r ≡ needed e.items → IfSome r (IsHeld e)
is-held e None h = tt
is-held e (Some b) h = λ line i j m. from-none (StandsIn line b i j) b (items-hold line e.items None b i j (sym h) m.items)

pub is-needed : (e : Expression) (r : Option ℕ) → IfSome r (IsHeld e) → IfSome r (IsNeeded e)
is-needed e None h = tt
is-needed e (Some b) h = λ line from lacks. sym (is-span_found e line from None (λ i j fi m. (let at = h line i j m in lacks at.0 at.3)))

-- one item more
pub needed_more : (items : List Item) (i : ℕ) (item : Item) (found more next whole : Option ℕ) → i < length items → item ≡ get_or items i item → needed_from found (trees_of (drop i items)) ≡ whole → more ≡ needed_item (tree_of item) → next ≡ later found more → needed_from next (trees_of (drop (i + 1) items)) ≡ whole
needed_more items i item found more next whole h e all m n =
    ap (λ z. needed_from z (trees_of (drop (i + 1) items))) (n ∙ ap (later found) m) ∙ (ap (λ xs. needed_from found (trees_of xs)) (sym (drop_item items i item h e)) ∙ all)
