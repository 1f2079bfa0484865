-- What matches the same in so many bytes.
use Rattle.std.proofs.Common.{◌≡◌, ℕ, zero, suc, ◌+◌, ◌-◌, ◌*◌, ◌<◌, ◌≤◌, inl, inr, List, [], ◌∷◌, ◌++◌, Bool, true, false, refl, sym, ap, ◌∙◌, arith, subst, length, take, drop, get_or, add-one}
use Rattle.std.specs.Prelude.{Option, Some, None, ◌==◌, ◌&&◌}
use Rattle.std.proofs.Math.Seq.{take-suc}
use Rattle.std.proofs.lemmas.Bool.{cases_lt, eqb-true}
use Rattle.std.proofs.lemmas.List.{drop_all}
use Rattle.rk_base.specs.Text.{Text}
use Rattle.ut_bre.specs.declared.set.One.{One}
use Rattle.ut_bre.specs.declared.tree.Times.{Times}
use Rattle.ut_bre.specs.declared.tree.Item.{Item}
use Rattle.ut_bre.specs.declared.group.Span.{Span}
use Rattle.ut_bre.specs.Trees.{ItemTree, one, group, ItemsTree, no_items, item_and, tree_of, trees_of, times_of, Expression}
use Rattle.ut_bre.specs.Times.{is_zero, takes_none}
use Rattle.ut_bre.specs.Matching.{MatchesOne, Turns, IsWithin, Repeated, MatchesItem, MatchesItems, Matches, Finds}
use Rattle.ut_bre.specs.Mirroring.{put_last}
use Rattle.ut_bre.specs.Picking.{MatchesTurn}
use Rattle.ut_bre.specs.Reading.{with_times}
use Rattle.ut_bre.specs.Fitting.{turn_size, least_size, capped, AreAlike, cut, IsJoined, IsFittedPart, IsFitted, AreFitted, with_fitted, IsFit}
use Rattle.ut_bre.proofs.ItemLemmas.{drop_item}
use Rattle.ut_bre.proofs.Standing.{Rel, After}
use Rattle.ut_bre.proofs.Laws.{sound_item, sound_items}
use Rattle.ut_bre.proofs.Mirrored.{last-to, last-from}
use Rattle.ut_bre.proofs.NeededLemmas.{turns-ordered}
use Rattle.ut_bre.proofs.Turning.{Ordered, turn-ordered, item-turns, turns-item}
use Rattle.ut_bre.proofs.Counted.{Takes, IsIdle, turns-take, idle-turns}
use Rattle.ut_bre.proofs.Cut.{cut-alike}
use Rattle.ut_bre.proofs.Joined.{joined-to, joined-from}

-- Least sizes.

repeated-take : (R : Rel) (size : ℕ) (times : Times) → Takes R size → Takes (Repeated R times) (times.least * size)
repeated-take R size times takes i j (k, t, (n, w, u)) =
    let a : i + times.least * size ≤ k = turns-take R size takes times.least i k t in
    let b : k + n * size ≤ j = turns-take R size takes n k j u in
    omega arith

mutual
  pub turn-takes : (line : Text) (x : ItemTree) → Takes (MatchesTurn line x) (turn_size x)
  turn-takes line (one times what) i j (b, at, m, e) = omega arith
  turn-takes line (group times number body) i j m = items-take line body i j m

  pub items-take : (line : Text) (xs : ItemsTree) → Takes (MatchesItems line xs) (least_size xs)
  items-take line no_items i j m = omega arith
  items-take line (item_and x xs) i j (k, a, b) =
      let low : i + (times_of x).least * turn_size x ≤ k = repeated-take (MatchesTurn line x) (turn_size x) (times_of x) (turn-takes line x) i k (item-turns line x i k a) in
      let high : k + least_size xs ≤ j = items-take line xs k j b in
      omega arith

-- sizes that are counted item by item

times_capped : (n m : ℕ) → capped (n * capped m) ≡ capped (n * m)
times_capped zero m = let a : 0 * capped m ≡ 0 * m = omega arith in ap capped a
times_capped (suc n) m =
    elim (cases_lt m 18446744073709551615) as (λ w. capped (suc n * capped m) ≡ capped (suc n * m)) [
      | inl lt ↦ (let a : capped m ≡ m = omega arith in ap (λ k. capped (suc n * k)) a)
      | inr ge ↦ (
          let a : capped m ≡ 18446744073709551615 = omega arith in
          let b : m ≤ suc n * m = omega arith in
          let c : capped m ≤ suc n * capped m = omega arith in
          omega arith
          )
    ]

pub size_more : (items : List Item) (i : ℕ) (item : Item) (sum more next size : ℕ) (times : Times) → i < length items → item ≡ get_or items i item → times ≡ times_of (tree_of item) → size ≡ capped (turn_size (tree_of item)) → more ≡ capped (times.least * size) → next ≡ capped (sum + more) → capped (sum + least_size (trees_of (drop i items))) ≡ capped (least_size (trees_of items)) → capped (next + least_size (trees_of (drop (i + 1) items))) ≡ capped (least_size (trees_of items))
size_more items i item sum more next size times h e t s m n all =
    let x : ItemTree = tree_of item in
    let rest : ℕ = least_size (trees_of (drop (i + 1) items)) in
    let a : least_size (trees_of (drop i items)) ≡ (times_of x).least * turn_size x + rest = ap (λ xs. least_size (trees_of xs)) (drop_item items i item h e) in
    let b : capped (times.least * size) ≡ capped ((times_of x).least * turn_size x) = ap (λ (k : Times). capped (k.least * size)) t ∙ (ap (λ k. capped ((times_of x).least * k)) s ∙ times_capped (times_of x).least (turn_size x)) in
    omega arith

pub size_all : (items : List Item) (i sum : ℕ) → length items ≤ i → sum ≤ 18446744073709551615 → capped (sum + least_size (trees_of (drop i items))) ≡ capped (least_size (trees_of items)) → sum ≡ capped (least_size (trees_of items))
size_all items i sum h w all =
    let a : least_size (trees_of (drop i items)) ≡ 0 = ap (λ xs. least_size (trees_of xs)) (drop_all i items h) in
    omega arith

-- where that is nothing, they may be empty at each place

within-zero : (most : Option ℕ) → IsWithin most 0
within-zero None = tt
within-zero (Some more) = let h : 0 ≤ more = omega arith in h

none-needed : (R : Rel) (times : Times) → times.least ≡ 0 → IsIdle (Repeated R times)
none-needed R times e i = (i, subst (λ n. Turns R n i i) (sym e) refl, (0, within-zero times.beyond, refl))

idle-repeated : (R : Rel) (times : Times) → IsIdle R → IsIdle (Repeated R times)
idle-repeated R times idle i = (i, idle-turns R idle times.least i, (0, within-zero times.beyond, refl))

product-zero : (n m : ℕ) → n * m ≡ 0 → (n ≡ 0 → ⊥) → m ≡ 0
product-zero n zero e h = refl
product-zero zero (suc m) e h = absurd (h refl)
product-zero (suc n) (suc m) e h = absurd (omega arith)

idle-by : (R : Rel) (times : Times) (size n : ℕ) → times.least ≡ n → times.least * size ≡ 0 → (size ≡ 0 → IsIdle R) → IsIdle (Repeated R times)
idle-by R times size zero z a idle = none-needed R times z
idle-by R times size (suc n) z a idle = idle-repeated R times (idle (product-zero times.least size a (λ y. absurd (omega arith))))

mutual
  pub turn-idle : (line : Text) (x : ItemTree) → turn_size x ≡ 0 → IsIdle (MatchesTurn line x)
  turn-idle line (one times what) e i = absurd (omega arith)
  turn-idle line (group times number body) e i = items-idle line body e i

  pub items-idle : (line : Text) (xs : ItemsTree) → least_size xs ≡ 0 → IsIdle (MatchesItems line xs)
  items-idle line no_items e i = refl
  items-idle line (item_and x xs) e i =
      let a : (times_of x).least * turn_size x ≡ 0 = omega arith in
      let b : least_size xs ≡ 0 = omega arith in
      (i, turns-item line x i i (idle-by (MatchesTurn line x) (times_of x) (turn_size x) (times_of x).least refl a (λ z. turn-idle line x z) i), items-idle line xs b i)

-- What is alike.

pub alike-turns : (R S : Rel) (room : ℕ) → Ordered R → ((i j : ℕ) → j ≤ i + room → R i j → S i j) → (n i j : ℕ) → j ≤ i + room → Turns R n i j → Turns S n i j
alike-turns R S room ordered f zero i j h t = t
alike-turns R S room ordered f (suc n) i j h (k, t, r) =
    let a : i ≤ k = turns-ordered R ordered n i k t in
    let b : k ≤ j = ordered k j r in
    let p : k ≤ i + room = omega arith in
    let q : j ≤ k + room = omega arith in
    (k, alike-turns R S room ordered f n i k p t, f k j q r)

alike-half : (R S : Rel) (room : ℕ) → Ordered R → ((i j : ℕ) → j ≤ i + room → R i j → S i j) → (times : Times) (i j : ℕ) → j ≤ i + room → Repeated R times i j → Repeated S times i j
alike-half R S room ordered f times i j h (k, t, (n, w, u)) =
    let a : i ≤ k = turns-ordered R ordered times.least i k t in
    let b : k ≤ j = turns-ordered R ordered n k j u in
    let p : k ≤ i + room = omega arith in
    let q : j ≤ k + room = omega arith in
    (k, alike-turns R S room ordered f times.least i k p t, (n, w, alike-turns R S room ordered f n k j q u))

pub alike-repeated : (R S : Rel) (room : ℕ) → Ordered R → Ordered S → AreAlike room R S → (times : Times) → AreAlike room (Repeated R times) (Repeated S times)
alike-repeated R S room o o' a times i j h =
    (alike-half R S room o (λ k l g r. (a k l g).0 r) times i j h, alike-half S R room o' (λ k l g r. (a k l g).1 r) times i j h)

pub alike-trans : (R S T : Rel) (room : ℕ) → AreAlike room R S → AreAlike room S T → AreAlike room R T
alike-trans R S T room a b i j h = (λ r. (b i j h).0 ((a i j h).0 r), λ t. (a i j h).1 ((b i j h).1 t))

alike-chain : (R S R' S' : Rel) (room : ℕ) → Ordered R → Ordered S → Ordered R' → Ordered S' → AreAlike room R R' → AreAlike room S S' → AreAlike room (After R S) (After R' S')
alike-chain R S R' S' room o p o' p' a b i j h = (to, from)
  where
    to : After R S i j → After R' S' i j
    to (k, r, s) = (let x : i ≤ k = o i k r in let y : k ≤ j = p k j s in (k, (a i k (omega arith)).0 r, (b k j (omega arith)).0 s))

    from : After R' S' i j → After R S i j
    from (k, r, s) = (let x : i ≤ k = o' i k r in let y : k ≤ j = p' k j s in (k, (a i k (omega arith)).1 r, (b k j (omega arith)).1 s))

-- One more item.

alike-last : (line : Text) (room : ℕ) (xs ys : ItemsTree) (x y : ItemTree) → AreAlike room (MatchesItems line xs) (MatchesItems line ys) → AreAlike room (MatchesItem line x) (MatchesItem line y) → AreAlike room (MatchesItems line (put_last xs x)) (MatchesItems line (put_last ys y))
alike-last line room xs ys x y a b i j h =
    let c = alike-chain (MatchesItems line xs) (MatchesItem line x) (MatchesItems line ys) (MatchesItem line y) room (sound_items line xs).ordered (sound_item line x).ordered (sound_items line ys).ordered (sound_item line y).ordered a b i j h in
    (λ m. last-to line ys y i j (c.0 (last-from line xs x i j m)), λ m. last-to line xs x i j (c.1 (last-from line ys y i j m)))

alike-dropped : (line : Text) (room : ℕ) (xs ys : ItemsTree) (x : ItemTree) → AreAlike room (MatchesItems line xs) (MatchesItems line ys) → AreAlike room (MatchesItem line x) (λ i j. i ≡ j) → AreAlike room (MatchesItems line (put_last xs x)) (MatchesItems line ys)
alike-dropped line room xs ys x a b i j h =
    let c = alike-chain (MatchesItems line xs) (MatchesItem line x) (MatchesItems line ys) (λ k l. k ≡ l) room (sound_items line xs).ordered (sound_item line x).ordered (sound_items line ys).ordered (λ k l e. (let g : k ≤ l = omega arith in g)) a b i j h in
    (λ m. (let d = c.0 (last-from line xs x i j m) in subst (MatchesItems line ys i) d.2 d.1), λ m. last-to line xs x i j (c.1 (j, m, refl)))

pub items-last : (xs : List Item) (x : Item) → trees_of (xs ++ x ∷ []) ≡ put_last (trees_of xs) (tree_of x)
items-last [] x = refl
items-last (y ∷ ys) x = ap (item_and (tree_of y)) (items-last ys x)

pub take_item : (items : List Item) (i : ℕ) (item : Item) → i < length items → item ≡ get_or items i item → trees_of (take (i + 1) items) ≡ put_last (trees_of (take i items)) (tree_of item)
take_item items i item h e =
    ap (λ n. trees_of (take n items)) (add-one i) ∙ (ap trees_of (take-suc items i item h) ∙ (items-last (take i items) (get_or items i item) ∙ ap (λ x. put_last (trees_of (take i items)) (tree_of x)) (sym e)))

as-item : (line : Text) (x : ItemTree) (S : Rel) (room : ℕ) → AreAlike room (Repeated (MatchesTurn line x) (times_of x)) S → AreAlike room (MatchesItem line x) S
as-item line x S room a i j h = (λ m. (a i j h).0 (item-turns line x i j m), λ s. turns-item line x i j ((a i j h).1 s))

fitted-last : (room : ℕ) (xs ys : ItemsTree) (x : ItemTree) (fitted : Option Item) → AreFitted room xs ys → IsFitted room x (times_of x) fitted → AreFitted room (put_last xs x) (with_fitted ys fitted)
fitted-last room xs ys x None a f = λ line. alike-dropped line room xs ys x (a line) (as-item line x (λ i j. i ≡ j) room (f line))
fitted-last room xs ys x (Some item) a f = λ line. alike-last line room xs ys x (tree_of item) (a line) (as-item line x (MatchesItem line (tree_of item)) room (f line))

pub fitted_more : (room : ℕ) (items : List Item) (i : ℕ) (item : Item) (times : Times) (fitted : Option Item) (ys ys' : ItemsTree) → i < length items → item ≡ get_or items i item → times ≡ times_of (tree_of item) → IsFitted room (tree_of item) times fitted → ys' ≡ with_fitted ys fitted → AreFitted room (trees_of (take i items)) ys → AreFitted room (trees_of (take (i + 1) items)) ys'
fitted_more room items i item times fitted ys ys' h e z f w a =
    subst (λ x. AreFitted room x ys') (sym (take_item items i item h e)) (subst (AreFitted room (put_last (trees_of (take i items)) (tree_of item))) (sym w) (fitted-last room (trees_of (take i items)) ys (tree_of item) fitted a (subst (λ (t : Times). IsFitted room (tree_of item) t fitted) z f)))

pub fitted_fresh : (room : ℕ) → AreFitted room no_items no_items
fitted_fresh room line i j h = (λ e. e, λ e. e)

-- Turns of an item.

capped-takes : (R : Rel) (size : ℕ) → Takes R size → Takes R (capped size)
capped-takes R size takes i j r = let a : i + size ≤ j = takes i j r in let b : capped size ≤ size = omega arith in omega arith

pub cut-turns : (line : Text) (x : ItemTree) (room : ℕ) (times : Times) → AreAlike room (Repeated (MatchesTurn line x) times) (Repeated (MatchesTurn line x) (cut (capped (turn_size x)) room times))
cut-turns line x room times =
    cut-alike (MatchesTurn line x) (capped (turn_size x)) room times (turn-ordered line x) (capped-takes (MatchesTurn line x) (turn_size x) (turn-takes line x)) (λ e. turn-idle line x (omega arith))

pub alike-item : (line : Text) (x y : ItemTree) (room : ℕ) → AreAlike room (Repeated (MatchesTurn line x) (times_of x)) (Repeated (MatchesTurn line y) (times_of y)) → AreAlike room (MatchesItem line x) (MatchesItem line y)
alike-item line x y room a i j h = (λ m. turns-item line y i j ((a i j h).0 (item-turns line x i j m)), λ m. turns-item line x i j ((a i j h).1 (item-turns line y i j m)))

turn-with : (line : Text) (x : ItemTree) (times : Times) (i j : ℕ) → MatchesTurn line x i j → MatchesTurn line (with_times times x) i j
turn-with line (one own what) times i j m = m
turn-with line (group own number body) times i j m = m

turn-of : (line : Text) (x : ItemTree) (times : Times) (i j : ℕ) → MatchesTurn line (with_times times x) i j → MatchesTurn line x i j
turn-of line (one own what) times i j m = m
turn-of line (group own number body) times i j m = m

-- one item of two that take turns of one kind
item-with : (line : Text) (x : ItemTree) (times : Times) (i j : ℕ) → Repeated (MatchesTurn line x) times i j → MatchesItem line (with_times times x) i j
item-with line (one own what) times i j m = m
item-with line (group own number body) times i j m = m

with-item : (line : Text) (x : ItemTree) (times : Times) (i j : ℕ) → MatchesItem line (with_times times x) i j → Repeated (MatchesTurn line x) times i j
with-item line (one own what) times i j m = m
with-item line (group own number body) times i j m = m

-- an item with fewer turns, none of which would have room
pub fitted-cut : (room : ℕ) (x y : ItemTree) (times : Times) → y ≡ with_times (cut (capped (turn_size x)) room times) x → (line : Text) → AreAlike room (Repeated (MatchesTurn line x) times) (MatchesItem line y)
fitted-cut room x y times e line =
    let new : Times = cut (capped (turn_size x)) room times in
    subst (λ z. AreAlike room (Repeated (MatchesTurn line x) times) (MatchesItem line z)) (sym e)
    (alike-trans (Repeated (MatchesTurn line x) times) (Repeated (MatchesTurn line x) new) (MatchesItem line (with_times new x)) room (cut-turns line x room times) (λ i j h. (item-with line x new i j, with-item line x new i j)))

-- Turns of which none is taken.

and-true : (a b : Bool) → (a && b) ≡ true → (a ≡ true) × (b ≡ true)
and-true true b e = (refl, e)
and-true false b e = absurd (cc)

none-taken : (R : Rel) (times : Times) → takes_none times ≡ true → (i j : ℕ) → Repeated R times i j → i ≡ j
none-taken R times e i j (k, t, (n, w, u)) =
    let b = and-true (is_zero times.beyond) (times.least == 0) e in
    let z : times.least ≡ 0 = eqb-true times.least 0 b.1 in
    let same : i ≡ k = subst (λ m. Turns R m i k) z t in
    same ∙ rest times.beyond b.0 w
  where
    rest : (most : Option ℕ) → is_zero most ≡ true → IsWithin most n → k ≡ j
    rest None f v = absurd (cc)
    rest (Some more) f v = (let y : more ≡ 0 = eqb-true more 0 f in let x : n ≡ 0 = omega arith in subst (λ m. Turns R m k j) x u)

pub none-alike : (R : Rel) (times : Times) (room : ℕ) → takes_none times ≡ true → AreAlike room (Repeated R times) (λ i j. i ≡ j)
none-alike R times room e i j h =
    let b = and-true (is_zero times.beyond) (times.least == 0) e in
    (none-taken R times e i j, λ z. subst (Repeated R times i) z (none-needed R times (eqb-true times.least 0 b.1) i))

-- An item that is fitted.

-- one of what matches one byte
pub fitted_one : (room : ℕ) (own times : Times) (what : One) (y : Item) → tree_of y ≡ one (cut 1 room times) what → IsFitted room (one own what) times (Some y)
fitted_one room own times what y e line =
    subst (λ z. AreAlike room (Repeated (MatchesOne line what) times) (MatchesItem line z)) (sym e) (cut-turns line (one own what) room times)

pub fitted_of-one : (room size : ℕ) (x : ItemTree) (own times new : Times) (what : One) (y : Item) → x ≡ one own what → size ≡ capped (turn_size x) → new ≡ cut size room times → tree_of y ≡ one new what → IsFitted room x times (Some y)
fitted_of-one room size x own times new what y e z n f =
    let s : size ≡ 1 = z ∙ ap (λ w. capped (turn_size w)) e in
    let c : new ≡ cut 1 room times = n ∙ ap (λ k. cut k room times) s in
    subst (λ w. IsFitted room w times (Some y)) (sym e) (fitted_one room own times what y (f ∙ ap (λ t. one t what) c))

-- turns of which none is taken
pub fitted_none : (room : ℕ) (x : ItemTree) (times : Times) → takes_none (cut (capped (turn_size x)) room times) ≡ true → IsFitted room x times None
fitted_none room x times e line =
    let new : Times = cut (capped (turn_size x)) room times in
    alike-trans (Repeated (MatchesTurn line x) times) (Repeated (MatchesTurn line x) new) (λ i j. i ≡ j) room (cut-turns line x room times) (none-alike (MatchesTurn line x) new room e)

-- a group with fewer turns of fitted items
group-alike : (room : ℕ) (own times : Times) (number : ℕ) (body items : ItemsTree) → AreFitted room body items → (line : Text) → AreAlike room (Repeated (MatchesItems line body) times) (Repeated (MatchesItems line items) (cut (capped (least_size body)) room times))
group-alike room own times number body items a line =
    let new : Times = cut (capped (least_size body)) room times in
    alike-trans (Repeated (MatchesItems line body) times) (Repeated (MatchesItems line body) new) (Repeated (MatchesItems line items) new) room (cut-turns line (group own number body) room times) (alike-repeated (MatchesItems line body) (MatchesItems line items) room (sound_items line body).ordered (sound_items line items).ordered (a line) new)

pub fitted_as : (room : ℕ) (own times new : Times) (number : ℕ) (body items : ItemsTree) (fitted : Option Item) → new ≡ cut (capped (least_size body)) room times → AreFitted room body items → IsFitted room (group new number items) new fitted → IsFitted room (group own number body) times fitted
fitted_as room own times new number body items None z a f =
    λ line.
    (let g = subst (λ (t : Times). AreAlike room (Repeated (MatchesItems line items) t) (λ i j. i ≡ j)) z (f line) in
    alike-trans (Repeated (MatchesItems line body) times) (Repeated (MatchesItems line items) (cut (capped (least_size body)) room times)) (λ i j. i ≡ j) room (group-alike room own times number body items a line) g)
fitted_as room own times new number body items (Some y) z a f =
    λ line.
    (let g = subst (λ (t : Times). AreAlike room (Repeated (MatchesItems line items) t) (MatchesItem line (tree_of y))) z (f line) in
    alike-trans (Repeated (MatchesItems line body) times) (Repeated (MatchesItems line items) (cut (capped (least_size body)) room times)) (MatchesItem line (tree_of y)) room (group-alike room own times number body items a line) g)

pub fitted_of-group : (room size : ℕ) (x : ItemTree) (own times new : Times) (number : ℕ) (body items : ItemsTree) (fitted : Option Item) → x ≡ group own number body → size ≡ capped (turn_size x) → new ≡ cut size room times → AreFitted room body items → IsFitted room (group new number items) new fitted → IsFitted room x times fitted
fitted_of-group room size x own times new number body items fitted e z n a f =
    let s : size ≡ capped (least_size body) = z ∙ ap (λ w. capped (turn_size w)) e in
    let c : new ≡ cut (capped (least_size body)) room times = n ∙ ap (λ k. cut k room times) s in
    subst (λ w. IsFitted room w times fitted) (sym e) (fitted_as room own times new number body items fitted c a f)

-- a group of nothing
pub fitted_empty : (room : ℕ) (times : Times) (number : ℕ) (items : ItemsTree) → items ≡ no_items → IsFitted room (group times number items) times None
fitted_empty room times number items e line =
    subst (λ xs. AreAlike room (Repeated (MatchesItems line xs) times) (λ i j. i ≡ j)) (sym e) none
  where
    same : (n i j : ℕ) → Turns (MatchesItems line no_items) n i j → i ≡ j
    same zero i j t = t
    same (suc n) i j (k, t, r) = same n i k t ∙ r

    none : AreAlike room (Repeated (MatchesItems line no_items) times) (λ i j. i ≡ j)
    none i j h = (λ (k, t, (n, w, u)). same times.least i k t ∙ same n k j u, λ z. subst (Repeated (MatchesItems line no_items) times i) z (idle-repeated (MatchesItems line no_items) times (λ l. refl) i))

-- a group as it is
pub fitted_same : (room : ℕ) (times : Times) (number : ℕ) (items : ItemsTree) (y : Item) → tree_of y ≡ group times number items → IsFitted room (group times number items) times (Some y)
fitted_same room times number items y e line i j h = (λ m. subst (λ z. MatchesItem line z i j) (sym e) m, λ m. subst (λ z. MatchesItem line z i j) e m)

-- the last item of items that are one
pub last-only : (items : List Item) (last : Item) (x : ItemTree) → trees_of (items ++ last ∷ []) ≡ item_and x no_items → tree_of last ≡ x
last-only [] last x e = cc
last-only (y ∷ ys) last x e = absurd (more ys (cc))
  where
    more : (zs : List Item) → trees_of (zs ++ last ∷ []) ≡ no_items → ⊥
    more [] f = absurd (cc)
    more (z ∷ zs) f = absurd (cc)

-- a group of one item whose turns are joined
one-turn : (line : Text) (x : ItemTree) (i j : ℕ) → MatchesItems line (item_and x no_items) i j → Repeated (MatchesTurn line x) (times_of x) i j
one-turn line x i j (k, m, e) = subst (Repeated (MatchesTurn line x) (times_of x) i) e (item-turns line x i k m)

turn-one : (line : Text) (x : ItemTree) (i j : ℕ) → Repeated (MatchesTurn line x) (times_of x) i j → MatchesItems line (item_and x no_items) i j
turn-one line x i j m = (j, turns-item line x i j m, refl)

joined-alike : (line : Text) (room : ℕ) (x : ItemTree) (turns times : Times) → IsJoined (times_of x) turns times → AreAlike room (Repeated (MatchesItems line (item_and x no_items)) turns) (Repeated (MatchesTurn line x) times)
joined-alike line room x turns times it i j h =
    let R : Rel = MatchesTurn line x in
    let xs : ItemsTree = item_and x no_items in
    let a = alike-repeated (MatchesItems line xs) (Repeated R (times_of x)) room (sound_items line xs).ordered (ordered-one line x) (λ k l g. (one-turn line x k l, turn-one line x k l)) turns i j h in
    (λ m. joined-to R (times_of x) turns times it i j (a.0 m), λ m. a.1 (joined-from R (times_of x) turns times it i j m))
  where
    ordered-one : (line : Text) (x : ItemTree) → Ordered (Repeated (MatchesTurn line x) (times_of x))
    ordered-one line x k l m = (sound_item line x).ordered k l (turns-item line x k l m)

pub fitted_joined : (room : ℕ) (turns times : Times) (number : ℕ) (items : ItemsTree) (x : ItemTree) (y : Item) → items ≡ item_and x no_items → IsJoined (times_of x) turns times → tree_of y ≡ with_times (cut (capped (turn_size x)) room times) x → IsFitted room (group turns number items) turns (Some y)
fitted_joined room turns times number items x y e it f line =
    subst (λ xs. AreAlike room (Repeated (MatchesItems line xs) turns) (MatchesItem line (tree_of y))) (sym e) (alike-trans (Repeated (MatchesItems line (item_and x no_items)) turns) (Repeated (MatchesTurn line x) times) (MatchesItem line (tree_of y)) room (joined-alike line room x turns times it) (fitted-cut room x (tree_of y) times f line))

-- an item in place of one of which nothing is taken
pub fitted_nothing : (room : ℕ) (x : ItemTree) (times none : Times) (what : One) (y : Item) → takes_none none ≡ true → tree_of y ≡ one none what → IsFitted room x times None → IsFittedPart room x times (tree_of y)
fitted_nothing room x times none what y z e f line i j h =
    let a = none-alike (MatchesOne line what) none room z i j h in
    (λ r. subst (λ w. MatchesItem line w i j) (sym e) (a.1 ((f line i j h).0 r)), λ m. (f line i j h).1 (a.0 (subst (λ w. MatchesItem line w i j) e m)))

-- An expression that is fitted finds the same.

fit-matches : (e f : Expression) (line : Text) (room i j : ℕ) → IsFit room e f → j ≤ i + room → Matches e line i j → Matches f line i j
fit-matches e f line room i j it h m = record {
  at_start = λ z. m.at_start (sym it.at_start ∙ z);
  at_end = λ z. m.at_end (sym it.at_end ∙ z);
  within = m.within;
  items = (it.items line i j h).0 m.items;
}

matches-fit : (e f : Expression) (line : Text) (room i j : ℕ) → IsFit room e f → j ≤ i + room → Matches f line i j → Matches e line i j
matches-fit e f line room i j it h m = record {
  at_start = λ z. m.at_start (it.at_start ∙ z);
  at_end = λ z. m.at_end (it.at_end ∙ z);
  within = m.within;
  items = (it.items line i j h).1 m.items;
}

pub fit-finds : (e f : Expression) (line : Text) (from room : ℕ) (r : Option Span) → from + room ≡ length line → IsFit room e f → Finds f line from r → Finds e line from r
fit-finds e f line from room None z it all =
    λ i j fi m. (let within : j ≤ length line = m.within in all i j fi (fit-matches e f line room i j it (omega arith) m))
fit-finds e f line from room (Some span) z it found =
    let first : from ≤ span.start = found.behind in
    let within : span.end ≤ length line = found.matches.within in
    record {
      behind = first;
      matches = matches-fit e f line room span.start span.end it (omega arith) found.matches;
      best = λ i j fi m. (let w : j ≤ length line = m.within in found.best i j fi (fit-matches e f line room i j it (omega arith) m));
    }

-- nothing is found where there is no room
pub too-long : (e : Expression) (line : Text) (from size : ℕ) → size ≡ capped (least_size e.items) → length line - from < size → Finds e line from None
too-long e line from size z h = λ i j fi m. (
    let within : j ≤ length line = m.within in
    let a : i + least_size e.items ≤ j = items-take line e.items i j m.items in
    let b : capped (least_size e.items) ≤ least_size e.items = omega arith in
    absurd (omega arith)
    )
