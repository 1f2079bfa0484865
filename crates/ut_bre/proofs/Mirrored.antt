-- What is matched in a line that is gone along backward.
use Rattle.std.proofs.Common.{◌≡◌, ℕ, zero, suc, ◌+◌, ◌-◌, ◌≤◌, [], ◌∷◌, refl, sym, ap, ◌∙◌, arith, subst, get_or, length, slice_get}
use Rattle.std.specs.Prelude.{Option, Some}
use Rattle.std.proofs.lemmas.Option.{slice_get-get_or}
use Rattle.rk_base.specs.Text.{Text}
use Rattle.ut_bre.specs.declared.set.One.{One}
use Rattle.ut_bre.specs.declared.tree.Times.{Times}
use Rattle.ut_bre.specs.Trees.{ItemTree, one, group, ItemsTree, no_items, item_and}
use Rattle.ut_bre.specs.Matching.{MatchesOne, Turns, Beyond, Repeated, MatchesItem, MatchesItems}
use Rattle.ut_bre.specs.Picking.{MatchesTurn}
use Rattle.ut_bre.specs.Mirroring.{put_last, mirror_item, mirror}
use Rattle.ut_bre.proofs.Standing.{Rel, After}
use Rattle.ut_bre.proofs.Turning.{first-turn}

-- the bytes before a place, the last one first
abbrev pub backward : Text → ℕ → Text
backward line zero = []
backward line (suc n) = get_or line n 0 ∷ backward line n

pub backward-at : (line : Text) (end k m : ℕ) → m + k + 1 ≡ end → slice_get (backward line end) k ≡ Some (get_or line m 0)
backward-at line zero k m e = absurd (omega arith)
backward-at line (suc n) zero m e = let z : n ≡ m = omega arith in ap (λ i. Some (get_or line i 0)) z
backward-at line (suc n) (suc k) m e = backward-at line n k m (omega arith)

-- The one holds between places exactly where the other does between how far before the end they lie.
pub record Mirrored (end : ℕ) (R R' : Rel) : Type 0 where
  pub ordered : (i j : ℕ) → R i j → i ≤ j
  pub ordered_back : (s t : ℕ) → R' s t → s ≤ t
  pub to : (i j : ℕ) → j ≤ end → R i j → R' (end - j) (end - i)
  pub from : (s t : ℕ) → t ≤ end → R' s t → R (end - t) (end - s)

mirrored-same : (end : ℕ) → Mirrored end (λ i j. i ≡ j) (λ i j. i ≡ j)
mirrored-same end = record {
  ordered = λ i j e. omega arith;
  ordered_back = λ s t e. omega arith;
  to = λ i j h e. omega arith;
  from = λ s t h e. omega arith;
}

mirrored-after : (end : ℕ) (R R' S S' : Rel) → Mirrored end R R' → Mirrored end S S' → Mirrored end (After R S) (After S' R')
mirrored-after end R R' S S' A B = record {
  ordered = λ i j (k, r, s). (let h : i ≤ k = A.ordered i k r in let g : k ≤ j = B.ordered k j s in omega arith);
  ordered_back = λ s t (k, b, a). (let h : s ≤ k = B.ordered_back s k b in let g : k ≤ t = A.ordered_back k t a in omega arith);
  to = λ i j h (k, r, s). (let g : k ≤ j = B.ordered k j s in (end - k, B.to k j h s, A.to i k (omega arith) r));
  from = λ s t h (k, b, a). (let g : k ≤ t = A.ordered_back k t a in (end - k, A.from k t h a, B.from s k (omega arith) b));
}

mirrored-as : (end : ℕ) (R R' S : Rel) → Mirrored end R R' → ((s t : ℕ) → R' s t → S s t) → ((s t : ℕ) → S s t → R' s t) → Mirrored end R S
mirrored-as end R R' S A f g = record {
  ordered = A.ordered;
  ordered_back = λ s t x. A.ordered_back s t (g s t x);
  to = λ i j h r. f (end - j) (end - i) (A.to i j h r);
  from = λ s t h x. A.from s t h (g s t x);
}

-- what matches one byte

mirrored-one : (line : Text) (end : ℕ) (what : One) → end ≤ length line → Mirrored end (MatchesOne line what) (MatchesOne (backward line end) what)
mirrored-one line end what h = record {
  ordered = λ i j (b, at, m, e). omega arith;
  ordered_back = λ s t (b, at, m, e). omega arith;
  to = λ i j g (b, at, m, e). (b, byte-to i j b g e at, m, omega arith);
  from = λ s t g (b, at, m, e). (b, byte-from s t b g e at, m, omega arith);
}
  where
    byte-to : (i j b : ℕ) → j ≤ end → j ≡ i + 1 → slice_get line i ≡ Some b → slice_get (backward line end) (end - j) ≡ Some b
    byte-to i j b g e at = backward-at line end (end - j) i (omega arith) ∙ (sym (slice_get-get_or line i 0 (omega arith)) ∙ at)

    byte-from : (s t b : ℕ) → t ≤ end → t ≡ s + 1 → slice_get (backward line end) s ≡ Some b → slice_get line (end - t) ≡ Some b
    byte-from s t b g e at = slice_get-get_or line (end - t) 0 (omega arith) ∙ (sym (backward-at line end s (end - t) (omega arith)) ∙ at)

-- turns: the last one comes first

pub turn-first : (R : Rel) (n i m k : ℕ) → R i m → Turns R n m k → Turns R (suc n) i k
turn-first R zero i m k r e = (i, refl, subst (R i) e r)
turn-first R (suc n) i m k r (d, t, x) = (d, turn-first R n i m d r t, x)

swapped : (R : Rel) (n m a b c : ℕ) → Turns R n a b → Turns R m b c → (k : ℕ) × Turns R m a k × Turns R n k c
swapped R n zero a b c t e = (a, refl, subst (Turns R n a) e t)
swapped R n (suc m) a b c t (d, u, r) =
    let s = swapped R n m a b d t u in
    let f = first-turn R n s.0 c (d, s.2, r) in
    (f.0, (s.0, s.1, f.1), f.2)

mirrored-turns : (end : ℕ) (R R' : Rel) (n : ℕ) → Mirrored end R R' → Mirrored end (Turns R n) (Turns R' n)
mirrored-turns end R R' zero A = mirrored-same end
mirrored-turns end R R' (suc n) A =
    mirrored-as end (Turns R (suc n)) (After R' (Turns R' n)) (Turns R' (suc n)) (mirrored-after end (Turns R n) (Turns R' n) R R' (mirrored-turns end R R' n A) A) (λ s t (m, r, u). turn-first R' n s m t r u) (λ s t u. first-turn R' n s t u)

mirrored-beyond : (end : ℕ) (R R' : Rel) (most : Option ℕ) → Mirrored end R R' → Mirrored end (Beyond R most) (Beyond R' most)
mirrored-beyond end R R' most A = record {
  ordered = λ i j (n, w, t). (mirrored-turns end R R' n A).ordered i j t;
  ordered_back = λ s t (n, w, u). (mirrored-turns end R R' n A).ordered_back s t u;
  to = λ i j h (n, w, t). (n, w, (mirrored-turns end R R' n A).to i j h t);
  from = λ s t h (n, w, u). (n, w, (mirrored-turns end R R' n A).from s t h u);
}

pub mirrored-repeated : (end : ℕ) (R R' : Rel) (times : Times) → Mirrored end R R' → Mirrored end (Repeated R times) (Repeated R' times)
mirrored-repeated end R R' times A =
    mirrored-as end (Repeated R times) (After (Beyond R' times.beyond) (Turns R' times.least)) (Repeated R' times) (mirrored-after end (Turns R times.least) (Turns R' times.least) (Beyond R times.beyond) (Beyond R' times.beyond) (mirrored-turns end R R' times.least A) (mirrored-beyond end R R' times.beyond A)) least-first least-last
  where
    least-first : (s t : ℕ) → After (Beyond R' times.beyond) (Turns R' times.least) s t → Repeated R' times s t
    least-first s t (k, (n, w, u), v) = let z = swapped R' n times.least s k t u v in (z.0, z.1, (n, w, z.2))

    least-last : (s t : ℕ) → Repeated R' times s t → After (Beyond R' times.beyond) (Turns R' times.least) s t
    least-last s t (k, v, (n, w, u)) = let z = swapped R' times.least n s k t v u in (z.0, (n, w, z.1), z.2)

-- items: the last one comes first

pub last-to : (line : Text) (ys : ItemsTree) (y : ItemTree) (i j : ℕ) → After (MatchesItems line ys) (MatchesItem line y) i j → MatchesItems line (put_last ys y) i j
last-to line no_items y i j (k, e, m) = (j, subst (λ x. MatchesItem line y x j) (sym e) m, refl)
last-to line (item_and x xs) y i j (k, (d, a, b), m) = (d, a, last-to line xs y d j (k, b, m))

pub last-from : (line : Text) (ys : ItemsTree) (y : ItemTree) (i j : ℕ) → MatchesItems line (put_last ys y) i j → After (MatchesItems line ys) (MatchesItem line y) i j
last-from line no_items y i j (k, m, e) = (i, refl, subst (λ x. MatchesItem line y i x) e m)
last-from line (item_and x xs) y i j (d, a, b) = let f = last-from line xs y d j b in (f.0, (d, a, f.1), f.2)

mutual
  pub mirrored_item : (line : Text) (end : ℕ) (x : ItemTree) → end ≤ length line → Mirrored end (MatchesItem line x) (MatchesItem (backward line end) (mirror_item x))
  mirrored_item line end (one times what) h = mirrored-repeated end (MatchesOne line what) (MatchesOne (backward line end) what) times (mirrored-one line end what h)
  mirrored_item line end (group times number body) h = mirrored-repeated end (MatchesItems line body) (MatchesItems (backward line end) (mirror body)) times (mirrored_items line end body h)

  pub mirrored_items : (line : Text) (end : ℕ) (xs : ItemsTree) → end ≤ length line → Mirrored end (MatchesItems line xs) (MatchesItems (backward line end) (mirror xs))
  mirrored_items line end no_items h = mirrored-same end
  mirrored_items line end (item_and x xs) h =
      let back : Text = backward line end in
      mirrored-as end (MatchesItems line (item_and x xs)) (After (MatchesItems back (mirror xs)) (MatchesItem back (mirror_item x))) (MatchesItems back (mirror (item_and x xs))) (mirrored-after end (MatchesItem line x) (MatchesItem back (mirror_item x)) (MatchesItems line xs) (MatchesItems back (mirror xs)) (mirrored_item line end x h) (mirrored_items line end xs h)) (last-to back (mirror xs) (mirror_item x)) (last-from back (mirror xs) (mirror_item x))

-- one turn of an item
pub mirrored-turn : (line : Text) (end : ℕ) (x : ItemTree) → end ≤ length line → Mirrored end (MatchesTurn line x) (MatchesTurn (backward line end) (mirror_item x))
mirrored-turn line end (one times what) h = mirrored-one line end what h
mirrored-turn line end (group times number body) h = mirrored_items line end body h
