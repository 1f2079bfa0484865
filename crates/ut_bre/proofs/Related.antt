-- Relations told by tables.
use Rattle.std.proofs.Common.{◌≡◌, ℕ, zero, suc, ◌+◌, ◌-◌, ◌<◌, ◌≤◌, ◌⊎◌, inl, inr, List, [], ◌∷◌, ◌++◌, length, length-append, get_or, true, refl, sym, ap, ◌∙◌, arith, subst, take, slice_get}
use Rattle.std.specs.Prelude.{◌↔◌, Option, Some, None}
use Rattle.std.proofs.lemmas.Bool.{cases_lt}
use Rattle.rk_base.specs.Text.{Text}
use Rattle.ut_places.specs.declared.places.Places.{Places}
use Rattle.ut_places.specs.Places.{Has}
use Rattle.ut_places.specs.Steps.{Steps, Counted, Leads}
use Rattle.ut_places.proofs.StepLemmas.{leads-push, some-below}
use Rattle.ut_bre.specs.declared.set.One.{One}
use Rattle.ut_bre.specs.declared.tree.Times.{Times}
use Rattle.ut_bre.specs.declared.tree.Item.{Item}
use Rattle.ut_bre.specs.Trees.{meets, ItemTree, no_items, tree_of, trees_of, times_of}
use Rattle.ut_bre.specs.Matching.{MatchesOne, Turns, IsWithin, Repeated, MatchesItems}
use Rattle.ut_bre.specs.Mirroring.{put_last}
use Rattle.ut_bre.specs.Picking.{MatchesTurn}
use Rattle.ut_bre.specs.Relations.{Relates, IsRelation, most_in}
use Rattle.ut_bre.proofs.Standing.{Rel, After}
use Rattle.ut_bre.proofs.Turning.{Ordered, turn-ordered, item-turns, turns-item}
use Rattle.ut_bre.proofs.Mirrored.{last-to, last-from}
use Rattle.ut_bre.proofs.NeededLemmas.{turns-ordered}
use Rattle.ut_bre.proofs.Counted.{taking}
use Rattle.ut_bre.proofs.Laws.{sound_items}
use Rattle.ut_bre.proofs.Alike.{take_item}

-- one place after another

pub related-first : (R : Rel) (start size : ℕ) (table : List Places) → table ≡ [] → Relates R start size 0 table
related-first R start size table e = record { count = ap length e; leads = λ i j lt. absurd (omega arith) }

pub related-more : (R : Rel) (start size n : ℕ) (table after : List Places) (set : Places) → after ≡ table ++ set ∷ [] → ((j : ℕ) → Has set j ↔ ((j ≤ size) × R (start + n) (start + j))) → Relates R start size n table → Relates R start size (n + 1) after
related-more R start size n table after set e here r = subst (Relates R start size (n + 1)) (sym e) (record {
  count = (let a : length (table ++ set ∷ []) ≡ length table + 1 = length-append table (set ∷ []) in let b : length table ≡ n = r.count in omega arith);
  leads = λ i j lt. (λ l. to i j lt ((leads-push table set i j).0 l), λ h. from i j lt h (cases_lt i n));
})
  where
    to : (i j : ℕ) → i < n + 1 → Leads table i j ⊎ ((i ≡ length table) × Has set j) → (j ≤ size) × R (start + i) (start + j)
    to i j lt (inl (own, e, h)) =
        let a : i < length table = some-below table i own e in
        let b : length table ≡ n = r.count in
        let c : i < n = omega arith in
        (r.leads i j c).0 (own, e, h)
    to i j lt (inr (z, h)) = let same : n ≡ i = sym (z ∙ r.count) in subst (λ m. (j ≤ size) × R (start + m) (start + j)) same ((here j).0 h)

    from : (i j : ℕ) → i < n + 1 → (j ≤ size) × R (start + i) (start + j) → (i < n) ⊎ (n ≤ i) → Leads (table ++ set ∷ []) i j
    from i j lt h (inl less) = (leads-push table set i j).1 (inl ((r.leads i j less).1 h))
    from i j lt h (inr ge) =
        let same : i ≡ n = omega arith in
        (leads-push table set i j).1 (inr (same ∙ sym r.count, (here j).1 (subst (λ m. (j ≤ size) × R (start + m) (start + j)) same h)))

-- one byte

pub set-of-one : (line : Text) (what : One) (start size n b : ℕ) (set : Places) → n < size → slice_get line (start + n) ≡ Some b → ((j : ℕ) → Has set j ↔ ((meets what b ≡ true) × (j ≡ n + 1))) → (j : ℕ) → Has set j ↔ ((j ≤ size) × MatchesOne line what (start + n) (start + j))
set-of-one line what start size n b set lt at here j = (λ h. to ((here j).0 h), λ (le, (c, e, m, z)). from c e m z)
  where
    to : (meets what b ≡ true) × (j ≡ n + 1) → (j ≤ size) × MatchesOne line what (start + n) (start + j)
    to (m, z) =
        let le : j ≤ size = omega arith in
        let next : start + j ≡ start + n + 1 = omega arith in
        (le, (b, at, m, next))

    from : (c : ℕ) → slice_get line (start + n) ≡ Some c → meets what c ≡ true → start + j ≡ start + n + 1 → Has set j
    from c e m z =
        let same : c ≡ b = cc in
        let next : j ≡ n + 1 = omega arith in
        (here j).1 (subst (λ x. meets what x ≡ true) same m, next)

pub set-of-end : (line : Text) (what : One) (start size : ℕ) (set : Places) → ((j : ℕ) → Has set j → ⊥) → (j : ℕ) → Has set j ↔ ((j ≤ size) × MatchesOne line what (start + size) (start + j))
set-of-end line what start size set none j = (λ h. absurd (none j h), λ (le, (c, e, m, z)). absurd (past le z))
  where
    past : j ≤ size → start + j ≡ start + size + 1 → ⊥
    past le z = omega arith

-- nothing

pub set-of-place : (start size n : ℕ) (set : Places) → n ≤ size → ((j : ℕ) → Has set j ↔ (j ≡ n)) → (j : ℕ) → Has set j ↔ ((j ≤ size) × (start + n ≡ start + j))
set-of-place start size n set h here j = (λ g. to ((here j).0 g), λ (le, e). (let z : j ≡ n = omega arith in (here j).1 z))
  where
    to : j ≡ n → (j ≤ size) × (start + n ≡ start + j)
    to e = let le : j ≤ size = omega arith in let z : start + n ≡ start + j = omega arith in (le, z)

-- turns

steps-turns : (T : Rel) (start size : ℕ) (table : List Places) → IsRelation T start size table → (n i j : ℕ) → i ≤ size → Steps (Leads table) n i j → (j ≤ size) × Turns T n (start + i) (start + j)
steps-turns T start size table r zero i j h e = let le : j ≤ size = omega arith in let z : start + i ≡ start + j = omega arith in (le, z)
steps-turns T start size table r (suc n) i j h (k, s, l) =
    let f = steps-turns T start size table r n i k h s in
    let g : k ≤ size = f.0 in
    let lt : k < size + 1 = omega arith in
    let m = (r.leads k j lt).0 l in
    (m.0, (start + k, f.1, m.1))

turns-steps : (T : Rel) (start size : ℕ) (table : List Places) → Ordered T → IsRelation T start size table → (n i j p q : ℕ) → p ≡ start + i → q ≡ start + j → j ≤ size → Turns T n p q → Steps (Leads table) n i j
turns-steps T start size table ordered r zero i j p q a b h e = let z : i ≡ j = omega arith in z
turns-steps T start size table ordered r (suc n) i j p q a b h (k, t, l) =
    let low : p ≤ k = turns-ordered T ordered n p k t in
    let high : k ≤ q = ordered k q l in
    let m : ℕ = k - start in
    let z : k ≡ start + (k - start) = omega arith in
    let lt : k - start < size + 1 = omega arith in
    let le : k - start ≤ size = omega arith in
    (k - start, turns-steps T start size table ordered r n i (k - start) p k a z le t, (r.leads (k - start) j lt).1 (h, subst (λ y. T (start + (k - start)) y) b (subst (λ x. T x q) z l)))

counted-repeated : (T : Rel) (start size : ℕ) (table : List Places) (times : Times) (more i j : ℕ) → IsRelation T start size table → more ≡ most_in times.beyond size → i ≤ size → Counted (Leads table) times.least more i j → (j ≤ size) × Repeated T times (start + i) (start + j)
counted-repeated T start size table times more i j r e h (k, s, (n, le, u)) =
    let f = steps-turns T start size table r times.least i k h s in
    let g = steps-turns T start size table r n k j f.0 u in
    (g.0, (start + k, f.1, (n, within times.beyond e, g.1)))
  where
    within : (beyond : Option ℕ) → more ≡ most_in beyond size → IsWithin beyond n
    within None z = tt
    within (Some m) z = let w : n ≤ m = omega arith in w

repeated-counted : (T : Rel) (start size : ℕ) (table : List Places) (times : Times) (more i j : ℕ) → Ordered T → IsRelation T start size table → more ≡ most_in times.beyond size → j ≤ size → Repeated T times (start + i) (start + j) → Counted (Leads table) times.least more i j
repeated-counted T start size table times more i j ordered r e h (k, t, (n, w, u)) =
    let low : start + i ≤ k = turns-ordered T ordered times.least (start + i) k t in
    let z : k ≡ start + (k - start) = omega arith in
    let f = few times.beyond e w in
    let order : k ≤ start + j = turns-ordered T ordered n k (start + j) u in
    let le : k - start ≤ size = omega arith in
    (k - start, turns-steps T start size table ordered r times.least i (k - start) (start + i) k refl z le t, (f.0, f.1, turns-steps T start size table ordered r f.0 (k - start) j k (start + j) z refl h f.2))
  where
    few : (beyond : Option ℕ) → more ≡ most_in beyond size → IsWithin beyond n → (m : ℕ) × (m ≤ more) × Turns T m k (start + j)
    few None z v =
        let f = taking T ordered n k (start + j) u in
        let m : ℕ = f.0 in
        let low : start + i ≤ k = turns-ordered T ordered times.least (start + i) k t in
        let short : k + f.0 ≤ start + j = f.2 in
        let le : f.0 ≤ more = omega arith in
        (f.0, le, f.3)
    few (Some most) z v = let le : n ≤ more = omega arith in (n, le, u)

pub repeated-ordered : (T : Rel) (times : Times) → Ordered T → Ordered (Repeated T times)
repeated-ordered T times ordered p q (m, s, (n, w, u)) =
    let x : p ≤ m = turns-ordered T ordered times.least p m s in
    let y : m ≤ q = turns-ordered T ordered n m q u in
    omega arith

-- an item more

chained : (R T : Rel) (start size : ℕ) (rows table all : List Places) (times : Times) (more : ℕ) → Ordered R → Ordered T → IsRelation R start size rows → IsRelation T start size table → more ≡ most_in times.beyond size → length all ≡ length rows → ((i j : ℕ) → Leads all i j ↔ ((k : ℕ) × Leads rows i k × Counted (Leads table) times.least more k j)) → IsRelation (After R (Repeated T times)) start size all
chained R T start size rows table all times more before ordered r t e count leads = record {
  count = count ∙ r.count;
  leads = λ i j lt. (λ l. to i j lt ((leads i j).0 l), λ (le, (k, a, b)). from i j lt le k a b);
}
  where
    to : (i j : ℕ) → i < size + 1 → (k : ℕ) × Leads rows i k × Counted (Leads table) times.least more k j → (j ≤ size) × After R (Repeated T times) (start + i) (start + j)
    to i j lt (k, l, c) =
        let f = (r.leads i k lt).0 l in
        let g = counted-repeated T start size table times more k j t e f.0 c in
        (g.0, (start + k, f.1, g.1))

    from : (i j : ℕ) → i < size + 1 → j ≤ size → (k : ℕ) → R (start + i) k → Repeated T times k (start + j) → Leads all i j
    from i j lt le k a b =
        let low : start + i ≤ k = before (start + i) k a in
        let high : k ≤ start + j = repeated-ordered T times ordered k (start + j) b in
        let z : k ≡ start + (k - start) = omega arith in
        let h : k - start ≤ size = omega arith in
        (leads i j).1 (
          k - start,
          (r.leads i (k - start) lt).1 (h, subst (R (start + i)) z a),
          repeated-counted T start size table times more (k - start) j ordered t e le (subst (λ x. Repeated T times x (start + j)) z b),
        )

same-relation : (R S : Rel) (start size : ℕ) (table : List Places) → ((i j : ℕ) → R i j ↔ S i j) → IsRelation R start size table → IsRelation S start size table
same-relation R S start size table same r = record {
  count = r.count;
  leads = λ i j lt. (λ l. (let f = (r.leads i j lt).0 l in (f.0, (same (start + i) (start + j)).0 f.1)), λ (le, s). (r.leads i j lt).1 (le, (same (start + i) (start + j)).1 s));
}

pub related-item : (line : Text) (items : List Item) (n : ℕ) (item : Item) (start size : ℕ) (rows table all : List Places) (times : Times) (more : ℕ) → n < length items → item ≡ get_or items n item → times ≡ times_of (tree_of item) → IsRelation (MatchesTurn line (tree_of item)) start size table → more ≡ most_in times.beyond size → length all ≡ length rows → ((i j : ℕ) → Leads all i j ↔ ((k : ℕ) × Leads rows i k × Counted (Leads table) times.least more k j)) → IsRelation (MatchesItems line (trees_of (take n items))) start size rows → IsRelation (MatchesItems line (trees_of (take (n + 1) items))) start size all
related-item line items n item start size rows table all times more lt at own t e count leads r =
    let xs = trees_of (take n items) in
    let x = tree_of item in
    let a = chained (MatchesItems line xs) (MatchesTurn line x) start size rows table all times more (sound_items line xs).ordered (turn-ordered line x) r t e count leads in
    let b = same-relation (After (MatchesItems line xs) (Repeated (MatchesTurn line x) times)) (MatchesItems line (put_last xs x)) start size all (λ i j. (λ (k, m, s). last-to line xs x i j (k, m, turns-item line x k j (subst (λ (w : Times). Repeated (MatchesTurn line x) w k j) own s)), λ m. (let f = last-from line xs x i j m in (f.0, f.1, subst (λ (w : Times). Repeated (MatchesTurn line x) w f.0 j) (sym own) (item-turns line x f.0 j f.2))))) a in
    subst (λ ys. IsRelation (MatchesItems line ys) start size all) (sym (take_item items n item lt at)) b

-- no item yet
pub related-none : (line : Text) (start size : ℕ) (table : List Places) → IsRelation (λ i j. i ≡ j) start size table → IsRelation (MatchesItems line no_items) start size table
related-none line start size table r = same-relation (λ i j. i ≡ j) (MatchesItems line no_items) start size table (λ i j. (λ e. e, λ e. e)) r

-- the turns of an item alone
pub related-times : (line : Text) (x : ItemTree) (start size : ℕ) (none table all : List Places) (times : Times) (more : ℕ) → ((s : ℕ) → IsRelation (λ i j. i ≡ j) s size none) → IsRelation (MatchesTurn line x) start size table → more ≡ most_in times.beyond size → length all ≡ length none → ((i j : ℕ) → Leads all i j ↔ ((k : ℕ) × Leads none i k × Counted (Leads table) times.least more k j)) → IsRelation (Repeated (MatchesTurn line x) times) start size all
related-times line x start size none table all times more r t e count leads =
    let T = MatchesTurn line x in
    let before : Ordered (λ i j. i ≡ j) = (λ i j z. (let h : i ≤ j = omega arith in h)) in
    same-relation (After (λ i j. i ≡ j) (Repeated T times)) (Repeated T times) start size all (λ i j. (λ (k, z, m). subst (λ y. Repeated T times y j) (sym z) m, λ m. (i, refl, m))) (chained (λ i j. i ≡ j) T start size none table all times more before (turn-ordered line x) (r start) t e count leads)
