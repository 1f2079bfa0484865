-- How far the ends of a star's turns are found, from the end back.
use Rattle.std.proofs.Common.{◌≡◌, ℕ, suc, ◌+◌, ◌-◌, ◌<◌, ◌≤◌, inl, inr, List, [], ◌∷◌, ◌++◌, true, refl, sym, ap, ◌∙◌, arith, subst, get_or, length, slice_get, length-append}
use Rattle.std.specs.Prelude.{Option, Some, None, unwrap_or, is_none, ◌==◌}
use Rattle.std.proofs.lemmas.Bool.{cases_lt, eqb-true, and_parts}
use Rattle.std.proofs.lemmas.List.{get_or_append_left, get_or_at}
use Rattle.rk_base.specs.Text.{Text}
use Rattle.ut_bre.specs.declared.tree.Times.{Times}
use Rattle.ut_bre.specs.Trees.{ItemsTree}
use Rattle.ut_bre.specs.Times.{star, is_star, is_zero, takes_none, less_one}
use Rattle.ut_bre.specs.Matching.{Turns, IsWithin, Repeated, MatchesItems}
use Rattle.ut_bre.specs.Picking.{IsWorth, IsDone, IsNextTurn}
use Rattle.ut_bre.specs.Walking.{Mark, flow, step, flow_items, step_items}
use Rattle.ut_bre.specs.Mirroring.{mirror}
use Rattle.ut_bre.specs.Ends.{mark_at, EndsAt, AreEnds}
use Rattle.ut_bre.proofs.Standing.{Rel, Least, After, HoldsItems}
use Rattle.ut_bre.proofs.Laws.{sound_items}
use Rattle.ut_bre.proofs.Latest.{advanced}
use Rattle.ut_bre.proofs.Turning.{turn-exists}
use Rattle.ut_bre.proofs.Mirrored.{Mirrored, backward, turn-first, mirrored-repeated, mirrored_items}

-- turns lead from so far before the end to it
abbrev pub Leading : Rel → ℕ → Rel
Leading R end s i = (s ≡ i) × Repeated R star (end - i) end

-- the same, nearer to the end than a place
abbrev Nearer : Rel → ℕ → ℕ → Rel
Nearer R end far s i = (i < far) × Leading R end s i

star-ordered : (end : ℕ) (R R' : Rel) → Mirrored end R R' → (i j : ℕ) → Repeated R star i j → i ≤ j
star-ordered end R R' M i j r = (mirrored-repeated end R R' star M).ordered i j r

-- one turn more
pub star-more : (R : Rel) (a b c : ℕ) → R a b → Repeated R star b c → Repeated R star a c
star-more R a b c x (k, e, (n, w, t)) = (a, refl, (suc n, tt, turn-first R n a b c x (subst (λ y. Turns R n y c) (sym e) t)))

-- A turn that begins so far before the end, and from whose end turns lead on, ends no nearer to it than the least such mark.
nearest : (end : ℕ) (R R' : Rel) → Mirrored end R R' → (far : ℕ) → far ≤ end → (m : ℕ) → end - far < m → m ≤ end → R (end - far) m → Repeated R star m end → After (Nearer R end far) R' (end - m) far
nearest end R R' M far h m lt le r s =
    let back : end - (end - far) ≡ far = omega arith in
    let here : m ≡ end - (end - m) = omega arith in
    let near : end - m < far = omega arith in
    (end - m, (near, (refl, subst (λ k. Repeated R star k end) here s)), subst (R' (end - m)) back (M.to (end - far) m le r))

none-leads : (end : ℕ) (R R' : Rel) → Mirrored end R R' → (far : ℕ) → far ≤ end → 0 < far → ((s : ℕ) → After (Nearer R end far) R' s far → ⊥) → Repeated R star (end - far) end → ⊥
none-leads end R R' M far h pos none r =
    let t = turn-exists R M.ordered star 0 (end - far) end refl (λ (z, e). omega arith) r in
    let lt : end - far < t.0 = t.1 refl in
    let le : t.0 ≤ end = star-ordered end R R' M t.0 end t.3 in
    none (end - t.0) (nearest end R R' M far h t.0 lt le t.2 t.3)

some-leads : (end : ℕ) (R R' : Rel) → Mirrored end R R' → (far s : ℕ) → far ≤ end → After (Nearer R end far) R' s far → Repeated R star (end - far) end
some-leads end R R' M far s h (i, (lt, (e, r)), x) = star-more R (end - far) (end - i) end (M.from i far h x) r

-- the mark that comes in there
comes-in : (end : ℕ) (R R' : Rel) → Mirrored end R R' → (far : ℕ) → far ≤ end → 0 < far → (found : Mark) → Least (λ s. After (Nearer R end far) R' s far) found → Least (λ s. Leading R end s far) (mark_at far found)
comes-in end R R' M far h pos None l = λ s (e, r). none-leads end R R' M far h pos l r
comes-in end R R' M far h pos (Some next) (x, l) = ((refl, some-leads end R R' M far next h x), λ s (e, r). (let g : far ≤ s = omega arith in g))

-- where the turn ends that begins there
ends-there : (end : ℕ) (R R' : Rel) → Mirrored end R R' → (far : ℕ) → far ≤ end → 0 < far → (found : Mark) → Least (λ s. After (Nearer R end far) R' s far) found → EndsAt R end far (unwrap_or found far)
ends-there end R R' M far h pos None l = λ r. absurd (none-leads end R R' M far h pos l r)
ends-there end R R' M far h pos (Some next) ((i, (lt, (e, r)), x), l) =
    let near : next < far = omega arith in
    let gone : end - far < end - next = omega arith in
    λ all. (
      near,
      record {
        holds = ((λ z. gone), subst (λ k. R (end - far) (end - k)) (sym e) (M.from i far h x), subst (λ k. Repeated R star (end - k) end) (sym e) r);
        greatest = λ n (w, a, b).
            (let after : end - far < n = w refl in
            let le : n ≤ end = star-ordered end R R' M n end b in
            let least : next ≤ end - n = l (end - n) (nearest end R R' M far h n after le a b) in
            let g : n ≤ end - next = omega arith in
            g);
      },
    )

-- The marks of the items from the last to the first, so far before the end, and whether some turn begins there.
pub record Backed (line : Text) (body : ItemsTree) (end far : ℕ) (marks : List Mark) (found : Mark) : Type 0 where
  pub holds : HoldsItems (backward line end) (mirror body) far (Leading (MatchesItems line body) end) marks []
  pub comes : Least (λ s. Leading (MatchesItems line body) end s far) (mark_at far found)

pub backed-fresh : (line : Text) (body : ItemsTree) (end : ℕ) → Backed line body end 0 [] (Some 0)
backed-fresh line body end =
    let whole : end - 0 ≡ end = omega arith in
    record {
      holds = (sound_items (backward line end) (mirror body)).fresh 0 (Leading (MatchesItems line body) end) (λ s i lt l. absurd (omega arith));
      comes = ((refl, (end - 0, refl, (0, tt, whole))), λ s l. (let g : 0 ≤ s = omega arith in g));
    }

-- The least of the ends of turns that begin one byte before.
found-next : (line : Text) (body : ItemsTree) (end far : ℕ) (marks : List Mark) (found : Mark) → found ≡ (flow_items (mirror body) (flow None marks)).out → HoldsItems (backward line end) (mirror body) far (Leading (MatchesItems line body) end) marks [] → Least (λ s. After (Nearer (MatchesItems line body) end far) (MatchesItems (backward line end) (mirror body)) s far) found
found-next line body end far marks found e holds =
    let R : Rel = MatchesItems line body in
    let A = sound_items (backward line end) (mirror body) in
    let there = A.agree far (Leading R end) (Nearer R end far) marks [] (λ s i lt l. (lt, l)) (λ s i lt l. l.1) holds in
    let it = A.flows far (Nearer R end far) marks [] None there (λ s n. (let lt : far < far = n.0 in absurd (omega arith))) in
    subst (Least (λ s. After (Nearer R end far) (MatchesItems (backward line end) (mirror body)) s far)) (sym e) it.1

-- one byte more
pub backed-on : (line : Text) (body : ItemsTree) (end far b : ℕ) (marks after : List Mark) (found next : Mark) → end ≤ length line → far < end → slice_get (backward line end) far ≡ Some b → after ≡ (step_items b (mirror body) (step (mark_at far found) marks [])).next → next ≡ (flow_items (mirror body) (flow None after)).out → Backed line body end far marks found → Backed line body end (far + 1) after next × EndsAt (MatchesItems line body) end (far + 1) (unwrap_or next (far + 1))
backed-on line body end far b marks after found next within h at ea en w =
    let R : Rel = MatchesItems line body in
    let back : Text = backward line end in
    let R' : Rel = MatchesItems back (mirror body) in
    let M = mirrored_items line end body within in
    let holds = advanced back (HoldsItems back (mirror body)) R' (flow_items (mirror body)) (λ c. step_items c (mirror body)) (sound_items back (mirror body)) far b (Leading R end) marks after (mark_at far found) at w.holds w.comes ea in
    let least = found-next line body end (far + 1) after next en holds in
    let le : far + 1 ≤ end = omega arith in
    let pos : 0 < far + 1 = omega arith in
    (record { holds = holds; comes = comes-in end R R' M (far + 1) le pos next least }, ends-there end R R' M (far + 1) le pos next least)

pub count-more : (next far : ℕ) (ends : List ℕ) → length ends ≡ far → length (ends ++ next ∷ []) ≡ far + 1
count-more next far ends e = length-append ends (next ∷ []) ∙ ap (λ n. n + 1) e

-- one end more
pub ends-more : (R : Rel) (end far next : ℕ) (ends : List ℕ) → length ends ≡ far → EndsAt R end (far + 1) next → AreEnds R end ends → AreEnds R end (ends ++ next ∷ [])
ends-more R end far next ends count new all = λ k lt.
    elim (cases_lt k (length ends)) as (λ w. EndsAt R end (k + 1) (get_or (ends ++ next ∷ []) k 0)) [
      | inl before ↦ subst (EndsAt R end (k + 1)) (sym (get_or_append_left ends (next ∷ []) 0 k before)) (all k before)
      | inr behind ↦
          (let size : length (ends ++ next ∷ []) ≡ length ends + 1 = length-append ends (next ∷ []) in
          let last : length ends ≡ k = omega arith in
          let same : far + 1 ≡ k + 1 = omega arith in
          subst (EndsAt R end (k + 1)) (sym (get_or_at ends next [] 0 k last)) (subst (λ m. EndsAt R end m next) same new))
    ]

pub no-ends : (R : Rel) (end : ℕ) → AreEnds R end []
no-ends R end = λ k lt. absurd (omega arith)

-- the end that is kept of the turn that begins at a place
pub end-kept : (R : Rel) (start end : ℕ) (ends : List ℕ) → start < end → end - start ≤ length ends → AreEnds R end ends → Repeated R star start end → (get_or ends (end - start - 1) 0 < end - start) × IsNextTurn R star start end (end - get_or ends (end - start - 1) 0)
end-kept R start end ends h count all r =
    let k : ℕ = end - start - 1 in
    let next : ℕ = get_or ends k 0 in
    let there : start ≡ end - (k + 1) = omega arith in
    let lt : k < length ends = omega arith in
    let it = all k lt (subst (λ i. Repeated R star i end) there r) in
    let near : next < k + 1 = it.0 in
    ((let g : next < end - start = omega arith in g), subst (λ i. IsNextTurn R star i end (end - next)) (sym there) it.1)

-- where no turn is left behind it, the next one ends at the end
none-left : (R : Rel) (t : Times) (i j : ℕ) → takes_none t ≡ true → Repeated R t i j → i ≡ j
none-left R t i j e (k, u, (n, w, v)) =
    let both = and_parts (is_zero t.beyond) (t.least == 0) e in
    let a : i ≡ k = subst (λ m. Turns R m i k) (eqb-true t.least 0 both.1) u in
    let b : k ≡ j = subst (λ m. Turns R m k j) (no-more t.beyond n both.0 w) v in
    a ∙ b
  where
    no-more : (most : Option ℕ) (n : ℕ) → is_zero most ≡ true → IsWithin most n → n ≡ 0
    no-more None n e w = absurd (cc)
    no-more (Some more) n e w = let z : more ≡ 0 = eqb-true more 0 e in omega arith

pub last-turn : (line : Text) (body : ItemsTree) (left : Times) (i j : ℕ) → takes_none (less_one left) ≡ true → (IsDone left i j → ⊥) → Repeated (MatchesItems line body) left i j → IsNextTurn (MatchesItems line body) left i j j
last-turn line body left i j e more r =
    let R : Rel = MatchesItems line body in
    let t = turn-exists R (sound_items line body).ordered left left.least i j refl more r in
    let same : t.0 ≡ j = none-left R (less_one left) t.0 j e t.3 in
    record {
      holds = (subst (IsWorth left i) same t.1, subst (R i) same t.2, subst (λ m. Repeated R (less_one left) m j) same t.3);
      greatest = λ n (w, a, b). (let last : n ≡ j = none-left R (less_one left) n j e b in let g : n ≤ j = omega arith in g);
    }

-- a star
pub star-is : (t : Times) → is_star t ≡ true → t ≡ star
star-is t e =
    let both = and_parts (t.least == 0) (is_none t.beyond) e in
    let a : t ≡ record { least = 0; beyond = t.beyond } = ap (λ (n : ℕ). record { least = n; beyond = t.beyond }) (eqb-true t.least 0 both.0) in
    let b : record { least = 0; beyond = t.beyond } ≡ star = ap (λ (most : Option ℕ). record { least = 0; beyond = most }) (none-is t.beyond both.1) in
    a ∙ b
  where
    none-is : (most : Option ℕ) → is_none most ≡ true → most ≡ None
    none-is None e = refl
    none-is (Some n) e = absurd (cc)

-- where its turns aren't done, they take something
pub star-takes : (t : Times) (i j : ℕ) → t ≡ star → i ≤ j → (IsDone t i j → ⊥) → i < j
star-takes t i j e h more =
    elim (cases_lt i j) as (λ w. i < j) [
      | inl lt ↦ lt
      | inr ge ↦ absurd (more (ap (λ (x : Times). x.least) e, (let z : i ≡ j = omega arith in z)))
    ]
