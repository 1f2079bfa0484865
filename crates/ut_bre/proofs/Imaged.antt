-- Where items lead from a set of places.
use Rattle.std.proofs.Common.{◌≡◌, ℕ, zero, suc, ◌+◌, ◌-◌, ◌<◌, ◌≤◌, ◌⊎◌, inl, inr, List, length, get_or, true, refl, sym, arith, subst, take}
use Rattle.std.specs.Prelude.{◌↔◌, Option, Some, None, min}
use Rattle.std.proofs.lemmas.Bool.{cases_lt}
use Rattle.rk_base.specs.Text.{Text}
use Rattle.ut_places.specs.declared.places.Places.{Places}
use Rattle.ut_places.specs.Places.{Has, IsNext, IsLast}
use Rattle.ut_places.specs.Steps.{Steps, UpTo, IsImage}
use Rattle.ut_bre.specs.declared.set.One.{One}
use Rattle.ut_bre.specs.declared.tree.Times.{Times}
use Rattle.ut_bre.specs.declared.tree.Item.{Item}
use Rattle.ut_bre.specs.Images.{Until, RunsOn, Reaches}
use Rattle.ut_bre.specs.Trees.{tree_of, trees_of, no_items, times_of}
use Rattle.ut_bre.specs.Times.{takes_none, needed, unneeded}
use Rattle.ut_bre.specs.Matching.{MatchesOne, Turns, IsWithin, Beyond, Repeated, MatchesItems}
use Rattle.ut_bre.specs.Mirroring.{put_last}
use Rattle.ut_bre.specs.Picking.{MatchesTurn}
use Rattle.ut_bre.specs.Relations.{most_in}
use Rattle.ut_bre.proofs.Standing.{Rel, After}
use Rattle.ut_bre.proofs.Turning.{Ordered, turn-ordered, item-turns, turns-item}
use Rattle.ut_bre.proofs.Mirrored.{last-to, last-from}
use Rattle.ut_bre.proofs.NeededLemmas.{turns-ordered}
use Rattle.ut_bre.proofs.Counted.{taking, turns-split}
use Rattle.ut_bre.proofs.Alike.{take_item, none-alike}

-- bytes that are all met

abbrev pub Met : Text → One → ℕ → ℕ → Type 0
Met line what i j = (k : ℕ) → i ≤ k → k < j → MatchesOne line what k (k + 1)

turns-met : (line : Text) (what : One) (n i j : ℕ) → Turns (MatchesOne line what) n i j → (j ≡ i + n) × Met line what i j
turns-met line what zero i j e = (let z : j ≡ i + 0 = omega arith in z, λ k low high. absurd (omega (arith, e)))
turns-met line what (suc n) i j (k, t, r) =
    let f = turns-met line what n i k t in
    let is : k ≡ i + n = f.0 in
    let next : j ≡ k + 1 = r.3 in
    let z : j ≡ i + suc n = omega arith in
    (z, λ q low high. by q low high (cases_lt q k) next f.1)
  where
    by : (q : ℕ) → i ≤ q → q < j → (q < k) ⊎ (k ≤ q) → j ≡ k + 1 → Met line what i k → MatchesOne line what q (q + 1)
    by q low high (inl lt) next met = met q low lt
    by q low high (inr ge) next met = let same : k ≡ q = omega arith in subst (λ p. MatchesOne line what p (p + 1)) same (subst (MatchesOne line what k) next r)

met-turns : (line : Text) (what : One) (n i j : ℕ) → j ≡ i + n → Met line what i j → Turns (MatchesOne line what) n i j
met-turns line what zero i j e met = let z : i ≡ j = omega arith in z
met-turns line what (suc n) i j e met =
    let z : i + n + 1 ≡ j = omega arith in
    let low : i ≤ i + n = omega arith in
    let high : i + n < j = omega arith in
    (i + n, met-turns line what n i (i + n) refl (λ k a b. (let c : k < j = omega arith in met k a c)), subst (MatchesOne line what (i + n)) z (met (i + n) low high))

-- a place of a set leads here by such bytes, that many at the least and at the most
abbrev pub LedTo : Text → One → Places → ℕ → ℕ → ℕ → Type 0
LedTo line what set least most j = (i : ℕ) × Has set i × (i + least ≤ j) × (j ≤ i + most) × Met line what i j

led-repeated : (line : Text) (what : One) (times : Times) (end most top i j : ℕ) → most ≡ min (times.least + most_in times.beyond end) top → i + times.least ≤ j → j ≤ i + most → Met line what i j → Repeated (MatchesOne line what) times i j
led-repeated line what times end most top i j e low high met =
    let k : ℕ = i + times.least in
    let n : ℕ = j - (i + times.least) in
    let z : j ≡ i + times.least + (j - (i + times.least)) = omega arith in (
      k,
      met-turns line what times.least i k refl (λ q a b. (let c : q < j = omega arith in met q a c)),
      (n, within times.beyond e, met-turns line what n k j z (λ q a b. (let c : i ≤ q = omega arith in met q c b))),
    )
  where
    within : (beyond : Option ℕ) → most ≡ min (times.least + most_in beyond end) top → IsWithin beyond (j - (i + times.least))
    within None z = tt
    within (Some more) z = let h : j - (i + times.least) ≤ more = omega arith in h

repeated-led : (line : Text) (what : One) (times : Times) (end most top i j : ℕ) → end ≤ top → most ≡ min (times.least + most_in times.beyond end) top → j ≤ end → Repeated (MatchesOne line what) times i j → (i + times.least ≤ j) × (j ≤ i + most) × Met line what i j
repeated-led line what times end most top i j le e h (k, t, (n, w, u)) =
    let f = turns-met line what times.least i k t in
    let g = turns-met line what n k j u in
    let a : k ≡ i + times.least = f.0 in
    let b : j ≡ k + n = g.0 in
    let low : i + times.least ≤ j = omega arith in
    (low, high times.beyond e w a b, λ q x y. by q x y (cases_lt q k) f.1 g.1)
  where
    high : (beyond : Option ℕ) → most ≡ min (times.least + most_in beyond end) top → IsWithin beyond n → k ≡ i + times.least → j ≡ k + n → j ≤ i + most
    high None z v a b = omega arith
    high (Some more) z v a b = let m : n ≤ more = v in omega arith

    by : (q : ℕ) → i ≤ q → q < j → (q < k) ⊎ (k ≤ q) → Met line what i k → Met line what k j → MatchesOne line what q (q + 1)
    by q x y (inl lt) first last = first q x lt
    by q x y (inr ge) first last = last q ge y

pub led-image : (line : Text) (what : One) (times : Times) (set to : Places) (end most top : ℕ) → end ≤ top → most ≡ min (times.least + most_in times.beyond end) top → ((j : ℕ) → Has to j ↔ ((j ≤ end) × LedTo line what set times.least most j)) → IsImage (Until (Repeated (MatchesOne line what) times) end) set to
led-image line what times set to end most top le e told j = (
  λ h. (let f = (told j).0 h in let l = f.1 in (l.0, l.1, (f.0, led-repeated line what times end most top l.0 j e l.2 l.3 l.4))),
  λ (i, h, (low, r)). (let f = repeated-led line what times end most top i j le e low r in (told j).1 (low, (i, h, f.0, f.1, f.2))),
)

-- How far a pass over bytes has come: the bytes are met from the run's start on, and from no place of the set before it.
pub record Passed (line : Text) (what : One) (set : Places) (least most at run : ℕ) (best : Option ℕ) (to : Places) : Type 0 where
  pub met : Met line what run at
  pub unmet : (i : ℕ) → Has set i → i < run → Met line what i at → ⊥
  pub last : IsLast set (at - least) best
  pub told : (j : ℕ) → Has to j ↔ ((j < at) × LedTo line what set least most j)

pub pass-first : (line : Text) (what : One) (set to : Places) (least most end first : ℕ) → IsNext set 0 end (Some first) → ((j : ℕ) → Has to j → ⊥) → Passed line what set least most first first None to
pass-first line what set to least most end first (z, lt, h, none) empty = record {
  met = λ k low high. absurd (omega arith);
  unmet = λ i here less met. early i here less;
  last = λ i less here. (let b : i < first = omega arith in early i here b);
  told = λ j. (λ g. absurd (empty j g), λ (less, (i, here, low, high, met)). (let b : i < first = omega arith in absurd (early i here b)));
}
  where
    early : (i : ℕ) → Has set i → i < first → ⊥
    early i here less = let a : 0 ≤ i = omega arith in none i a less here

pub pass-more : (line : Text) (what : One) (set to next : Places) (least most at run : ℕ) (best later : Option ℕ) → IsLast set (at + 1 - least) later → ((j : ℕ) → Has next j ↔ (Has to j ⊎ ((j ≡ at) × Reaches later run most at))) → Passed line what set least most at run best to → (j : ℕ) → Has next j ↔ ((j < at + 1) × LedTo line what set least most j)
pass-more line what set to next least most at run best later last both pass j = (λ h. to-here ((both j).0 h), λ (lt, l). from lt l (cases_lt j at))
  where
    here : (later : Option ℕ) → IsLast set (at + 1 - least) later → Reaches later run most at → LedTo line what set least most at
    here None l r = absurd r
    here (Some i) (lt, h, g) (low, high) =
        let a : i + least ≤ at = omega arith in
        (i, h, a, high, λ k x y. (let b : run ≤ k = omega arith in pass.met k b y))

    to-here : Has to j ⊎ ((j ≡ at) × Reaches later run most at) → (j < at + 1) × LedTo line what set least most j
    to-here (inl h) = let f = (pass.told j).0 h in let a : j < at = f.0 in let b : j < at + 1 = omega arith in (b, f.1)
    to-here (inr (e, r)) = let b : j < at + 1 = omega arith in (b, subst (LedTo line what set least most) (sym e) (here later last r))

    reached : (later : Option ℕ) → IsLast set (at + 1 - least) later → LedTo line what set least most at → Reaches later run most at
    reached None l (i, h, low, high, met) = let a : i < at + 1 - least = omega arith in l i a h
    reached (Some best) (lt, own, greatest) (i, h, low, high, met) =
        let a : i < at + 1 - least = omega arith in
        let b : i ≤ best = greatest i a h in
        let c : run ≤ i = elim (cases_lt i run) as (λ w. run ≤ i) [ inl less ↦ absurd (pass.unmet i h less met) | inr ge ↦ ge ] in
        let d : run ≤ best = omega arith in
        let e : at ≤ best + most = omega arith in
        (d, e)

    from : j < at + 1 → LedTo line what set least most j → (j < at) ⊎ (at ≤ j) → Has next j
    from lt l (inl less) = (both j).1 (inl ((pass.told j).1 (less, l)))
    from lt l (inr ge) = let e : j ≡ at = omega arith in (both j).1 (inr (e, reached later last (subst (LedTo line what set least most) e l)))

pub run-met : (line : Text) (what : One) (set : Places) (at run : ℕ) → MatchesOne line what at (at + 1) → Met line what run at → Met line what run (at + 1)
run-met line what set at run m met k low high = elim (cases_lt k at) as (λ w. MatchesOne line what k (k + 1)) [ inl lt ↦ met k low lt | inr ge ↦ (let e : at ≡ k = omega arith in subst (λ p. MatchesOne line what p (p + 1)) e m) ]

shorter : (line : Text) (what : One) (i j k : ℕ) → k ≤ j → Met line what i j → Met line what i k
shorter line what i j k le met q low high = let a : q < j = omega arith in met q low a

pub pass-on : (line : Text) (what : One) (set to next : Places) (least most at run : ℕ) (best later : Option ℕ) → IsLast set (at + 1 - least) later → ((j : ℕ) → Has next j ↔ (Has to j ⊎ ((j ≡ at) × Reaches later run most at))) → MatchesOne line what at (at + 1) → Passed line what set least most at run best to → Passed line what set least most (at + 1) run later next
pass-on line what set to next least most at run best later last both m pass = record {
  met = run-met line what set at run m pass.met;
  unmet = λ i h less met. (let le : at ≤ at + 1 = omega arith in pass.unmet i h less (shorter line what i (at + 1) at le met));
  last = last;
  told = pass-more line what set to next least most at run best later last both pass;
}

pub pass-cut : (line : Text) (what : One) (set to next : Places) (least most at run : ℕ) (best later : Option ℕ) → IsLast set (at + 1 - least) later → ((j : ℕ) → Has next j ↔ (Has to j ⊎ ((j ≡ at) × Reaches later run most at))) → (MatchesOne line what at (at + 1) → ⊥) → Passed line what set least most at run best to → Passed line what set least most (at + 1) (at + 1) later next
pass-cut line what set to next least most at run best later last both m pass = record {
  met = λ k low high. absurd (omega arith);
  unmet = λ i h less met. (let a : i ≤ at = omega arith in let b : at < at + 1 = omega arith in m (met at a b));
  last = last;
  told = pass-more line what set to next least most at run best later last both pass;
}

pub pass-step : (line : Text) (what : One) (set to after : Places) (least most at run next : ℕ) (best later : Option ℕ) → IsLast set (at + 1 - least) later → ((j : ℕ) → Has after j ↔ (Has to j ⊎ ((j ≡ at) × Reaches later run most at))) → RunsOn line what at run next → Passed line what set least most at run best to → Passed line what set least most (at + 1) next later after
pass-step line what set to after least most at run next best later last both (inl (m, e)) pass = subst (λ r. Passed line what set least most (at + 1) r later after) (sym e) (pass-on line what set to after least most at run best later last both m pass)
pass-step line what set to after least most at run next best later last both (inr (m, e)) pass = subst (λ r. Passed line what set least most (at + 1) r later after) (sym e) (pass-cut line what set to after least most at run best later last both m pass)

-- each place of the set lies before the run
pub pass-dead : (line : Text) (what : One) (set to : Places) (least most at run last end : ℕ) (best : Option ℕ) → at ≤ end + 1 → IsLast set (end + 1) (Some last) → ((j : ℕ) → Has set j → j ≤ end) → last < run → Passed line what set least most at run best to → (j : ℕ) → Has to j ↔ ((j ≤ end) × LedTo line what set least most j)
pass-dead line what set to least most at run last end best le (lt, h, greatest) before less pass j = (λ g. (let f = (pass.told j).0 g in let a : j < at = f.0 in let b : j ≤ end = omega arith in (b, f.1)), λ (low, l). from low l (cases_lt j at))
  where
    from : j ≤ end → LedTo line what set least most j → (j < at) ⊎ (at ≤ j) → Has to j
    from low l (inl b) = (pass.told j).1 (b, l)
    from low (i, own, x, y, met) (inr b) =
        let w : i ≤ end = before i own in
        let v : i < end + 1 = omega arith in
        let c : i ≤ last = greatest i v own in
        let d : i < run = omega arith in
        absurd (pass.unmet i own d (shorter line what i j at b met))

pub pass-last : (line : Text) (what : One) (set to : Places) (least most at run last end top : ℕ) (best : Option ℕ) → at ≤ end + 1 → (at ≤ min end (min (last + most) top) → ⊥) → end ≤ top → IsLast set (end + 1) (Some last) → ((j : ℕ) → Has set j → j ≤ end) → Passed line what set least most at run best to → (j : ℕ) → Has to j ↔ ((j ≤ end) × LedTo line what set least most j)
pass-last line what set to least most at run last end top best le past high (lt, h, greatest) before pass j = (λ g. (let f = (pass.told j).0 g in let a : j < at = f.0 in let b : j ≤ end = omega arith in (b, f.1)), λ (low, l). from low l)
  where
    from : j ≤ end → LedTo line what set least most j → Has to j
    from low (i, own, x, y, met) =
        let w : i ≤ end = before i own in
        let v : i < end + 1 = omega arith in
        let c : i ≤ last = greatest i v own in
        let d : j ≤ min end (min (last + most) top) = omega arith in
        let b : j < at = elim (cases_lt j at) as (λ w. j < at) [ inl lt ↦ lt | inr ge ↦ (let q : at ≤ min end (min (last + most) top) = omega arith in absurd (past q)) ] in
        (pass.told j).1 (b, (i, own, x, y, met))

-- no turn
pub image-idle : (T : Rel) (times : Times) (end : ℕ) (set to : Places) → takes_none times ≡ true → ((j : ℕ) → Has to j ↔ Has set j) → ((j : ℕ) → Has set j → j ≤ end) → IsImage (Until (Repeated T times) end) set to
image-idle T times end set to e same before j = (
  λ h. (let g = (same j).0 h in let le : j ≤ j + j = omega arith in (j, g, (before j g, (none-alike T times j e j j le).1 refl))),
  λ (i, h, (low, r)). (let le : j ≤ i + j = omega arith in (same j).1 (subst (Has set) ((none-alike T times j e i j le).0 r) h)),
)

-- no place of the set, and so none to which it leads
pub none-image : (R : Rel) (set to : Places) (end : ℕ) → ((j : ℕ) → j < end + 1 → Has set j → ⊥) → ((j : ℕ) → Has set j → j ≤ end) → ((j : ℕ) → Has to j → ⊥) → IsImage R set to
none-image R set to end none before empty j = (λ h. absurd (empty j h), λ (i, h, r). (let a : i ≤ end = before i h in let b : i < end + 1 = omega arith in absurd (none i b h)))

-- the same relation

pub image-alike : (R S : Rel) (end : ℕ) (set to : Places) → ((i j : ℕ) → R i j ↔ S i j) → IsImage (Until R end) set to → IsImage (Until S end) set to
image-alike R S end set to same image j = (
  λ h. (let f = (image j).0 h in (f.0, f.1, (f.2.0, (same f.0 j).0 f.2.1))),
  λ (i, h, (le, s)). (image j).1 (i, h, (le, (same i j).1 s)),
)

pub needed-alone : (T : Rel) (times : Times) (i j : ℕ) → Repeated T (needed times) i j ↔ Turns T times.least i j
needed-alone T times i j = (λ (k, t, (n, le, u)). to k t n le u, λ t. (j, t, (0, (let h : 0 ≤ 0 = omega arith in h), refl)))
  where
    to : (k : ℕ) → Turns T times.least i k → (n : ℕ) → n ≤ 0 → Turns T n k j → Turns T times.least i j
    to k t zero le e = subst (Turns T times.least i) e t
    to k t (suc n) le u = absurd (omega arith)

pub beyond-alone : (T : Rel) (times : Times) (i j : ℕ) → Repeated T (unneeded times) i j ↔ Beyond T times.beyond i j
beyond-alone T times i j = (λ (k, e, b). subst (λ p. Beyond T times.beyond p j) (sym e) b, λ b. (i, refl, b))

-- turn by turn

steps-until : (T : Rel) (end n i j : ℕ) → i ≤ end → Steps (Until T end) n i j → (j ≤ end) × Turns T n i j
steps-until T end zero i j le e = let h : j ≤ end = omega arith in (h, e)
steps-until T end (suc n) i j le (k, s, (h, r)) = (h, (k, (steps-until T end n i k le s).1, r))

until-steps : (T : Rel) (end : ℕ) → Ordered T → (n i j : ℕ) → j ≤ end → Turns T n i j → Steps (Until T end) n i j
until-steps T end ordered zero i j le e = e
until-steps T end ordered (suc n) i j le (k, t, r) =
    let order : k ≤ j = ordered k j r in
    let h : k ≤ end = omega arith in
    (k, until-steps T end ordered n i k h t, (le, r))

pub needed-done : (T : Rel) (end n : ℕ) (set here : Places) → Ordered T → ((j : ℕ) → Has set j → j ≤ end) → IsImage (Steps (Until T end) n) set here → IsImage (Until (Turns T n) end) set here
needed-done T end n set here ordered before image j = (
  λ h. (let f = (image j).0 h in (f.0, f.1, steps-until T end n f.0 j (before f.0 f.1) f.2)),
  λ (i, h, (le, t)). (image j).1 (i, h, until-steps T end ordered n i j le t),
)

-- where no place is left, more turns lead nowhere
pub needed-none : (T : Rel) (end n most : ℕ) (set here : Places) → Ordered T → ((j : ℕ) → Has set j → j ≤ end) → n ≤ most → ((j : ℕ) → j ≤ end → Has here j → ⊥) → IsImage (Steps (Until T end) n) set here → IsImage (Until (Turns T most) end) set here
needed-none T end n most set here ordered before le none image j = (λ h. absurd (to h), λ (i, h, (low, t)). absurd (from i h low t))
  where
    to : Has here j → ⊥
    to h = let f = (image j).0 h in none j (steps-until T end n f.0 j (before f.0 f.1) f.2).0 h

    from : (i : ℕ) → Has set i → j ≤ end → Turns T most i j → ⊥
    from i h low t =
        let z : n + (most - n) ≡ most = omega arith in
        let f = turns-split T n (most - n) most i j z t in
        let order : f.0 ≤ j = turns-ordered T ordered (most - n) f.0 j f.2 in
        let b : f.0 ≤ end = omega arith in
        none f.0 b ((image f.0).1 (i, h, until-steps T end ordered n i f.0 b f.1))

pub beyond-done : (T : Rel) (end most : ℕ) (beyond : Option ℕ) (set all : Places) → Ordered T → ((j : ℕ) → Has set j → j ≤ end) → most ≡ most_in beyond end → IsImage (UpTo (Until T end) most) set all → IsImage (Until (Beyond T beyond) end) set all
beyond-done T end most beyond set all ordered before e image j = (λ h. to ((image j).0 h), λ (i, h, (le, (n, w, t))). (let f = few beyond e i n w le t in (image j).1 (i, h, (f.0, f.1, until-steps T end ordered f.0 i j le f.2))))
  where
    within : (beyond : Option ℕ) (n : ℕ) → most ≡ most_in beyond end → n ≤ most → IsWithin beyond n
    within None n z le = tt
    within (Some more) n z le = let h : n ≤ more = omega arith in h

    to : (i : ℕ) × Has set i × UpTo (Until T end) most i j → (i : ℕ) × Has set i × Until (Beyond T beyond) end i j
    to (i, h, (n, le, s)) = let f = steps-until T end n i j (before i h) s in (i, h, (f.0, (n, within beyond n e le, f.1)))

    few : (beyond : Option ℕ) → most ≡ most_in beyond end → (i n : ℕ) → IsWithin beyond n → j ≤ end → Turns T n i j → (m : ℕ) × (m ≤ most) × Turns T m i j
    few None z i n w le t =
        let f = taking T ordered n i j t in
        let m : ℕ = f.0 in
        let short : i + f.0 ≤ j = f.2 in
        let h : f.0 ≤ most = omega arith in
        (f.0, h, f.3)
    few (Some more) z i n w le t = let v : n ≤ more = w in let h : n ≤ most = omega arith in (n, h, t)

-- one behind another

pub image-then : (R T : Rel) (end : ℕ) (set here next : Places) → Ordered T → IsImage (Until R end) set here → IsImage (Until T end) here next → IsImage (Until (After R T) end) set next
image-then R T end set here next ordered first last j = (
  λ h. (let f = (last j).0 h in let g = (first f.0).0 f.1 in (g.0, g.1, (f.2.0, (f.0, g.2.1, f.2.1)))),
  λ (i, h, (le, (k, r, t))). (let order : k ≤ j = ordered k j t in let b : k ≤ end = omega arith in (last j).1 (k, (first k).1 (i, h, (b, r)), (le, t))),
)

beyond-ordered : (T : Rel) (beyond : Option ℕ) → Ordered T → Ordered (Beyond T beyond)
beyond-ordered T beyond ordered i j (n, w, t) = turns-ordered T ordered n i j t

pub image-none : (line : Text) (end : ℕ) (set here : Places) → ((j : ℕ) → Has here j ↔ Has set j) → ((j : ℕ) → Has set j → j ≤ end) → IsImage (Until (MatchesItems line no_items) end) set here
image-none line end set here same before j = (λ h. (let g = (same j).0 h in (j, g, (before j g, refl))), λ (i, h, (le, e)). (same j).1 (subst (Has set) e h))

pub image-item : (line : Text) (items : List Item) (n : ℕ) (item : Item) (times : Times) (end : ℕ) (set here mid next : Places) → n < length items → item ≡ get_or items n item → times ≡ times_of (tree_of item) → IsImage (Until (Turns (MatchesTurn line (tree_of item)) times.least) end) here mid → IsImage (Until (Beyond (MatchesTurn line (tree_of item)) times.beyond) end) mid next → IsImage (Until (MatchesItems line (trees_of (take n items))) end) set here → IsImage (Until (MatchesItems line (trees_of (take (n + 1) items))) end) set next
image-item line items n item times end set here mid next lt at own first last before =
    let xs = trees_of (take n items) in
    let x = tree_of item in
    let T = MatchesTurn line x in
    let order = turn-ordered line x in
    let R : Rel = MatchesItems line xs in
    let a = image-then R (Turns T times.least) end set here mid (λ i j t. turns-ordered T order times.least i j t) before first in
    let b = image-then (After R (Turns T times.least)) (Beyond T times.beyond) end set mid next (beyond-ordered T times.beyond order) a last in
    let c = image-alike (After (After R (Turns T times.least)) (Beyond T times.beyond)) (MatchesItems line (put_last xs x)) end set next (λ i j. (λ (k, (m, r, t), u). last-to line xs x i j (m, r, turns-item line x m j (subst (λ (w : Times). Repeated T w m j) own (k, t, u))), λ m. (let f = last-from line xs x i j m in let g = subst (λ (w : Times). Repeated T w f.0 j) (sym own) (item-turns line x f.0 j f.2) in (g.0, (f.0, f.1, g.1), g.2)))) b in
    subst (λ ys. IsImage (Until (MatchesItems line ys) end) set next) (sym (take_item items n item lt at)) c
