-- Rows and places by the sets of places to which a relation leads.
use Rattle.std.proofs.Common.{◌≡◌, ℕ, zero, suc, ◌+◌, ◌-◌, ◌<◌, ◌≤◌, ◌⊎◌, inl, inr, List, [], ◌∷◌, length, true, refl, sym, arith, subst, slice_get}
use Rattle.std.specs.Prelude.{◌↔◌, Option, Some, None, is_some}
use Rattle.std.proofs.lemmas.Bool.{cases_lt}
use Rattle.ut_places.specs.declared.places.Places.{Places}
use Rattle.ut_places.specs.Places.{Has, IsLast}
use Rattle.ut_places.specs.Steps.{Leads}
use Rattle.ut_bre.specs.declared.tree.Times.{Times}
use Rattle.ut_bre.specs.Times.{star}
use Rattle.ut_bre.specs.Matching.{Repeated}
use Rattle.rk_base.specs.Text.{Text}
use Rattle.ut_bre.specs.Trees.{ItemTree}
use Rattle.ut_bre.specs.Picking.{IsLatest, RestTree, MatchesTurn, MatchesRest, ReachesEnd}
use Rattle.ut_bre.specs.Ends.{EndsAt}
use Rattle.ut_bre.specs.Rows.{Row, is_open, IsOpen, LeadsOn, TellsWhere, IsRow, ReachesOpen}
use Rattle.ut_bre.specs.Relations.{IsRelation, OpensAt, ahead, far_from}
use Rattle.ut_bre.proofs.Standing.{Rel}
use Rattle.ut_bre.proofs.Turning.{Ordered, turn-exists, turn-ordered}
use Rattle.ut_bre.proofs.NeededLemmas.{turns-ordered}
use Rattle.ut_bre.proofs.Rowed.{ToldBelow, row-then}
use Rattle.ut_bre.proofs.Ended.{star-more}
use Rattle.ut_bre.proofs.Latest.{sound_rest}
use Rattle.ut_bre.proofs.Reached.{latest-as}
use Rattle.ut_bre.proofs.Related.{repeated-ordered}

-- an entry that is open is in the row
open-below : (row : Row) (k : ℕ) → is_open row k ≡ true → k < length row
open-below [] k e = absurd (cc)
open-below (x ∷ xs) zero e = omega arith
open-below (x ∷ xs) (suc k) e = let h : k < length xs = open-below xs k e in omega arith

-- the last place of a set that is open

pub open-first : (set : Places) (behind : Row) (places : ℕ) → 0 < places → (p : ℕ) → places ≤ p → OpensAt set behind (places - 1) p → ⊥
open-first set behind places pos p h (le, has, o) = let a : p ≤ places - 1 = le in absurd (omega arith)

pub open-none : (set : Places) (behind : Row) (places end : ℕ) → IsLast set end None → ((p : ℕ) → end ≤ p → OpensAt set behind (places - 1) p → ⊥) → IsLatest (OpensAt set behind (places - 1)) None
open-none set behind places end last none p (le, has, o) = elim (cases_lt p end) as (λ w. ⊥) [ inl lt ↦ last p lt has | inr ge ↦ none p ge (le, has, o) ]

pub open-some : (set : Places) (behind : Row) (places end at : ℕ) → end ≤ places → IsLast set end (Some at) → is_open behind (places - 1 - at) ≡ true → ((p : ℕ) → end ≤ p → OpensAt set behind (places - 1) p → ⊥) → IsLatest (OpensAt set behind (places - 1)) (Some at)
open-some set behind places end at within (lt, has, last) o none = record {
  holds = (let le : at ≤ places - 1 = omega arith in (le, has, o));
  greatest = λ p (le, h, q). elim (cases_lt p end) as (λ w. p ≤ at) [ inl less ↦ last p less h | inr ge ↦ absurd (none p ge (le, h, q)) ];
}

pub open-less : (set : Places) (behind : Row) (places end at : ℕ) → IsLast set end (Some at) → (is_open behind (places - 1 - at) ≡ true → ⊥) → ((p : ℕ) → end ≤ p → OpensAt set behind (places - 1) p → ⊥) → (p : ℕ) → at ≤ p → OpensAt set behind (places - 1) p → ⊥
open-less set behind places end at (lt, has, last) shut none p low (le, h, q) = by (cases_lt p end)
  where
    by : (p < end) ⊎ (end ≤ p) → ⊥
    by (inl less) =
        let top : p ≤ at = last p less h in
        let same : p ≡ at = omega arith in
        shut (subst (λ k. is_open behind (places - 1 - k) ≡ true) same q)
    by (inr ge) = none p ge (le, h, q)

-- where a relation leads from a place of a piece

open-to : (R : Rel) (start end size far p : ℕ) (behind : Row) (table : List Places) (set : Places) → start + size ≡ end → IsRelation R start size table → far ≤ size → slice_get table far ≡ Some set → OpensAt set behind size p → R (start + far) (start + p) × IsOpen behind end (start + p)
open-to R start end size far p behind table set z r h at (le, has, o) =
    let lt : far < size + 1 = omega arith in
    let f = (r.leads far p lt).0 (set, at, has) in
    let within : start + p ≤ end = omega arith in
    let same : size - p ≡ end - (start + p) = omega arith in
    (f.1, (within, subst (λ k. is_open behind k ≡ true) same o))

open-from : (R : Rel) (start end size far q : ℕ) (behind : Row) (table : List Places) (set : Places) → Ordered R → start + size ≡ end → IsRelation R start size table → far ≤ size → slice_get table far ≡ Some set → R (start + far) q → IsOpen behind end q → (p : ℕ) × (q ≡ start + p) × OpensAt set behind size p
open-from R start end size far q behind table set ordered z r h at m (within, o) =
    let lt : far < size + 1 = omega arith in
    let low : start + far ≤ q = ordered (start + far) q m in
    let le : q - start ≤ size = omega arith in
    let is : q ≡ start + (q - start) = omega arith in
    let same : end - q ≡ size - (q - start) = omega arith in
    let l = (r.leads far (q - start) lt).1 (le, subst (R (start + far)) is m) in
    (q - start, is, (le, has l, subst (λ k. is_open behind k ≡ true) same o))
  where
    has : Leads table far (q - start) → Has set (q - start)
    has (own, e, g) = let is : own ≡ set = cc in subst (λ s. Has s (q - start)) is g

pub row-bit : (R : Rel) (start end size far i : ℕ) (behind : Row) (table : List Places) (set : Places) (found : Option ℕ) → Ordered R → start + size ≡ end → IsRelation R start size table → far ≤ size → slice_get table far ≡ Some set → i ≡ start + far → IsLatest (OpensAt set behind size) found → (is_some found ≡ true) ↔ LeadsOn R behind end i
row-bit R start end size far i behind table set None ordered z r h at is none = (
  λ e. absurd (cc),
  λ (q, m, w). (let f = open-from R start end size far q behind table set ordered z r h at (subst (λ k. R k q) is m) w in absurd (none f.0 f.2)),
)
row-bit R start end size far i behind table set (Some p) ordered z r h at is last = (
  λ e. (let f = open-to R start end size far p behind table set z r h at last.holds in (start + p, subst (λ k. R k (start + p)) (sym is) f.0, f.1)),
  λ w. refl,
)

pub open-ahead : (R : Rel) (start end size : ℕ) (behind : Row) (table : List Places) (set : Places) (found : Option ℕ) → Ordered R → start + size ≡ end → IsRelation R start size table → slice_get table 0 ≡ Some set → IsLatest (OpensAt set behind size) found → IsLatest (λ m. R start m × IsOpen behind end m) (ahead start found)
open-ahead R start end size behind table set None ordered z r at none = λ q (m, w). (
    let low : 0 ≤ size = omega arith in
    let is : start ≡ start + 0 = omega arith in
    let f = open-from R start end size 0 q behind table set ordered z r low at (subst (λ k. R k q) is m) w in
    none f.0 f.2
    )
open-ahead R start end size behind table set (Some p) ordered z r at last =
    let low : 0 ≤ size = omega arith in
    let is : start ≡ start + 0 = omega arith in
    let f = open-to R start end size 0 p behind table set z r low at last.holds in
    record {
      holds = (subst (λ k. R k (start + p)) (sym is) f.0, f.1);
      greatest = λ q (m, w). (
          let g = open-from R start end size 0 q behind table set ordered z r low at (subst (λ k. R k q) is m) w in
          let le : g.0 ≤ p = last.greatest g.0 g.2 in
          let same : q ≡ start + g.0 = g.1 in
          let h : q ≤ start + p = omega arith in
          h
          );
    }

pub open-within : (set : Places) (behind : Row) (start end size : ℕ) (found : Option ℕ) → start + size ≡ end → IsLatest (OpensAt set behind size) found → (p : ℕ) → found ≡ Some p → start + p ≤ end
open-within set behind start end size None z last p e = absurd (cc)
open-within set behind start end size (Some q) z last p e = let a : q ≤ size = last.holds.0 in let same : q ≡ p = cc in omega arith

-- the turns of a star

star-ordered : (R : Rel) → Ordered R → (i j : ℕ) → Repeated R star i j → i ≤ j
star-ordered R ordered i j (k, e, (n, w, u)) = let a : k ≤ j = turns-ordered R ordered n k j u in omega arith

-- no turn is left at the end
pub star-first : (R : Rel) (end : ℕ) → ToldBelow (λ i. Repeated R star i end) end 1 (true ∷ [])
star-first R end zero lt = let z : end - 0 ≡ end = omega arith in (λ e. (end - 0, refl, (0, tt, z)), λ s. refl)
star-first R end (suc k) lt = absurd (omega arith)

-- So far before the end, the turn that begins there ends last where a place is open to which it leads.
pub star-end : (R : Rel) (start end size far : ℕ) (row : Row) (table : List Places) (set : Places) (found : Option ℕ) → Ordered R → start + size ≡ end → far < size → IsRelation R start size table → slice_get table (size - far - 1) ≡ Some set → length row ≡ far + 1 → ToldBelow (λ i. Repeated R star i end) end (far + 1) row → IsLatest (OpensAt set row size) found → EndsAt R end (far + 1) (far_from size (far + 1) found) × ((is_some found ≡ true) ↔ Repeated R star (end - (far + 1)) end)
star-end R start end size far row table set found ordered z lt r at count told = by found
  where
    at-place : start + (size - far - 1) ≡ end - (far + 1)
    at-place = omega arith

    low : size - far - 1 ≤ size
    low = omega arith

    open-here : (m : ℕ) → end - (far + 1) < m → R (end - (far + 1)) m → Repeated R star m end → (p : ℕ) × (m ≡ start + p) × OpensAt set row size p
    open-here m more a s =
        let high : m ≤ end = star-ordered R ordered m end s in
        let back : m ≡ end - (end - m) = omega arith in
        let near : end - m < far + 1 = omega arith in
        let o = (told (end - m) near).1 (subst (λ k. Repeated R star k end) back s) in
        open-from R start end size (size - far - 1) m row table set ordered z r low at (subst (λ k. R k m) (sym at-place) a) (high, o)

    opened : Repeated R star (end - (far + 1)) end → (p : ℕ) × OpensAt set row size p
    opened s =
        let t = turn-exists R ordered star 0 (end - (far + 1)) end refl (λ (e, same). (let w : end - (far + 1) ≡ end = same in omega arith)) s in
        let f = open-here t.0 (t.1 refl) t.2 t.3 in
        (f.0, f.2)

    -- what is open isn't the place itself
    after : (p : ℕ) → OpensAt set row size p → (end - (far + 1) < start + p) × R (end - (far + 1)) (start + p) × Repeated R star (start + p) end
    after p (le, has, o) =
        let f = open-to R start end size (size - far - 1) p row table set z r low at (le, has, o) in
        let in_row : size - p < length row = open-below row (size - p) o in
        let near : size - p < far + 1 = omega arith in
        let gone : end - (far + 1) < start + p = omega arith in
        let back : end - (size - p) ≡ start + p = omega arith in
        (gone, subst (λ k. R k (start + p)) at-place f.0, subst (λ k. Repeated R star k end) back ((told (size - p) near).0 o))

    by : (found : Option ℕ) → IsLatest (OpensAt set row size) found → EndsAt R end (far + 1) (far_from size (far + 1) found) × ((is_some found ≡ true) ↔ Repeated R star (end - (far + 1)) end)
    by None none = (λ s. (let f = opened s in absurd (none f.0 f.1)), (λ e. absurd (cc), λ s. (let f = opened s in absurd (none f.0 f.1))))
    by (Some p) last =
        let f = after p last.holds in
        let le : p ≤ size = last.holds.0 in
        let more : end - (far + 1) < start + p = f.0 in
        let near : size - p < far + 1 = omega arith in
        let is : end - (size - p) ≡ start + p = omega arith in (
          λ s. (
            near,
            record {
              holds = subst (λ k. (star.least ≡ 0 → end - (far + 1) < k) × R (end - (far + 1)) k × Repeated R star k end) (sym is) (λ q. more, f.1, f.2);
              greatest = λ n (w, a, b). (
                  let g = open-here n (w refl) a b in
                  let top : g.0 ≤ p = last.greatest g.0 g.2 in
                  let same : n ≡ start + g.0 = g.1 in
                  let h : n ≤ end - (size - p) = omega arith in
                  h
                  );
            },
          ),
          (λ e. star-more R (end - (far + 1)) (start + p) end f.1 f.2, λ s. refl),
        )

-- what a row tells of a rest, in place of the rest
pub rest-row : (line : Text) (x : ItemTree) (times : Times) (rest : RestTree) (start end : ℕ) (none row : Row) (found : Option ℕ) → start ≤ end → TellsWhere (λ i. i ≡ end) start end none → IsRow (MatchesRest line rest) none start end row → IsLatest (ReachesOpen line x times row start end) found → IsLatest (ReachesEnd line x times rest start end) found
rest-row line x times rest start end none row found order ends tells last = latest-as (ReachesOpen line x times row start end) (ReachesEnd line x times rest start end) found to from last
  where
    ordered : (i j : ℕ) → Repeated (MatchesTurn line x) times i j → i ≤ j
    ordered = repeated-ordered (MatchesTurn line x) times (turn-ordered line x)

    all : TellsWhere (λ i. (p : ℕ) × MatchesRest line rest i p × (p ≡ end)) start end row
    all = row-then (MatchesRest line rest) (λ i. i ≡ end) start end none row (sound_rest line rest).ordered (λ p e. (let h : p ≤ end = omega arith in h)) ends tells

    to : (m : ℕ) → ReachesOpen line x times row start end m → ReachesEnd line x times rest start end m
    to m (r, (le, o)) =
        let low : start ≤ m = ordered start m r in
        let f = (all m low le).0 (le, o) in
        (r, subst (MatchesRest line rest m) f.2 f.1)

    from : (m : ℕ) → ReachesEnd line x times rest start end m → ReachesOpen line x times row start end m
    from m (r, s) =
        let low : start ≤ m = ordered start m r in
        let high : m ≤ end = (sound_rest line rest).ordered m end s in
        (r, (all m low high).1 (end, s, refl))
