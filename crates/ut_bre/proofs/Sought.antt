-- A match that is sought by a table of where the items lead.
use Rattle.std.proofs.Common.{◌≡◌, ℕ, ◌+◌, ◌-◌, ◌<◌, ◌≤◌, ◌⊎◌, inl, inr, List, length, true, sym, arith, subst, slice_get}
use Rattle.std.specs.Prelude.{Some, None}
use Rattle.std.proofs.lemmas.Bool.{cases_lt}
use Rattle.rk_base.specs.Text.{Text}
use Rattle.ut_places.specs.declared.places.Places.{Places}
use Rattle.ut_places.specs.Places.{Has}
use Rattle.ut_places.specs.Steps.{Leads}
use Rattle.ut_bre.specs.Trees.{Expression}
use Rattle.ut_bre.specs.Matching.{MatchesItems, Matches, IsNoWorse, Finds}
use Rattle.ut_bre.specs.Running.{NoneFrom}
use Rattle.ut_bre.specs.Relations.{IsRelation, IsEnd, IsLastEnd}
use Rattle.ut_bre.proofs.Laws.{sound_items}

-- where the items of a match lead, a set has its end
match-end : (e : Expression) (line : Text) (from size far j : ℕ) (table : List Places) (set : Places) → from + size ≡ length line → IsRelation (MatchesItems line e.items) from size table → slice_get table far ≡ Some set → far < size + 1 → Matches e line (from + far) j → (end : ℕ) × (j ≡ from + end) × IsEnd e.at_end size end × Has set end
match-end e line from size far j table set z r at lt m =
    let order : from + far ≤ j = (sound_items line e.items).ordered (from + far) j m.items in
    let within : j ≤ length line = m.within in
    let is : j ≡ from + (j - from) = omega arith in
    let le : j - from ≤ size = omega arith in
    let l = (r.leads far (j - from) lt).1 (le, subst (MatchesItems line e.items (from + far)) is m.items) in
    (j - from, is, (le, λ q. (let last : j ≡ length line = m.at_end q in let w : j - from ≡ size = omega arith in w)), has l)
  where
    has : Leads table far (j - from) → Has set (j - from)
    has (own, e, h) = let same : own ≡ set = cc in subst (λ s. Has s (j - from)) same h

pub none-here : (e : Expression) (line : Text) (from size far : ℕ) (table : List Places) (set : Places) → from + size ≡ length line → IsRelation (MatchesItems line e.items) from size table → slice_get table far ≡ Some set → far < size + 1 → IsLastEnd set e.at_end size None → NoneFrom e line from (from + far) → NoneFrom e line from (from + (far + 1))
none-here e line from size far table set z r at lt none before i j low high m = by (cases_lt i (from + far))
  where
    by : (i < from + far) ⊎ (from + far ≤ i) → ⊥
    by (inl less) = before i j low less m
    by (inr ge) =
        let same : i ≡ from + far = omega arith in
        let f = match-end e line from size far j table set z r at lt (subst (λ k. Matches e line k j) same m) in
        none f.0 f.2 f.3

pub found-here : (e : Expression) (line : Text) (from size far end : ℕ) (table : List Places) (set : Places) → from + size ≡ length line → IsRelation (MatchesItems line e.items) from size table → slice_get table far ≡ Some set → far < size + 1 → (e.at_start ≡ true → from + far ≤ 0) → IsLastEnd set e.at_end size (Some end) → NoneFrom e line from (from + far) → Finds e line from (Some (record { start = from + far; end = from + end }))
found-here e line from size far end table set z r at lt first ((le, last), has, greatest) before = record {
  behind = (let h : from ≤ from + far = omega arith in h);
  matches = record {
    at_start = λ q. (let h : from + far ≤ 0 = first q in let w : from + far ≡ 0 = omega arith in w);
    at_end = λ q. (let h : end ≡ size = last q in let w : from + end ≡ length line = omega arith in w);
    within = (let w : from + end ≤ length line = omega arith in w);
    items = ((r.leads far end lt).0 (set, at, has)).1;
  };
  best = λ i j low m. by i j low m (cases_lt i (from + far));
}
  where
    by : (i j : ℕ) → from ≤ i → Matches e line i j → (i < from + far) ⊎ (from + far ≤ i) → IsNoWorse (record { start = from + far; end = from + end }) i j
    by i j low m (inl less) = absurd (before i j low less m)
    by i j low m (inr ge) = elim (cases_lt (from + far) i) as (λ w. IsNoWorse (record { start = from + far; end = from + end }) i j) [
      | inl more ↦ inl more
      | inr eq ↦ (
          let same : i ≡ from + far = omega arith in
          let f = match-end e line from size far j table set z r at lt (subst (λ k. Matches e line k j) same m) in
          let g : f.0 ≤ end = greatest f.0 f.2 f.3 in
          let is : j ≡ from + f.0 = f.1 in
          let le : j ≤ from + end = omega arith in
          inr (sym same, le)
          )
    ]

pub none-anchored : (e : Expression) (line : Text) (from far : ℕ) → e.at_start ≡ true → 0 < from + far → NoneFrom e line from (from + far) → Finds e line from None
none-anchored e line from far q h before i j low m = by (cases_lt i (from + far))
  where
    by : (i < from + far) ⊎ (from + far ≤ i) → ⊥
    by (inl less) = before i j low less m
    by (inr ge) = let w : i ≡ 0 = m.at_start q in absurd (omega arith)

pub none-left : (e : Expression) (line : Text) (from size far : ℕ) → from + size ≡ length line → size < far → NoneFrom e line from (from + far) → Finds e line from None
none-left e line from size far z h before i j low m =
    let order : i ≤ j = (sound_items line e.items).ordered i j m.items in
    let within : j ≤ length line = m.within in
    let less : i < from + far = omega arith in
    before i j low less m
