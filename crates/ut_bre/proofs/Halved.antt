-- A match that is sought among places, by halves of them.
use Rattle.std.proofs.Common.{◌≡◌, ℕ, ◌+◌, ◌<◌, ◌≤◌, ◌⊎◌, inl, inr, length, true, refl, sym, ◌∙◌, arith, subst}
use Rattle.std.specs.Prelude.{◌↔◌, Option, Some, None, is_some}
use Rattle.std.proofs.lemmas.Bool.{cases_lt}
use Rattle.rk_base.specs.Text.{Text}
use Rattle.ut_places.specs.declared.places.Places.{Places}
use Rattle.ut_places.specs.Places.{Has}
use Rattle.ut_places.specs.Steps.{IsImage}
use Rattle.ut_bre.specs.declared.group.Span.{Span}
use Rattle.ut_bre.specs.Trees.{Expression}
use Rattle.ut_bre.specs.Matching.{MatchesItems, Matches, IsNoWorse, IsLeftmostLongest, Finds}
use Rattle.ut_bre.specs.Running.{NoneFrom}
use Rattle.ut_bre.specs.Relations.{IsLastEnd}
use Rattle.ut_bre.specs.Images.{Until, EndsFrom, IsFarthest, FindsBetween}
use Rattle.ut_bre.proofs.Laws.{sound_items}

-- the last place to which the items lead from where a match may begin
pub farthest-of : (e : Expression) (line : Text) (from to size : ℕ) (starts ends : Places) (last : Option ℕ) → size ≡ length line → (e.at_start ≡ true → to ≤ 1) → ((j : ℕ) → Has starts j ↔ ((from ≤ j) × (j < to))) → IsImage (Until (MatchesItems line e.items) (length line)) starts ends → IsLastEnd ends e.at_end size last → IsFarthest e line from to last
farthest-of e line from to size starts ends None z anchored begin image none = λ j (i, low, high, m). none j (within j m, λ q. m.at_end q ∙ sym z) ((image j).1 (i, (begin i).1 (low, high), (m.within, m.items)))
  where
    within : (j : ℕ) {i : ℕ} → Matches e line i j → j ≤ size
    within j m = let h : j ≤ length line = m.within in omega arith
farthest-of e line from to size starts ends (Some last) z anchored begin image ((le, is), has, greatest) = record {
  holds = (let f = (image last).0 has in let b = (begin f.0).0 f.1 in (f.0, b.0, b.1, record { at_start = λ q. first f.0 b.1 (anchored q); at_end = λ q. is q ∙ z; within = f.2.0; items = f.2.1 }));
  greatest = λ j (i, low, high, m). greatest j (within j m, λ q. m.at_end q ∙ sym z) ((image j).1 (i, (begin i).1 (low, high), (m.within, m.items)));
}
  where
    first : (i : ℕ) → i < to → to ≤ 1 → i ≡ 0
    first i a b = omega arith

    within : (j : ℕ) {i : ℕ} → Matches e line i j → j ≤ size
    within j m = let h : j ≤ length line = m.within in omega arith

-- none of these begins in the first half
pub later-half : (e : Expression) (line : Text) (low half high end : ℕ) → low ≤ half → IsFarthest e line low half None → IsFarthest e line low high (Some end) → IsFarthest e line half high (Some end)
later-half e line low half high end le none far = record { holds = on far.holds; greatest = λ j (i, a, b, m). (let h : low ≤ i = omega arith in far.greatest j (i, h, b, m)) }
  where
    on : EndsFrom e line low high end → EndsFrom e line half high end
    on (i, a, b, m) = elim (cases_lt i half) as (λ w. EndsFrom e line half high end) [ inl lt ↦ absurd (none end (i, a, lt, m)) | inr ge ↦ (i, ge, b, m) ]

pub none-until : (e : Expression) (line : Text) (from low half : ℕ) → IsFarthest e line low half None → NoneFrom e line from low → NoneFrom e line from half
none-until e line from low half none before i j a b m = elim (cases_lt i low) as (λ w. ⊥) [ inl lt ↦ before i j a lt m | inr ge ↦ none j (i, ge, b, m) ]

-- one place is left
pub one-left : (e : Expression) (line : Text) (from low high end : ℕ) → from ≤ low → high ≤ low + 1 → NoneFrom e line from low → IsFarthest e line low high (Some end) → IsLeftmostLongest e line from (record { start = low; end = end })
one-left e line from low high end behind one none far = record { behind = behind; matches = here far.holds; best = best }
  where
    here : EndsFrom e line low high end → Matches e line low end
    here (i, a, b, m) = let same : i ≡ low = omega arith in subst (λ k. Matches e line k end) same m

    best : (i j : ℕ) → from ≤ i → Matches e line i j → IsNoWorse (record { start = low; end = end }) i j
    best i j a m = by (cases_lt i low) (cases_lt low i)
      where
        by : (i < low) ⊎ (low ≤ i) → (low < i) ⊎ (i ≤ low) → IsNoWorse (record { start = low; end = end }) i j
        by (inl lt) w = absurd (none i j a lt m)
        by (inr ge) (inl more) = inl more
        by (inr ge) (inr le) =
            let same : low ≡ i = omega arith in
            let some : low < high = holds-low far.holds in
            let less : i < high = omega arith in
            inr (same, far.greatest j (i, ge, less, m))
          where
            holds-low : EndsFrom e line low high end → low < high
            holds-low (k, x, y, z) = omega arith

-- and where none was found no match begins there
pub none-between : (e : Expression) (line : Text) (from to : ℕ) → IsFarthest e line from to None → NoneFrom e line from to
none-between e line from to none i j a b m = none j (i, a, b, m)

-- a match that begins where none begins before
pub found-on : (e : Expression) (line : Text) (from at start to : ℕ) (found : Option Span) → from ≤ at → NoneFrom e line from at → at ≤ start → NoneFrom e line at start → FindsBetween e line start to found → (is_some found ≡ true) ⊎ (length line < to) → Finds e line from found
found-on e line from at start to None low before le none between w = λ i j a m. less-or w (λ less. elim (cases_lt i at) as (λ v. ⊥) [ inl lt ↦ before i j a lt m | inr ge ↦ by i j m less ge (cases_lt i start) ])
  where
    less-or : (is_some {T = Span} None ≡ true) ⊎ (length line < to) → (length line < to → ⊥) → ⊥
    less-or (inl some) f = cc
    less-or (inr less) f = f less

    by : (i j : ℕ) → Matches e line i j → length line < to → at ≤ i → (i < start) ⊎ (start ≤ i) → ⊥
    by i j m past ge (inl lt) = none i j ge lt m
    by i j m past ge (inr on) =
        let order : i ≤ j = (sound_items line e.items).ordered i j m.items in
        let within : j ≤ length line = m.within in
        let less : i < to = omega arith in
        between i j on less m
found-on e line from at start to (Some span) low before le none best w = record {
  behind = (let h : start ≤ span.start = best.behind in let g : from ≤ span.start = omega arith in g);
  matches = best.matches;
  best = λ i j a m. elim (cases_lt i at) as (λ w. IsNoWorse span i j) [ inl lt ↦ absurd (before i j a lt m) | inr ge ↦ by i j m ge (cases_lt i start) ];
}
  where
    by : (i j : ℕ) → Matches e line i j → at ≤ i → (i < start) ⊎ (start ≤ i) → IsNoWorse span i j
    by i j m ge (inl lt) = absurd (none i j ge lt m)
    by i j m ge (inr on) = best.best i j on m

pub none-on : (e : Expression) (line : Text) (from at start to : ℕ) (found : Option Span) → NoneFrom e line from at → NoneFrom e line at start → FindsBetween e line start to found → (is_some found ≡ true → ⊥) → NoneFrom e line from to
none-on e line from at start to (Some span) before none best w = absurd (w refl)
none-on e line from at start to None before none between w = λ i j a b m. elim (cases_lt i at) as (λ v. ⊥) [ inl lt ↦ before i j a lt m | inr ge ↦ by i j m b ge (cases_lt i start) ]
  where
    by : (i j : ℕ) → Matches e line i j → i < to → at ≤ i → (i < start) ⊎ (start ≤ i) → ⊥
    by i j m b ge (inl lt) = none i j ge lt m
    by i j m b ge (inr on) = between i j on b m

-- no match begins behind the line's start where a `^` is first
pub none-behind : (e : Expression) (line : Text) (from at start : ℕ) → e.at_start ≡ true → 0 < start → NoneFrom e line from at → NoneFrom e line at start → Finds e line from None
none-behind e line from at start q some before none i j a m = elim (cases_lt i at) as (λ w. ⊥) [ inl lt ↦ before i j a lt m | inr ge ↦ (let z : i ≡ 0 = m.at_start q in let less : i < start = omega arith in none i j ge less m) ]
