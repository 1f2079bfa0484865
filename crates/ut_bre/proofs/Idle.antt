-- Needed turns at the end of what a group takes: each takes nothing, and puts what the first one put.
use Rattle.std.proofs.Common.{◌≡◌, ℕ, zero, suc, ◌-◌, ◌<◌, ◌≤◌, ◌⊎◌, inl, inr, List, [], ◌∷◌, ◌++◌, Bool, true, false, length, get_or, refl, sym, ap, ◌∙◌, arith, subst}
use Rattle.std.specs.Prelude.{Option, Some, None, ◌==◌, nat_lt, slice_set, if◌then◌else◌}
use Rattle.std.proofs.Math.ListN.{length-set}
use Rattle.std.proofs.lemmas.Bool.{cases_lt, leb-true, leb-false, eqb-true, eqb-false}
use Rattle.std.proofs.lemmas.List.{get_or-set_same, get_or-set_other, ext_get_or}
use Rattle.rk_base.specs.Text.{Text}
use Rattle.ut_bre.specs.declared.tree.Times.{Times}
use Rattle.ut_bre.specs.declared.group.Span.{Span}
use Rattle.ut_bre.specs.Trees.{ItemsTree, group}
use Rattle.ut_bre.specs.Times.{less_one}
use Rattle.ut_bre.specs.Matching.{Turns, IsWithin, Repeated, MatchesItems}
use Rattle.ut_bre.specs.Picking.{Turn, IsDone, IsNextTurn, PicksTurns, PicksItems, PutsItem, PutsItems, put_span, put_turns}
use Rattle.ut_bre.proofs.Standing.{Rel}
use Rattle.ut_bre.proofs.Turning.{Ordered, Turned, put-append, less-least}
use Rattle.ut_bre.proofs.Laws.{sound_items}
use Rattle.ut_bre.proofs.Related.{repeated-ordered}

-- what turns put, place by place

abbrev put_if : Bool → Span → Option Span → Option Span
put_if true span was = Some span
put_if false span was = was

abbrev put_at : List Turn → ℕ → Option Span → Option Span
put_at [] k was = was
put_at (turn ∷ rest) k was = put_at rest k (put_if (turn.number == k) turn.span was)

put-length : (n : ℕ) (span : Span) (spans : List (Option Span)) → length (put_span n span spans) ≡ length spans
put-length n span spans = by (nat_lt n (length spans))
  where
    by : (b : Bool) → length (if b then slice_set spans n (Some span) else spans) ≡ length spans
    by true = length-set spans n (Some span)
    by false = refl

all-length : (turns : List Turn) (spans : List (Option Span)) → length (put_turns turns spans) ≡ length spans
all-length [] spans = refl
all-length (turn ∷ rest) spans = all-length rest (put_span turn.number turn.span spans) ∙ put-length turn.number turn.span spans

one-at : (n : ℕ) (span : Span) (spans : List (Option Span)) (k : ℕ) → k < length spans → get_or (put_span n span spans) k None ≡ put_if (n == k) span (get_or spans k None)
one-at n span spans k within = by (nat_lt n (length spans)) refl (n == k) refl
  where
    by : (b : Bool) → nat_lt n (length spans) ≡ b → (here : Bool) → (n == k) ≡ here → get_or (if b then slice_set spans n (Some span) else spans) k None ≡ put_if here span (get_or spans k None)
    by true e true h =
        let lt : n < length spans = leb-true (suc n) (length spans) e in
        let same : n ≡ k = eqb-true n k h in
        subst (λ m. get_or (slice_set spans n (Some span)) m None ≡ Some span) same (get_or-set_same spans n (Some span) None lt)
    by true e false h =
        let other : n ≡ k → ⊥ = eqb-false n k h in
        get_or-set_other spans n k (Some span) None (λ z. other (sym z))
    by false e true h =
        let same : n ≡ k = eqb-true n k h in
        let past : length spans < suc n = leb-false (suc n) (length spans) e in
        absurd (omega arith)
    by false e false h = refl

all-at : (turns : List Turn) (spans : List (Option Span)) (k : ℕ) → k < length spans → get_or (put_turns turns spans) k None ≡ put_at turns k (get_or spans k None)
all-at [] spans k within = refl
all-at (turn ∷ rest) spans k within =
    let z : length (put_span turn.number turn.span spans) ≡ length spans = put-length turn.number turn.span spans in
    let h : k < length (put_span turn.number turn.span spans) = omega arith in
    all-at rest (put_span turn.number turn.span spans) k h ∙ ap (put_at rest k) (one-at turn.number turn.span spans k within)

-- some turn is put at a place, or none
put-or-not : (turns : List Turn) (k : ℕ) → ((was : Option Span) → put_at turns k was ≡ was) ⊎ ((was also : Option Span) → put_at turns k was ≡ put_at turns k also)
put-or-not [] k = inl (λ was. refl)
put-or-not (turn ∷ rest) k = elim (put-or-not rest k) as (λ w. ((was : Option Span) → put_at (turn ∷ rest) k was ≡ was) ⊎ ((was also : Option Span) → put_at (turn ∷ rest) k was ≡ put_at (turn ∷ rest) k also)) [
  | inl same ↦ by same (turn.number == k)
  | inr one ↦ inr (λ was also. one (put_if (turn.number == k) turn.span was) (put_if (turn.number == k) turn.span also))
]
  where
    by : ((was : Option Span) → put_at rest k was ≡ was) → (b : Bool) → ((was : Option Span) → put_at rest k (put_if b turn.span was) ≡ was) ⊎ ((was also : Option Span) → put_at rest k (put_if b turn.span was) ≡ put_at rest k (put_if b turn.span also))
    by same true = inr (λ was also. refl)
    by same false = inl same

put-again : (turns : List Turn) (k : ℕ) (was : Option Span) → put_at turns k (put_at turns k was) ≡ put_at turns k was
put-again turns k was = elim (put-or-not turns k) as (λ w. put_at turns k (put_at turns k was) ≡ put_at turns k was) [ inl same ↦ same (put_at turns k was) | inr one ↦ one (put_at turns k was) was ]

put-twice : (turns : List Turn) (spans : List (Option Span)) → put_turns turns (put_turns turns spans) ≡ put_turns turns spans
put-twice turns spans =
    ext_get_or None (put_turns turns (put_turns turns spans)) (put_turns turns spans) (all-length turns (put_turns turns spans)) (λ k lt. at k lt)
  where
    at : (k : ℕ) → k < length (put_turns turns (put_turns turns spans)) → get_or (put_turns turns (put_turns turns spans)) k None ≡ get_or (put_turns turns spans) k None
    at k lt =
        let a : length (put_turns turns (put_turns turns spans)) ≡ length (put_turns turns spans) = all-length turns (put_turns turns spans) in
        let b : length (put_turns turns spans) ≡ length spans = all-length turns spans in
        let h : k < length (put_turns turns spans) = omega arith in
        let g : k < length spans = omega arith in
        all-at turns (put_turns turns spans) k h ∙ (ap (put_at turns k) (all-at turns spans k g) ∙ (put-again turns k (get_or spans k None) ∙ sym (all-at turns spans k g)))

-- so many times the same turns

abbrev pub repeated : List Turn → ℕ → List Turn
repeated turns zero = []
repeated turns (suc n) = turns ++ repeated turns n

put-repeated : (turns : List Turn) (n : ℕ) (spans : List (Option Span)) → put_turns (repeated turns n) (put_turns turns spans) ≡ put_turns turns spans
put-repeated turns zero spans = refl
put-repeated turns (suc n) spans =
    put-append turns (repeated turns n) (put_turns turns spans) ∙ (ap (put_turns (repeated turns n)) (put-twice turns spans) ∙ put-repeated turns n spans)

put-all : (turns : List Turn) (n : ℕ) (spans : List (Option Span)) → 0 < n → put_turns (repeated turns n) spans ≡ put_turns turns spans
put-all turns zero spans pos = absurd (omega arith)
put-all turns (suc n) spans pos = put-append turns (repeated turns n) spans ∙ put-repeated turns n spans

-- turns that take nothing

idle-turns : (R : Rel) (n i : ℕ) → R i i → Turns R n i i
idle-turns R zero i r = refl
idle-turns R (suc n) i r = (i, idle-turns R n i r, r)

idle-repeated : (R : Rel) (times : Times) (i : ℕ) → R i i → Repeated R times i i
idle-repeated R times i r = (i, idle-turns R times.least i r, (0, within times.beyond, refl))
  where
    within : (beyond : Option ℕ) → IsWithin beyond 0
    within None = tt
    within (Some more) = let h : 0 ≤ more = omega arith in h

picks-idle : (R : Rel) (Picks : ℕ → ℕ → List Turn → Type 0) (number end : ℕ) (all : List Turn) → Ordered R → R end end → Picks end end all → (n : ℕ) (times : Times) → times.least ≡ n → PicksTurns R Picks number n times end end (repeated (record { number = number; span = record { start = end; end = end } } ∷ all) n)
picks-idle R Picks number end all ordered r picks zero times e = ((e, refl), refl)
picks-idle R Picks number end all ordered r picks (suc n) times e =
    let less : (less_one times).least ≡ n = less-least times (nat_lt 0 times.least) refl ∙ (let z : times.least - 1 ≡ n = omega arith in z) in (
      λ (z, s). (let w : times.least ≡ 0 = z in absurd (omega arith)),
      end,
      all,
      repeated (record { number = number; span = record { start = end; end = end } } ∷ all) n,
      record {
        holds = (λ z. (let w : times.least ≡ 0 = z in absurd (omega arith)), r, idle-repeated R (less_one times) end r);
        greatest = λ m (w, a, b). repeated-ordered R (less_one times) ordered m end b;
      },
      picks,
      picks-idle R Picks number end all ordered r picks n (less_one times) less,
      refl,
    )

-- Where a turn is needed at the end, it and all that are left put what it puts.
pub turned-idle : (line : Text) (body : ItemsTree) (number : ℕ) (times : Times) (start end at stop : ℕ) (left : Times) (old new put new' : List (Option Span)) → at ≡ end → (IsDone left at end → ⊥) → IsNextTurn (MatchesItems line body) left at end stop → put ≡ put_span number (record { start = at; end = stop }) new → PutsItems line body at stop put new' → Turned line body number times start end at left old new → PutsItem line (group times number body) start end old new'
turned-idle line body number times start end at stop left old new put new' same more g ep puts t = go at stop same last more g ep puts t
  where
    R : Rel
    R = MatchesItems line body

    last : stop ≡ end
    last =
        let low : at ≤ stop = (sound_items line body).ordered at stop g.holds.1 in
        let high : stop ≤ end = repeated-ordered R (less_one left) (sound_items line body).ordered stop end g.holds.2 in
        omega arith

    done : (IsDone left end end → ⊥) → IsNextTurn R left end end end → put ≡ put_span number (record { start = end; end = end }) new → PutsItems line body end end put new' → Turned line body number times start end end left old new → PutsItem line (group times number body) start end old new'
    done more g ep (all, picks, is) t =
        let turn : Turn = record { number = number; span = record { start = end; end = end } } in
        let n : ℕ = left.least in
        let pos : 0 < left.least = needed more in
        let r = t.behind left.least (repeated (turn ∷ all) left.least) (picks-idle R (PicksItems line body) number end all (sound_items line body).ordered g.holds.1 picks left.least left refl) in (
          t.own ++ repeated (turn ∷ all) left.least,
          r,
          is ∙ (ap (put_turns all) (ep ∙ ap (put_span number (record { start = end; end = end })) t.is_put) ∙ (sym (put-all (turn ∷ all) left.least (put_turns t.own old) pos) ∙ sym (put-append t.own (repeated (turn ∷ all) left.least) old))),
        )
      where
        needed : (IsDone left end end → ⊥) → 0 < left.least
        needed more = elim (cases_lt 0 left.least) as (λ w. 0 < left.least) [ inl lt ↦ lt | inr ge ↦ (let z : left.least ≡ 0 = omega arith in absurd (more (z, refl))) ]

    go : (at stop : ℕ) → at ≡ end → stop ≡ end → (IsDone left at end → ⊥) → IsNextTurn R left at end stop → put ≡ put_span number (record { start = at; end = stop }) new → PutsItems line body at stop put new' → Turned line body number times start end at left old new → PutsItem line (group times number body) start end old new'
    go at stop a s more g ep puts t =
        let all : (IsDone left end end → ⊥) × IsNextTurn R left end end end × (put ≡ put_span number (record { start = end; end = end }) new) × PutsItems line body end end put new' × Turned line body number times start end end left old new = subst (λ p. (IsDone left p end → ⊥) × IsNextTurn R left p end end × (put ≡ put_span number (record { start = p; end = end }) new) × PutsItems line body p end put new' × Turned line body number times start end p left old new) a (subst (λ q. (IsDone left at end → ⊥) × IsNextTurn R left at end q × (put ≡ put_span number (record { start = at; end = q }) new) × PutsItems line body at q put new' × Turned line body number times start end at left old new) s (more, g, ep, puts, t)) in
        done all.0 all.1 all.2 all.3 all.4
