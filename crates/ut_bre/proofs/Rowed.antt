-- How far a row is found, from the end back.
use Rattle.std.proofs.Common.{◌≡◌, ℕ, zero, suc, ◌+◌, ◌-◌, ◌<◌, ◌≤◌, inl, inr, List, [], ◌∷◌, ◌++◌, Bool, true, false, refl, sym, ap, ◌∙◌, arith, subst, length, length-append, slice_get}
use Rattle.std.specs.Prelude.{◌↔◌, Some, None, is_some, if◌then◌else◌}
use Rattle.std.proofs.lemmas.Bool.{cases_lt}
use Rattle.rk_base.specs.Text.{Text}
use Rattle.ut_bre.specs.declared.tree.Times.{Times}
use Rattle.ut_bre.specs.Trees.{ItemTree}
use Rattle.ut_bre.specs.Matching.{Repeated}
use Rattle.ut_bre.specs.Picking.{MatchesTurn}
use Rattle.ut_bre.specs.Walking.{Mark, Flow, flow, step, flow_turn, flow_times, step_turn, step_times}
use Rattle.ut_bre.specs.Mirroring.{mirror_item}
use Rattle.ut_bre.specs.Rows.{Row, is_open, lead, TellsWhere, LeadsOn, IsRow}
use Rattle.ut_bre.proofs.Standing.{Rel, Least, After, HoldsTimes}
use Rattle.ut_bre.proofs.Latest.{HoldsTurn, sound_front, advanced}
use Rattle.ut_bre.proofs.Mirrored.{Mirrored, backward, mirrored-turn, mirrored-repeated}

-- one entry more

push-before : (row : Row) (leads : Bool) (k : ℕ) → k < length row → is_open (row ++ leads ∷ []) k ≡ is_open row k
push-before [] leads k lt = absurd (omega arith)
push-before (x ∷ xs) leads zero lt = refl
push-before (x ∷ xs) leads (suc k) lt = push-before xs leads k (omega arith)

push-at : (row : Row) (leads : Bool) → is_open (row ++ leads ∷ []) (length row) ≡ leads
push-at [] leads = refl
push-at (x ∷ xs) leads = push-at xs leads

-- the entries so far
abbrev pub ToldBelow : (ℕ → Type 0) → ℕ → ℕ → Row → Type 0
ToldBelow Q end far row = (k : ℕ) → k < far → (is_open row k ≡ true) ↔ Q (end - k)

pub told-push : (Q : ℕ → Type 0) (end far : ℕ) (row : Row) (leads : Bool) → length row ≡ far → ToldBelow Q end far row → (leads ≡ true) ↔ Q (end - far) → ToldBelow Q end (far + 1) (row ++ leads ∷ [])
told-push Q end far row leads count all new = λ k lt.
    elim (cases_lt k far) as (λ w. (is_open (row ++ leads ∷ []) k ≡ true) ↔ Q (end - k)) [
      | inl a ↦ (let within : k < length row = omega (arith, count) in subst (λ (b : Bool). (b ≡ true) ↔ Q (end - k)) (sym (push-before row leads k within)) (all k a))
      | inr z ↦ (let same : length row ≡ k = omega (arith, count) in
          let here = subst (λ (n : ℕ). (leads ≡ true) ↔ Q (end - n)) (sym count) new in
          let last = subst (λ (b : Bool). (b ≡ true) ↔ Q (end - length row)) (sym (push-at row leads)) here in
          subst (λ (n : ℕ). (is_open (row ++ leads ∷ []) n ≡ true) ↔ Q (end - n)) same last)
    ]

pub more-count : (row : Row) (leads : Bool) (far : ℕ) → length row ≡ far → length (row ++ leads ∷ []) ≡ far + 1
more-count row leads far e = length-append row (leads ∷ []) ∙ ap (λ n. n + 1) e

pub told-where : (Q : ℕ → Type 0) (start end : ℕ) (row : Row) → ToldBelow Q end (end - start + 1) row → TellsWhere Q start end row
told-where Q start end row all = λ p low high.
    (let lt : end - p < end - start + 1 = omega arith in
    let here : end - (end - p) ≡ p = omega arith in
    let told = subst (λ (i : ℕ). (is_open row (end - p) ≡ true) ↔ Q i) here (all (end - p) lt) in
    ((λ w. told.0 w.1), (λ q. (high, told.1 q))))

-- the row of nothing

abbrev pub IsAtEnd : ℕ → ℕ → Type 0
IsAtEnd end i = i ≡ end

first-only : (k : ℕ) → is_open (true ∷ []) k ≡ true → k ≡ 0
first-only zero e = refl
first-only (suc k) e = absurd (cc)

pub end-row : (start end : ℕ) → TellsWhere (IsAtEnd end) start end (true ∷ [])
end-row start end = λ p low high. (
  (λ w. (let z : end - p ≡ 0 = first-only (end - p) w.1 in let h : p ≡ end = omega arith in h)),
  (λ e. (let z : 0 ≡ end - p = omega arith in (high, subst (λ (k : ℕ). is_open (true ∷ []) k ≡ true) z refl))),
)

-- marks that come in

abbrev pub Seeded : Row → Rel
Seeded behind s i = (s ≡ 0) × (is_open behind i ≡ true)

lead-if : (behind : Row) (far : ℕ) (b : Bool) → is_open behind far ≡ b → Least (λ s. Seeded behind s far) (if b then Some 0 else None)
lead-if behind far true e = ((refl, e), λ s w. (let h : 0 ≤ s = omega arith in h))
lead-if behind far false e = λ s (z, w). absurd (cc)

lead-least : (behind : Row) (far : ℕ) → Least (λ s. Seeded behind s far) (lead behind far)
lead-least behind far = lead-if behind far (is_open behind far) refl

-- what comes out tells whether the part leads on
out-leads : (R R' : Rel) (behind : Row) (end far : ℕ) (out : Mark) → Mirrored end R R' → far ≤ end → Least (λ s. After (Seeded behind) R' s far) out → (is_some out ≡ true) ↔ LeadsOn R behind end (end - far)
out-leads R R' behind end far None M h l = (
  (λ e. absurd (cc)),
  (λ (p, r, (le, at)). (let back : end - (end - far) ≡ far = omega arith in absurd (l 0 (end - p, (refl, at), subst (R' (end - p)) back (M.to (end - far) p le r))))),
)
out-leads R R' behind end far (Some s) M h ((i, (z, at), x), l) = (
  (λ e. (let low : i ≤ far = M.ordered_back i far x in
      let here : i ≡ end - (end - i) = omega arith in
      let within : end - i ≤ end = omega arith in
      (end - i, M.from i far h x, (within, subst (λ (k : ℕ). is_open behind k ≡ true) here at)))),
  (λ w. refl),
)

-- The marks of the turns from the last to the first, so far before the end, and the row as far as it is found.
pub record Rowed (line : Text) (x : ItemTree) (times : Times) (behind : Row) (end far : ℕ) (marks : List Mark) (row : Row) : Type 0 where
  pub count : length row ≡ far
  pub holds : HoldsTimes (HoldsTurn (backward line end) (mirror_item x)) (MatchesTurn (backward line end) (mirror_item x)) times far (Seeded behind) marks []
  pub told : ToldBelow (LeadsOn (Repeated (MatchesTurn line x) times) behind end) end far row

pub rowed-fresh : (line : Text) (x : ItemTree) (times : Times) (behind : Row) (end : ℕ) → Rowed line x times behind end 0 [] []
rowed-fresh line x times behind end = record {
  count = refl;
  holds = (sound_front (backward line end) (mirror_item x) times).fresh 0 (Seeded behind) (λ s i lt n. absurd (omega arith));
  told = λ k lt. absurd (omega arith);
}

rowed-out : (line : Text) (x : ItemTree) (times : Times) (behind : Row) (end far : ℕ) (marks : List Mark) (row : Row) (out : Mark) → end ≤ length line → far ≤ end → out ≡ (flow_times (flow_turn (mirror_item x)) times (flow (lead behind far) marks)).out → Rowed line x times behind end far marks row → ToldBelow (LeadsOn (Repeated (MatchesTurn line x) times) behind end) end (far + 1) (row ++ is_some out ∷ [])
rowed-out line x times behind end far marks row out within le e w =
    let R : Rel = Repeated (MatchesTurn line x) times in
    let back : Text = backward line end in
    let y : ItemTree = mirror_item x in
    let R' : Rel = Repeated (MatchesTurn back y) times in
    let M = mirrored-repeated end (MatchesTurn line x) (MatchesTurn back y) times (mirrored-turn line end x within) in
    let least = (sound_front back y times).flows far (Seeded behind) marks [] (lead behind far) w.holds (lead-least behind far) in
    let new = out-leads R R' behind end far out M le (subst (Least (λ s. After (Seeded behind) R' s far)) (sym e) least.1) in
    told-push (LeadsOn R behind end) end far row (is_some out) w.count w.told new

-- one byte more
pub rowed-on : (line : Text) (x : ItemTree) (times : Times) (behind : Row) (end far b : ℕ) (marks after : List Mark) (row : Row) (out : Mark) → end ≤ length line → far < end → slice_get (backward line end) far ≡ Some b → after ≡ (step_times (flow_turn (mirror_item x)) (step_turn b (mirror_item x)) times (step (lead behind far) marks [])).next → out ≡ (step_times (flow_turn (mirror_item x)) (step_turn b (mirror_item x)) times (step (lead behind far) marks [])).flow.out → Rowed line x times behind end far marks row → Rowed line x times behind end (far + 1) after (row ++ is_some out ∷ [])
rowed-on line x times behind end far b marks after row out within lt at ea eo w =
    let back : Text = backward line end in
    let y : ItemTree = mirror_item x in
    let same = (sound_front back y times).same_flow b (step (lead behind far) marks []) in
    record {
      count = more-count row (is_some out) far w.count;
      holds = advanced back (HoldsTimes (HoldsTurn back y) (MatchesTurn back y) times) (Repeated (MatchesTurn back y) times) (flow_times (flow_turn y) times) (λ c. step_times (flow_turn y) (step_turn c y) times) (sound_front back y times) far b (Seeded behind) marks after (lead behind far) at w.holds (lead-least behind far) ea;
      told = rowed-out line x times behind end far marks row out within (omega arith) (eo ∙ ap (λ (f : Flow). f.out) same) w;
    }

pub rowed-end : (line : Text) (x : ItemTree) (times : Times) (behind : Row) (start end : ℕ) (marks : List Mark) (row : Row) (out : Mark) → end ≤ length line → out ≡ (flow_times (flow_turn (mirror_item x)) times (flow (lead behind (end - start)) marks)).out → Rowed line x times behind end (end - start) marks row → IsRow (Repeated (MatchesTurn line x) times) behind start end (row ++ is_some out ∷ [])
rowed-end line x times behind start end marks row out within e w =
    let le : end - start ≤ end = omega arith in
    told-where (LeadsOn (Repeated (MatchesTurn line x) times) behind end) start end (row ++ is_some out ∷ []) (rowed-out line x times behind end (end - start) marks row out within le e w)

-- What a row tells, where the row behind it tells from where this leads to the end.

-- it tells from where the part and then this leads to the end
pub row-then : (R : Rel) (Q : ℕ → Type 0) (start end : ℕ) (behind row : Row) → ((i j : ℕ) → R i j → i ≤ j) → ((p : ℕ) → Q p → p ≤ end) → TellsWhere Q start end behind → IsRow R behind start end row → TellsWhere (λ i. (p : ℕ) × R i p × Q p) start end row
row-then R Q start end behind row ordered within tells all = λ i low high. ((λ w. to i low ((all i low high).0 w)), (λ w. (all i low high).1 (on i low w)))
  where
    to : (i : ℕ) → start ≤ i → LeadsOn R behind end i → (p : ℕ) × R i p × Q p
    to i low (p, r, w) = (let up : i ≤ p = ordered i p r in let near : start ≤ p = omega arith in (p, r, (tells p near w.0).0 w))

    on : (i : ℕ) → start ≤ i → (p : ℕ) × R i p × Q p → LeadsOn R behind end i
    on i low (p, r, q) = (let up : i ≤ p = ordered i p r in let near : start ≤ p = omega arith in (p, r, (tells p near (within p q)).1 q))

pub where-as : (P Q : ℕ → Type 0) (start end : ℕ) (row : Row) → ((i : ℕ) → P i → Q i) → ((i : ℕ) → Q i → P i) → TellsWhere P start end row → TellsWhere Q start end row
where-as P Q start end row f g tells = λ i low high. ((λ w. f i ((tells i low high).0 w)), (λ q. (tells i low high).1 (g i q)))

-- it tells so from a later start on
pub where-later : (Q : ℕ → Type 0) (start at end : ℕ) (row : Row) → start ≤ at → TellsWhere Q start end row → TellsWhere Q at end row
where-later Q start at end row h tells = λ p low high. tells p (let g : start ≤ p = omega arith in g) high
