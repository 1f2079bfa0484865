-- How far turns are looked for forward, where a row tells from which places what stands behind them leads on.
use Rattle.std.proofs.Common.{◌≡◌, ℕ, ◌+◌, ◌-◌, ◌<◌, ◌≤◌, inl, inr, List, [], ◌∷◌, Bool, true, false, refl, sym, ap, ◌∙◌, arith, subst, slice_get}
use Rattle.std.specs.Prelude.{Option, Some, None, unwrap_or}
use Rattle.std.proofs.lemmas.Bool.{cases_lt}
use Rattle.rk_base.specs.Text.{Text}
use Rattle.ut_bre.specs.declared.tree.Times.{Times}
use Rattle.ut_bre.specs.Trees.{ItemTree, one, group, ItemsTree, item_and, times_of, body_of}
use Rattle.ut_bre.specs.Times.{once, less_one}
use Rattle.ut_bre.specs.Matching.{Repeated, MatchesItems}
use Rattle.ut_bre.specs.Picking.{MatchesTurn, rest_items, rest_turns, ReachesEnd, IsLatest, IsDone, IsNextTurn, IsNextPlace}
use Rattle.ut_bre.specs.Resting.{first_seed}
use Rattle.ut_bre.specs.Rows.{Row, is_open, IsOpen, TellsWhere, ReachesOpen, later}
use Rattle.ut_bre.specs.Settling.{are_none}
use Rattle.ut_bre.specs.Walking.{Mark, Flow, flow, step, flow_turn, flow_times, step_turn, step_times}
use Rattle.ut_bre.proofs.Standing.{Rel, Least, After, Leads, HoldsTimes}
use Rattle.ut_bre.proofs.Laws.{sound_items}
use Rattle.ut_bre.proofs.Latest.{HoldsTurn, sound_front, advanced, FirstIn, first-seeded}
use Rattle.ut_bre.proofs.Turning.{next-turn, some-turn, next-place, some-place}

pub latest-as : (P Q : ℕ → Type 0) (o : Option ℕ) → ((p : ℕ) → P p → Q p) → ((p : ℕ) → Q p → P p) → IsLatest P o → IsLatest Q o
latest-as P Q None f g l = λ p q. l p (g p q)
latest-as P Q (Some m) f g l = record { holds = f m l.holds; greatest = λ n q. l.greatest n (g n q) }

-- one place more

-- the same, before a place
abbrev pub Sooner : (ℕ → Type 0) → ℕ → ℕ → Type 0
Sooner P at m = (m < at) × P m

latest-more : (P : ℕ → Type 0) (at : ℕ) (best : Option ℕ) → (P at → ⊥) → IsLatest (Sooner P at) best → IsLatest (Sooner P (at + 1)) best
latest-more P at None none l = λ m (lt, h).
    elim (cases_lt m at) as (λ w. ⊥) [
      | inl a ↦ l m (a, h)
      | inr z ↦ (let same : m ≡ at = omega arith in none (subst P same h))
    ]
latest-more P at (Some k) none l =
    let low : k < at = l.holds.0 in
    let wider : k < at + 1 = omega arith in
    record {
      holds = (wider, l.holds.1);
      greatest = λ m (lt, h).
          elim (cases_lt m at) as (λ w. m ≤ k) [
            | inl a ↦ l.greatest m (a, h)
            | inr z ↦ (let same : m ≡ at = omega arith in absurd (none (subst P same h)))
          ];
    }

latest-here : (P : ℕ → Type 0) (at : ℕ) → P at → IsLatest (Sooner P (at + 1)) (Some at)
latest-here P at h =
    let low : at < at + 1 = omega arith in
    record { holds = (low, h); greatest = λ m (lt, q). (let le : m ≤ at = omega arith in le) }

later-latest : (R : Rel) (behind : Row) (start end at : ℕ) (best : Option ℕ) (out : Mark) (leads : Bool) → at ≤ end → is_open behind (end - at) ≡ leads → Least (λ s. After (FirstIn start) R s at) out → IsLatest (Sooner (λ m. R start m × IsOpen behind end m) at) best → IsLatest (Sooner (λ m. R start m × IsOpen behind end m) (at + 1)) (later best out leads at)
later-latest R behind start end at best None leads le e none l =
    latest-more (λ m. R start m × IsOpen behind end m) at best (λ (r, w). none 0 (start, (refl, refl), r)) l
later-latest R behind start end at best (Some s) true le e ((i, (z, f), r), least) l =
    latest-here (λ m. R start m × IsOpen behind end m) at (subst (λ (k : ℕ). R k at) f r, (le, e))
later-latest R behind start end at best (Some s) false le e some l =
    latest-more (λ m. R start m × IsOpen behind end m) at best (λ (r, (h, w)). absurd (cc)) l

-- The marks of the turns at a place, and the last end before it from which what stands behind leads on.
pub record Reached (line : Text) (x : ItemTree) (times : Times) (behind : Row) (start end at : ℕ) (front : List Mark) (best : Option ℕ) : Type 0 where
  pub to : HoldsTimes (HoldsTurn line x) (MatchesTurn line x) times at (FirstIn start) front []
  pub last : IsLatest (Sooner (ReachesOpen line x times behind start end) at) best

pub reached-fresh : (line : Text) (x : ItemTree) (times : Times) (behind : Row) (start end : ℕ) → Reached line x times behind start end start [] None
reached-fresh line x times behind start end = record {
  to = (sound_front line x times).fresh start (FirstIn start) (λ s i h (z, e). absurd (omega arith));
  last = λ m (lt, (r, w)). (let low : start ≤ m = (sound_front line x times).ordered start m r in omega arith);
}

reached-out : (line : Text) (x : ItemTree) (times : Times) (behind : Row) (start end at : ℕ) (front : List Mark) (best best' : Option ℕ) (out : Mark) (leads : Bool) → at ≤ end → out ≡ (flow_times (flow_turn x) times (flow (first_seed at start) front)).out → is_open behind (end - at) ≡ leads → best' ≡ later best out leads at → Reached line x times behind start end at front best → IsLatest (Sooner (ReachesOpen line x times behind start end) (at + 1)) best'
reached-out line x times behind start end at front best best' out leads le eo el eb p =
    let R : Rel = Repeated (MatchesTurn line x) times in
    let least = (sound_front line x times).flows at (FirstIn start) front [] (first_seed at start) p.to (first-seeded at start) in
    let here = subst (Least (λ s. After (FirstIn start) R s at)) (sym eo) least.1 in
    subst (IsLatest (Sooner (ReachesOpen line x times behind start end) (at + 1))) (sym eb) (later-latest R behind start end at best out leads le el here p.last)

-- one byte more
pub reached-on : (line : Text) (x : ItemTree) (times : Times) (behind : Row) (start end at b : ℕ) (front front' : List Mark) (best best' : Option ℕ) (out : Mark) (leads : Bool) → slice_get line at ≡ Some b → at < end → out ≡ (step_times (flow_turn x) (step_turn b x) times (step (first_seed at start) front [])).flow.out → front' ≡ (step_times (flow_turn x) (step_turn b x) times (step (first_seed at start) front [])).next → is_open behind (end - at) ≡ leads → best' ≡ later best out leads at → Reached line x times behind start end at front best → Reached line x times behind start end (at + 1) front' best'
reached-on line x times behind start end at b front front' best best' out leads here lt eo ef el eb p =
    let same = (sound_front line x times).same_flow b (step (first_seed at start) front []) in
    let le : at ≤ end = omega arith in
    record {
      to = advanced line (HoldsTimes (HoldsTurn line x) (MatchesTurn line x) times) (Repeated (MatchesTurn line x) times) (flow_times (flow_turn x) times) (λ c. step_times (flow_turn x) (step_turn c x) times) (sound_front line x times) at b (FirstIn start) front front' (first_seed at start) here p.to (first-seeded at start) ef;
      last = reached-out line x times behind start end at front best best' out leads le (eo ∙ ap (λ (f : Flow). f.out) same) el eb p;
    }

-- at the end
pub reached-end : (line : Text) (x : ItemTree) (times : Times) (behind : Row) (start end : ℕ) (front : List Mark) (best best' : Option ℕ) (out : Mark) (leads : Bool) → out ≡ (flow_times (flow_turn x) times (flow (first_seed end start) front)).out → is_open behind 0 ≡ leads → best' ≡ later best out leads end → Reached line x times behind start end end front best → IsLatest (ReachesOpen line x times behind start end) best'
reached-end line x times behind start end front best best' out leads eo el eb p =
    let le : end ≤ end = omega arith in
    let none : 0 ≡ end - end = omega arith in
    let last = reached-out line x times behind start end end front best best' out leads le eo (subst (λ (k : ℕ). is_open behind k ≡ leads) none el) eb p in
    latest-as (Sooner (ReachesOpen line x times behind start end) (end + 1)) (ReachesOpen line x times behind start end) best' (λ m (lt, h). h) (λ m (r, (low, w)). (let lt : m < end + 1 = omega arith in (lt, (r, (low, w))))) last

-- where no mark is left

none-leads : (marks : List Mark) (s : ℕ) → are_none marks ≡ true → Leads marks s → ⊥
none-leads [] s e l = l
none-leads (None ∷ marks) s e l = none-leads marks s e l
none-leads (Some x ∷ marks) s e l = absurd (cc)

pub reached-all : (line : Text) (x : ItemTree) (times : Times) (behind : Row) (start end at : ℕ) (front : List Mark) (best : Option ℕ) → start < at → are_none front ≡ true → Reached line x times behind start end at front best → IsLatest (ReachesOpen line x times behind start end) best
reached-all line x times behind start end at front best lt none p =
    latest-as (Sooner (ReachesOpen line x times behind start end) at) (ReachesOpen line x times behind start end) best (λ m (near, h). h) (λ m h. (sooner m h.0, h)) p.last
  where
    sooner : (m : ℕ) → Repeated (MatchesTurn line x) times start m → m < at
    sooner m r =
        elim (cases_lt m at) as (λ w. m < at) [
          | inl a ↦ a
          | inr z ↦ absurd (none-leads front 0 none ((sound_front line x times).leads at (FirstIn start) front [] 0 start m p.to (refl, refl) lt z r))
        ]

-- What it finds, where the row tells from which places this leads to the end.

latest-told : (R : Rel) (Q : ℕ → Type 0) (start end : ℕ) (row : Row) (o : Option ℕ) → ((i j : ℕ) → R i j → i ≤ j) → ((p : ℕ) → Q p → p ≤ end) → TellsWhere Q start end row → IsLatest (λ m. R start m × IsOpen row end m) o → IsLatest (λ m. R start m × Q m) o
latest-told R Q start end row o ordered within tells l =
    latest-as (λ m. R start m × IsOpen row end m) (λ m. R start m × Q m) o (λ m (r, w). (r, (tells m (ordered start m r) w.0).0 w)) (λ m (r, q). (r, (tells m (ordered start m r) (within m q)).1 q)) l

latest-some : (P : ℕ → Type 0) (o : Option ℕ) (end : ℕ) → IsLatest P o → (IsLatest P None → ⊥) → IsLatest P (Some (unwrap_or o end))
latest-some P None end l some = absurd (some l)
latest-some P (Some m) end l some = l

pub told-place : (line : Text) (x : ItemTree) (xs : ItemsTree) (i j : ℕ) (row : Row) (o : Option ℕ) → MatchesItems line (item_and x xs) i j → TellsWhere (λ k. MatchesItems line xs k j) i j row → IsLatest (ReachesOpen line x (times_of x) row i j) o → IsNextPlace line x xs i j (unwrap_or o j)
told-place line x xs i j row o m tells l =
    let all = latest-told (Repeated (MatchesTurn line x) (times_of x)) (λ k. MatchesItems line xs k j) i j row o (sound_front line x (times_of x)).ordered (λ p q. (sound_items line xs).ordered p j q) tells l in
    next-place line x xs i j (unwrap_or o j) (latest-some (ReachesEnd line x (times_of x) (rest_items xs) i j) o j all (some-place line x xs i j m))

told-next : (line : Text) (x : ItemTree) (left : Times) (i j : ℕ) (row : Row) (o : Option ℕ) → (IsDone left i j → ⊥) → Repeated (MatchesTurn line x) left i j → TellsWhere (λ k. Repeated (MatchesTurn line x) (less_one left) k j) i j row → IsLatest (ReachesOpen line x once row i j) o → IsNextTurn (MatchesTurn line x) left i j (unwrap_or o j)
told-next line x left i j row o more r tells l =
    let R : Rel = MatchesTurn line x in
    let all = latest-told (Repeated R once) (λ k. Repeated R (less_one left) k j) i j row o (sound_front line x once).ordered (λ p q. (sound_front line x (less_one left)).ordered p j q) tells l in
    next-turn line x left i j (unwrap_or o j) more r (latest-some (ReachesEnd line x once (rest_turns x (less_one left)) i j) o j all (some-turn line x left i j more r))

-- the same for a group, by its items
pub told-turn : (line : Text) (x : ItemTree) (body : ItemsTree) (left : Times) (i j : ℕ) (row : Row) (o : Option ℕ) → body_of x ≡ Some body → (IsDone left i j → ⊥) → Repeated (MatchesItems line body) left i j → TellsWhere (λ k. Repeated (MatchesItems line body) (less_one left) k j) i j row → IsLatest (ReachesOpen line x once row i j) o → IsNextTurn (MatchesItems line body) left i j (unwrap_or o j)
told-turn line (one times what) body left i j row o e more r tells l = absurd (cc)
told-turn line (group times number own) body left i j row o e more r tells l =
    let same : own ≡ body = cc in
    let r' = subst (λ (b : ItemsTree). Repeated (MatchesItems line b) left i j) (sym same) r in
    let tells' = subst (λ (b : ItemsTree). TellsWhere (λ k. Repeated (MatchesItems line b) (less_one left) k j) i j row) (sym same) tells in
    subst (λ (b : ItemsTree). IsNextTurn (MatchesItems line b) left i j (unwrap_or o j)) same (told-next line (group times number own) left i j row o more r' tells' l)
