-- A run goes on: what is left of it.
use Rattle.std.proofs.Common.{◌≡◌, ℕ, zero, suc, ◌+◌, ◌*◌, ◌<◌, ◌≤◌, List, [], ◌∷◌, length, drop, Option, Some, None, refl, sym, ◌∙◌, ap, ap₂, arith}
use Rattle.std.specs.Prelude.{slice_get, slice_index_or, IfSome}
use Rattle.rk_calls.specs.Keys.{KeyValue}
use Rattle.rk_calls.specs.Refs.{RefsHeld}
use Rattle.rk_calls.specs.declared.call.Call.{Call}
use Rattle.rk_calls.specs.declared.call.Call.TheVariants.{Launch}
use Rattle.rk_kernel.proofs.FeetLemmas.{asks-no-bytes}
use Rattle.rk_kernel.specs.Do.{answered}
use Rattle.rk_kernel.specs.Feet.{foot_by}
use Rattle.rk_kernel.specs.World.{World}
use Rattle.rk_kernel.specs.declared.foot.Foot.{Foot}
use Rattle.rk_tree.specs.Full.{Told}
use Rattle.tr_record.specs.declared.records.Record.{Record}
use Rattle.tr_record.specs.declared.steps.Step.{Step}
use Rattle.tr_record.specs.Rec.{rec_at, fresh_rec, no_key}
use Rattle.rk_plan.specs.declared.event.Event.TheVariants.{Touches}
use Rattle.rk_plan.specs.Going.{Going, IsGivenWhereTold, in_full, left_in, resumed, steps_in, steps_left}
use Rattle.rk_plan.specs.Retracing.{Command, Course, answered_so, called, launched}

pub get-at : {X : Type 0} (xs : List X) (i : ℕ) (d : X) → i < length xs → slice_get xs i ≡ Some (slice_index_or xs i d)
get-at [] i d h = absurd (omega arith)
get-at (x ∷ xs) zero d h = refl
get-at (x ∷ xs) (suc i) d h = get-at xs i d (omega arith)

get-none : {X : Type 0} (xs : List X) (i : ℕ) → length xs ≤ i → slice_get xs i ≡ None
get-none [] i h = refl
get-none (x ∷ xs) zero h = absurd (omega arith)
get-none (x ∷ xs) (suc i) h = get-none xs i (omega arith)

drop-at : {X : Type 0} (xs : List X) (i : ℕ) (d : X) → i < length xs → drop i xs ≡ slice_index_or xs i d ∷ drop (suc i) xs
drop-at [] i d h = absurd (omega arith)
drop-at (x ∷ xs) zero d h = refl
drop-at (x ∷ xs) (suc i) d h = drop-at xs i d (omega arith)

-- there is no record left, and nothing is launched
pub launch-none : (old : Going) (it : Command) (refs : RefsHeld) → length old.table ≤ old.course.begun
    → (resumed old it).course ≡ launched old.course (it ∷ old.course.under_way) refs (slice_get old.table old.course.begun)
launch-none old it refs le = ap (launched old.course (it ∷ old.course.under_way) refs) (sym (get-none old.table old.course.begun le))

-- the command of the next record
abbrev pub next_command : Going → RefsHeld → Command
next_command old refs = record { owner = old.course.begun; refs = refs; left = (rec_at old.course.begun old.table).steps }

-- with it, after the one that launched it
abbrev pub with_next : Going → Command → RefsHeld → Going
with_next old it refs =
    record old { course = record old.course { under_way = next_command old refs ∷ it ∷ old.course.under_way; begun = suc old.course.begun } }

pub launch-some : (old : Going) (it : Command) (refs : RefsHeld) → old.course.begun < length old.table
    → (with_next old it refs).course ≡ launched old.course (it ∷ old.course.under_way) refs (slice_get old.table old.course.begun)
launch-some old it refs lt =
    ap (launched old.course (it ∷ old.course.under_way) refs) (sym (get-at old.table old.course.begun (fresh_rec no_key 0) lt))

pub launch-left : (old : Going) (it : Command) (refs : RefsHeld) → old.course.begun < length old.table → left_in
    (with_next old it refs) ≤ 1 + left_in (resumed old it)
launch-left old it refs lt =
    let e : steps_in (drop old.course.begun old.table)
    ≡ length (rec_at old.course.begun old.table).steps + steps_in (drop (suc old.course.begun) old.table) =
    ap steps_in (drop-at old.table old.course.begun (fresh_rec no_key 0) lt) in
    omega arith

-- a command has taken a step
pub falls-step : (g new : Going) (it : Command) (others : List Command) (st : Step) (sts : List Step) → g.course.under_way ≡ it ∷ others → it.left ≡ st ∷ sts
    → left_in new ≤ 1 + left_in (resumed (record g { course = record g.course { under_way = others } }) (record it { left = sts })) → left_in new < left_in g
falls-step g new it others st sts eu el h =
    let a : length g.course.under_way ≡ suc (length others) = ap length eu ∙ omega arith in
    let b : steps_left g.course.under_way ≡ length it.left + steps_left others = ap steps_left eu in
    let c : length it.left ≡ suc (length sts) = ap length el ∙ omega arith in
    let k : left_in new ≤ 1 + (2 * ((length sts + steps_left others) + steps_in (drop g.course.begun g.table)) + suc (length others)) = h in
    omega arith

-- a command has ended
pub falls-end : (g : Going) (it : Command) (others : List Command) → g.course.under_way ≡ it ∷ others
    → left_in (record g { course = record g.course { under_way = others } }) < left_in g
falls-end g it others eu =
    let a : length g.course.under_way ≡ suc (length others) = ap length eu ∙ omega arith in
    let b : steps_left g.course.under_way ≡ length it.left + steps_left others = ap steps_left eu in
    omega arith

pub called-other : (table : List Record) (c : Course) (it : Command) (others : List Command) (call : Call)
    → ((key : KeyValue) (map : List (ℕ × ℕ)) → call ≡ Launch key map → ⊥)
    → called table c it others call ≡ (Touches it.owner (foot_by c.world it.refs call), answered_so it others c.begun (answered c.world it.refs call))
called-other table c it others (Launch key map) other = absurd (other key map refl)
called-other table c it others call other = refl

-- the command after a call, first of those under way
abbrev pub after_call : Going → Command → RefsHeld → World → Going
after_call old it refs world =
    record old { course = record { under_way = record it { refs = refs } ∷ old.course.under_way; begun = old.course.begun; world = world } }

pub call-so : (o : Option Told) (old new : Going) (it : Command) (owner : ℕ) (refs : RefsHeld) (world : World) (call : Call) (foot : Foot) → owner ≡ it.owner
    → ((key : KeyValue) (map : List (ℕ × ℕ)) → call ≡ Launch key map → ⊥) → foot ≡ foot_by old.course.world it.refs call
    → IsGivenWhereTold o old.course.world it.refs call refs world → new ≡ after_call old it refs world
    → IfSome o (λ told. called old.table (in_full told old.course) it old.course.under_way call ≡ (Touches owner foot, in_full told new.course))
call-so None old new it owner refs world call foot eo other ef given is = tt
call-so (Some told) old new it owner refs world call foot eo other ef given is =
    called-other old.table (in_full told old.course) it old.course.under_way call other
    ∙ ap₂ (λ e c. (e, c)) (ap₂ Touches (sym eo) (asks-no-bytes told old.course.world it.refs call ∙ sym ef))
    (ap₂ (λ r w. let c : Course = record { under_way = record it { refs = r } ∷ old.course.under_way; begun = old.course.begun; world = w } in c)
    (sym given.refs_are)
    (sym given.world_is)
    ∙ ap (λ (g : Going). in_full told g.course) (sym is))

pub call-left : (old new : Going) (it : Command) (refs : RefsHeld) (world : World) → new ≡ after_call old it refs world → left_in new ≤ 1 + left_in
    (resumed old it)
call-left old new it refs world is = rw is (omega arith)
