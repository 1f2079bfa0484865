-- What a replayed command says is what its machine would say.
use Rattle.std.proofs.Common.{◌≡◌, ℕ, ◌+◌, ◌-◌, ◌≤◌, ◌<◌, List, ◌∷◌, length, take, refl, sym, ◌∙◌, ap, subst, arith}
use Rattle.std.proofs.lemmas.List.{take_all}
use Rattle.rk_calls.specs.declared.call.Call.{Call}
use Rattle.rk_calls.specs.declared.answer.Answer.{Answer}
use Rattle.rk_calls.specs.declared.drive.Spoke.{Spoke}
use Rattle.rk_calls.specs.declared.drive.Spoke.TheVariants.{Call as Calls, Exit as Exits, Short}
use Rattle.rk_calls.specs.Talk.{Says, Lasts}
use Rattle.rk_calls.specs.Saying.{speaks, goes_on}
use Rattle.rk_calls.specs.Heard.{Goes}
use Rattle.rk_calls.specs.Keys.{KeyValue}
use Rattle.tr_record.specs.declared.records.Record.{Record}
use Rattle.tr_record.specs.declared.steps.Step.{Step}
use Rattle.tr_record.specs.Rec.{rec_at}
use Rattle.tr_matching.specs.Matching.{AllSay}
use Rattle.tr_matching.specs.Steps.{step}
use Rattle.rk_traces.specs.Following.{Follows-at, Follows-take, follow-snoc}
use Rattle.rk_traces.specs.Lasting.{AllLast, asks-enough, asks-short, ends-enough, ends-short, Lasts-follow}
use Rattle.rk_traces.specs.Spoken.{follow, step_at, AreSpoken}
use Rattle.rk_traces.specs.Fed.{waits_at}
use Rattle.rk_replay.specs.declared.talks.Seat.{Seat}
use Rattle.rk_replay.specs.Activities.{IsNext}
use Rattle.rk_replay.specs.Seats.{GoesFurther, left_with}
use Rattle.rk_replay.proofs.Linking.{IsEndNext, IsStepNext, end-next, step-next}

module _ (first : KeyValue → Says) (lasts : AllLast first) (old : List Record) (rec at : ℕ) (in_old : rec < length old) (p : ℕ) (spoken : AreSpoken first old) where
  lasting : Lasts (follow (first (rec_at rec old).key) (take at (rec_at rec old).steps))
  lasting = Lasts-follow (first (rec_at rec old).key) (lasts (rec_at rec old).key) (take at (rec_at rec old).steps) (Follows-take (first (rec_at rec old).key) (rec_at rec old).steps at (spoken rec in_old).follows)

  module _ (r : Record) (er : r ≡ rec_at rec old) (in_rec : at ≤ length (rec_at rec old).steps) (end : length (rec_at rec old).steps ≤ at) where
    told-end : speaks r.exit_cost (follow (first (rec_at rec old).key) (take at (rec_at rec old).steps)) ≡ Exits r.exit r.exit_cost
    told-end = let all : take at (rec_at rec old).steps ≡ (rec_at rec old).steps = take_all at (rec_at rec old).steps (omega arith) in rw (all, er) (spoken rec in_old).ends

    pub Heard-exit : r.exit_cost ≤ p → Exits r.exit r.exit_cost ≡ speaks p (follow (first (rec_at rec old).key) (take at (rec_at rec old).steps))
    Heard-exit h = sym (ends-enough (follow (first (rec_at rec old).key) (take at (rec_at rec old).steps)) lasting r.exit_cost p r.exit told-end h)

    pub Heard-exit_short : p < r.exit_cost → Short ≡ speaks p (follow (first (rec_at rec old).key) (take at (rec_at rec old).steps))
    Heard-exit_short h = sym (ends-short (follow (first (rec_at rec old).key) (take at (rec_at rec old).steps)) lasting r.exit_cost p r.exit told-end h)

  module _ (st : Step) (here : at < length (rec_at rec old).steps) (is : st ≡ step_at at (rec_at rec old).steps) where
    told-call : speaks st.cost (follow (first (rec_at rec old).key) (take at (rec_at rec old).steps)) ≡ Calls st.call st.cost
    told-call = rw is (Follows-at (first (rec_at rec old).key) (rec_at rec old).steps at (spoken rec in_old).follows here).0

    pub Heard-call : (call : Call) → call ≡ st.call → st.cost ≤ p → Calls call st.cost ≡ speaks p (follow (first (rec_at rec old).key) (take at (rec_at rec old).steps))
    Heard-call call ek h =
        ap (λ k. Calls k st.cost) ek
        ∙ sym (asks-enough (follow (first (rec_at rec old).key) (take at (rec_at rec old).steps)) lasting st.cost p st.call told-call h)

    pub Heard-call_short : p < st.cost → Short ≡ speaks p (follow (first (rec_at rec old).key) (take at (rec_at rec old).steps))
    Heard-call_short h = sym (asks-short (follow (first (rec_at rec old).key) (take at (rec_at rec old).steps)) lasting st.cost p st.call told-call h)

-- it waits for the answer
pub Heard-goes : (x : Says) (old : List Record) (rec at : ℕ) (s : Spoke) → (others : List ℕ) × (left_with old rec at ≡ rec ∷ others) → IsNext old rec at s → Goes s x (goes_on (step_at at (rec_at rec old).steps).cost x)
Heard-goes x old rec at (Calls call cost) is h =
    let says : AllSay old at (Calls call cost) (rec ∷ is.0) = subst (AllSay old at (Calls call cost)) is.1 h in
    λ a. ap (λ c. goes_on c x a) (sym (step-next (rec_at rec old) at call cost says.0).cost_is)
Heard-goes x old rec at (Exits status cost) is h = tt
Heard-goes x old rec at Short is h = tt

-- what is told of the records that are left is what the machine says
module _ (first : KeyValue → Says) (lasts : AllLast first) (old : List Record) (rec at : ℕ) (in_old : rec < length old) (within : at ≤ length (rec_at rec old).steps) (p : ℕ) (spoken : AreSpoken first old) (is : (others : List ℕ) × (left_with old rec at ≡ rec ∷ others)) where
  module _ (call : Call) (cost : ℕ) (h : AllSay old at (Calls call cost) (left_with old rec at)) where
    next-is : IsStepNext (rec_at rec old) at call cost
    next-is = let says : AllSay old at (Calls call cost) (rec ∷ is.0) = subst (AllSay old at (Calls call cost)) is.1 h in step-next (rec_at rec old) at call cost says.0

    pub Spoken-call : cost ≤ p → Calls call cost ≡ speaks p (follow (first (rec_at rec old).key) (take at (rec_at rec old).steps))
    Spoken-call le =
        ap (Calls call) next-is.cost_is
        ∙ Heard-call first lasts old rec at in_old p spoken (step_at at (rec_at rec old).steps) next-is.here refl call next-is.call_is (subst (λ n. n ≤ p) next-is.cost_is le)

    pub Spoken-call_short : p < cost → Short ≡ speaks p (follow (first (rec_at rec old).key) (take at (rec_at rec old).steps))
    Spoken-call_short lt = Heard-call_short first lasts old rec at in_old p spoken (step_at at (rec_at rec old).steps) next-is.here refl (subst (λ n. p < n) next-is.cost_is lt)

  module _ (status cost : ℕ) (h : AllSay old at (Exits status cost) (left_with old rec at)) where
    end-is : IsEndNext (rec_at rec old) at status cost
    end-is = let says : AllSay old at (Exits status cost) (rec ∷ is.0) = subst (AllSay old at (Exits status cost)) is.1 h in end-next (rec_at rec old) at status cost says.0

    pub Spoken-exit : cost ≤ p → Exits status cost ≡ speaks p (follow (first (rec_at rec old).key) (take at (rec_at rec old).steps))
    Spoken-exit le =
        ap (λ n. Exits n cost) end-is.status_is ∙ ap (Exits (rec_at rec old).exit) end-is.cost_is
        ∙ Heard-exit first lasts old rec at in_old p spoken (rec_at rec old) refl within end-is.last (subst (λ n. n ≤ p) end-is.cost_is le)

    pub Spoken-exit_short : p < cost → Short ≡ speaks p (follow (first (rec_at rec old).key) (take at (rec_at rec old).steps))
    Spoken-exit_short lt = Heard-exit_short first lasts old rec at in_old p spoken (rec_at rec old) refl within end-is.last (subst (λ n. p < n) end-is.cost_is lt)

-- the answer is that of the records that are left on
pub Settled : (first : KeyValue → Says) (old : List Record) (seat : Seat) (a : Answer) (now : Seat) → GoesFurther old seat a now
    → follow (first (rec_at now.rec old).key) (take now.place.at (rec_at now.rec old).steps) ≡ goes_on (step_at seat.place.at (rec_at seat.rec old).steps).cost (follow (first (rec_at seat.rec old).key) (take seat.place.at (rec_at seat.rec old).steps)) a
Settled first old seat a now g =
    ap (λ k. follow (first k) (take now.place.at (rec_at now.rec old).steps)) g.key
    ∙ ap (λ n. follow (first (rec_at seat.rec old).key) (take n (rec_at now.rec old).steps)) g.at
    ∙ ap (follow (first (rec_at seat.rec old).key)) g.steps
    ∙ follow-snoc (first (rec_at seat.rec old).key) (take seat.place.at (rec_at seat.rec old).steps)
    (step (step_at seat.place.at (rec_at seat.rec old).steps).cost (step_at seat.place.at (rec_at seat.rec old).steps).call a)

-- a machine was made for it
pub Settled-made : (wait : Answer → Says) (x : Says) (xs : List Step) (at : ℕ) (a : Answer) → (1 ≤ at + 1 → (b : Answer) → wait b ≡ waits_at x xs (at + 1) b) → wait a ≡ goes_on (step_at at xs).cost (follow x (take at xs)) a
Settled-made wait x xs at a h =
    let back : (at + 1) - 1 ≡ at = omega arith in
    h (omega arith) a ∙ ap (λ n. goes_on (step_at n xs).cost (follow x (take n xs)) a) back
