-- A run doesn't depend on the fuel that is above the purse.
use Rattle.std.proofs.Common.{◌≡◌, ℕ, zero, suc, ◌-◌, ◌≤◌, ◌<◌, Bool, true, false, cond, leb, List, length, refl, ◌∙◌, ap, arith}
use Rattle.std.proofs.lemmas.Bool.{leb-true}
use Rattle.rk_calls.specs.declared.call.Call.{Call}
use Rattle.rk_calls.specs.declared.call.Call.TheVariants.{Launch}
use Rattle.rk_calls.specs.declared.answer.Answer.{Answer}
use Rattle.rk_calls.specs.declared.drive.Spoke.{Spoke}
use Rattle.rk_calls.specs.declared.drive.Spoke.TheVariants.{Call as Calls, Exit as Exits, Short}
use Rattle.rk_calls.specs.Talk.{Talk, Says, Cut, Exited, Asked}
use Rattle.rk_calls.specs.Saying.{node, speaks, goes_on}
use Rattle.rk_calls.specs.Heard.{IsPaid}
use Rattle.rk_calls.specs.Refs.{RefsHeld, passed_refs}
use Rattle.rk_calls.specs.Given.{Given}
use Rattle.tr_record.specs.declared.records.Record.{Record}
use Rattle.tr_record.specs.Rec.{begun, stepped}
use Rattle.rk_traces.specs.Run.{Environment, Outcome, Done, Spent, On, and_then, step, after_answer, after_launch, after_ask, after_spoke, runs, run}

paid_if : (p c : ℕ) (x : Spoke) (b : Bool) → leb c p ≡ b → (c ≤ p → IsPaid p x) → IsPaid p (cond b x Short)
paid_if p c x true e h = h (leb-true c p e)
paid_if p c x false e h = tt

call_paid : (p c : ℕ) (call : Call) (b : Bool) → leb 1 c ≡ b → IsPaid p (cond b (cond (leb c p) (Calls call c) Short) Short)
call_paid p c call true e = paid_if p c (Calls call c) (leb c p) refl (λ h. (leb-true 1 c e, h))
call_paid p c call false e = tt

node_paid : (p : ℕ) (t : Talk) → IsPaid p (node p t)
node_paid p Cut = tt
node_paid p (Exited status c) = paid_if p c (Exits status c) (leb c p) refl (λ h. h)
node_paid p (Asked call c rest) = call_paid p c call (leb 1 c) refl

-- the purse meets what is said, and a call costs something
pub paid : (p : ℕ) (x : Says) → IsPaid p (speaks p x)
unfolding speaks
paid p x = node_paid p (x p)

-- no more is left than there was
abbrev pub Leaves : {W : Type 0} → ℕ → Outcome W → Type 0
Leaves p (Done w status left t) = left ≤ p
Leaves p Spent = Unit {0}

Leaves-more : {W : Type 0} (o : Outcome W) (q p : ℕ) → q ≤ p → Leaves q o → Leaves p o
Leaves-more (Done w status left t) q p h k = omega arith
Leaves-more Spent q p h k = tt

and_then_leaves : {W : Type 0} (o : Outcome W) (f : W → ℕ → ℕ → List Record → Outcome W) (p : ℕ) → Leaves p o → ((w : W) (status left : ℕ) (t : List Record) → Leaves left (f w status left t)) → Leaves p (and_then o f)
and_then_leaves (Done w status left t) f p h k = Leaves-more (f w status left t) left p h (k w status left t)
and_then_leaves Spent f p h k = tt

and_then_alike : {W : Type 0} (o : Outcome W) (f f' : W → ℕ → ℕ → List Record → Outcome W) (p : ℕ) → Leaves p o → ((w : W) (status left : ℕ) (t : List Record) → left ≤ p → f w status left t ≡ f' w status left t) → and_then o f ≡ and_then o f'
and_then_alike (Done w status left t) f f' p h k = k w status left t h
and_then_alike Spent f f' p h k = refl

abbrev AllLeave : {W : Type 0} → On W → Type 0
AllLeave {W} on = (q place : ℕ) (refs : RefsHeld) (x : Says) (w : W) (t : List Record) → Leaves q (on q place refs x w t)

answered_leaves : {W : Type 0} (on : On W) → AllLeave on → (p place : ℕ) (wait : Answer → Says) (t : List Record) (c : ℕ) (call : Call) (it : Given W) → Leaves p (after_answer on p place wait t c call it)
answered_leaves on h p place wait t c call it =
    Leaves-more (after_answer on p place wait t c call it) (p - c) p (omega arith) (h (p - c) place it.refs (wait it.answer) it.world (stepped place (step c call it.answer) t))

asked_leaves : {W : Type 0} (g : Environment W) (on : On W) → AllLeave on → (p place : ℕ) (refs : RefsHeld) (x : Says) (w : W) (t : List Record) (c : ℕ) (call : Call) → Leaves p (after_ask g on p place refs x w t c call)
asked_leaves g on h p place refs x w t c (Launch key map) =
    and_then_leaves (on (p - c) (length t) (passed_refs refs map) (g.first key) w (begun key t)) (after_launch on place refs (goes_on c x) c (Launch key map)) p
    (Leaves-more (on (p - c) (length t) (passed_refs refs map) (g.first key) w (begun key t)) (p - c) p (omega arith) (h (p - c) (length t) (passed_refs refs map) (g.first key) w (begun key t)))
    (λ w' status left t'. h left place refs _ w' _)
asked_leaves g on h p place refs x w t c call = answered_leaves on h p place (goes_on c x) t c call (g.given w refs call)

spoken_leaves : {W : Type 0} (g : Environment W) (on : On W) → AllLeave on → (p place : ℕ) (refs : RefsHeld) (x : Says) (w : W) (t : List Record) (s : Spoke) → Leaves p (after_spoke g on p place refs x w t s)
spoken_leaves g on h p place refs x w t (Calls call c) = asked_leaves g on h p place refs x w t c call
spoken_leaves g on h p place refs x w t (Exits status c) = omega arith
spoken_leaves g on h p place refs x w t Short = tt

pub runs_leaves : {W : Type 0} (g : Environment W) (n : ℕ) → AllLeave (runs g n)
runs_leaves g zero q place refs x w t = tt
runs_leaves g (suc n) q place refs x w t = spoken_leaves g (runs g n) (runs_leaves g n) q place refs x w t (speaks q x)

-- two runs agree below a purse
abbrev Agree : {W : Type 0} → ℕ → On W → On W → Type 0
Agree {W} p on on' = (q place : ℕ) (refs : RefsHeld) (x : Says) (w : W) (t : List Record) → q < p → on q place refs x w t ≡ on' q place refs x w t

asked_alike : {W : Type 0} (g : Environment W) (on on' : On W) → AllLeave on → (p place : ℕ) (refs : RefsHeld) (x : Says) (w : W) (t : List Record) → Agree p on on' → (c : ℕ) (call : Call) → 1 ≤ c → c ≤ p → after_ask g on p place refs x w t c call ≡ after_ask g on' p place refs x w t c call
asked_alike g on on' l p place refs x w t h c (Launch key map) some met =
    and_then_alike (on (p - c) (length t) (passed_refs refs map) (g.first key) w (begun key t)) (after_launch on place refs (goes_on c x) c (Launch key map)) (after_launch on' place refs (goes_on c x) c (Launch key map)) (p - c)
    (l (p - c) (length t) (passed_refs refs map) (g.first key) w (begun key t))
    (λ w' status left t' b. h left place refs _ w' _ (omega arith))
    ∙ ap (λ o. and_then o (after_launch on' place refs (goes_on c x) c (Launch key map))) (h (p - c) (length t) (passed_refs refs map) (g.first key) w (begun key t) (omega arith))
asked_alike g on on' l p place refs x w t h c call some met = h (p - c) place _ _ _ _ (omega arith)

spoken_alike : {W : Type 0} (g : Environment W) (on on' : On W) → AllLeave on → (p place : ℕ) (refs : RefsHeld) (x : Says) (w : W) (t : List Record) → Agree p on on' → (s : Spoke) → IsPaid p s → after_spoke g on p place refs x w t s ≡ after_spoke g on' p place refs x w t s
spoken_alike g on on' l p place refs x w t h (Calls call c) d = asked_alike g on on' l p place refs x w t h c call d.0 d.1
spoken_alike g on on' l p place refs x w t h (Exits status c) d = refl
spoken_alike g on on' l p place refs x w t h Short d = refl

pub runs_alike : {W : Type 0} (g : Environment W) (n m p : ℕ) → p ≤ n → p ≤ m → Agree p (runs g n) (runs g m)
runs_alike g zero m p h k q place refs x w t b = absurd (omega arith)
runs_alike g (suc n) zero p h k q place refs x w t b = absurd (omega arith)
runs_alike g (suc n) (suc m) p h k q place refs x w t b =
    spoken_alike g (runs g n) (runs g m) (runs_leaves g n) q place refs x w t
    (runs_alike g n m q (omega arith) (omega arith)) (speaks q x) (paid q x)

-- a run goes on as it spoke
pub run-is : {W : Type 0} (g : Environment W) (p place : ℕ) (refs : RefsHeld) (x : Says) (w : W) (t : List Record) → run g p place refs x w t ≡ after_spoke g (run g) p place refs x w t (speaks p x)
unfolding run
run-is g p place refs x w t =
    spoken_alike g (runs g p) (run g) (runs_leaves g p) p place refs x w t
    (λ q place refs x w t b. runs_alike g p (suc q) (suc q) (omega arith) (omega arith) q place refs x w t (omega arith))
    (speaks p x) (paid p x)
