-- The records of a run can be read back.
use Rattle.std.proofs.Common.{zero, suc, ◌≡◌, ℕ, ◌+◌, ◌<◌, ◌≤◌, ◌^◌, Bool, true, false, cond, leb, List, [], ◌∷◌, length, subst, arith}
use Rattle.std.specs.List.{AllByRecursion}
use Rattle.std.proofs.lemmas.List.Sums.{sum_by-cons}
use Rattle.rk_calls.specs.declared.call.Call.{Call}
use Rattle.rk_calls.specs.declared.drive.Spoke.TheVariants.{Call as Calls, Exit as Exits, Short}
use Rattle.rk_calls.specs.Proper.{IsProper, IsProperTalk, AsksProperly, proper-goes_on}
use Rattle.rk_calls.specs.Talk.{Talk, Says, Cut, Exited, Asked}
use Rattle.rk_calls.specs.Saying.{node, speaks, goes_on}
use Rattle.rk_calls.specs.Keys.{KeyValue}
use Rattle.tr_record.specs.declared.records.Record.{Record}
use Rattle.tr_record.specs.declared.steps.Step.{Step}
use Rattle.tr_record.specs.Rec.{rec_at}
use Rattle.rk_traces.specs.Own.{own, total}
use Rattle.rk_traces.specs.Spoken.{AreSpoken, Follows}
use Rattle.tr_codec.specs.Sound.{IsSoundStep, IsSound}

-- a call that is met was asked
met : (c p cost : ℕ) (call asked : Call) (some : Bool) → cond some (cond (leb cost p) (Calls asked cost) Short) Short ≡ Calls call c → asked ≡ call
met c p cost call asked true e =
    (elim (leb cost p) as (λ b. cond b (Calls asked cost) Short ≡ Calls call c → asked ≡ call) [ true ↦ λ f. cc | false ↦ λ f. absurd cc ]) e
met c p cost call asked false e = absurd cc

exits-only : (p cost status c : ℕ) (call : Call) (b : Bool) → cond b (Exits status cost) Short ≡ Calls call c → ⊥
exits-only p cost status c call true e = cc
exits-only p cost status c call false e = cc

proper-node : (p c : ℕ) (t : Talk) (call : Call) → IsProperTalk t → node p t ≡ Calls call c → IsProper call
proper-node p c Cut call h e = absurd cc
proper-node p c (Exited status cost) call h e = absurd (exits-only p cost status c call (leb cost p) e)
proper-node p c (Asked asked cost rest) call h e = subst IsProper (met c p cost call asked (leb 1 cost) e) h.0

-- what is said is proper
proper-speaks : (p c : ℕ) (x : Says) (call : Call) → AsksProperly x → speaks p x ≡ Calls call c → IsProper call
unfolding speaks
proper-speaks p c x call h e = proper-node p c (x p) call (h p) e

steps-sound : (x : Says) (steps : List Step) → AsksProperly x → Follows x steps → AllByRecursion IsSoundStep steps
steps-sound x [] h f = tt
steps-sound x (st ∷ sts) h f =
    (record { answer = f.0.1; call = proper-speaks st.cost st.cost x st.call h f.0.0 }, steps-sound (goes_on st.cost x st.answer) sts (proper-goes_on st.cost x st.answer h) f.1)

all-of : (P : Record → Type 0) (table : List Record) → ((i : ℕ) → i < length table → P (rec_at i table)) → AllByRecursion P table
all-of P [] h = tt
all-of P (r ∷ rs) h = (h 0 (omega arith), all-of P rs (λ i l. h (suc i) (omega arith)))

own-le : (table : List Record) (i : ℕ) → i < length table → own (rec_at i table) ≤ total table
own-le [] i l = absurd (omega arith)
own-le (r ∷ rs) zero l = let s : total (r ∷ rs) ≡ own r + total rs = sum_by-cons own r rs in omega arith
own-le (r ∷ rs) (suc i) l =
    let s : total (r ∷ rs) ≡ own r + total rs = sum_by-cons own r rs in
    let h : own (rec_at i rs) ≤ total rs = own-le rs i (omega arith) in
    omega arith

pub sound : (first : KeyValue → Says) (table : List Record) → ((key : KeyValue) → AsksProperly (first key)) → AreSpoken first table → total table < 2 ^ 64 → AllByRecursion IsSound table
sound first table proper spoken small =
    all-of IsSound table
    (λ i l.
    let h : own (rec_at i table) ≤ total table = own-le table i l in
    let key = (rec_at i table).key in
    record { steps = steps-sound (first key) (rec_at i table).steps (proper key) (spoken i l).follows; paid = omega arith })

-- what a budget met is small
pub small : (used before all limit steps : ℕ) → used ≡ before + all → before ≡ 0 → used ≤ limit → limit ≡ steps → steps < 2 ^ 64 → all < 2 ^ 64
small used before all limit steps paid none within same few = omega arith
