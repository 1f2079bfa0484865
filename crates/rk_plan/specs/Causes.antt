-- Why there is no plan.
use Rattle.std.specs.Prelude.{◌≡◌, ◌≤◌, ℕ, Bool, true, Result, Ok, Err}
use Rattle.rk_kernel.specs.declared.answer_err.AnswerErr.{AnswerErr}
use Rattle.rk_kernel.specs.declared.answer_err.AnswerErr.TheVariants as answer
use Rattle.rk_tree.specs.Counts.{Rose}
use Rattle.rk_plan.specs.declared.plan_err.PlanErr.{PlanErr}
use Rattle.rk_plan.specs.declared.plan_err.PlanErr.TheVariants.{ReadFault, NoMemory}

abbrev pub plan_err : AnswerErr → PlanErr
plan_err answer.ReadFault = ReadFault
plan_err answer.NoMemory = NoMemory

-- a read fault comes only where the count of failures rose, and it rises at nothing else
abbrev pub Stopped : ℕ → ℕ → PlanErr → Type 0
Stopped before now ReadFault = (before ≤ now) × Rose before now
Stopped before now NoMemory = now ≡ before

-- and where there is an answer, it didn't rise
abbrev pub Caused : {A : Type 0} → ℕ → ℕ → Result A PlanErr → Type 0
Caused before now (Ok it) = now ≡ before
Caused before now (Err reason) = Stopped before now reason

abbrev pub IsNoFault : {A : Type 0} → Result A PlanErr → Type 0
IsNoFault (Ok it) = Unit {0}
IsNoFault (Err ReadFault) = ⊥
IsNoFault (Err NoMemory) = Unit {0}

-- over what is steady, which stays so, there is no read fault
abbrev pub Steadily : {A : Type 0} → Bool → Bool → Result A PlanErr → Type 0
Steadily before now result = (now ≡ before) × (before ≡ true → IsNoFault result)
