-- Why calls have no answer.
use Rattle.std.specs.Prelude.{◌≡◌, ◌≤◌, ℕ, Bool, true, Result, Ok, Err}
use Rattle.rk_tree.specs.Counts.{Rose}
use Rattle.rk_tree.specs.declared.fetch.FetchErr.{FetchErr}
use Rattle.rk_tree.specs.declared.fetch.FetchErr.TheVariants as fetch
use Rattle.rk_kernel.specs.declared.answer_err.AnswerErr.{AnswerErr}
use Rattle.rk_kernel.specs.declared.answer_err.AnswerErr.TheVariants.{ReadFault, NoMemory}

abbrev pub answer_err : FetchErr → AnswerErr
answer_err fetch.Failed = ReadFault
answer_err fetch.NoMemory = NoMemory

-- a read fault comes only where the count of failures rose, and it rises at nothing else
abbrev pub Stopped : ℕ → ℕ → AnswerErr → Type 0
Stopped before now ReadFault = (before ≤ now) × Rose before now
Stopped before now NoMemory = now ≡ before

-- and where there is an answer, it didn't rise
abbrev pub Caused : {A : Type 0} → ℕ → ℕ → Result A AnswerErr → Type 0
Caused before now (Ok it) = now ≡ before
Caused before now (Err reason) = Stopped before now reason

abbrev pub IsNoFaultAt : AnswerErr → Type 0
IsNoFaultAt ReadFault = ⊥
IsNoFaultAt NoMemory = Unit {0}

abbrev pub IsNoFault : {A : Type 0} → Result A AnswerErr → Type 0
IsNoFault (Ok it) = Unit {0}
IsNoFault (Err reason) = IsNoFaultAt reason

-- over what is steady, which stays so, there is no read fault
abbrev pub Steadily : {A : Type 0} → Bool → Bool → Result A AnswerErr → Type 0
Steadily before now result = (now ≡ before) × (before ≡ true → IsNoFault result)
