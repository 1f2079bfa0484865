-- What a fetch gives.
use Rattle.std.specs.Prelude.{◌≡◌, ◌≤◌, ℕ, Bool, true, Option, Some, None, Result, Ok, Err}
use Rattle.std.specs.FinMap.{get}
use Rattle.rk_base.specs.Text.{Text}
use Rattle.rk_tree.specs.Counts.{Rose}
use Rattle.rk_tree.specs.Full.{Told, IsThere}
use Rattle.rk_tree.specs.declared.fetch.FetchErr.{FetchErr}
use Rattle.rk_tree.specs.declared.fetch.FetchErr.TheVariants.{Failed, NoMemory}

-- where the bytes are told, there are some at this path
abbrev pub Has : Option Told → Text → Type 0
Has None path = Unit {0}
Has (Some told) path = IsThere (get told path)

-- where the bytes are told, these are those at this path
abbrev pub Gives : Option Told → Text → Text → Type 0
Gives None path bytes = Unit {0}
Gives (Some told) path bytes = get told path ≡ Some bytes

-- it fails only where the count of failures rises, and that rises at nothing else
abbrev pub Counted : {A : Type 0} → ℕ → ℕ → Result A FetchErr → Type 0
Counted before now (Ok it) = now ≡ before
Counted before now (Err Failed) = (before ≤ now) × Rose before now
Counted before now (Err NoMemory) = now ≡ before

abbrev pub IsNoFailure : {A : Type 0} → Result A FetchErr → Type 0
IsNoFailure (Ok it) = Unit {0}
IsNoFailure (Err Failed) = ⊥
IsNoFailure (Err NoMemory) = Unit {0}

-- what is steady stays so, and no call of it fails
abbrev pub Steadily : {A : Type 0} → Bool → Bool → Result A FetchErr → Type 0
Steadily before now result = (now ≡ before) × (before ≡ true → IsNoFailure result)
