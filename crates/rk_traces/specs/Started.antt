-- How the count of starts rises.
use Rattle.std.specs.Prelude.{◌≡◌, ◌⊎◌, ℕ, zero, suc, ◌+◌, ◌≤◌, Result, Ok, Err}
use Rattle.rk_calls.specs.Starts.{one_more}
use Rattle.rk_traces.specs.declared.feeding.FeedErr.{FeedErr}
use Rattle.rk_traces.specs.declared.feeding.FeedErr.TheVariants.{Forged as ForgedStep, NoMemory as NoRoom}
use Rattle.rk_traces.specs.declared.check.CheckErr.{CheckErr}
use Rattle.rk_traces.specs.declared.check.CheckErr.TheVariants.{Forged, NoMemory}

-- the count after so many starts
abbrev pub started : ℕ → ℕ → ℕ
started zero count = count
started (suc more) count = one_more (started more count)

-- one command was started; for want of memory perhaps none
abbrev pub StartsOne : {T : Type 0} → ℕ → ℕ → Result T FeedErr → Type 0
StartsOne before now (Ok it) = now ≡ one_more before
StartsOne before now (Err (ForgedStep step)) = now ≡ one_more before
StartsOne before now (Err NoRoom) = (now ≡ before) ⊎ (now ≡ one_more before)

-- no more than so many were started
pub record StartsSome (most before now : ℕ) : Type 0 where
  pub many : ℕ
  pub few : many ≤ most
  pub now_is : now ≡ started many before

-- so many records were looked at, each by one start; or those up to the one that is told
abbrev pub StartsEach : {T : Type 0} → ℕ → ℕ → ℕ → Result T CheckErr → Type 0
StartsEach many before now (Ok it) = now ≡ started many before
StartsEach many before now (Err (Forged rec step)) = now ≡ started (rec + 1) before
StartsEach many before now (Err NoMemory) = StartsSome many before now
