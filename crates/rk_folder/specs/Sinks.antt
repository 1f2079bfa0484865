-- What a put leaves.
use Rattle.std.specs.Prelude.{◌≡◌, ◌≤◌, ◌==◌, ℕ, Bool, true, List, ◌++◌, take, find, Option, Some, None, Result, Ok, Err, IsSomeAnd, option_map}
use Rattle.rk_folder.specs.Counts.{Rose, one_more}
use Rattle.rk_folder.specs.declared.sink.SinkErr.{SinkErr}
use Rattle.rk_folder.specs.declared.sink.SinkErr.TheVariants.{Failed, NoMemory}

abbrev pub with_bytes : List ℕ → Option (List ℕ) → Option (List ℕ)
with_bytes bytes so_far = option_map (λ front. front ++ bytes) so_far

-- all at Ok, else a front
abbrev pub Puts : {T : Type 0} → List ℕ → Option (List ℕ) → Option (List ℕ) → Result T SinkErr → Type 0
Puts bytes old new (Ok it) = new ≡ with_bytes bytes old
Puts bytes old new (Err e) = (n : ℕ) × (new ≡ with_bytes (take n bytes) old)

-- a put fails only by a fault
abbrev pub PutCaused : {T : Type 0} → ℕ → ℕ → Result T SinkErr → Type 0
PutCaused before now (Ok it) = now ≡ before
PutCaused before now (Err Failed) = (before ≤ now) × Rose before now
PutCaused before now (Err NoMemory) = now ≡ before

-- want of memory raises the count of it, and nothing else does
abbrev pub PutMemoryCaused : {T : Type 0} → ℕ → ℕ → Result T SinkErr → Type 0
PutMemoryCaused before now (Ok it) = now ≡ before
PutMemoryCaused before now (Err Failed) = now ≡ before
PutMemoryCaused before now (Err NoMemory) = (before ≤ now) × Rose before now

abbrev pub IsNoFault : {T : Type 0} → Result T SinkErr → Type 0
IsNoFault (Ok it) = Unit {0}
IsNoFault (Err Failed) = ⊥
IsNoFault (Err NoMemory) = Unit {0}

-- a steady sink stays steady, and no put is a fault
abbrev pub PutSteadily : {T : Type 0} → Bool → Bool → Result T SinkErr → Type 0
PutSteadily before now result = (now ≡ before) × (before ≡ true → IsNoFault result)

-- a put that is to be a fault: its number, from 1 on, and how many bytes go out before
abbrev pub FailingPut : Type 0
FailingPut = ℕ × ℕ

-- the puts that are to be faults, and how many puts there were
pub record PutSchedule : Type 0 where
  pub failing : List FailingPut
  pub puts : ℕ

-- how the put of this number is to fail: the first that has its number counts
abbrev pub failing_put : List FailingPut → ℕ → Option FailingPut
failing_put failing put = find (λ it. it.0 == put) failing

abbrev pub next_failing : PutSchedule → Option FailingPut
next_failing schedule = failing_put schedule.failing (one_more schedule.puts)

abbrev pub after_put : PutSchedule → PutSchedule
after_put schedule = record schedule { puts = one_more schedule.puts }

-- a put is a fault where one is scheduled, and only there, and then just the bytes go out that are scheduled
abbrev pub PutsAsScheduled : {T : Type 0} → PutSchedule → List ℕ → Option (List ℕ) → Option (List ℕ) → Result T SinkErr → Type 0
PutsAsScheduled schedule bytes old new (Ok it) = next_failing schedule ≡ None
PutsAsScheduled schedule bytes old new (Err Failed) = IsSomeAnd (next_failing schedule) (λ it. new ≡ with_bytes (take it.1 bytes) old)
PutsAsScheduled schedule bytes old new (Err NoMemory) = Unit {0}

-- where a sink tells its schedule, each put goes by it, and is counted
abbrev pub OnPutSchedule : {T : Type 0} → Option PutSchedule → Option PutSchedule → List ℕ → Option (List ℕ) → Option (List ℕ) → Result T SinkErr → Type 0
OnPutSchedule None after bytes old new result = after ≡ None
OnPutSchedule (Some before) after bytes old new result = (after ≡ Some (after_put before)) × PutsAsScheduled before bytes old new result

-- A sink in memory: its bytes so far, the puts that are to fail, each with how many bytes go out
-- before, how many puts there were, how many of them were faults, and how many had no memory.
pub record MemSinkValue : Type 0 where
  pub bytes : List ℕ
  pub failing : List FailingPut
  pub puts : ℕ
  pub faults : ℕ
  pub memory_failures : ℕ

abbrev pub put_schedule_of : MemSinkValue → PutSchedule
put_schedule_of sink = record { failing = sink.failing; puts = sink.puts }
