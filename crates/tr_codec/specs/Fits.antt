-- Which tables have a spelling.
use Rattle.std.specs.Prelude.{◌≡◌, ℕ, ◌+◌, ◌<◌, ◌≤◌, ◌^◌, List, true, sum_by}
use Rattle.std.specs.List.{AllByRecursion}
use Rattle.rk_base.specs.Canonical.{is_canonical}
use Rattle.rk_base.specs.Names.{are_names}
use Rattle.rk_base.specs.Variables.{are_variables}
use Rattle.rk_calls.specs.Keys.{KeyValue, is_key}
use Rattle.rk_calls.specs.RefMaps.{is_refmap}
use Rattle.rk_calls.specs.declared.call.Call.{Call}
use Rattle.rk_calls.specs.declared.call.Call.TheVariants as call
use Rattle.rk_calls.specs.declared.answer.Answer.{Answer}
use Rattle.rk_calls.specs.declared.answer.Answer.TheVariants as answer
use Rattle.tr_record.specs.Rec.{AreNumbered}
use Rattle.tr_record.specs.declared.steps.Step.{Step}
use Rattle.tr_record.specs.declared.records.Record.{Record}

-- at least one word, a canonical working directory, and variables, ascending by name, only where they count
pub record FitsKey (key : KeyValue) : Type 0 where
  pub words : is_key key.argv key.vars ≡ true
  pub wd : is_canonical key.wd ≡ true
  pub vars : are_variables key.vars ≡ true

-- descriptors 0 to 9, strictly ascending, each with a number
pub record FitsMap (map : List (ℕ × ℕ)) : Type 0 where
  pub descriptors : is_refmap map ≡ true
  pub numbers : AllByRecursion (λ pair. pair.1 < 2 ^ 64) map

-- numbers below 2^64, and modes of at most 0777
abbrev pub FitsCall : Call → Type 0
FitsCall (call.Open path how) = Unit {0}
FitsCall (call.Read r) = r < 2 ^ 64
FitsCall (call.ReadLine r) = r < 2 ^ 64
FitsCall (call.Write r bytes) = r < 2 ^ 64
FitsCall (call.Stat path follow) = Unit {0}
FitsCall (call.List path) = Unit {0}
FitsCall (call.ReadLink path) = Unit {0}
FitsCall (call.Walk path) = Unit {0}
FitsCall (call.Same a b) = Unit {0}
FitsCall (call.Mkdir path mode) = mode ≤ 511
FitsCall (call.Rmdir path) = Unit {0}
FitsCall (call.Unlink path) = Unit {0}
FitsCall (call.Rename a b) = Unit {0}
FitsCall (call.Symlink text path) = Unit {0}
FitsCall (call.Link a b) = Unit {0}
FitsCall (call.Chmod path mode) = mode ≤ 511
FitsCall call.Pipe = Unit {0}
FitsCall (call.Launch key map) = FitsKey key × FitsMap map

-- Go is never recorded; a mode is at most 0777, names ascend, and a place is a canonical path
abbrev pub FitsAnswer : Answer → Type 0
FitsAnswer answer.Go = ⊥
FitsAnswer answer.Done = Unit {0}
FitsAnswer answer.Opened = Unit {0}
FitsAnswer answer.Piped = Unit {0}
FitsAnswer (answer.Content bytes) = Unit {0}
FitsAnswer (answer.Stat kind mode empty) = mode ≤ 511
FitsAnswer (answer.Names names) = are_names names ≡ true
FitsAnswer (answer.Text text) = Unit {0}
FitsAnswer (answer.Place path) = is_canonical path ≡ true
FitsAnswer (answer.Same same) = Unit {0}
FitsAnswer (answer.Joined status) = status < 256
FitsAnswer (answer.No errno) = Unit {0}

pub record FitsStep (step : Step) : Type 0 where
  pub cost : step.cost < 2 ^ 64
  pub call : FitsCall step.call
  pub answer : FitsAnswer step.answer

-- what a command paid in all, with its exit
abbrev pub paid : List Step → ℕ → ℕ
paid steps exit_cost = sum_by (λ step. step.cost) steps + exit_cost

pub record FitsRecord (rec : Record) : Type 0 where
  pub key : FitsKey rec.key
  pub steps : AllByRecursion FitsStep rec.steps
  pub exit : rec.exit < 256
  pub paid : paid rec.steps rec.exit_cost < 2 ^ 64

-- each record has a spelling, and each ordinal is the number of earlier records of its key
pub record Fits (table : List Record) : Type 0 where
  pub records : AllByRecursion FitsRecord table
  pub numbered : AreNumbered table
