-- Which tables of records have a spelling, by what was asked and answered.
use Rattle.std.specs.Prelude.{◌≡◌, ◌<◌, ◌^◌, true}
use Rattle.std.specs.List.{AllByRecursion}
use Rattle.rk_base.specs.Canonical.{is_canonical}
use Rattle.rk_base.specs.Names.{are_names}
use Rattle.rk_calls.specs.declared.call.Call.{Call}
use Rattle.rk_calls.specs.declared.call.Call.TheVariants as call
use Rattle.rk_calls.specs.declared.answer.Answer.{Answer}
use Rattle.rk_calls.specs.declared.answer.Answer.TheVariants as answer
use Rattle.rk_calls.specs.Fits.{fits}
use Rattle.rk_calls.specs.Proper.{IsProper}
use Rattle.tr_record.specs.declared.records.Record.{Record}
use Rattle.tr_record.specs.declared.steps.Step.{Step}
use Rattle.tr_codec.specs.Fits.{FitsKey, FitsMap, paid}

-- the answer fits the call, and a mode in the call is at most 0777
pub record IsSoundStep (step : Step) : Type 0 where
  pub answer : fits step.call step.answer ≡ true
  pub call : IsProper step.call

-- each step is so, and together they cost less than 2^64
pub record IsSound (rec : Record) : Type 0 where
  pub steps : AllByRecursion IsSoundStep rec.steps
  pub paid : paid rec.steps rec.exit_cost < 2 ^ 64

-- what the types say of a call: its numbers are below 2^64 and its mode below 2^16, its key is one, and so are its descriptors
abbrev pub TypedCall : Call → Type 0
TypedCall (call.Open path how) = Unit {0}
TypedCall (call.Read r) = r < 2 ^ 64
TypedCall (call.ReadLine r) = r < 2 ^ 64
TypedCall (call.Write r bytes) = r < 2 ^ 64
TypedCall (call.Stat path follow) = Unit {0}
TypedCall (call.List path) = Unit {0}
TypedCall (call.ReadLink path) = Unit {0}
TypedCall (call.Walk path) = Unit {0}
TypedCall (call.Same a b) = Unit {0}
TypedCall (call.Mkdir path mode) = mode < 2 ^ 16
TypedCall (call.Rmdir path) = Unit {0}
TypedCall (call.Unlink path) = Unit {0}
TypedCall (call.Rename a b) = Unit {0}
TypedCall (call.Symlink text path) = Unit {0}
TypedCall (call.Link a b) = Unit {0}
TypedCall (call.Chmod path mode) = mode < 2 ^ 16
TypedCall call.Pipe = Unit {0}
TypedCall (call.Launch key map) = FitsKey key × FitsMap map

-- and of an answer: its mode is below 2^16, its names ascend, its place is a canonical path, and its status is a byte
abbrev pub TypedAnswer : Answer → Type 0
TypedAnswer answer.Go = Unit {0}
TypedAnswer answer.Done = Unit {0}
TypedAnswer answer.Opened = Unit {0}
TypedAnswer answer.Piped = Unit {0}
TypedAnswer (answer.Content bytes) = Unit {0}
TypedAnswer (answer.Stat kind mode empty) = mode < 2 ^ 16
TypedAnswer (answer.Names names) = are_names names ≡ true
TypedAnswer (answer.Text text) = Unit {0}
TypedAnswer (answer.Place path) = is_canonical path ≡ true
TypedAnswer (answer.Same same) = Unit {0}
TypedAnswer (answer.Joined status) = status < 2 ^ 8
TypedAnswer (answer.No errno) = Unit {0}

-- a step of these types
pub record IsTyped (step : Step) : Type 0 where
  pub cost : step.cost < 2 ^ 64
  pub call : TypedCall step.call
  pub answer : TypedAnswer step.answer

-- the steps of a record of these types, and its key and its exit
abbrev pub TypedSteps : Record → Type 0
TypedSteps rec = AllByRecursion IsTyped rec.steps

abbrev pub TypedEnds : Record → Type 0
TypedEnds rec = FitsKey rec.key × (rec.exit < 2 ^ 8)
