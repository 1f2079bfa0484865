-- A run under way, in code.
use Rattle.std.specs.Prelude.{◌≡◌, ℕ, ◌+◌, ◌*◌, List, [], ◌∷◌, length, drop, Option, Some, IfSome}
use Rattle.rk_calls.specs.Refs.{RefsHeld}
use Rattle.rk_calls.specs.declared.call.Call.{Call}
use Rattle.rk_kernel.specs.Do.{answered}
use Rattle.rk_kernel.specs.Full.{full_world}
use Rattle.rk_kernel.specs.World.{World}
use Rattle.rk_tree.specs.Full.{Told}
use Rattle.tr_record.specs.declared.records.Record.{Record}
use Rattle.rk_plan.specs.declared.event.Event.{Event}
use Rattle.rk_plan.specs.Retracing.{Command, Course, turn}

-- the records that are gone through, and how far
pub record Going : Type 0 where
  pub table : List Record
  pub course : Course

-- with the bytes of each file as they are told
abbrev pub in_full : Told → Course → Course
in_full told c = record c { world = full_world told c.world }

-- the event that comes next leads from one to the other, where bytes are told
abbrev pub Turns : Option Told → Going → Event → Going → Type 0
Turns told old e new = IfSome told (λ told. turn old.table (in_full told old.course) ≡ Some (e, in_full told new.course))

-- these are the descriptors and the world after a call, where bytes are told
pub record IsGiven (before : World) (refs : RefsHeld) (call : Call) (now : RefsHeld) (after : World) : Type 0 where
  pub refs_are : now ≡ (answered before refs call).refs
  pub world_is : after ≡ (answered before refs call).world

abbrev pub IsGivenWhereTold : Option Told → World → RefsHeld → Call → RefsHeld → World → Type 0
IsGivenWhereTold told before refs call now after = IfSome told (λ told. IsGiven (full_world told before) refs call now (full_world told after))

-- Steps that are left.

abbrev pub steps_left : List Command → ℕ
steps_left [] = 0
steps_left (it ∷ others) = length it.left + steps_left others

abbrev pub steps_in : List Record → ℕ
steps_in [] = 0
steps_in (rec ∷ recs) = length rec.steps + steps_in recs

-- falls with each event
abbrev pub left_in : Going → ℕ
left_in g = 2 * (steps_left g.course.under_way + steps_in (drop g.course.begun g.table)) + length g.course.under_way

-- with a command under way that goes on first
abbrev pub resumed : Going → Command → Going
resumed g it = record g { course = record g.course { under_way = it ∷ g.course.under_way } }
