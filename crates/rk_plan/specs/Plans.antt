-- The waves of a recorded run.
use Rattle.std.specs.Prelude.{ℕ, List, fold, Option, IfSome}
use Rattle.rk_kernel.specs.Cell.{same_cell, gathers}
use Rattle.rk_kernel.specs.Full.{full_world}
use Rattle.rk_kernel.specs.World.{World}
use Rattle.rk_kernel.specs.declared.cell.Cell.{Cell}
use Rattle.rk_kernel.specs.declared.foot.Foot as kernel
use Rattle.rk_tree.specs.Full.{Told}
use Rattle.rk_waves.specs.CellPieces.{AreBy, Pieced, RunPieces, closed, done, no_foot, no_pieces, placed, touched}
use Rattle.rk_waves.specs.Listed.{IsPlan, members}
use Rattle.rk_waves.specs.System.{Foot}
use Rattle.tr_record.specs.declared.records.Record.{Record}
use Rattle.rk_plan.specs.declared.event.Event.{Event}
use Rattle.rk_plan.specs.declared.event.Event.TheVariants.{Touches, Launches, Ends}
use Rattle.rk_plan.specs.Retracing.{AreEvents, Course}

abbrev pub foot_of : kernel.Foot → Foot Cell
foot_of foot = record { reads = foot.reads; writes = foot.writes }

-- the pieces of a run after an event more: a piece is of steps of one command, and ends where it launches another one (which is a step,
-- and touches nothing) or ends
abbrev pub with_event : RunPieces Cell → Event → RunPieces Cell
with_event p (Touches owner foot) = touched p (foot_of foot)
with_event p (Launches owner) = closed (touched p no_foot) owner
with_event p (Ends owner) = done p owner

abbrev pub pieces_of : List Event → RunPieces Cell
pieces_of = fold with_event no_pieces

-- these are the pieces, with an event more
abbrev pub IsWithEvent : Pieced Cell → Event → Pieced Cell → Type 0
IsWithEvent old e new = (p : RunPieces Cell) → AreBy same_cell p old → AreBy same_cell (with_event p e) new

-- these are the pieces of a run
pub record ArePiecesOf (world : World) (table : List Record) (pieces : Pieced Cell) : Type 0 where
  pub events : List Event
  pub end : Course
  pub are : AreEvents world table events end
  pub pieces_are : AreBy same_cell (pieces_of events) pieces

-- these are the waves of a run's pieces: for each the commands that have a step in it
pub record IsPlanOf (world : World) (table : List Record) (lists : List (List ℕ)) : Type 0 where
  pub events : List Event
  pub end : Course
  pub are : AreEvents world table events end
  pub plan : IsPlan (members (placed same_cell gathers (pieces_of events).ended)) lists

-- Of a world whose files may have bytes that aren't known yet, where they are told.

abbrev pub ArePiecesWhereTold : Option Told → World → List Record → Pieced Cell → Type 0
ArePiecesWhereTold told world table pieces = IfSome told (λ told. ArePiecesOf (full_world told world) table pieces)

abbrev pub IsPlanWhereTold : Option Told → World → List Record → List (List ℕ) → Type 0
IsPlanWhereTold told world table lists = IfSome told (λ told. IsPlanOf (full_world told world) table lists)
