-- The waves of a plan may be run in any order.
use Rattle.std.specs.Prelude.{◌≡◌, ℕ, List, length, map}
use Rattle.rk_calls.specs.Keys.{KeyValue}
use Rattle.rk_calls.specs.Refs.{top_refs}
use Rattle.rk_calls.specs.Talk.{Says}
use Rattle.rk_calls.specs.declared.answer.Answer.{Answer}
use Rattle.rk_kernel.specs.Do.{answered}
use Rattle.rk_kernel.specs.World as kernel
use Rattle.rk_kernel.specs.World.{fresh_world}
use Rattle.rk_tree.specs.Entries.{Entries, IsWholeSnapshot}
use Rattle.rk_traces.specs.Run.{Done, environment, fresh}
use Rattle.rk_waves.specs.Goes.{Told, Goes, left_by}
use Rattle.rk_waves.specs.Listed.{IsPlan, members}
use Rattle.rk_waves.specs.Programs.{Cell, by_cells}
use Rattle.rk_waves.specs.Waves.{Each, KeepsOwn, Move, Placed, in_wave, moves_of, one_by_one, tolds}
use Rattle.rk_feet.specs.Named.{Name, Plain}
use Rattle.rk_feet.specs.Played.{PlaysKernel}
use Rattle.rk_feet.specs.Snapshots.{IsSeenAs, IsStart}
use Rattle.rk_feet.specs.Steps.{Step}
use Rattle.rk_feet.specs.World.{World}
use Rattle.rk_plan.specs.Plans.{IsPlanOf}
use Rattle.tr_record.specs.declared.records.Record.{Record}
use Rattle.rk_orders.specs.Named.{Answered, AreSteps}

-- a step with its foot by names and its answer
abbrev pub Taken : Type 0
Taken = Told Step (Cell Plain Name) Answer

abbrev pub as_answered : Taken → Answered
as_answered t = record { step = t.step; answer = t.answer }

-- each wave's steps in some order that keeps each command's own
abbrev pub KeepsCommands : (ℕ → List (Move Taken)) → List (Placed Taken) → Type 0
KeepsCommands order run = (n : ℕ) → KeepsOwn (order n) (in_wave n (moves_of run))

-- A run by names in waves: pieces of steps, one after another.
pub record IsRun (table : List Record) (lists : List (List ℕ)) (run : List (Placed Taken)) : Type 0 where
  -- the steps are those of the records, in the order of the run, each with its answer
  pub steps : AreSteps table (map as_answered (tolds (moves_of run)))
  -- each piece is of one command
  pub owners : Each (λ (m : Move Taken). m.owner ≡ m.told.step.command) (moves_of run)
  -- for each wave these are the commands that have a step in it
  pub plan : IsPlan (members run) lists

module _ (k : PlaysKernel) where
  -- from one world to another steps go, each with the foot and the answer that are told; and what they leave is seen as the other one
  pub record GoesTo (start end : World) (steps : List Taken) : Type 0 where
    pub goes : Goes (by_cells k.it) start steps end
    pub seen : IsSeenAs (left_by (by_cells k.it) start steps) end

  -- In the world of a snapshot, these records' run goes from its start to this end. The waves one by one, each in any order of its steps
  -- that keeps each command's own, go there too: each step has the answer that its record has, and the output, the error text and the
  -- snapshot are the run's.
  pub record GoesInAnyOrder (snapshot : Entries) (table : List Record) (after : kernel.World) (lists : List (List ℕ)) : Type 0 where
    pub start : World
    pub starts : IsStart snapshot start
    pub end : World
    pub ends : end.held ≡ after
    pub run : List (Placed Taken)
    pub is : IsRun table lists run
    pub goes : GoesTo start end (tolds (moves_of run))
    pub orders : (order : ℕ → List (Move Taken)) → KeepsCommands order run → GoesTo start end (tolds (one_by_one order (length lists)))

-- Over every whole snapshot, whatever the commands say: a fresh run that ends, and every plan of its records.
abbrev pub GoInAnyOrder : Type 0
GoInAnyOrder =
    (k : PlaysKernel) (snapshot : Entries) → IsWholeSnapshot snapshot
    → (first : KeyValue → Says) (purse : ℕ) (key : KeyValue) (after : kernel.World) (status left : ℕ) (table : List Record)
    → fresh (environment first answered) purse key top_refs (fresh_world snapshot) ≡ Done after status left table
    → (lists : List (List ℕ)) → IsPlanOf (fresh_world snapshot) table lists → GoesInAnyOrder k snapshot table after lists
