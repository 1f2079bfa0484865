-- A recorded run, gone through once more: what its commands ask of the world, in the order of the run, without starting one.
use Rattle.std.specs.Prelude.{◌≡◌, ℕ, suc, false, List, [], ◌∷◌, Option, Some, None, slice_get}
use Rattle.rk_calls.specs.declared.call.Call.{Call}
use Rattle.rk_calls.specs.declared.call.Call.TheVariants.{Launch}
use Rattle.rk_calls.specs.Fits.{is_launch}
use Rattle.rk_calls.specs.Given.{Given}
use Rattle.rk_calls.specs.Refs.{RefsHeld, passed_refs, top_refs}
use Rattle.rk_kernel.specs.Do.{answered}
use Rattle.rk_kernel.specs.Feet.{foot_by}
use Rattle.rk_kernel.specs.World.{World}
use Rattle.tr_record.specs.declared.records.Record.{Record}
use Rattle.tr_record.specs.declared.steps.Step.{Step}
use Rattle.rk_plan.specs.declared.event.Event.{Event}
use Rattle.rk_plan.specs.declared.event.Event.TheVariants.{Touches, Launches, Ends}

-- a command under way: the number of its record, its descriptors, and which of its steps are left
pub record Command : Type 0 where
  pub owner : ℕ
  pub refs : RefsHeld
  pub left : List Step

-- how far the run has come: the commands under way, of which the first was launched last; how many were launched; and the world
pub record Course : Type 0 where
  pub under_way : List Command
  pub begun : ℕ
  pub world : World

-- What a command does next.

-- the world has given it an answer
abbrev pub answered_so : Command → List Command → ℕ → Given World → Course
answered_so it others begun given = record { under_way = record it { refs = given.refs } ∷ others; begun = begun; world = given.world }

-- the command of the next record begins, with the descriptors that are passed to it
abbrev pub launched : Course → List Command → RefsHeld → Option Record → Course
launched c waiting refs None = record c { under_way = waiting }
launched c waiting refs (Some rec) =
    record c { under_way = record { owner = c.begun; refs = refs; left = rec.steps } ∷ waiting; begun = suc c.begun }

module _ (table : List Record) where
  -- it asks this, or launches the command of the next record
  abbrev pub called : Course → Command → List Command → Call → Event × Course
  called c it others (Launch key map) = (Launches it.owner, launched c (it ∷ others) (passed_refs it.refs map) (slice_get table c.begun))
  called c it others call = (Touches it.owner (foot_by c.world it.refs call), answered_so it others c.begun (answered c.world it.refs call))

  -- it takes the next of its steps, or ends
  abbrev pub taken : Course → Command → List Command → List Step → Event × Course
  taken c it others [] = (Ends it.owner, record c { under_way = others })
  taken c it others (st ∷ sts) = called c (record it { left = sts }) others st.call

  abbrev pub turned : Course → List Command → Option (Event × Course)
  turned c [] = None
  turned c (it ∷ others) = Some (taken c it others it.left)

  -- what comes next, and how far the run has come then; the command that was launched last goes on first
  abbrev pub turn : Course → Option (Event × Course)
  turn c = turned c c.under_way

  -- what comes from here to there, one after another
  abbrev pub Leads : Course → List Event → Course → Type 0
  Leads c [] end = c ≡ end
  Leads c (e ∷ es) end = (next : Course) × (turn c ≡ Some (e, next)) × Leads next es end

  -- the call that comes next has in this world the answer that its record has

  abbrev pub IsAnsweredAt : Course → Command → List Step → Type 0
  IsAnsweredAt c it [] = Unit {0}
  IsAnsweredAt c it (st ∷ sts) = is_launch st.call ≡ false → (answered c.world it.refs st.call).answer ≡ st.answer

  abbrev pub IsAnsweredFirst : Course → List Command → Type 0
  IsAnsweredFirst c [] = Unit {0}
  IsAnsweredFirst c (it ∷ others) = IsAnsweredAt c it it.left

  -- what comes from here to there, with the answers that the records have
  abbrev pub Retraces : Course → List Event → Course → Type 0
  Retraces c [] end = c ≡ end
  Retraces c (e ∷ es) end = (next : Course) × (turn c ≡ Some (e, next)) × IsAnsweredFirst c c.under_way × Retraces next es end

-- the first command, of the first record
abbrev pub started : World → Option Record → Course
started world None = record { under_way = []; begun = 0; world = world }
started world (Some rec) = record { under_way = record { owner = 0; refs = top_refs; left = rec.steps } ∷ []; begun = 1; world = world }

abbrev pub start : World → List Record → Course
start world table = started world (slice_get table 0)

-- all that the run of these records comes to, from this world on, and the end of it
pub record AreEvents (world : World) (table : List Record) (events : List Event) (end : Course) : Type 0 where
  pub leads : Leads table (start world table) events end
  pub done : end.under_way ≡ []
