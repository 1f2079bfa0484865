-- What a fresh run's records come to, gone through once more.
use Rattle.std.specs.Prelude.{◌≡◌, ℕ, List, [], length}
use Rattle.rk_calls.specs.Keys.{KeyValue}
use Rattle.rk_calls.specs.Refs.{top_refs}
use Rattle.rk_calls.specs.Talk.{Says}
use Rattle.rk_kernel.specs.Do.{answered}
use Rattle.rk_kernel.specs.World.{World}
use Rattle.rk_traces.specs.Run.{Done, environment, fresh}
use Rattle.tr_record.specs.declared.records.Record.{Record}
use Rattle.rk_plan.specs.declared.event.Event.{Event}
use Rattle.rk_plan.specs.Retracing.{Course, Retraces, start}

-- Each call of the records is answered in its turn as they have it, in the world that the calls before it left. At the end no command is
-- under way, each record's was launched, and the world is the run's.
pub record IsRetraced (table : List Record) (before after : World) : Type 0 where
  pub events : List Event
  pub end : Course
  pub retraces : Retraces table (start before table) events end
  pub done : end.under_way ≡ []
  pub all_begun : end.begun ≡ length table
  pub world_is : end.world ≡ after

-- whatever the commands say, the records of a fresh run
abbrev pub AreRetraced : Type 0
AreRetraced =
    (first : KeyValue → Says) (purse : ℕ) (key : KeyValue) (before after : World) (status left : ℕ) (table : List Record)
    → fresh (environment first answered) purse key top_refs before ≡ Done after status left table → IsRetraced table before after
