-- What a folder was asked.
use Rattle.std.proofs.Common.{ℕ, Option, Some, None, IfSome, Err, refl, inl, inr}
use Rattle.rk_base.specs.Text.{Text}
use Rattle.rk_calls.specs.Keys.{KeyValue}
use Rattle.rk_calls.specs.Talk.{Says}
use Rattle.rk_folder.specs.Fetching.{no-reads}
use Rattle.rk_folder.specs.Looks.{looks}
use Rattle.rk_folder.specs.Schedule.{Schedule, MakesCalls}
use Rattle.rk_folder.specs.Told.{Held}
use Rattle.rk_folder.proofs.CallsLemmas.{makes-none}
use Rattle.rk_request.specs.Asked.{is_fresh}
use Rattle.rk_request.specs.declared.requests.Request.{Request}
use Rattle.rk_build.specs.Calls.{AsksAll, AsksSo, PreparesCalls, ReadsAlone}
use Rattle.rk_install.specs.Asked.{plan_calls}
use Rattle.rk_seal.specs.declared.plan.Plan.{Plan}
use Rattle.rk_build.specs.Outcomes.{outcome_of_stop}
use Rattle.rk_build.specs.Stages.{InstallsSo, IsPrepared, PreparesSo}
use Rattle.rk_build.specs.Telling.{PutsOutput, SinkState}
use Rattle.rk_build.specs.declared.outcome.Outcome.TheVariants as out
use Rattle.rk_build.specs.declared.work.Prepared.{Prepared}
use Rattle.rk_build.specs.declared.stop.Refusal.TheVariants as refusal
use Rattle.rk_build.specs.declared.stop.BuildErr.{BuildErr}
use Rattle.rk_build.specs.declared.stop.BuildErr.TheVariants as stop
use Rattle.rk_build.proofs.BuildLemmas.{left}

-- It was looked at, files were read, and then it was asked for some of the calls of an install.
pub asks-all : (first : KeyValue → Says) (request : Request) (reach : ℕ) (told : Option Held) (live late : ℕ) (p : Prepared) (before on now : Option Schedule) → IfSome told (λ held. IsPrepared first request held live late p) → ReadsAlone request reach told before on → MakesCalls (plan_calls p.plan) on now → AsksAll first request reach told before now
asks-all first request reach None live late p before on now is looked made = tt
asks-all first request reach (Some held) live late p before on now is looked made = record {
  plain = is.plain;
  rows = is.rows;
  old = is.old;
  kept = is.kept;
  so = record {
    world = is.world;
    table = is.built.table;
    is_left = λ spoken. left first request held live late p is spoken;
    kept = is.left;
    pushed = is.pushed;
    plan = p.plan;
    is_plan = is.plan;
    calls = (on, looked, made);
  };
}

-- nothing was prepared
pub prepare-asks : (first : KeyValue → Says) (request : Request) (reach : ℕ) (told : Option Held) (live late : ℕ) (before now : Option Schedule) (e : BuildErr) → PreparesSo first request told live late (Err e) → PreparesCalls {T = Prepared} request reach told before now (Err e) → AsksSo first request reach told before now (outcome_of_stop e)
unfolding AsksSo
prepare-asks first request reach told live late before now (stop.Refused (refusal.Special path)) prepares looked = looked
prepare-asks first request reach told live late before now (stop.Refused (refusal.Damaged file damage)) prepares looked = looked
prepare-asks first request reach told live late before now (stop.Forged rec step) prepares looked = looked
prepare-asks first request reach told live late before now stop.Spent prepares looked = looked
prepare-asks first request reach told live late before now stop.ReadFault prepares looked = looked
prepare-asks first request reach told live late before now stop.WriteFault prepares looked = absurd prepares
prepare-asks first request reach told live late before now stop.NoMemory prepares looked = inl looked

-- the texts weren't put
pub put-asks : (first : KeyValue → Says) (request : Request) (reach : ℕ) (told : Option Held) (before now : Option Schedule) (text : Text) (old new : SinkState) (e : BuildErr) → PutsOutput {T = Unit {0}} text old new (Err e) → AsksAll first request reach told before now → AsksSo first request reach told before now (outcome_of_stop e)
unfolding AsksSo
put-asks first request reach told before now text old new (stop.Refused refusal) put asks = absurd put
put-asks first request reach told before now text old new (stop.Forged rec step) put asks = absurd put
put-asks first request reach told before now text old new stop.Spent put asks = absurd put
put-asks first request reach told before now text old new stop.ReadFault put asks = absurd put
put-asks first request reach told before now text old new stop.WriteFault put asks = asks
put-asks first request reach told before now text old new stop.NoMemory put asks = inr asks

-- a call of the installation failed
pub install-asks : (first : KeyValue → Says) (request : Request) (reach : ℕ) (told h k : Option Held) (plan : Plan) (before now : Option Schedule) (e : BuildErr) → InstallsSo {T = Unit {0}} plan h k (Err e) → AsksAll first request reach told before now → AsksSo first request reach told before now (outcome_of_stop e)
unfolding AsksSo
install-asks first request reach told h k plan before now (stop.Refused refusal) part asks = absurd part
install-asks first request reach told h k plan before now (stop.Forged rec step) part asks = absurd part
install-asks first request reach told h k plan before now stop.Spent part asks = absurd part
install-asks first request reach told h k plan before now stop.ReadFault part asks = absurd part
install-asks first request reach told h k plan before now stop.WriteFault part asks = asks
install-asks first request reach told h k plan before now stop.NoMemory part asks = inr asks

-- all went well
pub end-asks : (first : KeyValue → Says) (request : Request) (reach : ℕ) (told : Option Held) (before now : Option Schedule) (status launched ran : ℕ) → AsksAll first request reach told before now → AsksSo first request reach told before now (out.Ended status launched ran)
unfolding AsksSo
end-asks first request reach told before now status launched ran asks = asks

-- nothing was asked
pub asks-none : (first : KeyValue → Says) (request : Request) (reach : ℕ) (told : Option Held) (schedule : Option Schedule) → AsksSo first request reach told schedule schedule out.NoMemory
unfolding AsksSo
asks-none first request reach None schedule = inl tt
asks-none first request reach (Some held) schedule = inl (schedule, makes-none (looks (is_fresh request) reach held) schedule schedule refl, no-reads (Some held) schedule)
