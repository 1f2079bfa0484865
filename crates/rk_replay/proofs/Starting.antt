-- How many machines were started until a build stops.
use Rattle.std.proofs.Common.{◌≡◌, ℕ, ◌+◌, ◌-◌, ◌≤◌, List, [], ◌∷◌, length, Option, Some, None, Err, refl, sym, ◌∙◌, ap, subst, arith}
use Rattle.std.proofs.lemmas.List.Sums.{sum_by-append}
use Rattle.rk_base.specs.declared.memory.NoMemory.{NoMemory}
use Rattle.rk_calls.specs.Heard.{IsPaid}
use Rattle.rk_calls.specs.Keys.{KeyValue}
use Rattle.rk_calls.specs.Talk.{Says}
use Rattle.rk_calls.specs.declared.call.Call.{Call}
use Rattle.rk_calls.specs.declared.drive.Spoke.{Spoke}
use Rattle.rk_calls.specs.declared.drive.Spoke.TheVariants.{Call as Calls}
use Rattle.tr_record.specs.declared.records.Record.{Record}
use Rattle.rk_traces.specs.CheckLaws.{started-adds}
use Rattle.rk_traces.specs.Own.{total}
use Rattle.rk_traces.specs.Started.{started, StartsSome, StartsEach}
use Rattle.rk_traces.specs.declared.check.CheckErr.{CheckErr}
use Rattle.rk_traces.specs.declared.check.CheckErr.TheVariants as check
use Rattle.tr_matching.specs.declared.cause.Cause.{Cause}
use Rattle.rk_replay.specs.declared.activity.Activity.{Activity}
use Rattle.rk_replay.specs.declared.activity.Activity.TheVariants.{Runs, Replays}
use Rattle.rk_replay.specs.declared.stop.ReplayErr.{ReplayErr}
use Rattle.rk_replay.specs.declared.stop.ReplayErr.TheVariants.{Spent, Forged, Stopped}
use Rattle.rk_replay.specs.Activities.{made}
use Rattle.rk_replay.specs.Ran.{cause_of, ran_count, ran_one}
use Rattle.rk_replay.specs.Starts.{StartsFor, StartsRan, StartsTold, StartsUpTo, StartsStopped}
use Rattle.rk_replay.specs.Stops.{Stops, IsWant, IsHandedOn}

-- no more of them ran than there are
ran-one_most : (o : Option Cause) → ran_one o ≤ 1
ran-one_most None = omega arith
ran-one_most (Some c) = omega arith

pub ran_count-most : (old t : List Record) → ran_count old t ≤ length t
ran_count-most old [] = omega arith
ran_count-most old (r ∷ t) =
    let a = sum_by-append (λ rec. ran_one (cause_of old rec)) (r ∷ []) t in
    let b = ran-one_most (cause_of old r) in
    let c = ran_count-most old t in
    omega arith

-- a machine for a record of the table, or none
pub for-none : (old : List Record) (before now : ℕ) → now ≡ before → StartsFor old before now
for-none old before now e = record { many = 0; one = omega arith; of_old = omega arith; now_is = e }

-- it is launched, or there was no memory
pub some-none : (most before now : ℕ) → now ≡ before → StartsSome most before now
some-none most before now e = record { many = 0; few = omega arith; now_is = e }

-- a machine was made, or there was no memory for its record
pub some-made : {S : Type 0} (a : Activity S) (before now : ℕ) → now ≡ started (made a) before → StartsSome 1 before now
some-made (Runs machine) before now e = record { many = 1; few = omega arith; now_is = e }
some-made (Replays seat) before now e = record { many = 0; few = omega arith; now_is = e }

-- so many ran before it stopped
module _ (old : List Record) (paid n before then now : ℕ) (few : n ≤ paid + 1) (was : then ≡ started n before) where
  ran : (looked : ℕ) → now ≡ started looked then → StartsRan paid looked before now
  ran looked e = record { ran = n; few = few; now_is = e ∙ ap (started looked) was }

  pub ran-all : now ≡ started (length old) then → StartsRan paid (length old) before now
  ran-all e = ran (length old) e

  upto : (looked most : ℕ) → looked ≤ most → now ≡ started looked then → StartsUpTo paid most before now
  upto looked most h e = record { looked = looked; within = h; starts = ran looked e }

  -- the world stopped, or a record was given up
  pub stopped-asked : {S : Type 0} (first : KeyValue → Says) (stopped : S → Type 0) (stop : ReplayErr S) → Stops first old ⊥ stopped stop → StartsFor old then now → StartsStopped old paid before now stop
  stopped-asked first stopped Spent h s = absurd h.1
  stopped-asked first stopped (Forged rec step) h s = upto s.many (rec + 1) (let one : s.many ≤ 1 = s.one in omega arith) s.now_is
  stopped-asked first stopped (Stopped reason) h s = upto s.many (length old) s.of_old s.now_is

  module _ {S : Type 0} (gives : NoMemory → S → Type 0) where
    wanted : (stop : ReplayErr S) → IsWant gives stop → (looked : ℕ) → looked ≤ length old → now ≡ started looked then → StartsStopped old paid before now stop
    wanted Spent w looked h e = absurd w
    wanted (Forged rec step) w looked h e = absurd w
    wanted (Stopped reason) w looked h e = upto looked (length old) h e

    -- there was no memory
    pub stopped-want : (stop : ReplayErr S) → IsWant gives stop → now ≡ then → StartsStopped old paid before now stop
    stopped-want stop w e = wanted stop w 0 (omega arith) e

    -- a record was given up, or there was no memory
    pub stopped-handed : (e : CheckErr) (stop : ReplayErr S) → IsHandedOn gives e stop → StartsFor old then now → StartsStopped old paid before now stop
    stopped-handed (check.Forged rec step) stop h s =
        subst (StartsStopped old paid before now) (sym h) (upto s.many (rec + 1) (let one : s.many ≤ 1 = s.one in omega arith) s.now_is)
    stopped-handed check.NoMemory stop h s = wanted stop h s.many s.of_old s.now_is

    -- those that are left are torn, or there was no memory
    pub stopped-told : (e : CheckErr) (stop : ReplayErr S) → IsHandedOn gives e stop → StartsTold old then now e → StartsStopped old paid before now stop
    stopped-told (check.Forged rec step) stop h s = subst (StartsStopped old paid before now) (sym h) (upto s.many (rec + 1) s.few s.now_is)
    stopped-told check.NoMemory stop h s = wanted stop h s.many s.few s.now_is

    -- each record was looked at, or those up to one that is forged
    pub stopped-checked : (e : CheckErr) (stop : ReplayErr S) → IsHandedOn gives e stop → StartsEach {T = Unit {0}} (length old) then now (Err e) → StartsStopped old paid before now stop
    stopped-checked (check.Forged rec step) stop h s = subst (StartsStopped old paid before now) (sym h) (upto (rec + 1) (rec + 1) (omega arith) s)
    stopped-checked check.NoMemory stop h s = wanted stop h s.many s.few s.now_is

-- a command was launched, or there was no memory for it
pub stopped-launch : {S : Type 0} (gives : NoMemory → S → Type 0) (old : List Record) (paid n before then now : ℕ) (stop : ReplayErr S) → n ≤ paid → then ≡ started n before → StartsSome 1 then now → IsWant gives stop → StartsStopped old paid before now stop
stopped-launch gives old paid n before then now stop few was s w =
    let one : s.many ≤ 1 = s.few in
    let e : now ≡ started (s.many + n) before = s.now_is ∙ ap (started s.many) was ∙ sym (started-adds s.many n before) in
    stopped-want old paid (s.many + n) before now now (omega arith) e gives stop w refl

-- No more commands were launched than turns were paid, beside the first.

pub few-ran : (old t : List Record) (pending used0 used : ℕ) → length t ≤ total t + pending + 1 → used0 + (total t + pending) ≤ used → ran_count old t ≤ (used - used0) + 1
few-ran old t pending used0 used h e = let most = ran_count-most old t in omega arith

-- with a turn that was paid since
pub fewer-ran : (old t : List Record) (pending used0 used : ℕ) → length t ≤ total t + pending + 1 → (used0 + (total t + pending)) + 1 ≤ used → ran_count old t ≤ used - used0
fewer-ran old t pending used0 used h e = let most = ran_count-most old t in omega arith

pub paid-some : (p c n : ℕ) (call : Call) (s : Spoke) → IsPaid p s → s ≡ Calls call n → c ≡ n → 1 ≤ c
paid-some p c n call s h es ec = let k : 1 ≤ n = (subst (IsPaid p) es h).0 in omega arith
