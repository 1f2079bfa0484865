-- What values of the code's types have a spelling.
use Rattle.std.proofs.Common.{◌≡◌, ℕ, ◌≤◌, Bool, true, false, List, [], ◌∷◌, arith}
use Rattle.std.specs.List.{AllByRecursion}
use Rattle.std.proofs.lemmas.Bool.{leb-true}
use Rattle.rk_base.specs.declared.file_type.FileType.{FileType}
use Rattle.rk_calls.specs.declared.call.Call.{Call}
use Rattle.rk_calls.specs.declared.call.Call.TheVariants as call
use Rattle.rk_calls.specs.declared.answer.Answer.{Answer}
use Rattle.rk_calls.specs.declared.answer.Answer.TheVariants as answer
use Rattle.rk_calls.specs.Fits.{fits}
use Rattle.rk_calls.specs.Proper.{IsProper}
use Rattle.tr_record.specs.Rec.{AreNumbered}
use Rattle.tr_record.specs.declared.records.Record.{Record}
use Rattle.tr_record.specs.declared.steps.Step.{Step}
use Rattle.tr_codec.specs.Fits.{FitsCall, FitsAnswer, FitsStep, FitsRecord, Fits}
use Rattle.tr_codec.specs.OldSpelling as old
use Rattle.tr_codec.specs.OldSpelling.{FitsOld}
use Rattle.tr_codec.specs.Sound.{IsSoundStep, IsSound, TypedCall, TypedAnswer, IsTyped, TypedSteps, TypedEnds}

-- ---- where it is sound

call_fits : (it : Call) → TypedCall it → IsProper it → FitsCall it
call_fits (call.Open path how) t p = tt
call_fits (call.Read r) t p = t
call_fits (call.ReadLine r) t p = t
call_fits (call.Write r bytes) t p = t
call_fits (call.Stat path follow) t p = tt
call_fits (call.List path) t p = tt
call_fits (call.ReadLink path) t p = tt
call_fits (call.Walk path) t p = tt
call_fits (call.Same a b) t p = tt
call_fits (call.Mkdir path mode) t p = p
call_fits (call.Rmdir path) t p = tt
call_fits (call.Unlink path) t p = tt
call_fits (call.Rename a b) t p = tt
call_fits (call.Symlink text path) t p = tt
call_fits (call.Link a b) t p = tt
call_fits (call.Chmod path mode) t p = p
call_fits call.Pipe t p = tt
call_fits (call.Launch key map) t p = t

no_go : (it : Call) → fits it answer.Go ≡ true → ⊥
no_go (call.Open path how) h = absurd (let e : false ≡ true = h in cc)
no_go _ h = absurd (let e : false ≡ true = h in cc)

mode_fits : (it : Call) (kind : FileType) (mode : ℕ) (empty : Bool) → fits it (answer.Stat kind mode empty) ≡ true → mode ≤ 511
mode_fits (call.Stat path follow) kind mode empty h = leb-true mode 511 h
mode_fits _ kind mode empty h = absurd (let e : false ≡ true = h in cc)

answer_fits : (asked : Call) (it : Answer) → TypedAnswer it → fits asked it ≡ true → FitsAnswer it
answer_fits asked answer.Go t h = absurd (no_go asked h)
answer_fits asked answer.Done t h = tt
answer_fits asked answer.Opened t h = tt
answer_fits asked answer.Piped t h = tt
answer_fits asked (answer.Content bytes) t h = tt
answer_fits asked (answer.Stat kind mode empty) t h = mode_fits asked kind mode empty h
answer_fits asked (answer.Names names) t h = t
answer_fits asked (answer.Text text) t h = tt
answer_fits asked (answer.Place path) t h = t
answer_fits asked (answer.Same same) t h = tt
answer_fits asked (answer.Joined status) t h = t
answer_fits asked (answer.No errno) t h = tt

step_fits : (step : Step) → IsTyped step → IsSoundStep step → FitsStep step
step_fits step t s = record { cost = t.cost; call = call_fits step.call t.call s.call; answer = answer_fits step.call step.answer t.answer s.answer }

steps_fit : (steps : List Step) → AllByRecursion IsTyped steps → AllByRecursion IsSoundStep steps → AllByRecursion FitsStep steps
steps_fit [] t s = tt
steps_fit (step ∷ steps) t s = (step_fits step t.0 s.0, steps_fit steps t.1 s.1)

records_fit : (table : List Record) → AllByRecursion TypedSteps table → AllByRecursion TypedEnds table → AllByRecursion IsSound table → AllByRecursion FitsRecord table
records_fit [] t e s = tt
records_fit (rec ∷ table) t e s =
    let sound = s.0 in
    let exit = e.0.1 in
    let fits : FitsRecord rec = record { key = e.0.0; steps = steps_fit rec.steps t.0 sound.steps; exit = omega arith; paid = sound.paid } in
    (fits, records_fit table t.1 e.1 s.1)

pub table_fits : (table : List Record) → AllByRecursion TypedSteps table → AllByRecursion TypedEnds table → AreNumbered table → AllByRecursion IsSound table → Fits table
table_fits table t e numbered sound = record { records = records_fit table t e sound; numbered = numbered }

-- ---- what has a spelling is of these types

call_typed : (it : Call) → FitsCall it → TypedCall it
call_typed (call.Open path how) f = tt
call_typed (call.Read r) f = f
call_typed (call.ReadLine r) f = f
call_typed (call.Write r bytes) f = f
call_typed (call.Stat path follow) f = tt
call_typed (call.List path) f = tt
call_typed (call.ReadLink path) f = tt
call_typed (call.Walk path) f = tt
call_typed (call.Same a b) f = tt
call_typed (call.Mkdir path mode) f = omega arith
call_typed (call.Rmdir path) f = tt
call_typed (call.Unlink path) f = tt
call_typed (call.Rename a b) f = tt
call_typed (call.Symlink text path) f = tt
call_typed (call.Link a b) f = tt
call_typed (call.Chmod path mode) f = omega arith
call_typed call.Pipe f = tt
call_typed (call.Launch key map) f = f

answer_typed : (it : Answer) → FitsAnswer it → TypedAnswer it
answer_typed answer.Go f = tt
answer_typed answer.Done f = tt
answer_typed answer.Opened f = tt
answer_typed answer.Piped f = tt
answer_typed (answer.Content bytes) f = tt
answer_typed (answer.Stat kind mode empty) f = omega arith
answer_typed (answer.Names names) f = f
answer_typed (answer.Text text) f = tt
answer_typed (answer.Place path) f = f
answer_typed (answer.Same same) f = tt
answer_typed (answer.Joined status) f = f
answer_typed (answer.No errno) f = tt

pub step_typed : (step : Step) → FitsStep step → IsTyped step
step_typed step f = record { cost = f.cost; call = call_typed step.call f.call; answer = answer_typed step.answer f.answer }

-- ---- what the first version spells, this one spells

old_steps : (steps : List Step) → AllByRecursion old.FitsStep steps → AllByRecursion FitsStep steps
old_steps [] f = tt
old_steps (step ∷ steps) f =
    let first = f.0 in
    let cost = first.cost in
    let fits : FitsStep step = record { cost = omega arith; call = first.call; answer = first.answer } in
    (fits, old_steps steps f.1)

old_records : (table : List Record) → AllByRecursion old.FitsRecord table → AllByRecursion FitsRecord table
old_records [] f = tt
old_records (rec ∷ table) f =
    let first = f.0 in
    let fits : FitsRecord rec = record { key = first.key; steps = old_steps rec.steps first.steps; exit = first.exit; paid = first.paid } in
    (fits, old_records table f.1)

pub old_fits : (table : List Record) → FitsOld table → Fits table
old_fits table f = record { records = old_records table f.records; numbered = f.numbered }
