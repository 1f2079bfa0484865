-- What the machine of `tee` says at each stage.
use Rattle.std.specs.Prelude.{◌≡◌, ℕ}
use Rattle.rk_calls.specs.declared.answer.Answer.{Answer}
use Rattle.rk_calls.specs.Brought.{brought}
use Rattle.rk_calls.specs.Talk.{Says, exits, after}
use Rattle.ut_plain.specs.declared.tee.Teeing.{Teeing}
use Rattle.ut_plain.specs.declared.tee.Stage.{Stage}
use Rattle.ut_plain.specs.declared.tee.Stage.TheVariants.{Next, Opening, Reading, Writing, Over}
use Rattle.ut_plain.specs.declared.tee.Tee.{Tee}
use Rattle.ut_plain.specs.declared.tee.Move.{Move}
use Rattle.ut_plain.specs.Tees.{with_refusal, writes_all, input_read, opened, opens, how_of}

abbrev pub stage_talk : Teeing → Stage → Answer → Says
stage_talk t Next a = opens t.wd (how_of t.appends) t.files.items t.targets.items t.errors t.next
stage_talk t (Opening file) a = opened (opens t.wd (how_of t.appends) t.files.items) file t.targets.items t.errors t.next (brought a)
stage_talk t Reading a = input_read t.targets.items t.errors (brought a)
stage_talk t (Writing text place) a = writes_all text t.targets.items (with_refusal t.errors place (brought a))
stage_talk t (Over status) a = exits status 0

abbrev pub tee_talk : Tee → Answer → Says
tee_talk t = stage_talk t.teeing t.stage

-- this is said by a turn and by what comes after it
abbrev pub IsSaidBy : Says → Move → Type 0
IsSaidBy x move = (p : ℕ) → x p ≡ after move.turn (tee_talk move.tee) p
