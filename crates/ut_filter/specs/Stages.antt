-- What the machine of filters says at each stage.
use Rattle.std.specs.Prelude.{◌≡◌, ℕ, List, codes}
use Rattle.rk_base.specs.Text.{Text}
use Rattle.rk_calls.specs.declared.answer.Answer.{Answer}
use Rattle.rk_calls.specs.Brought.{brought}
use Rattle.rk_calls.specs.Talk.{Says, exits, after}
use Rattle.ut_filter.specs.declared.stage.Stage.{Stage}
use Rattle.ut_filter.specs.declared.stage.Stage.TheVariants.{Next, Opening, Reading, Paid, Emptying, Writing, Over}
use Rattle.ut_filter.specs.declared.stage.Move.{Move}
use Rattle.ut_filter.specs.Filters.{Job, Seen, reads_all, opened, added, puts_paid, emptied, told}

-- with these operands left, and with what was seen so far
abbrev pub stage_talk : Job → Text → List Text → Seen → Stage → Answer → Says
stage_talk job wd operands seen Next a = reads_all job wd operands seen
stage_talk job wd operands seen (Opening operand) a = opened operand (reads_all job wd operands) seen (brought a)
stage_talk job wd operands seen (Reading operand) a = reads_all job wd operands (added operand seen (brought a))
stage_talk job wd operands seen Paid a = puts_paid job (codes "output") 1 (job.makes seen.inputs)
stage_talk job wd operands seen (Emptying file number made) a = emptied job file number made (brought a)
stage_talk job wd operands seen (Writing place errors status) a = told job place errors status (brought a)
stage_talk job wd operands seen (Over status) a = exits status 0

-- this is said by a turn and by what comes after it
abbrev pub IsSaidBy : Job → Text → Says → List Text → Seen → Move → Type 0
IsSaidBy job wd x operands seen move = (p : ℕ) → x p ≡ after move.turn (stage_talk job wd operands seen move.stage) p
