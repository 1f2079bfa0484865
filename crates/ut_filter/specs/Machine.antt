-- What the machine of filters says.
use Rattle.rk_calls.specs.declared.answer.Answer.{Answer}
use Rattle.rk_calls.specs.Talk.{Says}
use Rattle.ut_filter.specs.declared.filter.Filter.{Filter}
use Rattle.ut_filter.specs.Filters.{Job}
use Rattle.ut_filter.specs.Stages.{stage_talk}

-- from its stage on, where this is the job of its work
abbrev pub filter_talk : {W : Type 0} → (W → Job) → Filter W → Answer → Says
filter_talk job f = stage_talk (job f.work) f.wd f.operands.items f.reader f.stage
