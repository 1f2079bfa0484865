-- What a utility that selects says once it is given an answer.
use Rattle.rk_calls.specs.declared.answer.Answer.{Answer}
use Rattle.rk_calls.specs.Talk.{Says}
use Rattle.ut_args.specs.Usage.{complaint_talk}
use Rattle.ut_filter.specs.Machine.{filter_talk}
use Rattle.ut_select.specs.declared.utility.SelectUtility.{SelectUtility}
use Rattle.ut_select.specs.declared.utility.SelectUtility.TheVariants.{Complains, Filters}
use Rattle.ut_select.specs.Works.{select_job}

abbrev pub select_talk : SelectUtility → Answer → Says
select_talk (Complains m) a = complaint_talk m a
select_talk (Filters m) a = filter_talk select_job m a
