-- What `sort` says once it is given an answer.
use Rattle.rk_calls.specs.declared.answer.Answer.{Answer}
use Rattle.rk_calls.specs.Talk.{Says}
use Rattle.ut_args.specs.Usage.{complaint_talk}
use Rattle.ut_filter.specs.Machine.{filter_talk}
use Rattle.ut_sort.specs.declared.utility.SortUtility.{SortUtility}
use Rattle.ut_sort.specs.declared.utility.SortUtility.TheVariants.{Complains, Filters}
use Rattle.ut_sort.specs.Sorts.{sort_job}

abbrev pub sort_talk : SortUtility → Answer → Says
sort_talk (Complains m) a = complaint_talk m a
sort_talk (Filters m) a = filter_talk sort_job m a
