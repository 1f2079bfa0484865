-- What `find` says once it is given an answer.
use Rattle.rk_calls.specs.declared.answer.Answer.{Answer}
use Rattle.rk_calls.specs.Talk.{Says, exits}
use Rattle.ut_args.specs.Usage.{complaint_talk}
use Rattle.ut_filter.specs.Machine.{filter_talk}
use Rattle.ut_find.specs.declared.utility.FindUtility.{FindUtility}
use Rattle.ut_find.specs.declared.utility.FindUtility.TheVariants.{Complains, Walks, Writes, Over}
use Rattle.ut_find.specs.Finds.{found_job}
use Rattle.ut_find.specs.Walking.{walk_talk}

abbrev pub find_talk : FindUtility → Answer → Says
find_talk (Complains m) a = complaint_talk m a
find_talk (Walks m) a = walk_talk m a
find_talk (Writes m) a = filter_talk found_job m a
find_talk Over a = exits 0 0
