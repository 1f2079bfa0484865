-- What one of these utilities says once it is given an answer.
use Rattle.rk_calls.specs.declared.answer.Answer.{Answer}
use Rattle.rk_calls.specs.Talk.{Says, exits}
use Rattle.ut_args.specs.Usage.{complaint_talk}
use Rattle.ut_filter.specs.Machine.{filter_talk}
use Rattle.ut_plain.specs.declared.utility.PlainUtility.{PlainUtility}
use Rattle.ut_plain.specs.declared.utility.PlainUtility.TheVariants.{Complains, Filters, Tees, Over}
use Rattle.ut_plain.specs.Names.{line_job}
use Rattle.ut_plain.specs.TeeStages.{tee_talk}

abbrev pub plain_talk : PlainUtility → Answer → Says
plain_talk (Complains m) a = complaint_talk m a
plain_talk (Filters m) a = filter_talk line_job m a
plain_talk (Tees m) a = tee_talk m a
plain_talk Over a = exits 0 0
