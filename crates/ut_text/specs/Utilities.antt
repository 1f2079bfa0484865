-- What a text utility says once it is given an answer.
use Rattle.rk_calls.specs.declared.answer.Answer.{Answer}
use Rattle.rk_calls.specs.Talk.{Says}
use Rattle.ut_args.specs.Usage.{complaint_talk}
use Rattle.ut_filter.specs.Machine.{filter_talk}
use Rattle.ut_text.specs.declared.utility.TextUtility.{TextUtility}
use Rattle.ut_text.specs.declared.utility.TextUtility.TheVariants.{Complains, Filters}
use Rattle.ut_text.specs.Works.{text_job}

abbrev pub text_talk : TextUtility → Answer → Says
text_talk (Complains m) a = complaint_talk m a
text_talk (Filters m) a = filter_talk text_job m a
