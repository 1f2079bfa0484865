-- What `sed` says once it is given an answer.
use Rattle.std.specs.Prelude.{◌≡◌, ℕ}
use Rattle.rk_calls.specs.declared.answer.Answer.{Answer}
use Rattle.rk_calls.specs.Talk.{Says, exits, after}
use Rattle.ut_args.specs.Usage.{complaint_talk}
use Rattle.ut_filter.specs.Machine.{filter_talk}
use Rattle.ut_sed.specs.declared.utility.SedUtility.{SedUtility}
use Rattle.ut_sed.specs.declared.utility.SedUtility.TheVariants.{Complains, Filters, Gathers, Over}
use Rattle.ut_sed.specs.declared.utility.Move.{Move}
use Rattle.ut_sed.specs.Gathering.{gatherer_talk}
use Rattle.ut_sed.specs.Editing.{job_of}

abbrev pub sed_talk : SedUtility → Answer → Says
sed_talk (Complains m) a = complaint_talk m a
sed_talk (Filters m) a = filter_talk job_of m a
sed_talk (Gathers m) a = gatherer_talk m a
sed_talk Over a = exits 0 0

-- this is said by a turn and by what comes after it
abbrev pub IsSaidBy : Says → Move → Type 0
IsSaidBy x move = (p : ℕ) → x p ≡ after move.turn (sed_talk move.utility) p
