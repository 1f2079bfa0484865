-- What `grep` says once it is given an answer.
use Rattle.std.specs.Prelude.{◌≡◌, ℕ}
use Rattle.rk_calls.specs.declared.answer.Answer.{Answer}
use Rattle.rk_calls.specs.Talk.{Says, exits, after}
use Rattle.ut_args.specs.Usage.{complaint_talk}
use Rattle.ut_filter.specs.Machine.{filter_talk}
use Rattle.ut_grep.specs.declared.utility.GrepUtility.{GrepUtility}
use Rattle.ut_grep.specs.declared.utility.GrepUtility.TheVariants.{Complains, Filters, Gathers, Over}
use Rattle.ut_grep.specs.declared.utility.Move.{Move}
use Rattle.ut_grep.specs.Gathering.{gatherer_talk}
use Rattle.ut_grep.specs.Values.{grep_job}

abbrev pub grep_talk : GrepUtility → Answer → Says
grep_talk (Complains m) a = complaint_talk m a
grep_talk (Filters m) a = filter_talk grep_job m a
grep_talk (Gathers m) a = gatherer_talk m a
grep_talk Over a = exits 0 0

-- this is said by a turn and by what comes after it
abbrev pub IsSaidBy : Says → Move → Type 0
IsSaidBy x move = (p : ℕ) → x p ≡ after move.turn (grep_talk move.utility) p
