-- What a command says once it is given an answer.
use Rattle.std.specs.Prelude.{Bool, true, false}
use Rattle.rk_calls.specs.declared.answer.Answer.{Answer}
use Rattle.rk_calls.specs.declared.answer.Answer.TheVariants.{Go}
use Rattle.rk_calls.specs.Talk.{Says, pay}
use Rattle.rk_top.specs.declared.command.Running.{Running}
use Rattle.rk_top.specs.declared.command.Running.TheVariants.{Complains, Shells, Builtins, Texts, Plain, Selects, Sorts, Seds, Greps, Files, Copies, Finds}
use Rattle.rk_top.specs.declared.command.Command.{Command}
use Rattle.sh_builtin.specs.Stages.{command_talk as builtin_talk}
use Rattle.sh_eval.specs.Starting.{shell_talk}
use Rattle.ut_args.specs.Usage.{complaint_talk}
use Rattle.ut_copy.specs.Utilities.{copy_talk}
use Rattle.ut_files.specs.Utilities.{file_talk}
use Rattle.ut_find.specs.Utilities.{find_talk}
use Rattle.ut_grep.specs.Utilities.{grep_talk}
use Rattle.ut_plain.specs.Utilities.{plain_talk}
use Rattle.ut_sed.specs.Utilities.{sed_talk}
use Rattle.ut_select.specs.Utilities.{select_talk}
use Rattle.ut_sort.specs.Utilities.{sort_talk}
use Rattle.ut_text.specs.Utilities.{text_talk}

abbrev pub running_talk : Running → Answer → Says
running_talk (Complains m) a = complaint_talk m a
running_talk (Shells m) a = shell_talk m a
running_talk (Builtins m) a = builtin_talk m a
running_talk (Texts m) a = text_talk m a
running_talk (Plain m) a = plain_talk m a
running_talk (Selects m) a = select_talk m a
running_talk (Sorts m) a = sort_talk m a
running_talk (Seds m) a = sed_talk m a
running_talk (Greps m) a = grep_talk m a
running_talk (Files m) a = file_talk m a
running_talk (Copies m) a = copy_talk m a
running_talk (Finds m) a = find_talk m a

-- before it has paid for its start, and afterwards
abbrev pub paid_talk : Bool → (Answer → Says) → Answer → Says
paid_talk false talk a = pay 1 (talk Go)
paid_talk true talk a = talk a

abbrev pub command_talk : Command → Answer → Says
command_talk c = paid_talk c.paid (running_talk c.running)
