use Rattle.sh_builtin.proofs.LawLemmas.{talk-builtin_command}
use Rattle.sh_builtin.proofs.laws.builtins_by_name_say_what_commands_may.Goals as goal

pub returns : goal.returns
returns c = talk-builtin_command
