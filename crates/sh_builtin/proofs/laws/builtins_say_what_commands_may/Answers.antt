use Rattle.sh_builtin.proofs.LawLemmas.{talk-says}
use Rattle.sh_builtin.proofs.laws.builtins_say_what_commands_may.Goals as goal

pub returns : goal.returns
returns c = talk-says
