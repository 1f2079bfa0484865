use Rattle.sh_means.proofs.LawLemmas.{script-talk}
use Rattle.sh_means.proofs.laws.scripts_say_what_commands_may.Goals as goal

pub returns : goal.returns
returns c = script-talk
