use Rattle.sh_means.proofs.StartLemmas.{shell-talk}
use Rattle.sh_means.proofs.laws.shells_say_what_commands_may.Goals as goal

pub returns : goal.returns
returns c = shell-talk
