use Rattle.sh_means.specs.Views.{shell_of}
use Rattle.sh_eval.proofs.Found.{looked_up}
use Rattle.sh_eval.proofs.begins.looked.Goals as goal

pub returns-in-Stat-clause-talk : goal.returns-in-Stat-clause-talk
returns-in-Stat-clause-talk c =
    looked_up c.found.result c.args.file c.args.answer c.in-Stat.kind c.in-Stat.mode c.in-Stat.empty (shell_of c.args.state.now) (shell_of c.found.new.state) c.in-Stat.is c.found.ensures.talk
