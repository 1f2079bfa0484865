use Rattle.sh_eval.proofs.Writable.{assigned_none}
use Rattle.sh_eval.proofs.shell.set.Goals as goal

pub returns-in-Ok-clause-free : goal.returns-in-Ok-clause-free
returns-in-Ok-clause-free c = assigned_none c.set.new.self c.args.vars.now c.args.name.now c.args.value.now c.in-Ok.ensures.ok c.requires.free
