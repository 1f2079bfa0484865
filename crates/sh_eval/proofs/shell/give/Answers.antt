use Rattle.sh_eval.proofs.Writable.{given_none}
use Rattle.sh_eval.proofs.shell.give.Goals as goal

pub returns-clause-free : goal.returns-clause-free
returns-clause-free c = given_none c.export.new.self c.set.new.vars c.as_slice-3.result.now c.in_ok-export.ensures.ok c.in_ok-set.ensures.free
