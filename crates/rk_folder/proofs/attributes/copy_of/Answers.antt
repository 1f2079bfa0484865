use Rattle.rk_folder.proofs.CopyLemmas.{copied}
use Rattle.rk_folder.proofs.attributes.copy_of.Goals as goal

pub returns : goal.returns
returns c = copied c.loop-path.copy c.args.entries.now c.loop-path.path-iterator c.loop-path.invariant c.in-None.ensures.steps.0
