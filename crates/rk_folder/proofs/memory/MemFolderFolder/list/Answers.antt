use Rattle.std.proofs.Common.{sym, ◌∙◌}
use Rattle.rk_folder.proofs.HeldLemmas.{list-within_reach}
use Rattle.rk_folder.proofs.memory.MemFolderFolder.list.Goals as goal

pub returns-clause-within : goal.returns-clause-within
returns-clause-within c = list-within_reach c.args.dir.now c.args.self.now.held (sym c.in-Ok.ensures.allowed ∙ c.if-not-allowed.false)
