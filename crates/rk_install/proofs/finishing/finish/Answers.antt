use Rattle.rk_install.specs.Known.{seen_at}
use Rattle.rk_install.proofs.KnownLemmas.{told-knows_none}
use Rattle.rk_install.proofs.finishing.finish.Goals as goal

pub finish_known-requires-clause-known : goal.finish_known-requires-clause-known
finish_known-requires-clause-known g c = told-knows_none (g.F.Folder.told c.args.folder.now) (seen_at c.new-known.result) c.new-known.ensures
