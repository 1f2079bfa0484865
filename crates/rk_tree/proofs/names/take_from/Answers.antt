use Rattle.std.proofs.Common.{refl}
use Rattle.rk_tree.specs.Names.{named}
use Rattle.rk_tree.specs.Rows.{map_of}
use Rattle.rk_tree.proofs.NamesLemmas.{take_is}
use Rattle.rk_tree.proofs.names.take_from.Goals as goal

pub returns : goal.returns
returns c = take_is c.args.rows.now.entries c.remove.new.self.entries c.args.name.now (map_of (named c.args.rows.now.entries)) c.args.name.now refl refl c.remove.ensures.updates.1 c.remove.ensures.updates.3
