use Rattle.std.proofs.Common.{refl}
use Rattle.rk_tree.specs.Names.{named}
use Rattle.rk_tree.specs.Rows.{map_of}
use Rattle.rk_tree.proofs.NamesLemmas.{put_is}
use Rattle.rk_tree.proofs.names.put_into.Goals as goal

pub returns-clause-ok : goal.returns-clause-ok
returns-clause-ok c = put_is c.args.rows.now.entries c.insert.new.self.entries c.args.name c.args.n (map_of (named c.args.rows.now.entries)) c.args.name.items refl refl c.in_ok-insert.ensures.entries
