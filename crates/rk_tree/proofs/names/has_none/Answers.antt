use Rattle.std.proofs.Common.{refl}
use Rattle.rk_tree.specs.Names.{named}
use Rattle.rk_tree.specs.Rows.{map_of}
use Rattle.rk_tree.proofs.NamesLemmas.{empty_is}
use Rattle.rk_tree.proofs.names.has_none.Goals as goal

pub returns : goal.returns
returns c = empty_is c.args.rows.now.entries (map_of (named c.args.rows.now.entries)) c.is_empty.result refl c.is_empty.ensures.0 c.is_empty.ensures.1
