use Rattle.std.proofs.Common.{rules}
use Rattle.rk_tree.proofs.AscendingLemmas.{filtered, is_held}
use Rattle.std.proofs.lemmas.List.Elements.{filter_from_retain}
use Rattle.rk_tree.proofs.ascending.drop_taken.Goals as goal

pub returns-clause-sorted : goal.returns-clause-sorted
returns-clause-sorted c = (filtered c.args.rows.now.items c.retain.new.self.items (filter_from_retain _ is_held (search rules) _ c.args.rows.now.items c.retain.new.self.items c.retain.ensures.filtered) c.requires).0

pub returns-clause-same : goal.returns-clause-same
returns-clause-same c = (filtered c.args.rows.now.items c.retain.new.self.items (filter_from_retain _ is_held (search rules) _ c.args.rows.now.items c.retain.new.self.items c.retain.ensures.filtered) c.requires).1
