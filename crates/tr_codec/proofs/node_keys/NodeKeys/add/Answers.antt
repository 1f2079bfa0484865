use Rattle.std.proofs.Common.{◌∙◌, ap, not}
use Rattle.tr_parts.specs.Piece.{has, with_use}
use Rattle.tr_codec.proofs.LentKeyLemmas.{has_lent, lent_more}
use Rattle.tr_codec.proofs.node_keys.NodeKeys.add.Goals as goal

pub returns-clause-fresh : goal.returns-clause-fresh
returns-clause-fresh c = c.in_ok-fresh.ensures.added ∙ ap not (has_lent c.self.inside.keys.keys c.args.key) ∙ ap (λ l. not (has l c.args.key.now)) c.self.view_is

pub returns-clause-keys : goal.returns-clause-keys
returns-clause-keys c = lent_more c.self.inside.keys.keys c.insert_full.new.self.keys c.args.key c.in_ok-fresh.ensures.keys ∙ ap (λ l. with_use l c.args.key.now) c.self.view_is
