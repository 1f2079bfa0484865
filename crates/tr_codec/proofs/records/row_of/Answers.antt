use Rattle.std.proofs.Common.{◌∙◌, sym}
use Rattle.tr_codec.proofs.PayLemmas.{such}
use Rattle.tr_codec.proofs.records.row_of.Goals as goal

pub returns-clause-head : goal.returns-clause-head
returns-clause-head c = such c.args.pool.now.nodes c.in_ok-head.head c.in_ok-exit_cost.exit_cost (sym c.is_payable.ensures ∙ c.if-not-is_payable.false)
