use Rattle.std.proofs.Common.{arith}
use Rattle.tr_codec.proofs.PayLemmas.{no_such, payable}
use Rattle.tr_codec.proofs.records.is_payable.Goals as goal

pub returns-then-len-head : goal.returns-then-len-head
returns-then-len-head c = no_such c.args.pool.now.nodes c.args.head c.args.exit_cost (let h = c.if-len-head.true in let n = c.len.ensures in omega arith)

pub returns : goal.returns
returns c = payable c.args.pool.now.nodes c.args.head c.args.exit_cost c.paid.result c.checked_add.result c.is_some.result (let h = c.if-len-head.false in let n = c.len.ensures in omega arith) c.paid.ensures c.checked_add.ensures c.is_some.ensures
