use Rattle.rk_orders.proofs.OrderLemmas.{in-any-order}
use Rattle.rk_orders.proofs.in_any_order.Goals as goal

pub returns : goal.returns
returns c = in-any-order
