use Rattle.std.proofs.Common.{List}
use Rattle.rk_base.specs.declared.vars.Var.{Var}
use Rattle.tr_codec.specs.Reading.{var_at}
use Rattle.tr_codec.proofs.RecentLemmas.{counted}
use Rattle.tr_codec.proofs.recent.past_vars.Goals as goal

pub returns-in_ok-rest-in-Ok-clause-vars : goal.returns-in_ok-rest-in-Ok-clause-vars
returns-in_ok-rest-in-Ok-clause-vars c = counted (λ (front : List Var). var_at c.args.blobs.now) c.args.vars.now c.args.bytes.now c.in-Ok.rest.now c.in_ok-rest-in-Ok.rest.now c.in-Ok.count c.in-Ok.ensures c.if-count-vars.true c.in_ok-rest-in-Ok.ensures.vars
