use Rattle.std.proofs.Common.{ℕ, Option, subst}
use Rattle.tr_codec.specs.Rows.{InUse}
use Rattle.tr_codec.proofs.InUseLemmas.{none_stays, in_use_more}
use Rattle.tr_codec.proofs.linked.in_use_after.Goals as goal

pub returns-in-None : goal.returns-in-None
returns-in-None c = λ heads h. none_stays c.args.pool.now.nodes heads c.args.head (subst (λ (o : Option ℕ). InUse c.args.pool.now.nodes heads o) c.in-None.is h)

pub returns-in-Some : goal.returns-in-Some
returns-in-Some c = λ heads h.
    in_use_more c.args.pool.now.nodes heads c.in-Some.used c.args.head c.used_after.result c.requires (subst (λ (o : Option ℕ). InUse c.args.pool.now.nodes heads o) c.in-Some.is h) c.used_after.ensures.some c.used_after.ensures.none
