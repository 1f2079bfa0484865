use Rattle.std.proofs.Common.{ℕ, not, arith}
use Rattle.ut_select.specs.Sets.{is_member}
use Rattle.ut_select.proofs.SetLemmas.{others_step, others_whole}
use Rattle.ut_select.proofs.sets.complement.Goals as goal

pub loop-i-preserved : goal.loop-i-preserved
loop-i-preserved c = others_step (λ (b : ℕ). not (is_member c.args.set.now b)) c.loop-i.i _ _ _ c.in_ok-push_other.ensures c.loop-i.invariant (omega arith)

pub returns : goal.returns
returns c = others_whole (λ (b : ℕ). not (is_member c.args.set.now b)) c.loop-i.others.items c.loop-i.i (omega arith) c.loop-i.invariant
