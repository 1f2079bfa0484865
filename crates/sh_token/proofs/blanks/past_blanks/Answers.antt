use Rattle.std.proofs.Common.{true, sym, subst}
use Rattle.sh_token.proofs.Runs.{Left, step_one, step_hash, step_join}
use Rattle.sh_token.proofs.blanks.past_blanks.Goals as goal

pub skips-preserved-in-One : goal.skips-preserved-in-One
skips-preserved-in-One c = subst (λ r. Left c.args.text.now c.skips.comment r) (sym c.split_at.ensures.back) (step_one _ _ _ c.skips.invariant (sym c.in-One.ensures))

pub skips-preserved-in-Hash : goal.skips-preserved-in-Hash
skips-preserved-in-Hash c = subst (λ r. Left c.args.text.now true r) (sym c.split_at-in-Hash.ensures.back) (step_hash _ _ _ c.skips.invariant (sym c.in-Hash.ensures))

pub skips-preserved : goal.skips-preserved
skips-preserved c = subst (λ r. Left c.args.text.now c.skips.comment r) (sym c.split_at-in-Join.ensures.back) (step_join _ _ _ c.skips.invariant (sym c.in-Join.ensures))
