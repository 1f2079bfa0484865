use Rattle.rk_install.proofs.StepLemmas.{may-make, pass-made, pass-over}
use Rattle.rk_install.proofs.finishing.make_where.Goals as goal

pub returns-then-not-is_allowed-clause-held : goal.returns-then-not-is_allowed-clause-held
returns-then-not-is_allowed-clause-held g c = pass-over _ c.args.op.now c.args.is_allowed c.requires.allowed c.if-not-is_allowed.true

pub make_known-requires-clause-may : goal.make_known-requires-clause-may
make_known-requires-clause-may g c = may-make _ c.args.op.now c.args.is_allowed c.requires.allowed c.if-not-is_allowed.false

pub returns-clause-held : goal.returns-clause-held
returns-clause-held g c = pass-made _ _ c.args.op.now c.args.is_allowed c.requires.allowed c.if-not-is_allowed.false c.in_ok-make_known.ensures.held
