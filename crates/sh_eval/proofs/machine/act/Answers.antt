use Rattle.std.proofs.Common.{ap, arith}
use Rattle.sh_means.specs.Weights.{weigh}
use Rattle.sh_means.proofs.Weighing.{lowers_more, sinks_lower}
use Rattle.sh_eval.proofs.machine.act.Goals as goal

pub returns-in-Begins-clause-costly : goal.returns-in-Begins-clause-costly
returns-in-Begins-clause-costly c = sinks_lower c.act_begin.result _ _ _ c.act_begin.ensures.costly (omega (arith, ap weigh c.in-Begins.is))

pub returns-in-Run-clause-costly : goal.returns-in-Run-clause-costly
returns-in-Run-clause-costly c = lowers_more c.act_run.result _ _ _ _ _ c.act_run.ensures.costly (omega (arith, ap weigh c.in-Run.is))

pub returns-in-Whole-clause-costly : goal.returns-in-Whole-clause-costly
returns-in-Whole-clause-costly c = lowers_more c.act_whole.result _ _ _ _ _ c.act_whole.ensures.costly (omega (arith, ap weigh c.in-Whole.is))

pub returns-in-One-clause-costly : goal.returns-in-One-clause-costly
returns-in-One-clause-costly c = lowers_more c.act_one.result _ _ _ _ _ c.act_one.ensures.costly (omega (arith, ap weigh c.in-One.is))

pub returns-in-CompoundStep-clause-costly : goal.returns-in-CompoundStep-clause-costly
returns-in-CompoundStep-clause-costly c = lowers_more c.act_compound_step.result _ _ _ _ _ c.act_compound_step.ensures.costly (omega (arith, ap weigh c.in-CompoundStep.is))

pub returns-in-WordStep-clause-costly : goal.returns-in-WordStep-clause-costly
returns-in-WordStep-clause-costly c = lowers_more c.act_simple_step.result _ _ _ _ _ c.act_simple_step.ensures.costly (omega (arith, ap weigh c.in-WordStep.is))

pub returns-in-Waits-clause-costly : goal.returns-in-Waits-clause-costly
returns-in-Waits-clause-costly c = lowers_more c.act_wait.result _ _ _ _ _ c.act_wait.ensures.costly (omega (arith, ap weigh c.in-Waits.is))

pub returns-in-Leave-clause-costly : goal.returns-in-Leave-clause-costly
returns-in-Leave-clause-costly c = lowers_more c.act_leave.result _ _ _ _ _ c.act_leave.ensures.costly (omega (arith, ap weigh c.in-Leave.is))
