use Rattle.std.proofs.Common.{ap, arith}
use Rattle.sh_means.specs.Weights.{weigh_simple_step}
use Rattle.sh_means.proofs.Weighing.{lowers_more, sinks_lower}
use Rattle.sh_eval.proofs.machine.act_simple_step.Goals as goal

pub returns-in-Words-clause-costly : goal.returns-in-Words-clause-costly
returns-in-Words-clause-costly c = lowers_more c.next_word.result _ _ _ _ _ c.next_word.ensures.costly (omega (arith, ap weigh_simple_step c.in-Words.is))

pub returns-in-Expand-clause-costly : goal.returns-in-Expand-clause-costly
returns-in-Expand-clause-costly c = lowers_more c.act_expand.result _ _ _ _ _ c.act_expand.ensures.costly (omega (arith, ap weigh_simple_step c.in-Expand.is))

pub returns-in-Deliver-clause-costly : goal.returns-in-Deliver-clause-costly
returns-in-Deliver-clause-costly c = lowers_more c.deliver.result _ _ _ _ _ c.deliver.ensures.costly (omega (arith, ap weigh_simple_step c.in-Deliver.is))

pub returns-in-Make-clause-costly : goal.returns-in-Make-clause-costly
returns-in-Make-clause-costly c = lowers_more c.next_redirect.result _ _ _ _ _ c.next_redirect.ensures.costly (omega (arith, ap weigh_simple_step c.in-Make.is))

pub returns-in-Assign-clause-costly : goal.returns-in-Assign-clause-costly
returns-in-Assign-clause-costly c = lowers_more c.next_assign.result _ _ _ _ _ c.next_assign.ensures.costly (omega (arith, ap weigh_simple_step c.in-Assign.is))

pub returns-in-Text-clause-costly : goal.returns-in-Text-clause-costly
returns-in-Text-clause-costly c = sinks_lower c.act_text.result _ _ _ c.act_text.ensures.costly (omega (arith, ap weigh_simple_step c.in-Text.is))
