use Rattle.std.proofs.Common.{sym, ap, ◌∙◌}
use Rattle.sh_token.specs.Bytes.{class_is}
use Rattle.sh_token.proofs.Folding.{count_stops, count_goes_on, count_ends}
use Rattle.sh_token.proofs.folded.run.Goals as goal

pub loop-at-preserved : goal.loop-at-preserved
loop-at-preserved c = count_goes_on c.args.class c.args.text.now c.loop-at.left.now c.rest-left.result.now c.loop-at.at c.loop-at.invariant (sym (ap (class_is c.args.class) c.first.ensures) ∙ sym c.is_in.ensures ∙ c.if-is_in.true) c.rest-left.ensures.read

pub returns-else-is_in-clause-count : goal.returns-else-is_in-clause-count
returns-else-is_in-clause-count c = count_stops c.args.class c.args.text.now c.loop-at.left.now c.loop-at.at c.loop-at.invariant (sym (ap (class_is c.args.class) c.first.ensures) ∙ sym c.is_in.ensures ∙ c.if-is_in.false)

pub returns-clause-count : goal.returns-clause-count
returns-clause-count c = count_ends c.args.class c.args.text.now c.loop-at.left.now c.loop-at.at c.loop-at.invariant c.loop-at.auto.at-end c.loop-at-test.false
