use Rattle.sh_expand.proofs.ArithmeticLemmas.{blanks_stop, blanks_go_on}
use Rattle.sh_expand.proofs.arithmetic.without_last_blanks.Goals as goal

pub returns-then-not-is_blank : goal.returns-then-not-is_blank
returns-then-not-is_blank c = blanks_stop c.blanks.left.now c.in-Some.front.now c.args.text.now c.in-Some.last.now _ c.is_blank.ensures c.if-not-is_blank.true c.in-Some.ensures.cases.0 c.blanks.invariant

pub blanks-preserved : goal.blanks-preserved
blanks-preserved c = blanks_go_on c.blanks.left.now c.in-Some.front.now c.args.text.now c.in-Some.last.now _ c.is_blank.ensures c.if-not-is_blank.false c.in-Some.ensures.cases.0 c.blanks.invariant
