use Rattle.sh_expand.proofs.PartLemmas.{operator_does, operator_less, expression_does}
use Rattle.sh_expand.proofs.parts.act.Goals as goal

pub returns-in_ok-acted-in-Substitute-clause-less : goal.returns-in_ok-acted-in-Substitute-clause-less
returns-in_ok-acted-in-Substitute-clause-less c =
    operator_less c.args.it.now c.in-Substitute.quoting c.in-Substitute.parameter c.in-Substitute.condition c.in-Substitute.by c.in-Substitute.word _ c.in-Substitute.is c.in_ok-acted-in-Substitute.ensures.less

pub returns-in_ok-acted-in-Substitute-clause-does : goal.returns-in_ok-acted-in-Substitute-clause-does
returns-in_ok-acted-in-Substitute-clause-does c =
    operator_does c.args.it.now c.in-Substitute.quoting c.in-Substitute.parameter c.in-Substitute.condition c.in-Substitute.by c.in-Substitute.word c.args.inner c.args.splits _ c.args.env.now c.args.marks.now.items _ _ c.in-Substitute.is c.is_quoted-quoted-in-Substitute.ensures c.in_ok-acted-in-Substitute.ensures.does

pub returns-in-Arithmetic-clause-does : goal.returns-in-Arithmetic-clause-does
returns-in-Arithmetic-clause-does c =
    expression_does c.args.it.now c.in-Arithmetic.quoting c.in-Arithmetic.expression c.args.inner c.args.splits _ c.args.env.now c.args.marks.now.items _ _ c.in-Arithmetic.is c.is_quoted-in-Arithmetic.ensures c.put_expression.ensures.does
