use Rattle.sh_words.proofs.Redirected.{redirect_begun}
use Rattle.sh_words.proofs.making.redirect.Goals as goal

pub returns-clause-talk : goal.returns-clause-talk
returns-clause-talk c =
    λ k e p. redirect_begun c.args.operand.left c.args.place c.args.operand.kind c.args.operand.descriptor c.args.text c.start-started.result c.in_ok-redirecting.redirecting k e p c.start-started.ensures c.in_ok-redirecting.ensures.ok
