use Rattle.std.proofs.Common.{◌∙◌, arith}
use Rattle.sh_means.specs.Stack.{context}
use Rattle.sh_means.specs.Views.{shell_of}
use Rattle.sh_words.proofs.Refused.{refusal_leads}
use Rattle.sh_words.proofs.making.refused.Goals as goal

pub returns-clause-talk : goal.returns-clause-talk
returns-clause-talk c =
    λ p. refusal_leads c.args.left c.args.place (context c.args.shell.now.stack.items) (context c.put_continuation.new.stack.items) (context c.put_undo.new.stack.items) c.refusal_flow-flow.result (shell_of c.args.shell.now.state) p c.refusal_flow-flow.ensures c.in_ok-put_continuation.ensures.talk c.in_ok-put_undo.ensures.talk
    ∙ c.end.ensures.talk (context c.put_undo.new.stack.items) p

pub returns-clause-costly : goal.returns-clause-costly
returns-clause-costly c = λ m le. c.end.ensures.costly m _ (omega (arith, c.in_ok-put_continuation.ensures.weight, c.in_ok-put_undo.ensures.weight))
