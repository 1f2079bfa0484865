use Rattle.std.proofs.Common.{Bool, ap, ◌∙◌, arith}
use Rattle.sh_means.specs.declared.resolved_command.ResolvedCommand.{ResolvedCommand}
use Rattle.sh_means.specs.Simple.{is_plain, exports, keeps, unless_kept}
use Rattle.sh_means.specs.Stack.{context, kind_of_code, redirects_from}
use Rattle.sh_means.specs.Views.{shell_of}
use Rattle.sh_means.specs.Words.{named}
use Rattle.sh_means.proofs.Begun.{made_done}
use Rattle.sh_words.proofs.making.made_simple.Goals as goal

pub returns-clause-talk : goal.returns-clause-talk
returns-clause-talk c =
    λ p. made_done c.args.assignments c.args.resolved (named (redirects_from c.args.redirected.redirects.value 0)) c.args.redirected.before.value c.args.place (context c.args.shell.now.stack.items) (context c.put_continuation.new.stack.items) (context c.unless_kept.new.stack.items) (context c.for_its_time.new.stack.items) (shell_of c.args.shell.now.state) c.is_plain-plain.result c.exports-exported.result p (c.is_plain-plain.ensures ∙ ap (λ (d : ResolvedCommand). is_plain (kind_of_code d.kind)) c.deref.ensures) (c.exports-exported.ensures ∙ ap (λ (d : ResolvedCommand). exports (kind_of_code d.kind)) c.deref-2.ensures) c.in_ok-put_continuation.ensures.talk
    (c.in_ok-unless_kept.ensures.talk ∙ ap (λ (b : Bool). unless_kept b (named (redirects_from c.args.redirected.redirects.value 0)) c.args.redirected.before.value (context c.put_continuation.new.stack.items)) (c.keeps-keeps.ensures ∙ ap (λ (d : ResolvedCommand). keeps (kind_of_code d.kind)) c.deref-3.ensures)) c.in_ok-for_its_time.ensures.talk

pub returns-clause-weight : goal.returns-clause-weight
returns-clause-weight c = omega (arith, c.in_ok-put_continuation.ensures.weight, c.in_ok-unless_kept.ensures.weight, c.in_ok-for_its_time.ensures.weight)
