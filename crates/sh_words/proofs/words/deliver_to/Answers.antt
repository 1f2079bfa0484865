use Rattle.std.proofs.Common.{ap, ◌∙◌, arith}
use Rattle.sh_means.specs.declared.control.Aim.{Aim}
use Rattle.sh_means.specs.declared.control.Aim.TheVariants as aim
use Rattle.sh_means.specs.Stack.{aimed, context}
use Rattle.sh_means.specs.Views.{shell_of}
use Rattle.sh_means.proofs.Delivered.{same_value}
use Rattle.sh_means.specs.Weights.{weigh_aim}
use Rattle.sh_means.proofs.Weighing.{lowers_more}
use Rattle.sh_words.proofs.words.deliver_to.Goals as goal

pub returns-in_ok-control-in-Operand-clause-talk : goal.returns-in_ok-control-in-Operand-clause-talk
returns-in_ok-control-in-Operand-clause-talk c =
    let k = context c.args.shell.now.stack.items in
    let e = shell_of c.args.shell.now.state in
    λ p. ap (λ (u : Aim). aimed u c.args.place k c.args.expanded e p) c.in-Operand.is
    ∙ same_value (aim.Operand c.in-Operand.operand) c.args.expanded c.in_ok-text-in-Operand.text c.args.place k e p tt c.in_ok-text-in-Operand.ensures
    ∙ c.in_ok-control-in-Operand.ensures.talk k e p ∙ c.free.ensures.talk k e p

pub returns-in_ok-acted-in-Value-clause-talk : goal.returns-in_ok-acted-in-Value-clause-talk
returns-in_ok-acted-in-Value-clause-talk c =
    let k = context c.args.shell.now.stack.items in
    let e = shell_of c.args.shell.now.state in
    λ p. ap (λ (u : Aim). aimed u c.args.place k c.args.expanded e p) c.in-Value.is
    ∙ same_value (aim.Value c.in-Value.left) c.args.expanded c.in_ok-value-in-Value.value c.args.place k e p tt c.in_ok-value-in-Value.ensures
    ∙ c.in_ok-acted-in-Value.ensures.talk k p

pub returns-in_ok-value-in-Subject-clause-talk : goal.returns-in_ok-value-in-Subject-clause-talk
returns-in_ok-value-in-Subject-clause-talk c =
    let k = context c.args.shell.now.stack.items in
    let e = shell_of c.args.shell.now.state in
    λ p. ap (λ (u : Aim). aimed u c.args.place k c.args.expanded e p) c.in-Subject.is
    ∙ same_value (aim.Subject c.in-Subject.items) c.args.expanded c.in_ok-value-in-Subject.value c.args.place k e p tt c.in_ok-value-in-Subject.ensures
    ∙ c.look.ensures.talk k e p ∙ c.free-in-Subject.ensures.talk k e p

pub returns-in_ok-control-in-Pattern-clause-talk : goal.returns-in_ok-control-in-Pattern-clause-talk
returns-in_ok-control-in-Pattern-clause-talk c =
    let k = context c.args.shell.now.stack.items in
    let e = shell_of c.args.shell.now.state in
    λ p. ap (λ (u : Aim). aimed u c.args.place k c.args.expanded e p) c.in-Pattern.is
    ∙ same_value (aim.Pattern c.in-Pattern.casing) c.args.expanded c.in_ok-pattern-in-Pattern.pattern c.args.place k e p tt c.in_ok-pattern-in-Pattern.ensures
    ∙ c.in_ok-control-in-Pattern.ensures.talk k e p ∙ c.free-in-Pattern.ensures.talk k e p

pub returns-in_ok-left-in-Fields-clause-costly : goal.returns-in_ok-left-in-Fields-clause-costly
returns-in_ok-left-in-Fields-clause-costly c = lowers_more c.next_word.result _ _ _ _ _ c.next_word.ensures.costly (omega (arith, ap weigh_aim c.in-Fields.is, c.in_ok-left-in-Fields.ensures.weight))

pub returns-in_ok-control-in-Operand-clause-costly : goal.returns-in_ok-control-in-Operand-clause-costly
returns-in_ok-control-in-Operand-clause-costly c = λ m le. c.free.ensures.costly m _ (omega (arith, ap weigh_aim c.in-Operand.is, c.in_ok-control-in-Operand.ensures.weight))

pub returns-in_ok-acted-in-Value-clause-costly : goal.returns-in_ok-acted-in-Value-clause-costly
returns-in_ok-acted-in-Value-clause-costly c = λ m le. c.in_ok-acted-in-Value.ensures.costly m _ (omega (arith, ap weigh_aim c.in-Value.is))

pub returns-in_ok-value-in-Subject-clause-costly : goal.returns-in_ok-value-in-Subject-clause-costly
returns-in_ok-value-in-Subject-clause-costly c = λ m le. c.free-in-Subject.ensures.costly m _ (omega (arith, ap weigh_aim c.in-Subject.is, c.look.ensures.weight))

pub returns-in_ok-control-in-Pattern-clause-costly : goal.returns-in_ok-control-in-Pattern-clause-costly
returns-in_ok-control-in-Pattern-clause-costly c = λ m le. c.free-in-Pattern.ensures.costly m _ (omega (arith, ap weigh_aim c.in-Pattern.is, c.in_ok-control-in-Pattern.ensures.weight))
