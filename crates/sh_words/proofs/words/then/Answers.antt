use Rattle.std.proofs.Common.{ap, ◌∙◌, arith}
use Rattle.std.proofs.lemmas.Result.{IfOk-weaker}
use Rattle.sh_means.specs.declared.control.Then.{Then}
use Rattle.sh_means.specs.Stack.{context, then_means}
use Rattle.sh_means.specs.Views.{shell_of}
use Rattle.sh_means.specs.Weights.{weigh_then}
use Rattle.sh_means.proofs.Weighing.{lowers_more}
use Rattle.sh_words.proofs.words.then.Goals as goal

pub returns-in_ok-left-in-Simple-clause-talk : goal.returns-in_ok-left-in-Simple-clause-talk
returns-in_ok-left-in-Simple-clause-talk c =
    let k = context c.args.shell.now.stack.items in
    let e = shell_of c.args.shell.now.state in
    IfOk-weaker c.next_redirect.result _ _
    (λ t told p. ap (λ (t : Then). then_means t c.args.place k c.args.fields e p) c.in-Simple.is ∙ c.in_ok-left-in-Simple.ensures.talk c.args.place k p ∙ told p)
    c.next_redirect.ensures.talk

pub returns-in_ok-left-in-Simple-clause-costly : goal.returns-in_ok-left-in-Simple-clause-costly
returns-in_ok-left-in-Simple-clause-costly c = lowers_more c.next_redirect.result _ _ _ _ _ c.next_redirect.ensures.costly (omega (arith, ap weigh_then c.in-Simple.is, c.in_ok-left-in-Simple.ensures.weight))

pub returns-in-For-clause-costly : goal.returns-in-For-clause-costly
returns-in-For-clause-costly c = λ m le. c.free.ensures.costly m _ (omega (arith, ap weigh_then c.in-For.is, c.over_fields.ensures.weight))
