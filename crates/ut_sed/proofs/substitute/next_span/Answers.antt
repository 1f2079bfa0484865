use Rattle.std.proofs.Common.{rules, ◌≡◌, ◌+◌, sym, ap, ◌∙◌}
use Rattle.std.proofs.lemmas.Bool.{eq-eqb, ne_eqb}
use Rattle.ut_bre.specs.Expressions.{expression}
use Rattle.ut_bre.specs.Found.{span_found}
use Rattle.ut_sed.proofs.SpanLemmas.{next-none, next-there, next-behind}
use Rattle.ut_sed.proofs.substitute.next_span.Goals as goal

pub returns-in-None-clause-next : goal.returns-in-None-clause-next
returns-in-None-clause-next c = next-none (expression c.args.bre.now) c.args.text.now c.args.at (sym c.in-None.is ∙ c.in_ok-here.ensures.value)

pub returns-then-span-at-clause-next : goal.returns-then-span-at-clause-next
returns-then-span-at-clause-next c =
    let there = sym c.in-Some.is ∙ c.in_ok-here.ensures.value in
    next-there (expression c.args.bre.now) c.args.text.now c.args.at c.in-Some.span there (ne_eqb c.in-Some.span.end c.args.at c.if-span-at.true)

pub returns-in_ok-next-in-Some-clause-next : goal.returns-in_ok-next-in-Some-clause-next
returns-in_ok-next-in-Some-clause-next c =
    let e = expression c.args.bre.now in
    let text = c.args.text.now in
    let there = sym c.in-Some.is ∙ c.in_ok-here.ensures.value in
    let one : c.in_ok-from-in-Some.from ≡ c.args.at + 1 = search rules in
    let behind = c.in_ok-next-in-Some.ensures.value ∙ ap (λ n. span_found e text n) one in
    next-behind e text c.args.at c.in-Some.span c.in_ok-next-in-Some.next there (eq-eqb c.in-Some.span.end c.args.at c.if-span-at.false) behind
