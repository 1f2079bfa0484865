use Rattle.std.proofs.Common.{sym, ap, subst, ◌∙◌, ◌+◌}
use Rattle.sh_token.specs.Bytes.{class_is}
use Rattle.sh_token.specs.Brackets.{goes_on}
use Rattle.sh_token.proofs.Symbols.{Opened, opened_on, opened_closed, opened_unclosed, opened_ends, opened_whole}
use Rattle.sh_token.proofs.brackets.open_bracket.Goals as goal

pub returns-then-closes_bracket : goal.returns-then-closes_bracket
returns-then-closes_bracket c =
    opened_closed c.args.class c.args.text.now c.loop-at.left.now c.args.first_passed c.loop-at.passed c.loop-at.at c.loop-at.invariant (sym c.begins_symbol.ensures ∙ c.if-begins_symbol.true) (sym c.closes_bracket.ensures ∙ c.if-closes_bracket.true)

pub returns-else-closes_bracket : goal.returns-else-closes_bracket
returns-else-closes_bracket c =
    opened_unclosed c.args.class c.args.text.now c.loop-at.left.now c.args.first_passed c.loop-at.passed c.loop-at.at c.run.result c.loop-at.invariant (sym c.closes_bracket.ensures ∙ c.if-closes_bracket.false) c.run.ensures.count

pub returns-then-not-goes_on : goal.returns-then-not-goes_on
returns-then-not-goes_on c =
    opened_ends c.args.class c.args.text.now c.loop-at.left.now c.args.first_passed c.loop-at.passed c.loop-at.at c.loop-at.invariant (sym c.begins_symbol.ensures ∙ c.if-begins_symbol.false) (sym (ap (goes_on (class_is c.args.class) c.loop-at.passed) c.first.ensures) ∙ sym c.goes_on.ensures ∙ c.if-not-goes_on.true)

pub loop-at-preserved : goal.loop-at-preserved
loop-at-preserved c =
    subst (λ p. Opened c.args.class c.args.text.now c.rest-left.result.now c.args.first_passed p (c.loop-at.at + 1)) (sym c.passed_on-passed.ensures)
    (opened_on c.args.class c.args.text.now c.loop-at.left.now c.rest-left.result.now c.args.first_passed c.loop-at.passed c.loop-at.at c.loop-at.invariant (sym c.begins_symbol.ensures ∙ c.if-begins_symbol.false) (sym (ap (goes_on (class_is c.args.class) c.loop-at.passed) c.first.ensures) ∙ sym c.goes_on.ensures ∙ c.if-not-goes_on.false) c.rest-left.ensures.read)

pub returns : goal.returns
returns c = opened_whole c.args.class c.args.text.now c.loop-at.left.now c.args.first_passed c.loop-at.passed c.loop-at.at c.loop-at.invariant c.loop-at.auto.at-end c.loop-at-test.false
