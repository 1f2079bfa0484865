use Rattle.std.proofs.Common.{sym, ◌∙◌}
use Rattle.std.proofs.lemmas.Bool.{eq-eqb, ne_eqb}
use Rattle.sh_token.proofs.Symbols.{sought_on, sought_here, sought_never, sought_ends}
use Rattle.sh_token.proofs.brackets.closes_bracket.Goals as goal

pub returns-then-not-is_unquoted : goal.returns-then-not-is_unquoted
returns-then-not-is_unquoted c =
    sought_never c.args.class c.args.text.now c.loop-at.left.now c.loop-at.at c.loop-at.invariant (sym c.is_unquoted.ensures ∙ c.if-not-is_unquoted.true)

pub returns-then-first-eq93 : goal.returns-then-first-eq93
returns-then-first-eq93 c =
    sought_here c.args.class c.args.text.now c.loop-at.left.now c.loop-at.at c.loop-at.invariant (sym c.is_unquoted.ensures ∙ c.if-not-is_unquoted.false) (eq-eqb _ _ (sym c.first.ensures ∙ c.if-first-eq93.true))

pub loop-at-preserved : goal.loop-at-preserved
loop-at-preserved c =
    sought_on c.args.class c.args.text.now c.loop-at.left.now c.rest-left.result.now c.loop-at.at c.loop-at.invariant (sym c.is_unquoted.ensures ∙ c.if-not-is_unquoted.false) (ne_eqb _ _ (λ h. c.if-first-eq93.false (c.first.ensures ∙ h))) c.rest-left.ensures.read

pub returns : goal.returns
returns c = sought_ends c.args.class c.args.text.now c.loop-at.left.now c.loop-at.at c.loop-at.invariant c.loop-at-test.false
