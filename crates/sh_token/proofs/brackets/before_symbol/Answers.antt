use Rattle.std.proofs.Common.{sym, ◌∙◌}
use Rattle.sh_token.proofs.Symbols.{before_on, before_here, before_out, before_ends}
use Rattle.sh_token.proofs.brackets.before_symbol.Goals as goal

pub returns-then-is_read_out-clause-count : goal.returns-then-is_read_out-clause-count
returns-then-is_read_out-clause-count c =
    before_out c.args.text.now c.loop-at.left.now c.loop-at.at c.loop-at.invariant (sym c.is_read_out.ensures ∙ c.if-is_read_out.true)

pub returns-then-begins_symbol-clause-count : goal.returns-then-begins_symbol-clause-count
returns-then-begins_symbol-clause-count c =
    before_here c.args.text.now c.loop-at.left.now c.loop-at.at c.loop-at.invariant (sym c.begins_symbol.ensures ∙ c.if-begins_symbol.true)

pub loop-at-preserved : goal.loop-at-preserved
loop-at-preserved c =
    before_on c.args.text.now c.loop-at.left.now c.rest-left.result.now c.loop-at.at c.loop-at.invariant (sym c.is_read_out.ensures ∙ c.if-is_read_out.false) (sym c.begins_symbol.ensures ∙ c.if-begins_symbol.false) c.rest-left.ensures.read

pub returns-clause-count : goal.returns-clause-count
returns-clause-count c = before_ends c.args.text.now c.loop-at.left.now c.loop-at.at c.loop-at.invariant c.loop-at.auto.at-end c.loop-at-test.false
