use Rattle.std.proofs.Common.{sym, ◌∙◌}
use Rattle.sh_token.specs.Folded.{folded}
use Rattle.sh_token.proofs.Folding.{none_of, none_there}
use Rattle.sh_lex.proofs.telling.is_none_of.Goals as goal

pub returns-then-is_zero : goal.returns-then-is_zero
returns-then-is_zero c = none_there c.args.count (folded c.args.text.now) (sym c.is_zero.ensures ∙ c.if-is_zero.true)

pub returns-else-is_zero : goal.returns-else-is_zero
returns-else-is_zero c = c.is_read_out.ensures ∙ none_of c.args.count (folded c.args.text.now) (sym c.is_zero.ensures ∙ c.if-is_zero.false)
