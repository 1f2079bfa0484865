use Rattle.std.proofs.Common.{sym, ◌∙◌}
use Rattle.sh_token.specs.Folded.{folded}
use Rattle.sh_token.proofs.Folding.{none_front, some_front}
use Rattle.sh_token.proofs.front.end_of.Goals as goal

pub returns-then-is_read_out : goal.returns-then-is_read_out
returns-then-is_read_out c = none_front (folded c.args.text.now) (sym c.is_read_out.ensures ∙ c.if-is_read_out.true)

pub returns-else-is_read_out : goal.returns-else-is_read_out
returns-else-is_read_out c = some_front (folded c.args.text.now) (sym c.is_read_out.ensures ∙ c.if-is_read_out.false)
