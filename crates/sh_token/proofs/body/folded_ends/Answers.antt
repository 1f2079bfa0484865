use Rattle.std.proofs.Common.{ap, sym, ◌∙◌}
use Rattle.std.specs.Prelude.{nat_eq}
use Rattle.sh_token.specs.Folded.{folded}
use Rattle.sh_token.proofs.Folding.{none_ends, some_ends}
use Rattle.sh_token.proofs.body.folded_ends.Goals as goal

pub returns-then-is_read_out : goal.returns-then-is_read_out
returns-then-is_read_out c = none_ends (folded c.args.text.now) (sym c.is_read_out.ensures ∙ c.if-is_read_out.true)

pub returns-else-is_read_out : goal.returns-else-is_read_out
returns-else-is_read_out c = ap (λ x. nat_eq x 10) c.first.ensures ∙ some_ends (folded c.args.text.now) (sym c.is_read_out.ensures ∙ c.if-is_read_out.false)
