use Rattle.std.proofs.Common.{ap, sym, ◌∙◌}
use Rattle.std.specs.Prelude.{nat_eq}
use Rattle.sh_token.specs.Folded.{folded}
use Rattle.sh_token.proofs.Folding.{none_begins, some_begins}
use Rattle.sh_token.proofs.body.folded_begins.Goals as goal

pub returns-then-is_read_out : goal.returns-then-is_read_out
returns-then-is_read_out c = none_begins c.args.b (folded c.args.text.now) (sym c.is_read_out.ensures ∙ c.if-is_read_out.true)

pub returns-else-is_read_out : goal.returns-else-is_read_out
returns-else-is_read_out c = ap (λ x. nat_eq x c.args.b) c.first.ensures ∙ some_begins c.args.b (folded c.args.text.now) (sym c.is_read_out.ensures ∙ c.if-is_read_out.false)
