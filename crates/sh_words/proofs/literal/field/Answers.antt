use Rattle.std.proofs.Common.{sym, ap, ◌∙◌}
use Rattle.rk_base.specs.Text.{Text}
use Rattle.sh_ast.specs.Commands as tree
use Rattle.sh_expand.specs.Means.{parts_of}
use Rattle.sh_words.specs.Literal.{is_one_field}
use Rattle.sh_words.proofs.LiteralLemmas.{one_field}
use Rattle.sh_words.proofs.literal.field.Goals as goal

pub returns-then-is_one_field : goal.returns-then-is_one_field
returns-then-is_one_field c = one_field (parts_of (tree.word c.args.word.now)) c.in-Some.quoting c.in-Some.text.now c.in-Some.ensures (ap (λ (t : Text). is_one_field c.in-Some.quoting t) (sym c.as_slice.ensures) ∙ sym c.if-is_one_field.ensures)
