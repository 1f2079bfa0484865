use Rattle.sh_ast.specs.Commands as tree
use Rattle.sh_expand.specs.Means.{parts_of}
use Rattle.sh_words.proofs.LiteralLemmas.{one_value}
use Rattle.sh_words.proofs.literal.value.Goals as goal

pub returns-in-Some : goal.returns-in-Some
returns-in-Some c = one_value (parts_of (tree.word c.args.word.now)) c.in-Some.field-0-0 c.in-Some.text.now c.in-Some.ensures
