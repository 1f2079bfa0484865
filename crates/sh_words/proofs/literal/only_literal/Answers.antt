use Rattle.std.proofs.Common.{sym, ap, ◌∙◌}
use Rattle.std.proofs.lemmas.Option.{IfSome_then}
use Rattle.sh_ast.specs.Commands as tree
use Rattle.sh_ast.specs.Words.{PartsTree, part, parts}
use Rattle.sh_ast.specs.Lists.{part_at}
use Rattle.sh_words.proofs.LiteralLemmas.{only_literal, word_parts}
use Rattle.sh_words.proofs.literal.only_literal.Goals as goal

pub returns-in-Some-get : goal.returns-in-Some-get
returns-in-Some-get c =
    IfSome_then c.literal_of.result c.literal_of.ensures (λ x is. only_literal (tree.word c.args.word.now) (part c.in-Some-get.part.now) x.0 x.1.now
    (ap (λ (ps : PartsTree). part_at ps 0) (word_parts c.args.word.now ∙ ap parts (sym c.deref-in-None.ensures)) ∙ sym c.in-Some-get.ensures)
    (ap (λ (ps : PartsTree). part_at ps 1) (word_parts c.args.word.now ∙ ap parts (sym c.deref.ensures)) ∙ sym c.in-None.ensures)
    is)
