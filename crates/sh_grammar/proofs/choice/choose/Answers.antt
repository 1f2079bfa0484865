use Rattle.std.proofs.Common.{◌∙◌}
use Rattle.sh_grammar.specs.Named.{part_named}
use Rattle.sh_grammar.proofs.Tables.{told}
use Rattle.sh_grammar.proofs.choice.choose.Goals as goal

pub returns : goal.returns
returns c = c.first_met.ensures ∙ told (part_named c.args.part) c.choices.result.now c.choices.ensures c.args.kind
