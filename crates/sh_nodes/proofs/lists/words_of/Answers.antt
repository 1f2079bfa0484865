use Rattle.std.proofs.Common.{ap, ◌∙◌}
use Rattle.sh_ast.specs.Commands as t
use Rattle.sh_nodes.specs.Nodes.{words_seen}
use Rattle.sh_nodes.proofs.Made.{words_made}
use Rattle.sh_nodes.proofs.lists.words_of.Goals as goal

pub returns : goal.returns
returns c = ap t.words c.in_ok-words.ensures.ok ∙ words_made c.in_ok-items.items ∙ ap (λ l. t.words_of (words_seen l)) c.in_ok-items.ensures
