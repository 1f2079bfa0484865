use Rattle.std.proofs.Common.{ap, ◌∙◌}
use Rattle.sh_ast.specs.Words as w
use Rattle.sh_ast.specs.Commands as t
use Rattle.sh_nodes.specs.Nodes.{bodies_seen}
use Rattle.sh_nodes.proofs.Made.{word_made}
use Rattle.sh_nodes.proofs.words.word_of.Goals as goal

pub returns : goal.returns
returns c =
    ap t.word c.in_ok-word.ensures.ok ∙ word_made c.in_ok-parts.parts c.args.bodies ∙ ap (λ (p : w.PartsTree). t.word_of p (t.bodies_of (bodies_seen c.args.bodies.items))) c.in_ok-parts.ensures
