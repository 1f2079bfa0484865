use Rattle.std.proofs.Common.{List, subst}
use Rattle.rk_base.specs.Text.{Text}
use Rattle.sh_pattern.specs.Parts.{Part, parts}
use Rattle.sh_pattern.specs.Walking.{TellsEnd}
use Rattle.sh_pattern.proofs.matching.end.Goals as goal

pub returns : goal.returns
returns c =
    subst (λ (t : Text). TellsEnd c.args.longest (parts c.args.pattern.now) t c.end.result) c.new.ensures.text (subst (λ (ps : List Part). TellsEnd c.args.longest ps c.new.result.text.now c.end.result) c.new.ensures.pattern c.end.ensures)
