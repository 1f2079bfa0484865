use Rattle.std.proofs.Common.{List, subst, length}
use Rattle.rk_base.specs.Text.{Text}
use Rattle.sh_pattern.specs.Parts.{Part, parts}
use Rattle.sh_pattern.specs.Matching.{TellsBest, MatchesEnd}
use Rattle.sh_pattern.proofs.matching.best_suffix.Goals as goal

pub returns : goal.returns
returns c =
    subst (λ (t : Text). TellsBest c.args.longest (length t) (MatchesEnd (parts c.args.pattern.now) t) c.suffix.result) c.new.ensures.text (subst (λ (ps : List Part). TellsBest c.args.longest (length c.new.result.text.now) (MatchesEnd ps c.new.result.text.now) c.suffix.result) c.new.ensures.pattern c.suffix.ensures)
