use Rattle.sh_pattern.specs.Classes.{class_at}
use Rattle.sh_pattern.proofs.class.class_at.Goals as goal

pub returns-clause-value : goal.returns-clause-value
unfolding class_at
returns-clause-value c = cc
