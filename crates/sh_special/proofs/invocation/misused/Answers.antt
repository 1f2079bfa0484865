use Rattle.std.proofs.Common.{ap}
use Rattle.sh_special.specs.Lines.{usage_line}
use Rattle.sh_special.specs.Invocation.{Misused}
use Rattle.sh_special.proofs.invocation.misused.Goals as goal

pub returns : goal.returns
unfolding usage_line
returns c = ap Misused c.in_ok-line.ensures
