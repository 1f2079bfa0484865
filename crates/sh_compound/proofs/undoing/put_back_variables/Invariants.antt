use Rattle.std.proofs.Common.{◌≡◌, drop}
use Rattle.sh_means.specs.State.{put_back_variables}
use Rattle.sh_compound.proofs.Named.{called}
use Rattle.sh_compound.proofs.undoing.put_back_variables.Given as goal

abbrev pub invariant-assignments : goal.invariant-assignments
invariant-assignments l = put_back_variables (called (drop l.a-index l.a-items)) l.before l.now ≡ put_back_variables (called l.a-items) l.before l.initial.now
