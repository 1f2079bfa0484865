use Rattle.std.proofs.Common.{◌≡◌, length}
use Rattle.sh_tree.specs.Seen.{state}
use Rattle.sh_script.specs.States.{start}
use Rattle.sh_script.specs.Folds.{marked_all}
use Rattle.sh_tree.proofs.building.build.Given as goal

-- what is left over what was built is the whole
abbrev pub invariant-marks : goal.invariant-marks
invariant-marks l = marked_all l.marks (state l.b) ≡ marked_all l.fn.marks start

abbrev pub decreases-marks : goal.decreases-marks
decreases-marks l = length l.marks
