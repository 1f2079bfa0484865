use Rattle.std.proofs.Common.{◌≡◌, ◌++◌, drop}
use Rattle.sh_split.specs.Marked.{pattern_of}
use Rattle.sh_split.proofs.marked.pattern_of.Given as goal

abbrev pub invariant-marks : goal.invariant-marks
invariant-marks l = l.text.items ++ pattern_of (drop l.mark-index l.marks) ≡ pattern_of l.marks
