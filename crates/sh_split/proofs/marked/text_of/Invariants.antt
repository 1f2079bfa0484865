use Rattle.std.proofs.Common.{◌≡◌, ◌++◌, drop}
use Rattle.sh_split.specs.Marked.{text_of}
use Rattle.sh_split.proofs.marked.text_of.Given as goal

abbrev pub invariant-marks : goal.invariant-marks
invariant-marks l = l.text.items ++ text_of (drop l.mark-index l.marks) ≡ text_of l.marks
