use Rattle.std.proofs.Common.{◌≡◌, ◌++◌, length}
use Rattle.sh_expand.proofs.names.listed.Given as goal

abbrev pub invariant-paths : goal.invariant-paths
invariant-paths l = l.texts.items ++ l.paths ≡ l.initial.paths

abbrev pub decreases-paths : goal.decreases-paths
decreases-paths l = length l.paths
