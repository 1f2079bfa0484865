use Rattle.std.proofs.Common.{◌≡◌, ◌++◌, drop}
use Rattle.sh_split.specs.Marked.{without_nuls}
use Rattle.sh_split.proofs.marked.without_nuls.Given as goal

abbrev pub invariant-bytes : goal.invariant-bytes
invariant-bytes l = l.kept.items ++ without_nuls (drop l.b-index l.text) ≡ without_nuls l.text
