use Rattle.std.proofs.Common.{◌≡◌, ◌++◌, drop}
use Rattle.sh_split.specs.Marked.{as_quoted}
use Rattle.sh_split.proofs.marked.put_quoted.Given as goal

abbrev pub invariant-bytes : goal.invariant-bytes
invariant-bytes l = l.marks.items ++ as_quoted (drop l.b-index l.text) ≡ l.initial.marks.items ++ as_quoted l.text
