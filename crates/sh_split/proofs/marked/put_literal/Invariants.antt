use Rattle.std.proofs.Common.{◌≡◌, ◌++◌, drop}
use Rattle.sh_split.specs.Marked.{as_literal}
use Rattle.sh_split.proofs.marked.put_literal.Given as goal

abbrev pub invariant-bytes : goal.invariant-bytes
invariant-bytes l = l.marks.items ++ as_literal (drop l.b-index l.text) ≡ l.initial.marks.items ++ as_literal l.text
