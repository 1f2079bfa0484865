use Rattle.std.proofs.Common.{◌≡◌, ◌++◌, drop}
use Rattle.sh_split.specs.Marked.{more_given}
use Rattle.sh_split.proofs.marked.put_more.Given as goal

abbrev pub invariant-words : goal.invariant-words
invariant-words l = l.marks.items ++ more_given l.quoted (drop l.word-index l.words) ≡ l.initial.marks.items ++ more_given l.quoted l.words
