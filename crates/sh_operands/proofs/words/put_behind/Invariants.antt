use Rattle.std.proofs.Common.{◌≡◌, ◌++◌, drop}
use Rattle.sh_operands.specs.Words.{behind}
use Rattle.sh_operands.proofs.words.put_behind.Given as goal

abbrev pub invariant-words : goal.invariant-words
invariant-words l = l.text.items ++ behind (drop l.word-index l.words) ≡ l.initial.text.items ++ behind l.words
