use Rattle.std.proofs.Common.{◌≡◌, ◌++◌, drop}
use Rattle.sh_words.proofs.words.push_all.Given as goal

abbrev pub invariant-more : goal.invariant-more
invariant-more l = l.fields ++ drop l.word-index l.more ≡ l.initial.fields ++ l.more
