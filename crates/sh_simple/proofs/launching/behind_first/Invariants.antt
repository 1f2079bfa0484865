use Rattle.std.proofs.Common.{◌≡◌, take}
use Rattle.sh_simple.proofs.launching.behind_first.Given as goal

abbrev pub invariant-rest : goal.invariant-rest
invariant-rest l = l.words.items ≡ take l.word-index l.rest
