use Rattle.std.proofs.Common.{length}
use Rattle.ut_bre.specs.ReadsAs.{reading}
use Rattle.ut_bre.proofs.ReadLemmas.{TokensLeft}
use Rattle.ut_bre.proofs.reader.items_of.Given as goal

abbrev pub invariant-tokens : goal.invariant-tokens
invariant-tokens l = TokensLeft l.folded l.start l.text l.left (reading l.reader)

abbrev pub decreases-tokens : goal.decreases-tokens
decreases-tokens l = length l.left
