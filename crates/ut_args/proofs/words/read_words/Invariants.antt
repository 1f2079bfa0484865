use Rattle.std.proofs.Common.{◌≡◌, length}
use Rattle.ut_args.specs.Words.{options_in, options_from}
use Rattle.ut_args.proofs.words.read_words.Given as goal

abbrev pub invariant-words : goal.invariant-words
invariant-words l = options_from l.table l.wants l.given l.rest ≡ options_in l.table l.words

abbrev pub decreases-words : goal.decreases-words
decreases-words l = length l.rest
