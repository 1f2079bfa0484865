use Rattle.std.proofs.Common.{◌≡◌, length}
use Rattle.ut_args.specs.Words.{letters}
use Rattle.ut_args.proofs.letters.read_letters.Given as goal

abbrev pub invariant-letters : goal.invariant-letters
invariant-letters l = letters l.table l.given l.rest ≡ letters l.table l.initial.given l.word

abbrev pub decreases-letters : goal.decreases-letters
decreases-letters l = length l.rest
