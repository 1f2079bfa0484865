use Rattle.std.proofs.Common.{◌≡◌, [], length}
use Rattle.ut_sed.specs.Scanning.{text_from}
use Rattle.ut_sed.proofs.reader.Reader.text.Given as goal

abbrev pub invariant-bytes : goal.invariant-bytes
invariant-bytes l = text_from l.d l.scan l.text.items l.rest ≡ text_from l.d l.fn.begin [] l.initial.rest

abbrev pub decreases-bytes : goal.decreases-bytes
decreases-bytes l = length l.rest
