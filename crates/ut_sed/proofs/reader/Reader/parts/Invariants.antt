use Rattle.std.proofs.Common.{◌≡◌, [], length, false}
use Rattle.ut_sed.specs.Scanning.{parts_from}
use Rattle.ut_sed.proofs.reader.Reader.parts.Given as goal

abbrev pub invariant-bytes : goal.invariant-bytes
invariant-bytes l = parts_from l.d l.groups l.quoted l.parts.items l.rest ≡ parts_from l.d l.groups false [] l.initial.rest

abbrev pub decreases-bytes : goal.decreases-bytes
decreases-bytes l = length l.rest
