use Rattle.std.proofs.Common.{◌≡◌, drop}
use Rattle.ut_find.specs.Finds.{last_byte}
use Rattle.ut_find.proofs.path.last_byte.Given as goal

abbrev pub invariant-bytes : goal.invariant-bytes
invariant-bytes l = last_byte l.last (drop l.b-index l.text) ≡ last_byte 0 l.text
