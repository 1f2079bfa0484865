use Rattle.std.proofs.Common.{◌≡◌, ◌<◌, drop}
use Rattle.ut_files.specs.Modes.{octal_from}
use Rattle.ut_files.proofs.modes.octal.Given as goal

abbrev pub invariant-digits : goal.invariant-digits
invariant-digits l = (octal_from l.n (drop l.b-index l.text) ≡ octal_from 0 l.text) × (l.n < 512)
