use Rattle.std.proofs.Common.{◌≡◌, ◌++◌, drop}
use Rattle.ut_sed.specs.Changing.{changed}
use Rattle.ut_sed.proofs.change.Change.change.Given as goal

abbrev pub invariant-bytes : goal.invariant-bytes
invariant-bytes l = l.made.items ++ changed l.self (drop l.b-index l.text) ≡ l.initial.made.items ++ changed l.self l.text
