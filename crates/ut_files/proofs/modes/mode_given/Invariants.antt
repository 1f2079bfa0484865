use Rattle.std.proofs.Common.{◌≡◌, drop}
use Rattle.ut_files.specs.Modes.{mode_given}
use Rattle.ut_files.proofs.modes.mode_given.Given as goal

abbrev pub invariant-given : goal.invariant-given
invariant-given l = mode_given l.mode (drop l.one-index l.given) ≡ mode_given l.initial.mode l.given
