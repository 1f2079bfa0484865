use Rattle.std.proofs.Common.{◌≡◌, drop}
use Rattle.std.specs.Prelude.{None, option_copied}
use Rattle.ut_args.specs.Opts.{last_argument}
use Rattle.ut_args.proofs.opts.OptList.argument.Given as goal

abbrev pub invariant-loop-given : goal.invariant-loop-given
invariant-loop-given l = last_argument l.letter (option_copied l.found) (drop l.given-index l.self) ≡ last_argument l.letter None l.self
