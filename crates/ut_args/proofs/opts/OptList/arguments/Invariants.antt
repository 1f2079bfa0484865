use Rattle.std.proofs.Common.{◌≡◌, ◌++◌, drop}
use Rattle.ut_args.specs.Opts.{arguments_of}
use Rattle.ut_args.proofs.opts.OptList.arguments.Given as goal

abbrev pub invariant-loop-given : goal.invariant-loop-given
invariant-loop-given l = l.words ++ arguments_of l.letter (drop l.given-index l.self) ≡ arguments_of l.letter l.self
