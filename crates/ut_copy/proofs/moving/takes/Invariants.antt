use Rattle.std.proofs.Common.{◌≡◌, ◌++◌, drop}
use Rattle.ut_copy.specs.Moving.{takes}
use Rattle.ut_copy.proofs.moving.takes.Given as goal

abbrev pub invariant-sources : goal.invariant-sources
invariant-sources l = l.steps.items ++ takes l.utility l.aim l.target (drop l.source-index l.sources) ≡ takes l.utility l.aim l.target l.sources
