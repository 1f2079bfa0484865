use Rattle.std.proofs.Common.{◌≡◌, drop}
use Rattle.ut_find.specs.Tests.{meets_all}
use Rattle.ut_find.proofs.test.TestList.meets.Given as goal

abbrev pub invariant-tests : goal.invariant-tests
invariant-tests l = meets_all l.kind l.path (drop l.test-index l.self) ≡ meets_all l.kind l.path l.self
