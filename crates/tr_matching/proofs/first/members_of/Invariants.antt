use Rattle.std.proofs.Common.{◌≡◌, take}
use Rattle.tr_matching.specs.Groups.{AreMembers, numbers_in}
use Rattle.tr_matching.proofs.first.members_of.Given as goal

abbrev pub invariant-numbers : goal.invariant-numbers
invariant-numbers l = record {
  numbers : numbers_in l.members ≡ take l.k l.numbers;
  members : AreMembers l.earlier 0 l.members;
}
