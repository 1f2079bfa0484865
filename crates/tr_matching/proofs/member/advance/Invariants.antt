use Rattle.std.specs.List.{AllByRecursion as Each}
use Rattle.std.proofs.Common.{◌≡◌, ◌+◌, drop, take}
use Rattle.tr_matching.specs.Groups.{AreMembers, GoesOn, numbers_in}
use Rattle.tr_matching.proofs.member.advance.Given as goal

abbrev pub invariant-members : goal.invariant-members
invariant-members l = record {
  numbers : numbers_in l.members.items ≡ numbers_in l.initial.members.items;
  done : AreMembers l.earlier (l.at + 1) (take l.k l.members.items);
  left : Each (GoesOn l.earlier l.at) (drop l.k l.members.items);
}
