-- Records parted by what they were answered.
use Rattle.std.specs.Prelude.{◌≡◌, ◌≢◌, ℕ, ◌+◌, ◌<◌, false, List, [], length, filter, Some}
use Rattle.std.specs.List.{AllByRecursion as Each}
use Rattle.rk_calls.specs.declared.answer.Answer.{Answer}
use Rattle.tr_matching.specs.declared.group.Group.{Group}
use Rattle.tr_matching.specs.declared.member.Member.{Member}
use Rattle.tr_matching.specs.declared.parting.Parting.{Parting}
use Rattle.tr_matching.specs.Earlier.{EarlierRecords, IsRest}
use Rattle.tr_matching.specs.Groups.{AreMembers, first_of, group_at, numbers_in, numbers_of}
use Rattle.tr_matching.specs.Index.{part_of}
use Rattle.tr_matching.specs.Left.{is_answered}
use Rattle.tr_matching.specs.Steps.{answer_at}

-- the group of those that were answered so behind so many steps
pub record IsAnswered (e : EarlierRecords) (at : ℕ) (members : List Member) (a : Answer) (part : Group) : Type 0 where
  pub are : numbers_of part ≡ filter (is_answered e.records at a) (numbers_in members)
  pub some : part.members ≢ []
  pub alike : part.alike ≡ at + 1
  pub rests : AreMembers e (at + 1) part.members
  pub start : IsRest e (first_of part) (at + 1) part.start
  pub unknown : part.agreed ≡ false
  pub whole : part.parted ≡ false

-- under each answer stands the group of those that were answered so; each record's answer has one, and each group has an answer
pub record AreParts (e : EarlierRecords) (at : ℕ) (members : List Member) (it : Parting) : Type 0 where
  pub each : (a : Answer) (c : ℕ) → part_of it.index a ≡ Some c → (c < length it.groups.items) × IsAnswered e at members a (group_at c it.groups.items)
  pub cover : Each (λ i. (c : ℕ) × (part_of it.index (answer_at e.records at i) ≡ Some c)) (numbers_in members)
  pub all : (c : ℕ) → c < length it.groups.items → (a : Answer) × (part_of it.index a ≡ Some c)
