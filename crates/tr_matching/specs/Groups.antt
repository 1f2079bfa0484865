-- The records of a key, in groups of those that have their first steps in common.
use Rattle.std.specs.Prelude.{◌≡◌, ◌≢◌, ◌⊎◌, ℕ, ◌+◌, ◌≤◌, ◌<◌, true, false, List, [], ◌∷◌, ◌++◌, length, take, map, filter, slice_index_or, Some}
use Rattle.std.specs.List.{AllByRecursion as Each}
use Rattle.rk_calls.specs.declared.answer.Answer.{Answer}
use Rattle.tr_record.specs.declared.records.Record.{Record}
use Rattle.tr_record.specs.declared.steps.Step.{Step}
use Rattle.tr_record.specs.Rec.{rec_at}
use Rattle.tr_matching.specs.declared.group.Group.{Group}
use Rattle.tr_matching.specs.declared.member.Member.{Member}
use Rattle.tr_matching.specs.Earlier.{EarlierRecords, IsRest}
use Rattle.tr_matching.specs.Index.{part_of}
use Rattle.tr_matching.specs.Left.{is_answered, next_at}
use Rattle.tr_matching.specs.Matching.{HaveOne, head_of}
use Rattle.tr_matching.specs.Steps.{answer_at, step_at}

-- ---- records with their rests

-- the numbers of the records
abbrev pub numbers_in : List Member → List ℕ
numbers_in members = map (λ m. m.number) members

-- a record has so many steps, and its rest behind them has this number
pub record IsMember (e : EarlierRecords) (at : ℕ) (m : Member) : Type 0 where
  pub here : m.number < length e.records
  pub within : at ≤ length (rec_at m.number e.records).steps
  pub rest : IsRest e m.number at m.rest

abbrev pub AreMembers : EarlierRecords → ℕ → List Member → Type 0
AreMembers e at members = Each (IsMember e at) members

-- a record has this step behind so many
abbrev pub HasStep : List Record → ℕ → Step → ℕ → Type 0
HasStep old at st i = (at < length (rec_at i old).steps) × (step_at at (rec_at i old).steps ≡ st)

-- they have one step behind so many, which is the first one's
abbrev pub HaveAlike : List Record → ℕ → List ℕ → Type 0
HaveAlike old at now = Each (HasStep old at (step_at at (rec_at (head_of now) old).steps)) now

-- they have so many first steps in common
abbrev pub BeginAlike : List Record → ℕ → List ℕ → Type 0
BeginAlike old at now = Each (λ i. take at (rec_at i old).steps ≡ take at (rec_at (head_of now) old).steps) now

-- a record goes on behind so many steps
abbrev pub GoesOn : EarlierRecords → ℕ → Member → Type 0
GoesOn e at m = IsMember e at m × (at < length (rec_at m.number e.records).steps)

-- ---- groups

abbrev pub no_group : Group
no_group = record { members = []; alike = 0; agreed = false; start = 0; from = 0; parted = false; parts = [] }

-- the group of a number
abbrev pub group_at : ℕ → List Group → Group
group_at g groups = slice_index_or groups g no_group

abbrev pub numbers_of : Group → List ℕ
numbers_of it = numbers_in it.members

-- the first of its records
abbrev pub first_of : Group → ℕ
first_of it = head_of (numbers_of it)

-- a record more
abbrev pub with_member : Group → Member → Group
with_member it m = record it { members = it.members ++ m ∷ [] }

-- a record by itself, of which so many steps are known
abbrev pub alone : ℕ → Member → Group
alone alike m = record { members = m ∷ []; alike = alike; agreed = false; start = m.rest; from = 0; parted = false; parts = [] }

-- the records of a group have so many first steps in common, and one next behind them where it is told so
pub record IsCommon (e : EarlierRecords) (it : Group) : Type 0 where
  pub some : it.members ≢ []
  pub members : AreMembers e it.alike it.members
  pub alike : BeginAlike e.records it.alike (numbers_of it)
  pub agreed : it.agreed ≡ true → HaveOne e.records it.alike (numbers_of it) (next_at it.alike (rec_at (first_of it) e.records))

-- what its records have next behind so many steps is known
abbrev pub IsKnown : ℕ → Group → Type 0
IsKnown at it = (at < it.alike) ⊎ ((at ≡ it.alike) × (it.agreed ≡ true))

-- ---- groups that are parted by answers

-- of a group that is parted, those records that were answered so behind what it has in common; they begin behind that answer
pub record IsPart (e : EarlierRecords) (it : Group) (a : Answer) (part : Group) : Type 0 where
  pub are : numbers_of part ≡ filter (is_answered e.records it.alike a) (numbers_of it)
  pub further : it.alike < part.alike
  pub start : IsRest e (first_of part) (it.alike + 1) part.start

-- a group is parted: under each answer stands its part, and each record's answer has one
pub record IsSplit (e : EarlierRecords) (groups : List Group) (it : Group) : Type 0 where
  pub parts : (a : Answer) (c : ℕ) → part_of it.parts a ≡ Some c → (it.from + c < length groups) × IsPart e it a (group_at (it.from + c) groups)
  pub cover : Each (λ i. (c : ℕ) × (part_of it.parts (answer_at e.records it.alike i) ≡ Some c)) (numbers_of it)

pub record IsGroup (e : EarlierRecords) (groups : List Group) (it : Group) : Type 0 where
  pub common : IsCommon e it
  pub split : it.parted ≡ true → (it.agreed ≡ true) × IsSplit e groups it

abbrev pub AreGroups : EarlierRecords → List Group → Type 0
AreGroups e groups = (g : ℕ) → g < length groups → IsGroup e groups (group_at g groups)

-- there are more groups; those that there were have their records still, and no less in common, and what was known is so still
pub record Grows (before now : List Group) : Type 0 where
  pub more : length before ≤ length now
  pub same : (g : ℕ) → g < length before → numbers_of (group_at g now) ≡ numbers_of (group_at g before)
  pub alike : (g : ℕ) → g < length before → (group_at g before).alike ≤ (group_at g now).alike
  pub start : (g : ℕ) → g < length before → (group_at g now).start ≡ (group_at g before).start
  pub known : (g : ℕ) → g < length before → (at : ℕ) → IsKnown at (group_at g before) → IsKnown at (group_at g now)
