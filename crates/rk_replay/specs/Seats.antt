-- Where replayed commands are among the records of their keys.
use Rattle.std.specs.Prelude.{◌≡◌, ℕ, ◌+◌, List, [], ◌∷◌, ◌++◌, Some, take, filter}
use Rattle.std.specs.Map.{lookup}
use Rattle.rk_calls.specs.declared.answer.Answer.{Answer}
use Rattle.rk_calls.specs.Keys.{KeyValue, same_key}
use Rattle.tr_record.specs.declared.records.Record.{Record}
use Rattle.tr_record.specs.Places.{places_of}
use Rattle.tr_record.specs.Rec.{rec_at}
use Rattle.tr_matching.specs.declared.cause.Cause.TheVariants.{Differs}
use Rattle.tr_matching.specs.declared.group.Group.{Group}
use Rattle.tr_matching.specs.Earlier.{EarlierRecords}
use Rattle.tr_matching.specs.Groups.{AreGroups, first_of, group_at, numbers_of}
use Rattle.tr_matching.specs.Left.{is_answered, left}
use Rattle.tr_matching.specs.Once.{IsOnce}
use Rattle.tr_matching.specs.Places.{IsAt, IsBegun}
use Rattle.tr_matching.specs.Steps.{answer_at, answers_of, step, step_at}
use Rattle.rk_replay.specs.declared.talks.Lead.{Lead}
use Rattle.rk_replay.specs.declared.talks.Lead.TheVariants.{On, GivenUp}
use Rattle.rk_replay.specs.declared.talks.Seat.{Seat}
use Rattle.rk_replay.specs.declared.talks.Talks.{Talks}

-- of the records of a record's key, those whose first answers are that record's
abbrev pub left_with : List Record → ℕ → ℕ → List ℕ
left_with old rec at = left old (answers_of (take at (rec_at rec old).steps)) (places_of (rec_at rec old).key old)

-- a command's place is that of the records that are left with one, which is the first of them; those that did the same count once
pub record IsSeat (e : EarlierRecords) (groups : List Group) (seat : Seat) : Type 0 where
  pub at : IsAt e groups seat.place
  pub are : IsOnce e.records [] (left_with e.records seat.rec seat.place.at) (numbers_of (group_at seat.place.group groups))
  pub first : first_of (group_at seat.place.group groups) ≡ seat.rec

-- the group under each key that was launched has the records of that key, where those that did the same count once
pub record AreTalks (e : EarlierRecords) (talks : Talks) : Type 0 where
  pub groups : AreGroups e talks.groups.items
  pub firsts :
      (key : KeyValue) (g : ℕ) → lookup (same_key key) talks.firsts.entries ≡ Some g
      → IsBegun e talks.groups.items g × IsOnce e.records [] (places_of key e.records) (numbers_of (group_at g talks.groups.items))

-- a command of a key begins before all records of the key
abbrev pub IsFirstSeat : List Record → KeyValue → Seat → Type 0
IsFirstSeat old key seat = (others : List ℕ) × (seat.place.at ≡ 0) × (places_of key old ≡ seat.rec ∷ others)

-- of those that were left with a record, those that were answered so behind so many steps
abbrev pub answered_with : List Record → Seat → Answer → List ℕ
answered_with old seat a = filter (is_answered old seat.place.at a) (left_with old seat.rec seat.place.at)

-- The first of those that were answered so is one step further, and did the same before.
pub record GoesFurther (old : List Record) (seat : Seat) (a : Answer) (now : Seat) : Type 0 where
  pub at : now.place.at ≡ seat.place.at + 1
  pub others : List ℕ
  pub are : answered_with old seat a ≡ now.rec ∷ others
  pub key : (rec_at now.rec old).key ≡ (rec_at seat.rec old).key
  pub steps :
      take (seat.place.at + 1) (rec_at now.rec old).steps
      ≡ take seat.place.at (rec_at seat.rec old).steps
      ++ step (step_at seat.place.at (rec_at seat.rec old).steps).cost (step_at seat.place.at (rec_at seat.rec old).steps).call a ∷ []

-- where an answer leads: on with those that were answered so; where none was, to the cause
abbrev pub Leads : EarlierRecords → List Group → Seat → Answer → Lead → Type 0
Leads e groups seat a (On now) = IsSeat e groups now × GoesFurther e.records seat a now
Leads e groups seat a (GivenUp cause) =
    (answered_with e.records seat a ≡ []) × (cause ≡ Differs (seat.place.at + 1) (answer_at e.records seat.place.at seat.rec) a)
