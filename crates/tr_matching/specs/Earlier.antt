-- What is kept of earlier builds.
use Rattle.std.specs.Prelude.{◌≡◌, ℕ, ◌≤◌, List, drop, length}
use Rattle.tr_record.specs.Contents.{Recorded}
use Rattle.tr_record.specs.Pool.{steps_under}
use Rattle.tr_record.specs.Rec.{rec_at}
use Rattle.tr_record.specs.declared.records.Record.{Record}

-- the records of all tables that are kept, each at its number, and the contents and nodes of their steps by numbers
pub record EarlierRecords : Type 0 where
  pub records : List Record
  pub contents : Recorded

-- the steps of a number are the rest of a record behind so many
pub record IsRest (e : EarlierRecords) (rec at number : ℕ) : Type 0 where
  pub within : number ≤ length e.contents.nodes
  pub rest : steps_under e.contents.nodes number ≡ drop at (rec_at rec e.records).steps
