-- The first version's spelling of a table: the blobs, and the records, each with its own steps. It is read, and no longer written.
use Rattle.std.specs.Prelude.{ℕ, ◌<◌, ◌^◌, List, [], ◌∷◌}
use Rattle.std.specs.List.{AllByRecursion}
use Rattle.tr_record.specs.Rec.{AreNumbered}
use Rattle.tr_record.specs.declared.steps.Step.{Step}
use Rattle.tr_record.specs.declared.records.Record.{Record}
use Rattle.tr_parts.specs.Piece.{Piece, ◌⊕◌, byte, cost, counted}
use Rattle.tr_parts.specs.Sealed.{sealed}
use Rattle.tr_codec.specs.Fits.{FitsKey, FitsCall, FitsAnswer, paid}
use Rattle.tr_codec.specs.Pieces.{key_piece, call_piece, answer_piece}
use Rattle.tr_codec.specs.Spelling.{body}

-- a cost has four bytes
abbrev pub step_piece : Step → Piece
step_piece step = cost step.cost ⊕ call_piece step.call ⊕ answer_piece step.answer

-- a record's ordinal follows from the order
abbrev pub record_piece : Record → Piece
record_piece rec = key_piece rec.key ⊕ counted step_piece rec.steps ⊕ byte rec.exit ⊕ cost rec.exit_cost

abbrev pub table_piece : List Record → Piece
table_piece table = counted record_piece table

-- `RKR1`
abbrev pub magic : List ℕ
magic = 0x52 ∷ 0x4b ∷ 0x52 ∷ 0x31 ∷ []

abbrev pub old_spelling : List Record → List ℕ
old_spelling table = sealed (body magic (table_piece table))

-- ---- which tables have one

pub record FitsStep (step : Step) : Type 0 where
  pub cost : step.cost < 2 ^ 32
  pub call : FitsCall step.call
  pub answer : FitsAnswer step.answer

pub record FitsRecord (rec : Record) : Type 0 where
  pub key : FitsKey rec.key
  pub steps : AllByRecursion FitsStep rec.steps
  pub exit : rec.exit < 256
  pub exit_cost : rec.exit_cost < 2 ^ 32
  pub paid : paid rec.steps rec.exit_cost < 2 ^ 64

-- each record has such a spelling, and each ordinal is the number of earlier records of its key
pub record FitsOld (table : List Record) : Type 0 where
  pub records : AllByRecursion FitsRecord table
  pub numbered : AreNumbered table
