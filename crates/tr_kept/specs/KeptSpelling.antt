-- The spelling of the tables that are kept: the blobs, the nodes that all their records need, and the records, table by table.
use Rattle.std.specs.Prelude.{◌≡◌, ◌⊎◌, ℕ, List, [], ◌∷◌}
use Rattle.std.specs.List.{AllByRecursion}
use Rattle.rk_base.specs.Text.{Text}
use Rattle.tr_nodes.specs.Tails.{Tail, needed}
use Rattle.tr_record.specs.Generations.{records, AreGenerations}
use Rattle.tr_record.specs.declared.records.Record.{Record}
use Rattle.tr_record.specs.declared.steps.Step.{Step}
use Rattle.tr_parts.specs.Piece.{Piece, ◌⊕◌, counted}
use Rattle.tr_codec.specs.Fits.{Fits}
use Rattle.tr_codec.specs.Same.{same_step}
use Rattle.tr_codec.specs.Spelling.{node_piece, record_piece, talks, body, sealed}
use Rattle.tr_codec.specs.Spelt.{IsSpelling, IsBody}

-- a node for each of these tails, and then the records of each table
abbrev pub kept_with : List (Tail Step) → List (List Record) → Piece
kept_with tails kept = counted (node_piece tails) tails ⊕ counted (counted (record_piece tails)) kept

-- the nodes that the records of all tables need, in the order in which they first need them, and then the records of each table
abbrev pub kept_piece : List (List Record) → Piece
kept_piece kept = kept_with (needed same_step (talks (records kept))) kept

-- `RKR3`
abbrev pub magic : List ℕ
magic = 0x52 ∷ 0x4b ∷ 0x52 ∷ 0x33 ∷ []

abbrev pub kept_spelling : List (List Record) → List ℕ
kept_spelling kept = sealed (body magic (kept_piece kept))

-- each table has a spelling, and they are what may be kept
pub record FitsKept (kept : List (List Record)) : Type 0 where
  pub tables : AllByRecursion Fits kept
  pub are : AreGenerations kept

-- what is kept of a table that an earlier version spelt: of one without records, nothing
abbrev pub one_of : List Record → List (List Record)
one_of [] = []
one_of (rec ∷ table) = (rec ∷ table) ∷ []

-- these bytes are the spelling of what is kept, or what an earlier version spelt its one table as
abbrev pub IsKeptSpelling : Text → List (List Record) → Type 0
IsKeptSpelling bytes kept = (FitsKept kept × (bytes ≡ kept_spelling kept)) ⊎ ((table : List Record) × (kept ≡ one_of table) × IsSpelling bytes table)

-- and the same of what stands before the digest
abbrev pub IsKeptBody : Text → List (List Record) → Type 0
IsKeptBody front kept = (FitsKept kept × (front ≡ body magic (kept_piece kept))) ⊎ ((table : List Record) × (kept ≡ one_of table) × IsBody front table)
