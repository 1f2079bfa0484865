-- The spelling of a table: the blobs, the nodes that its records need, and the records. Records that end alike share nodes.
use Rattle.std.specs.Prelude.{List, [], ◌∷◌, ◌++◌, ℕ, length, map}
use Rattle.std.specs.List.{flat_map}
use Rattle.tr_nodes.specs.Tails.{Tail, needed, head_in}
use Rattle.tr_record.specs.declared.steps.Step.{Step}
use Rattle.tr_record.specs.declared.records.Record.{Record}
pub use Rattle.tr_parts.specs.Sealed.{sealed}
use Rattle.tr_parts.specs.Piece.{Piece, ◌⊕◌, byte, number, counted, num, string, with_uses}
pub use Rattle.tr_codec.specs.Pieces.{var_piece, key_piece, pair_piece, how_code, flag_code, call_piece, kind_code, errno_code, answer_piece}
use Rattle.tr_codec.specs.Same.{same_step}

-- a step is its cost, its call and its answer
abbrev pub step_piece : Step → Piece
step_piece step = number step.cost ⊕ call_piece step.call ⊕ answer_piece step.answer

-- a node is the number of the rest of the steps, and a step
abbrev pub node_piece : List (Tail Step) → Tail Step → Piece
node_piece tails tail = number (head_in same_step tails tail.rest) ⊕ step_piece tail.first

-- a record has the number of its steps in their place; its ordinal follows from the order
abbrev pub record_piece : List (Tail Step) → Record → Piece
record_piece tails rec = key_piece rec.key ⊕ number (head_in same_step tails rec.steps) ⊕ byte rec.exit ⊕ number rec.exit_cost

-- the steps of each record
abbrev pub talks : List Record → List (List Step)
talks table = map (λ rec. rec.steps) table

-- a node for each of these tails, and then the records
abbrev pub spelt_with : List (Tail Step) → List Record → Piece
spelt_with tails table = counted (node_piece tails) tails ⊕ counted (record_piece tails) table

-- the nodes that the records need, in the order in which they first need them, and then the records
abbrev pub table_piece : List Record → Piece
table_piece table = spelt_with (needed same_step (talks table)) table

-- `RKR2`
abbrev pub magic : List ℕ
magic = 0x52 ∷ 0x4b ∷ 0x52 ∷ 0x32 ∷ []

-- the magic, the blobs, each once, in the order of first use, and then the piece
unfoldable pub body : List ℕ → Piece → List ℕ
body magic piece =
    let blobs = with_uses [] piece.uses in
    magic ++ (num (length blobs) ++ (flat_map string blobs ++ piece.spelt blobs))

abbrev pub db_spelling : List Record → List ℕ
db_spelling table = sealed (body magic (table_piece table))
