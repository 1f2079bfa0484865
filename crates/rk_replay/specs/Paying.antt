-- Records compared with those of their key.
use Rattle.std.specs.Prelude.{◌≡◌, ℕ, ◌<◌, List, length, None}
use Rattle.tr_record.specs.declared.records.Record.{Record}
use Rattle.tr_record.specs.Rec.{rec_at}
use Rattle.tr_matching.specs.Causes.{first_difference}

-- a record has another answer than one of its key has
abbrev pub HasOther : Record → Record → Type 0
HasOther was rec = first_difference 1 was.steps rec.steps ≡ None → ⊥

-- each record of its key in a table has another answer
abbrev pub AllDiffer : List Record → Record → Type 0
AllDiffer table rec = (i : ℕ) → i < length table → (rec_at i table).key ≡ rec.key → HasOther (rec_at i table) rec

-- a record of its key in a table has no other answer
abbrev pub OneIsAlike : List Record → Record → Type 0
OneIsAlike table rec = (i : ℕ) × (i < length table) × ((rec_at i table).key ≡ rec.key) × (first_difference 1 (rec_at i table).steps rec.steps ≡ None)
