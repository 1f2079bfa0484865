-- Laws of the spelling.
use Rattle.std.specs.Prelude.{◌≡◌, ◌<◌, ◌^◌, List, ℕ, length}
use Rattle.tr_record.specs.declared.records.Record.{Record}
use Rattle.tr_codec.specs.OldSpelling.{old_spelling}
use Rattle.tr_codec.specs.Spelling.{db_spelling}
use Rattle.tr_kept.specs.KeptSpelling.{kept_spelling, IsKeptSpelling}

-- no two lists of tables have one spelling, of whichever version
abbrev pub OneKept : Type 0
OneKept = (bytes : List ℕ) (a b : List (List Record)) → length bytes < 2 ^ 64 → IsKeptSpelling bytes a → IsKeptSpelling bytes b → a ≡ b

-- no bytes are the spelling of what is kept, and an earlier version's of a table
abbrev pub ApartFromTable : Type 0
ApartFromTable = (kept : List (List Record)) (table : List Record) → kept_spelling kept ≡ db_spelling table → ⊥

abbrev pub ApartFromOld : Type 0
ApartFromOld = (kept : List (List Record)) (table : List Record) → kept_spelling kept ≡ old_spelling table → ⊥

-- no bytes are spellings of a table by both earlier versions
abbrev pub EarlierApart : Type 0
EarlierApart = (a b : List Record) → db_spelling a ≡ old_spelling b → ⊥
