-- Which bytes spell a table.
use Rattle.std.specs.Prelude.{◌≡◌, ◌⊎◌, List}
use Rattle.rk_base.specs.Text.{Text}
use Rattle.tr_record.specs.declared.records.Record.{Record}
use Rattle.tr_codec.specs.Fits.{Fits}
use Rattle.tr_codec.specs.OldSpelling as old
use Rattle.tr_codec.specs.OldSpelling.{FitsOld, old_spelling}
use Rattle.tr_codec.specs.Spelling.{magic, body, table_piece, db_spelling}

-- these bytes are the spelling of the table, or what the first version spelt it as
abbrev pub IsSpelling : Text → List Record → Type 0
IsSpelling bytes table = (Fits table × (bytes ≡ db_spelling table)) ⊎ (FitsOld table × (bytes ≡ old_spelling table))

-- and the same of what stands before the digest
abbrev pub IsBody : Text → List Record → Type 0
IsBody front table = (Fits table × (front ≡ body magic (table_piece table))) ⊎ (FitsOld table × (front ≡ body old.magic (old.table_piece table)))
