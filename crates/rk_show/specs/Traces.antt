-- The lines of a trace.
use Rattle.std.specs.Prelude.{ℕ, suc, ◌-◌, ◌<◌, ◌^◌, List, [], ◌∷◌, ◌++◌, length, drop, codes}
use Rattle.std.specs.Fmt.{decimal}
use Rattle.hex.specs.Hex.{encode_lower}
use Rattle.rk_base.specs.Text.{Text}
use Rattle.tr_record.specs.declared.records.Record.{Record}
use Rattle.rk_show.specs.Commands.{command_name}
use Rattle.rk_traces.specs.Own.{own}

-- what it paid is a number of 64 bits, as that of each record that is read from a database
abbrev pub IsCounted : Record → Type 0
IsCounted rec = own rec < 2 ^ 64

-- `I WORDS in WD #ORDINAL: `
unfoldable pub record_head : ℕ → Record → Text
record_head number rec = decimal number ++ (codes " " ++ (command_name rec.key rec.ordinal ++ codes ": "))

-- `S steps, C turns, exit E`
unfoldable pub record_counts : ℕ → ℕ → ℕ → Text
record_counts steps turns exit = decimal steps ++ (codes " steps, " ++ (decimal turns ++ (codes " turns, exit " ++ decimal exit)))

-- the line of a record with its number
abbrev pub record_line : ℕ → Record → Text
record_line number rec = record_head number rec ++ (record_counts (length rec.steps) (own rec) rec.exit ++ codes "\n")

-- the lines of records, of which the first has this number
abbrev pub record_lines : ℕ → List Record → Text
record_lines number [] = []
record_lines number (rec ∷ table) = record_line number rec ++ record_lines (suc number) table

-- the digest with which a database's bytes end
abbrev pub digest_of : Text → Text
digest_of db = drop (length db - 32) db

-- `digest D`
abbrev pub digest_line : Text → Text
digest_line digest = codes "digest " ++ (encode_lower digest ++ codes "\n")

-- a line for each record, in launch order, and last the digest of the database that has these bytes
unfoldable pub trace_text : List Record → Text → Text
trace_text table db = record_lines 0 table ++ digest_line (digest_of db)

-- `records R`: so many were checked
unfoldable pub records_line : ℕ → Text
records_line n = codes "records " ++ (decimal n ++ codes "\n")
