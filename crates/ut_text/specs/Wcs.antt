-- What `wc` makes.
use Rattle.std.specs.Prelude.{ℕ, None, List, [], ◌∷◌, ◌++◌, codes, Result, Ok, Err, Bool, if◌then◌else◌}
use Rattle.std.specs.Fmt.{decimal}
use Rattle.rk_base.specs.Text.{Text}
use Rattle.rk_base.specs.Canonical.{is_empty}
use Rattle.rk_base.specs.declared.errno.Errno.{Errno}
use Rattle.ut_filter.specs.declared.made.Input.{Input}
use Rattle.ut_filter.specs.declared.made.Made.{Made}
use Rattle.ut_filter.specs.Filters.{Job}
use Rattle.ut_filter.specs.Refusals.{refusals}
use Rattle.ut_text.specs.declared.count.Count.{Count}
use Rattle.ut_text.specs.declared.wc.Wc.{Wc}
use Rattle.ut_text.specs.Counts.{count, sum}
use Rattle.ut_filter.specs.Statuses.{status_of}

-- a number, after a blank where something stands before it
abbrev pub put_number : Bool → ℕ → Text → Text
put_number wanted n line = if wanted then (if is_empty line then decimal n else (line ++ 32 ∷ []) ++ decimal n) else line

-- lines, words and bytes, as far as they are wanted
abbrev pub numbers : Wc → Count → Text
numbers wc c = put_number wc.bytes c.bytes (put_number wc.words c.words (put_number wc.lines c.lines []))

abbrev pub row : Wc → Count → Text → Text
row wc c name = if wc.named then numbers wc c ++ 32 ∷ name ++ 10 ∷ [] else numbers wc c ++ 10 ∷ []

abbrev pub brought_row : Wc → Text → Result Text Errno → Text
brought_row wc operand (Ok bytes) = row wc (count bytes) operand
brought_row wc operand (Err errno) = []

abbrev pub row_of : Wc → Input → Text
row_of wc input = brought_row wc input.operand input.brought

abbrev pub plus_brought : Count → Result Text Errno → Count
plus_brought total (Ok bytes) = sum total (count bytes)
plus_brought total (Err errno) = total

abbrev pub plus_input : Count → Input → Count
plus_input total input = plus_brought total input.brought

abbrev pub rows : Wc → List Input → Text
rows wc [] = []
rows wc (input ∷ inputs) = row_of wc input ++ rows wc inputs

abbrev pub totalled : Count → List Input → Count
totalled total [] = total
totalled total (input ∷ inputs) = totalled (plus_input total input) inputs

abbrev pub none : Count
none = record { lines = 0; words = 0; bytes = 0 }

abbrev pub with_total : Wc → Count → Text → Text
with_total wc total output = if wc.many then output ++ row wc total (codes "total") else output

-- a row for each input that was read, a line for each that was refused
abbrev pub wc_makes : Wc → List Input → Made
wc_makes wc inputs =
    record {
      output = with_total wc (totalled none inputs) (rows wc inputs);
      errors = refusals (codes "wc") inputs;
      status = status_of 1 (refusals (codes "wc") inputs);
    }

abbrev pub wc_job : Wc → Job
wc_job wc = record { name = codes "wc"; failed = 1; out = None; makes = wc_makes wc }
