-- What `cut` makes.
use Rattle.std.specs.Prelude.{ℕ, ◌+◌, List, [], ◌∷◌, ◌++◌, map, codes, Option, Some, None, Bool, true, nat_le, ◌==◌, ◌&&◌, if◌then◌else◌}
use Rattle.std.specs.List.{list_any, before_first, after_first}
use Rattle.rk_base.specs.Text.{Text}
use Rattle.rk_base.specs.Canonical.{is_empty}
use Rattle.ut_args.specs.Numbers.{number}
use Rattle.ut_filter.specs.declared.made.Input.{Input}
use Rattle.ut_filter.specs.declared.made.Made.{Made}
use Rattle.ut_filter.specs.Filters.{Job}
use Rattle.ut_filter.specs.Lines.{lines_of}
use Rattle.ut_filter.specs.Parts.{part_of}
use Rattle.ut_filter.specs.Refusals.{refusals}
use Rattle.ut_filter.specs.Statuses.{status_of}
use Rattle.ut_select.specs.declared.ranges.Range.{Range}
use Rattle.ut_select.specs.Fields.{fields, joined}

-- each line and a newline
abbrev pub text_of : List Text → Text
text_of [] = []
text_of (line ∷ more) = line ++ 10 ∷ text_of more

abbrev pub is_dash : ℕ → Bool
is_dash b = b == 45

-- up to the end, where `N-` leaves it open; `N` alone ends at itself
abbrev pub end_of : Text → Option ℕ
end_of text =
    if list_any is_dash text
    then (if is_empty (after_first is_dash text) then None else Some (number (after_first is_dash text)))
    else Some (number text)

-- `N`, `N-`, `N-M` or `-M`
abbrev pub range_of : Text → Range
range_of text = record { low = number (before_first is_dash text); high = end_of text }

-- ranges with commas between them
abbrev pub ranges_of : Text → List Range
ranges_of text = map range_of (fields 44 text)

abbrev pub ends_after : ℕ → Option ℕ → Bool
ends_after place None = true
ends_after place (Some high) = nat_le place high

abbrev pub is_in : ℕ → Range → Bool
is_in place range = nat_le range.low place && ends_after place range.high

-- whether a place is in one of the ranges
abbrev pub is_listed : List Range → ℕ → Bool
is_listed ranges place = list_any (is_in place) ranges

-- What stands at the places that are listed, of which the first has this number: each once, in its order.
abbrev pub listed : {A : Type 0} → List Range → ℕ → List A → List A
listed ranges place [] = []
listed ranges place (x ∷ xs) = if is_listed ranges place then x ∷ listed ranges (place + 1) xs else listed ranges (place + 1) xs

-- how `cut` selects: bytes, or fields, which this byte ends, of all lines or only of those that have it
pub record CutValue : Type 0 where
  pub ranges : List Range
  pub fields : Bool
  pub delimiter : ℕ
  pub only : Bool

abbrev pub is_at : ℕ → ℕ → Bool
is_at at b = b == at

abbrev pub whole_line : CutValue → Text → List Text
whole_line c line = if c.only then [] else line ∷ []

-- the lines that come from a line: one, or with `-s` none where it has no delimiter
abbrev pub cut_line : CutValue → Text → List Text
cut_line c line =
    if c.fields
    then (if list_any (is_at c.delimiter) line then joined c.delimiter (listed c.ranges 1 (fields c.delimiter line)) ∷ [] else whole_line c line)
    else listed c.ranges 1 line ∷ []

-- what comes from lines
abbrev pub cut_text : CutValue → List Text → Text
cut_text c [] = []
cut_text c (line ∷ more) = text_of (cut_line c line) ++ cut_text c more

-- what comes from the lines of each input
abbrev pub cut_inputs : CutValue → List Input → Text
cut_inputs c [] = []
cut_inputs c (input ∷ inputs) = cut_text c (lines_of (part_of input)) ++ cut_inputs c inputs

abbrev pub cut_makes : CutValue → List Input → Made
cut_makes c inputs =
    record {
      output = cut_inputs c inputs;
      errors = refusals (codes "cut") inputs;
      status = status_of 1 (refusals (codes "cut") inputs);
    }

abbrev pub cut_job : CutValue → Job
cut_job c = record { name = codes "cut"; failed = 1; out = None; makes = cut_makes c }
