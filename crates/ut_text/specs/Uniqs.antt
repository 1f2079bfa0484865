-- What `uniq` makes.
use Rattle.std.specs.Prelude.{ℕ, ◌+◌, List, [], ◌∷◌, ◌++◌, codes, Option, Result, Ok, Err, Bool, ◌==◌, ◌&&◌, ◌||◌, not, if◌then◌else◌}
use Rattle.std.specs.Fmt.{decimal}
use Rattle.rk_base.specs.Text.{Text, same_text}
use Rattle.ut_filter.specs.declared.made.Input.{Input}
use Rattle.ut_filter.specs.declared.made.Made.{Made}
use Rattle.ut_filter.specs.Filters.{Job}
use Rattle.ut_filter.specs.Lines.{lines_of}
use Rattle.ut_filter.specs.Parts.{joined}
use Rattle.ut_filter.specs.Refusals.{refusals}
use Rattle.ut_filter.specs.Statuses.{status_of}
use Rattle.ut_text.specs.declared.uniq.Uniq.{Uniq}

-- Whether a run of so many equal lines is shown: `-d` leaves out the lines that stand once, `-u` those that stand
-- more often.
abbrev pub is_shown : Uniq → ℕ → Bool
is_shown u count = not (u.repeated && count == 1) && (not u.single || count == 1)

-- the count of a run, and a blank
abbrev pub counted : Uniq → ℕ → Text
counted u count = if u.counted then decimal count ++ 32 ∷ [] else []

abbrev pub row : Uniq → Text → ℕ → Text
row u line count = if is_shown u count then counted u count ++ line ++ 10 ∷ [] else []

-- the rows of lines, of which so many equal ones stand before them
abbrev pub rows_from : Uniq → Text → ℕ → List Text → Text
rows_from u line count [] = row u line count
rows_from u line count (next ∷ more) =
    if same_text next line then rows_from u line (count + 1) more else row u line count ++ rows_from u next 1 more

-- a row for each run of equal lines
abbrev pub rows : Uniq → List Text → Text
rows u [] = []
rows u (line ∷ more) = rows_from u line 1 more

abbrev pub uniq_makes : Uniq → List Input → Made
uniq_makes u inputs =
    record {
      output = rows u (lines_of (joined inputs));
      errors = refusals (codes "uniq") inputs;
      status = status_of 1 (refusals (codes "uniq") inputs);
    }

abbrev pub uniq_job : Uniq → Job
uniq_job u = record { name = codes "uniq"; failed = 1; out = u.out; makes = uniq_makes u }
