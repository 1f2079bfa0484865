-- What `sort` makes.
use Rattle.std.specs.Prelude.{List, [], ◌∷◌, ◌++◌, map, codes, Bool, if◌then◌else◌}
use Rattle.rk_base.specs.Text.{Text}
use Rattle.ut_filter.specs.declared.made.Input.{Input}
use Rattle.ut_filter.specs.declared.made.Made.{Made}
use Rattle.ut_filter.specs.Filters.{Job}
use Rattle.ut_filter.specs.Parts.{all_lines}
use Rattle.ut_filter.specs.Refusals.{refusals}
use Rattle.ut_filter.specs.Statuses.{status_of}
use Rattle.ut_sort.specs.declared.line.Line.{Line}
use Rattle.ut_sort.specs.Ordered.{ordered}
use Rattle.ut_sort.specs.Orders.{SortValue, LineValue, is_before, is_same}

-- each line and a newline
abbrev pub text_of : List Text → Text
text_of [] = []
text_of (line ∷ more) = line ++ 10 ∷ text_of more

-- lines that come after this one, without each that is the same as the line before it
abbrev pub unlike : (Text → Text → Bool) → Text → List Text → List Text
unlike is_same line [] = []
unlike is_same line (next ∷ more) = if is_same line next then unlike is_same line more else next ∷ unlike is_same next more

-- of lines beside each other that are the same only the first
abbrev pub distinct : (Text → Text → Bool) → List Text → List Text
distinct is_same [] = []
distinct is_same (line ∷ more) = line ∷ unlike is_same line more

abbrev pub in_order : SortValue → List Text → List Text
in_order s = ordered (is_before s)

-- with `-u` one line of equal keys, of lines that are in order
abbrev pub once : SortValue → List Text → List Text
once s lines = if s.unique then distinct (is_same s) lines else lines

abbrev pub chosen : SortValue → List Text → List Text
chosen s lines = once s (in_order s lines)

abbrev pub sort_makes : SortValue → List Input → Made
sort_makes s inputs =
    record {
      output = text_of (chosen s (all_lines inputs));
      errors = refusals (codes "sort") inputs;
      status = status_of 2 (refusals (codes "sort") inputs);
    }

abbrev pub sort_job : SortValue → Job
sort_job s = record { name = codes "sort"; failed = 2; out = s.out; makes = sort_makes s }

-- What the code has: lines that stand in other texts.

abbrev pub view : Line → LineValue
view line = record { text = line.text.now; key = line.key.now }

abbrev pub views : List Line → List LineValue
views lines = map view lines

abbrev pub texts : List Line → List Text
texts lines = map (λ (line : Line). line.text.now) lines
