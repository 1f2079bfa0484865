-- What `tail` makes.
use Rattle.std.specs.Prelude.{ℕ, ◌-◌, List, None, length, drop, codes, if◌then◌else◌}
use Rattle.rk_base.specs.Text.{Text}
use Rattle.ut_filter.specs.declared.made.Input.{Input}
use Rattle.ut_filter.specs.declared.made.Made.{Made}
use Rattle.ut_filter.specs.Filters.{Job}
use Rattle.ut_filter.specs.Lines.{lines_of}
use Rattle.ut_filter.specs.Parts.{joined}
use Rattle.ut_filter.specs.Refusals.{refusals}
use Rattle.ut_filter.specs.Statuses.{status_of}
use Rattle.ut_text.specs.declared.tail.Tail.{Tail}
use Rattle.ut_text.specs.Heads.{first_lines}

-- what stands after so many lines
abbrev pub after_lines : ℕ → Text → Text
after_lines n text = drop (length (first_lines n text)) text

-- from a line on, where the first has the number 1 and 0 counts as 1, or the last lines; as they are
abbrev pub tail_text : Tail → Text → Text
tail_text t text = if t.from_front then after_lines (t.number - 1) text else after_lines (length (lines_of text) - t.number) text

abbrev pub tail_makes : Tail → List Input → Made
tail_makes t inputs =
    record {
      output = tail_text t (joined inputs);
      errors = refusals (codes "tail") inputs;
      status = status_of 1 (refusals (codes "tail") inputs);
    }

abbrev pub tail_job : Tail → Job
tail_job t = record { name = codes "tail"; failed = 1; out = None; makes = tail_makes t }
