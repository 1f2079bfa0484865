-- What `cat` makes.
use Rattle.std.specs.Prelude.{List, codes, None}
use Rattle.ut_filter.specs.declared.made.Input.{Input}
use Rattle.ut_filter.specs.declared.made.Made.{Made}
use Rattle.ut_filter.specs.Filters.{Job}
use Rattle.ut_filter.specs.Parts.{joined}
use Rattle.ut_filter.specs.Refusals.{refusals}
use Rattle.ut_filter.specs.Statuses.{status_of}

-- the inputs that were read, joined
abbrev pub cat_makes : List Input → Made
cat_makes inputs =
    record {
      output = joined inputs;
      errors = refusals (codes "cat") inputs;
      status = status_of 1 (refusals (codes "cat") inputs);
    }

abbrev pub cat_job : Job
cat_job = record { name = codes "cat"; failed = 1; out = None; makes = cat_makes }
