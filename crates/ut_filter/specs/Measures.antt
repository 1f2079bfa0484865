-- How long an output is, before it is made.
use Rattle.std.specs.Prelude.{◌≡◌, ◌≤◌, length}
use Rattle.ut_filter.specs.declared.made.Made.{Made}
use Rattle.ut_filter.specs.declared.made.Measured.{Measured}
use Rattle.ut_filter.specs.declared.made.Measured.TheVariants.{Short, Long}

-- it is what is made, or how long the output of that is, which isn't empty
abbrev pub Measures : Made → Measured → Type 0
Measures made (Short m) = m ≡ made
Measures made (Long n) = (n ≡ length made.output) × (1 ≤ n)
