-- The lines of what ran, and why.
use Rattle.std.specs.Prelude.{ℕ, List, [], ◌++◌, length, if◌then◌else◌}
use Rattle.std.specs.List.{flat_map}
use Rattle.rk_base.specs.Text.{Text}
use Rattle.rk_show.specs.Ran.{ran_line, launched_line}
use Rattle.rk_show.specs.declared.ran.Why.{Why}
use Rattle.rk_show.specs.declared.ran.Why.TheVariants as why
use Rattle.tr_matching.specs.declared.cause.Cause.{Cause}
use Rattle.tr_matching.specs.declared.cause.Cause.TheVariants.{NoRecord, Differs}
use Rattle.rk_replay.specs.declared.ran.Ran.{Ran}
use Rattle.rk_request.specs.Asked.{explains}
use Rattle.rk_request.specs.declared.requests.Request.{Request}

-- why a command ran, as its line tells
abbrev pub why_of : Cause → Why
why_of NoRecord = why.NoRecord
why_of (Differs step recorded seen) = why.Differs step

-- the line of a command that ran
abbrev pub line_of_ran : Ran → Text
line_of_ran ran = ran_line ran.key ran.ordinal (why_of ran.cause)

-- a line for each command that ran, in launch order, and last how many were launched and how many of them ran
abbrev pub explained : List Ran → ℕ → Text
explained ran launched = flat_map line_of_ran ran ++ launched_line launched (length ran)

-- these lines where they are asked for, and else nothing
abbrev pub explanation : Request → List Ran → ℕ → Text
explanation request ran launched = if explains request then explained ran launched else []
