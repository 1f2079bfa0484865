-- What a filter says.
use Rattle.std.specs.Prelude.{ℕ, ◌+◌, List, [], ◌∷◌, ◌++◌, codes, Option, Some, None, Result, Ok, Err, if◌then◌else◌}
use Rattle.rk_base.specs.Text.{Text, same_text}
use Rattle.rk_base.specs.Canonical.{is_empty}
use Rattle.rk_base.specs.Errno.{word}
use Rattle.rk_base.specs.declared.errno.Errno.{Errno}
use Rattle.rk_calls.specs.declared.call.How.TheVariants.{Read as ForReading, Make}
use Rattle.rk_calls.specs.declared.call.Call.TheVariants.{Open, Read, Write}
use Rattle.rk_calls.specs.Brought.{brought}
use Rattle.rk_calls.specs.Lines.{error_line}
use Rattle.rk_calls.specs.Places.{absolute}
use Rattle.rk_calls.specs.Talk.{Says, ask, exits}
use Rattle.rk_calls.specs.Turns.{turns}
use Rattle.ut_filter.specs.declared.made.Input.{Input}
use Rattle.ut_filter.specs.declared.made.Made.{Made}

-- the standard input, as an operand
abbrev pub dash : Text
dash = 45 ∷ []

-- A filter: its name, its status where its output is refused, the file that its output goes to where that isn't the
-- standard output, and what it makes of its inputs, which all that is told of it ranges over.
pub record Job : Type 0 where
  pub name : Text
  pub failed : ℕ
  pub out : Option Text
  pub makes : List Input → Made

-- the inputs so far, and the number of the next file that is opened
pub record Seen : Type 0 where
  pub inputs : List Input
  pub next : ℕ

-- nothing yet, where the next file that is opened has this number
abbrev pub nothing_from : ℕ → Seen
nothing_from next = record { inputs = []; next = next }

-- an input was read, or not
abbrev pub added : Text → Seen → Result Text Errno → Seen
added operand seen r = record seen { inputs = seen.inputs ++ (record { operand = operand; brought = r }) ∷ [] }

-- asks for the text on 2, and exits whether that is refused or not
abbrev pub complains : Text → ℕ → Says
complains text status = ask (Write 2 text) (1 + turns text) (λ a. exits status 0)

-- the error text, where there is any
abbrev pub tells : Text → ℕ → Says
tells errors status = if is_empty errors then exits status 0 else complains errors status

-- the error text with a line more, for a place that refused the output
abbrev pub refused : Job → Text → Text → Errno → Says
refused job place errors errno = tells (errors ++ error_line job.name place (word errno)) job.failed

-- after the output was written to a place, or not
abbrev pub told : Job → Text → Text → ℕ → Result Text Errno → Says
told job place errors status (Ok bytes) = tells errors status
told job place errors status (Err errno) = refused job place errors errno

-- the output, where there is any, to a place that a number stands for, and then the error text
abbrev pub puts : Job → Text → ℕ → Made → Says
puts job place number made =
    if is_empty made.output
    then tells made.errors made.status
    else ask (Write number made.output) (1 + turns made.output) (λ a. told job place made.errors made.status (brought a))

-- the output to a place that a number stands for, which is paid for, and then the error text
abbrev pub puts_paid : Job → Text → ℕ → Made → Says
puts_paid job place number made = ask (Write number made.output) 1 (λ a. told job place made.errors made.status (brought a))

-- once the output's file was opened, or not
abbrev pub emptied : Job → Text → ℕ → Made → Result Text Errno → Says
emptied job file number made (Ok bytes) = puts job file number made
emptied job file number made (Err errno) = refused job file made.errors errno

-- what was made goes to the standard output, or to a file that is opened after all was read
abbrev pub writes : Job → Text → ℕ → Made → Option Text → Says
writes job wd next made None = puts job (codes "output") 1 made
writes job wd next made (Some file) = ask (Open (absolute wd file) Make) 1 (λ a. emptied job file next made (brought a))

-- once a file was opened: it has the next number
abbrev pub opened : Text → (Seen → Says) → Seen → Result Text Errno → Says
opened operand on seen (Err errno) = on (added operand seen (Err errno))
opened operand on seen (Ok bytes) = ask (Read seen.next) 1 (λ a. on (added operand (record seen { next = seen.next + 1 }) (brought a)))

-- one input, and how it goes on
abbrev pub reads : Text → Text → (Seen → Says) → Seen → Says
reads wd operand on seen =
    if same_text operand dash
    then ask (Read 0) 1 (λ a. on (added operand seen (brought a)))
    else ask (Open (absolute wd operand) ForReading) 1 (λ a. opened operand on seen (brought a))

-- the inputs, one after another
abbrev pub reads_all : Job → Text → List Text → Seen → Says
reads_all job wd [] seen = writes job wd seen.next (job.makes seen.inputs) job.out
reads_all job wd (operand ∷ more) seen = reads wd operand (reads_all job wd more) seen

-- the standard input where there is no operand
abbrev pub or_dash : List Text → List Text
or_dash [] = dash ∷ []
or_dash (operand ∷ more) = operand ∷ more

-- a filter of these inputs, in a working directory; the next file that it opens has this number
unfoldable pub filters_from : ℕ → Job → Text → List Text → Says
filters_from next job wd inputs = reads_all job wd inputs (nothing_from next)

-- the same where no file was opened before
abbrev pub filters : Job → Text → List Text → Says
filters = filters_from 10
