-- What holds of every filter, whatever it makes of its inputs.
use Rattle.std.specs.Prelude.{ℕ, ◌+◌, List, [], ◌∷◌, ◌++◌, codes, Option, Some, None, Result, Ok, Err}
use Rattle.rk_base.specs.Text.{Text, same_text}
use Rattle.rk_base.specs.Canonical.{is_empty}
use Rattle.rk_base.specs.Errno.{word}
use Rattle.rk_base.specs.declared.errno.Errno.{Errno}
use Rattle.rk_calls.specs.declared.call.How.TheVariants.{Read as ForReading, Make}
use Rattle.rk_calls.specs.declared.call.Call.TheVariants.{Open, Read, Write}
use Rattle.rk_calls.specs.Brought.{brought}
use Rattle.rk_calls.specs.Lines.{error_line}
use Rattle.rk_calls.specs.Places.{absolute}
use Rattle.rk_calls.specs.Talk.{Says}
use Rattle.rk_calls.specs.Turns.{turns}
use Rattle.rk_calls.specs.Views.{IsCommandTalk, talk-exits, talk-ask, talk-if}
use Rattle.ut_filter.specs.declared.made.Made.{Made}
use Rattle.ut_filter.specs.Filters.{Job, Seen, added, complains, tells, told, puts, emptied, writes, opened, reads, reads_all, nothing_from, dash, filters, filters_from}

pub talk-complains : (text : Text) (status : ℕ) → IsCommandTalk (complains text status)
talk-complains text status = talk-ask (Write 2 text) (1 + turns text) _ tt (λ a. talk-exits status 0)

talk-tells : (errors : Text) (status : ℕ) → IsCommandTalk (tells errors status)
talk-tells errors status = talk-if (is_empty errors) _ _ (talk-exits status 0) (talk-complains errors status)

talk-told : (job : Job) (place errors : Text) (status : ℕ) (r : Result Text Errno) → IsCommandTalk (told job place errors status r)
talk-told job place errors status (Ok bytes) = talk-tells errors status
talk-told job place errors status (Err errno) = talk-tells (errors ++ error_line job.name place (word errno)) job.failed

talk-puts : (job : Job) (place : Text) (number : ℕ) (made : Made) → IsCommandTalk (puts job place number made)
talk-puts job place number made =
    talk-if (is_empty made.output) _ _ (talk-tells made.errors made.status)
    (talk-ask (Write number made.output) (1 + turns made.output) _ tt (λ a. talk-told job place made.errors made.status (brought a)))

talk-emptied : (job : Job) (file : Text) (number : ℕ) (made : Made) (r : Result Text Errno) → IsCommandTalk (emptied job file number made r)
talk-emptied job file number made (Ok bytes) = talk-puts job file number made
talk-emptied job file number made (Err errno) = talk-tells (made.errors ++ error_line job.name file (word errno)) job.failed

talk-writes : (job : Job) (wd : Text) (next : ℕ) (made : Made) (out : Option Text) → IsCommandTalk (writes job wd next made out)
talk-writes job wd next made None = talk-puts job (codes "output") 1 made
talk-writes job wd next made (Some file) = talk-ask (Open (absolute wd file) Make) 1 _ tt (λ a. talk-emptied job file next made (brought a))

module _ (on : Seen → Says) (goes : (s : Seen) → IsCommandTalk (on s)) where
  talk-opened : (operand : Text) (seen : Seen) (r : Result Text Errno) → IsCommandTalk (opened operand on seen r)
  talk-opened operand seen (Err errno) = goes (added operand seen (Err errno))
  talk-opened operand seen (Ok bytes) = talk-ask (Read seen.next) 1 _ tt (λ a. goes (added operand (record seen { next = seen.next + 1 }) (brought a)))

  talk-reads : (wd operand : Text) (seen : Seen) → IsCommandTalk (reads wd operand on seen)
  talk-reads wd operand seen =
      talk-if (same_text operand dash) _ _ (talk-ask (Read 0) 1 _ tt (λ a. goes (added operand seen (brought a))))
      (talk-ask (Open (absolute wd operand) ForReading) 1 _ tt (λ a. talk-opened operand seen (brought a)))

talk-reads_all : (job : Job) (wd : Text) (operands : List Text) (seen : Seen) → IsCommandTalk (reads_all job wd operands seen)
talk-reads_all job wd [] seen = talk-writes job wd seen.next (job.makes seen.inputs) job.out
talk-reads_all job wd (operand ∷ more) seen = talk-reads (reads_all job wd more) (talk-reads_all job wd more) wd operand seen

pub talk-filters_from : (next : ℕ) (job : Job) (wd : Text) (inputs : List Text) → IsCommandTalk (filters_from next job wd inputs)
unfolding filters_from
talk-filters_from next job wd inputs = talk-reads_all job wd inputs (nothing_from next)

pub talk-filters : (job : Job) (wd : Text) (inputs : List Text) → IsCommandTalk (filters job wd inputs)
talk-filters = talk-filters_from 10

-- Whatever a filter makes of its inputs, fewer turns only cut what it says, and its calls are proper.
abbrev pub EachIsCommandTalk : Type 0
EachIsCommandTalk = (job : Job) (wd : Text) (inputs : List Text) → IsCommandTalk (filters job wd inputs)
