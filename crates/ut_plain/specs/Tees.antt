-- What `tee` says.
use Rattle.std.specs.Prelude.{ℕ, ◌+◌, List, [], ◌∷◌, ◌++◌, codes, Result, Ok, Err, Bool, if◌then◌else◌}
use Rattle.rk_base.specs.Text.{Text}
use Rattle.rk_base.specs.Canonical.{is_empty}
use Rattle.rk_base.specs.Errno.{word}
use Rattle.rk_base.specs.declared.errno.Errno.{Errno}
use Rattle.rk_calls.specs.declared.call.How.{How}
use Rattle.rk_calls.specs.declared.call.How.TheVariants.{Make, Append}
use Rattle.rk_calls.specs.declared.call.Call.TheVariants.{Open, Read, Write}
use Rattle.rk_calls.specs.Brought.{brought}
use Rattle.rk_calls.specs.Lines.{error_line}
use Rattle.rk_calls.specs.Places.{absolute}
use Rattle.rk_calls.specs.Talk.{Says, ask}
use Rattle.rk_calls.specs.Turns.{turns}
use Rattle.ut_filter.specs.Filters.{dash, tells}
use Rattle.ut_filter.specs.Statuses.{status_of}
use Rattle.ut_plain.specs.declared.target.Target.{Target}

-- one line more of error text, for a place that refused
abbrev pub refused : Text → Text → Errno → Text
refused errors place errno = errors ++ error_line (codes "tee") place (word errno)

abbrev pub with_refusal : Text → Text → Result Text Errno → Text
with_refusal errors place (Ok bytes) = errors
with_refusal errors place (Err errno) = refused errors place errno

-- the error text, where there is any, and a status that tells so
abbrev pub ends : Text → Says
ends errors = tells errors (status_of 1 errors)

-- the text goes to each of these, whether one before refuses it or not
abbrev pub writes_all : Text → List Target → Text → Says
writes_all text [] errors = ends errors
writes_all text (target ∷ more) errors = ask (Write target.number text) (1 + turns text) (λ a. writes_all text more (with_refusal errors target.place (brought a)))

abbrev pub output : Target
output = record { place = codes "output"; number = 1 }

-- once the standard input was read: its text goes to the standard output and then to each file
abbrev pub input_read : List Target → Text → Result Text Errno → Says
input_read targets errors (Ok text) = if is_empty text then ends errors else writes_all text (output ∷ targets) errors
input_read targets errors (Err errno) = ends (refused errors dash errno)

-- once a file was opened: it has the next number
abbrev pub opened : (List Target → Text → ℕ → Says) → Text → List Target → Text → ℕ → Result Text Errno → Says
opened on file targets errors next (Ok bytes) = on (targets ++ (record { place = file; number = next }) ∷ []) errors (next + 1)
opened on file targets errors next (Err errno) = on targets (refused errors file errno) next

-- opens each file, and then reads the standard input
abbrev pub opens : Text → How → List Text → List Target → Text → ℕ → Says
opens wd how [] targets errors next = ask (Read 0) 1 (λ a. input_read targets errors (brought a))
opens wd how (file ∷ files) targets errors next = ask (Open (absolute wd file) how) 1 (λ a. opened (opens wd how files) file targets errors next (brought a))

-- with `-a` the files are written at their ends
abbrev pub how_of : Bool → How
how_of appends = if appends then Append else Make

abbrev pub tees : Text → Bool → List Text → Says
tees wd appends files = opens wd (how_of appends) files [] [] 10
