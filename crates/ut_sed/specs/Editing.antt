-- What `sed` makes of lines: the commands of its script once for each line (XCU sed).
use Rattle.std.specs.Prelude.{ℕ, ◌+◌, List, [], ◌∷◌, ◌++◌, map, codes, Bool, true, false, ◌&&◌, None, if◌then◌else◌}
use Rattle.std.specs.Fmt.{decimal}
use Rattle.rk_base.specs.Canonical.{is_empty}
use Rattle.rk_base.specs.Text.{Text}
use Rattle.ut_filter.specs.declared.made.Input.{Input}
use Rattle.ut_filter.specs.declared.made.Made.{Made}
use Rattle.ut_filter.specs.Filters.{Job}
use Rattle.ut_filter.specs.Parts.{all_lines}
use Rattle.ut_filter.specs.Refusals.{refusals}
use Rattle.ut_filter.specs.Statuses.{status_of}
use Rattle.ut_sed.specs.declared.edit.Ends.{Ends}
use Rattle.ut_sed.specs.declared.edit.Ends.TheVariants.{Next, Deleted, Quit}
use Rattle.ut_sed.specs.declared.sed.Sed.{Sed}
use Rattle.ut_sed.specs.declared.select.Selected.{Selected}
use Rattle.ut_sed.specs.Commands.{ActValue, prints, deletes, quits, counts, changes, substitutes, SubstitutionValue, CommandValue, commands_of}
use Rattle.ut_sed.specs.Selecting.{selected}
use Rattle.ut_sed.specs.Changing.{changed}
use Rattle.ut_sed.specs.Substituting.{substituted, is_substituted}

-- `sed`: whether lines are shown only where a command says so (`-n`), and its commands
pub record SedValue : Type 0 where
  pub quiet : Bool
  pub commands : List CommandValue

-- a line and its newline
abbrev pub line_of : Text → Text
line_of text = text ++ 10 ∷ []

-- What one command makes of the pattern space: its text, what is written at once, and how the cycle goes on.
pub record Edited : Type 0 where
  pub text : Text
  pub out : Text
  pub ends : Ends

abbrev pub untouched : Text → Edited
untouched text = record { text = text; out = []; ends = Next }

abbrev pub substitution : SubstitutionValue → Text → Edited
substitution s text = record { text = substituted s text; out = if s.prints && is_substituted s text then line_of (substituted s text) else []; ends = Next }

abbrev pub edited : ActValue → ℕ → Text → Edited
edited prints n text = record { text = text; out = line_of text; ends = Next }
edited deletes n text = record { text = text; out = []; ends = Deleted }
edited quits n text = record { text = text; out = []; ends = Quit }
edited counts n text = record { text = text; out = line_of (decimal n); ends = Next }
edited (changes c) n text = record { text = changed c text; out = []; ends = Next }
edited (substitutes s) n text = substitution s text

-- where it selects the line
abbrev pub edited_by : CommandValue → Selected → ℕ → Text → Edited
edited_by c s n text = if s.selected then edited c.act n text else untouched text

-- A cycle: for each command whether its range is open behind this line, the pattern space, what was written, and how
-- the cycle ended.
pub record Cycle : Type 0 where
  pub opened : List Bool
  pub text : Text
  pub out : Text
  pub ends : Ends

-- whether the range of the first command is open, and those of the others
abbrev pub first_opened : List Bool → Bool
first_opened [] = false
first_opened (opened ∷ more) = opened

abbrev pub rest_opened : List Bool → List Bool
rest_opened [] = []
rest_opened (opened ∷ more) = more

abbrev pub is_over : Ends → Bool
is_over Next = false
is_over Deleted = true
is_over Quit = true

abbrev pub is_quit : Ends → Bool
is_quit Next = false
is_quit Deleted = false
is_quit Quit = true

-- `d` and `q` end the cycle: the ranges of the commands behind them stay as they are
abbrev pub goes_on : Edited → List Bool → (Text → Cycle) → Cycle
goes_on e opened on = if is_over e.ends then record { opened = opened; text = e.text; out = []; ends = e.ends } else on e.text

-- behind a command, whose range is open or not
abbrev pub behind : Bool → Text → Cycle → Cycle
behind opened out c = record { opened = opened ∷ c.opened; text = c.text; out = out ++ c.out; ends = c.ends }

-- the commands, one after another, on the line of this number
abbrev pub cycle : List CommandValue → List Bool → ℕ → Bool → Text → Cycle
cycle [] opened n is_last text = record { opened = opened; text = text; out = []; ends = Next }
cycle (c ∷ cs) opened n is_last text =
    let s = selected c (first_opened opened) n is_last text in
    let e = edited_by c s n text in
    behind s.opened e.out (goes_on e (rest_opened opened) (cycle cs (rest_opened opened) n is_last))

-- at a cycle's end the pattern space is written, but with `-n` or after `d`
abbrev pub shown : Bool → Ends → Text → Text
shown true ends text = []
shown false Next text = line_of text
shown false Deleted text = []
shown false Quit text = line_of text

-- the lines, of which the first has this number; `q` ends them
abbrev pub edited_lines : SedValue → List Bool → ℕ → List Text → Text
edited_lines s opened n [] = []
edited_lines s opened n (line ∷ lines) =
    let c = cycle s.commands opened n (is_empty lines) line in
    (c.out ++ shown s.quiet c.ends c.text) ++ (if is_quit c.ends then [] else edited_lines s c.opened (n + 1) lines)

-- no range is open before the first line
abbrev pub none_opened : List CommandValue → List Bool
none_opened = map (λ c. false)

-- this output, and a line for each input that was refused
abbrev pub made_of : List Input → Text → Made
made_of inputs output =
    record {
      output = output;
      errors = refusals (codes "sed") inputs;
      status = status_of 1 (refusals (codes "sed") inputs);
    }

-- the inputs are one stream of lines
abbrev pub sed_makes : SedValue → List Input → Made
sed_makes s inputs = made_of inputs (edited_lines s (none_opened s.commands) 1 (all_lines inputs))

abbrev pub sed_job : SedValue → Job
sed_job s = record { name = codes "sed"; failed = 1; out = None; makes = sed_makes s }

-- What the code has.

abbrev pub sed_of : Sed → SedValue
sed_of s = record { quiet = s.quiet; commands = commands_of s.commands.items }

abbrev pub job_of : Sed → Job
job_of s = sed_job (sed_of s)
