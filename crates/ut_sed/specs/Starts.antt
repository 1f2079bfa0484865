-- What `sed` says by its words, of which the first is the name.
use Rattle.std.specs.Prelude.{ℕ, ◌+◌, List, [], ◌∷◌, ◌++◌, codes, Option, Some, None, Result, Ok, Err, Bool, ◌==◌, if◌then◌else◌}
use Rattle.rk_base.specs.Text.{Text, same_text}
use Rattle.rk_base.specs.Errno.{word}
use Rattle.rk_base.specs.declared.errno.Errno.{Errno}
use Rattle.rk_calls.specs.declared.call.How.TheVariants.{Read as ForReading}
use Rattle.rk_calls.specs.declared.call.Call.TheVariants.{Open, Read}
use Rattle.rk_calls.specs.Brought.{brought}
use Rattle.rk_calls.specs.Lines.{error_line}
use Rattle.rk_calls.specs.Places.{absolute}
use Rattle.rk_calls.specs.Talk.{Says, ask}
use Rattle.ut_args.specs.declared.form.Form.TheVariants as forms
use Rattle.ut_args.specs.declared.form.Opt.{Opt}
use Rattle.ut_args.specs.declared.opts.Given.{Given}
use Rattle.ut_args.specs.Opts.{ArgsValue, gives}
use Rattle.ut_args.specs.Tables.{alone, taking}
use Rattle.ut_args.specs.Usage.{begins, misuses, complains}
use Rattle.ut_args.specs.Words.{options}
use Rattle.ut_filter.specs.Filters.{filters_from, dash, or_dash}
use Rattle.ut_sed.specs.declared.gatherer.Source.{Source}
use Rattle.ut_sed.specs.declared.gatherer.Source.TheVariants.{Script, File}
use Rattle.ut_sed.specs.Commands.{CommandValue}
use Rattle.ut_sed.specs.Editing.{sed_job}
use Rattle.ut_sed.specs.Scripts.{script_after}

-- with its commands; it opened files before, and the next one has this number
abbrev pub edits : Text → Bool → List Text → List CommandValue → ℕ → Says
edits wd quiet operands commands next = filters_from next (sed_job (record { quiet = quiet; commands = commands })) wd (or_dash operands)

-- `sed: S: not valid`, where S is the script, or the file that holds it
abbrev pub is_not_valid : Text → Says
is_not_valid s = complains (error_line (codes "sed") s (codes "not valid")) 1

-- behind a script, whose commands these are with those before it
abbrev pub goes_on_by : Text → Option (List CommandValue) → (List CommandValue → Says) → Says
goes_on_by s None on = is_not_valid s
goes_on_by s (Some commands) on = on commands

-- once a file of a script was read: after a refused one nothing else is asked
abbrev pub script_read : Text → List CommandValue → (List CommandValue → Says) → Result Text Errno → Says
script_read file commands on (Ok text) = goes_on_by file (script_after commands text) on
script_read file commands on (Err errno) = complains (error_line (codes "sed") file (word errno)) 1

-- once it was opened: it has the next number
abbrev pub script_opened : Text → List CommandValue → ℕ → (List CommandValue → ℕ → Says) → Result Text Errno → Says
script_opened file commands next on (Ok bytes) = ask (Read next) 1 (λ a. script_read file commands (λ cs. on cs (next + 1)) (brought a))
script_opened file commands next on (Err errno) = complains (error_line (codes "sed") file (word errno)) 1

-- the file of a script, of which `-` is the standard input
abbrev pub reads_script : Text → Text → List CommandValue → ℕ → (List CommandValue → ℕ → Says) → Says
reads_script wd file commands next on =
    if same_text file dash
    then ask (Read 0) 1 (λ a. script_read file commands (λ cs. on cs next) (brought a))
    else ask (Open (absolute wd file) ForReading) 1 (λ a. script_opened file commands next on (brought a))

-- the scripts, one after another, and then the inputs
abbrev pub gathers : Text → Bool → List Text → List Source → List CommandValue → ℕ → Says
gathers wd quiet operands [] commands next = edits wd quiet operands commands next
gathers wd quiet operands (Script s ∷ sources) commands next = goes_on_by s (script_after commands s) (λ cs. gathers wd quiet operands sources cs next)
gathers wd quiet operands (File file ∷ sources) commands next = reads_script wd file commands next (gathers wd quiet operands sources)

-- the script of `-e`, or the file of `-f`
abbrev pub argued_source : ℕ → Option Text → List Source
argued_source letter None = []
argued_source letter (Some text) = if letter == 102 then File text ∷ [] else Script text ∷ []

abbrev pub source_of : Given → List Source
source_of g = argued_source g.letter g.argument

abbrev pub sources_of : List Given → List Source
sources_of [] = []
sources_of (g ∷ gs) = source_of g ++ sources_of gs

-- where there is no such option the first operand is the script
abbrev pub sed_first : Text → Bool → List Text → Says
sed_first wd quiet [] = misuses (codes "sed") 1
sed_first wd quiet (s ∷ operands) = gathers wd quiet operands (Script s ∷ []) [] 10

abbrev pub sed_with : Text → Bool → List Text → List Source → Says
sed_with wd quiet operands [] = sed_first wd quiet operands
sed_with wd quiet operands (source ∷ sources) = gathers wd quiet operands (source ∷ sources) [] 10

abbrev pub sed_by : Text → ArgsValue → Says
sed_by wd args = sed_with wd (gives args (codes "n")) args.operands (sources_of args.given)

-- its options
abbrev pub sed_options : List Opt
sed_options = alone (codes "n") ++ taking forms.Text (codes "ef")

-- `sed [-n] [-e SCRIPT].. [-f FILE].. [SCRIPT] [FILE..]`
abbrev pub seds : Text → List Text → Says
seds wd argv = begins (codes "sed") 1 (options sed_options argv) (sed_by wd)

-- `sed`, where it has this name
abbrev pub named : Text → Text → List Text → Option Says
named name wd argv = if same_text name (codes "sed") then Some (seds wd argv) else None

-- `sed` by some words in a working directory
abbrev pub sed_utility : Text → List Text → Option Says
sed_utility wd [] = None
sed_utility wd (name ∷ words) = named name wd (name ∷ words)
