-- What `grep` says by its words, of which the first is the name.
use Rattle.std.specs.Prelude.{ℕ, ◌+◌, List, [], ◌∷◌, ◌++◌, codes, length, Option, Some, None, Result, Ok, Err, ◌||◌, if◌then◌else◌}
use Rattle.rk_base.specs.Text.{Text, same_text}
use Rattle.rk_base.specs.Errno.{word}
use Rattle.rk_base.specs.declared.errno.Errno.{Errno}
use Rattle.rk_calls.specs.declared.call.How.TheVariants.{Read as ForReading}
use Rattle.rk_calls.specs.declared.call.Call.TheVariants.{Open, Read}
use Rattle.rk_calls.specs.Brought.{brought}
use Rattle.rk_calls.specs.Lines.{error_line}
use Rattle.rk_calls.specs.Places.{absolute}
use Rattle.rk_calls.specs.Talk.{Says, ask}
use Rattle.ut_args.specs.declared.form.Form.TheVariants as forms
use Rattle.ut_args.specs.declared.form.Opt.{Opt}
use Rattle.ut_args.specs.Opts.{ArgsValue, gives, arguments}
use Rattle.ut_args.specs.Tables.{alone, taking}
use Rattle.ut_args.specs.Usage.{begins, misuses, complains}
use Rattle.ut_args.specs.Words.{options}
use Rattle.ut_filter.specs.Filters.{filters_from, dash, or_dash}
use Rattle.ut_filter.specs.Lines.{lines_of}
use Rattle.ut_grep.specs.declared.grep.Manner.{Manner}
use Rattle.ut_grep.specs.Chosen.{manner_of, patterns_in, all_patterns, patterns_of, grep_of}
use Rattle.ut_grep.specs.Greps.{PatternValue, value_job}

-- with its patterns, or where a text is none; it opened files before, and the next one has this number
abbrev pub seeks_by : Text → Manner → List Text → ℕ → Result (List PatternValue) Text → Says
seeks_by wd m operands next (Ok patterns) = filters_from next (value_job (grep_of m patterns)) wd (or_dash operands)
seeks_by wd m operands next (Err text) = complains (error_line (codes "grep") text (codes "not valid")) 2

abbrev pub seeks : Text → Manner → List Text → List Text → ℕ → Says
seeks wd m operands texts next = seeks_by wd m operands next (patterns_of m texts)

-- once a file of patterns was read: after a refused one nothing else is asked
abbrev pub patterns_read : Text → List Text → (List Text → Says) → Result Text Errno → Says
patterns_read file patterns on (Ok text) = on (patterns ++ lines_of text)
patterns_read file patterns on (Err errno) = complains (error_line (codes "grep") file (word errno)) 2

-- once it was opened: it has the next number
abbrev pub patterns_opened : Text → List Text → ℕ → (List Text → ℕ → Says) → Result Text Errno → Says
patterns_opened file patterns next on (Ok bytes) = ask (Read next) 1 (λ a. patterns_read file patterns (λ ps. on ps (next + 1)) (brought a))
patterns_opened file patterns next on (Err errno) = complains (error_line (codes "grep") file (word errno)) 2

-- one file of patterns, of which `-` is the standard input
abbrev pub reads_patterns : Text → Text → List Text → ℕ → (List Text → ℕ → Says) → Says
reads_patterns wd file patterns next on =
    if same_text file dash
    then ask (Read 0) 1 (λ a. patterns_read file patterns (λ ps. on ps next) (brought a))
    else ask (Open (absolute wd file) ForReading) 1 (λ a. patterns_opened file patterns next on (brought a))

-- the files of patterns, and then the inputs
abbrev pub gathers : Text → Manner → List Text → List Text → List Text → ℕ → Says
gathers wd m operands [] patterns next = seeks wd m operands patterns next
gathers wd m operands (file ∷ files) patterns next = reads_patterns wd file patterns next (gathers wd m operands files)

-- the patterns are those of `-e`, and of the files of `-f`
abbrev pub grep_given : Text → ArgsValue → Says
grep_given wd args = gathers wd (manner_of args (length args.operands)) args.operands (arguments args (codes "f")) (all_patterns (arguments args (codes "e"))) 10

-- or those of the first operand
abbrev pub grep_first : Text → ArgsValue → List Text → Says
grep_first wd args [] = misuses (codes "grep") 2
grep_first wd args (pattern ∷ operands) = gathers wd (manner_of args (length operands)) operands [] (patterns_in pattern) 10

abbrev pub grep_by : Text → ArgsValue → Says
grep_by wd args =
    if gives args (codes "e") || gives args (codes "f") then grep_given wd args else grep_first wd args args.operands

-- its options: each stands alone, but `-e P` and `-f F`
unfoldable pub grep_options : List Opt
grep_options = alone (codes "Fcilnqvx") ++ taking forms.Text (codes "ef")

-- `grep [-F] [-c] [-i] [-l] [-n] [-q] [-v] [-x] [-e P] [-f F] [P] [FILE..]`
abbrev pub greps : Text → List Text → Says
greps wd argv = begins (codes "grep") 2 (options grep_options argv) (grep_by wd)

-- `grep`, where it has this name
abbrev pub named : Text → Text → List Text → Option Says
named name wd argv = if same_text name (codes "grep") then Some (greps wd argv) else None

-- `grep` by some words in a working directory
abbrev pub grep_utility : Text → List Text → Option Says
grep_utility wd [] = None
grep_utility wd (name ∷ words) = named name wd (name ∷ words)
