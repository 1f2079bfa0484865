-- A command may say what `grep` says.
use Rattle.std.specs.Prelude.{ℕ, ◌+◌, List, [], ◌∷◌, ◌++◌, length, codes, Option, Some, IfSome, Result, Ok, Err, Bool, true, false, ◌||◌, if◌then◌else◌}
use Rattle.rk_base.specs.Text.{Text, same_text}
use Rattle.rk_base.specs.declared.errno.Errno.{Errno}
use Rattle.rk_calls.specs.declared.call.How.TheVariants.{Read as ForReading}
use Rattle.rk_calls.specs.declared.call.Call.TheVariants.{Open, Read}
use Rattle.rk_calls.specs.Brought.{brought}
use Rattle.rk_calls.specs.Places.{absolute}
use Rattle.rk_calls.specs.Talk.{Says}
use Rattle.rk_calls.specs.Views.{IsCommandTalk, talk-ask, talk-if}
use Rattle.ut_args.specs.Opts.{ArgsValue, gives, arguments}
use Rattle.ut_args.specs.Usage.{talk-begins, talk-complains}
use Rattle.ut_args.specs.Words.{options}
use Rattle.ut_filter.specs.Filters.{dash, or_dash}
use Rattle.ut_filter.specs.Laws.{talk-filters_from}
use Rattle.ut_filter.specs.Lines.{lines_of}
use Rattle.ut_grep.specs.declared.grep.Manner.{Manner}
use Rattle.ut_grep.specs.Chosen.{manner_of, patterns_in, all_patterns, patterns_of, grep_of}
use Rattle.ut_grep.specs.Greps.{PatternValue, value_job}
use Rattle.ut_grep.specs.Starts.{seeks_by, patterns_read, patterns_opened, reads_patterns, gathers, grep_given, grep_first, grep_by, grep_options, greps, grep_utility}

module _ (on : List Text → ℕ → Says) (goes : (ps : List Text) (n : ℕ) → IsCommandTalk (on ps n)) where
  talk-patterns_read : (file : Text) (patterns : List Text) (next : ℕ) (r : Result Text Errno) → IsCommandTalk (patterns_read file patterns (λ ps. on ps next) r)
  talk-patterns_read file patterns next (Ok text) = goes (patterns ++ lines_of text) next
  talk-patterns_read file patterns next (Err errno) = talk-complains _ 2

  talk-patterns_opened : (file : Text) (patterns : List Text) (next : ℕ) (r : Result Text Errno) → IsCommandTalk (patterns_opened file patterns next on r)
  talk-patterns_opened file patterns next (Ok bytes) = talk-ask (Read next) 1 _ tt (λ a. talk-patterns_read file patterns (next + 1) (brought a))
  talk-patterns_opened file patterns next (Err errno) = talk-complains _ 2

  talk-reads_patterns : (wd file : Text) (patterns : List Text) (next : ℕ) → IsCommandTalk (reads_patterns wd file patterns next on)
  talk-reads_patterns wd file patterns next =
      talk-if (same_text file dash) _ _ (talk-ask (Read 0) 1 _ tt (λ a. talk-patterns_read file patterns next (brought a)))
      (talk-ask (Open (absolute wd file) ForReading) 1 _ tt (λ a. talk-patterns_opened file patterns next (brought a)))

talk-seeks_by : (wd : Text) (m : Manner) (operands : List Text) (next : ℕ) (r : Result (List PatternValue) Text) → IsCommandTalk (seeks_by wd m operands next r)
talk-seeks_by wd m operands next (Ok patterns) = talk-filters_from next (value_job (grep_of m patterns)) wd (or_dash operands)
talk-seeks_by wd m operands next (Err text) = talk-complains _ 2

talk-gathers : (wd : Text) (m : Manner) (operands files patterns : List Text) (next : ℕ) → IsCommandTalk (gathers wd m operands files patterns next)
talk-gathers wd m operands [] patterns next = talk-seeks_by wd m operands next (patterns_of m patterns)
talk-gathers wd m operands (file ∷ files) patterns next = talk-reads_patterns (gathers wd m operands files) (talk-gathers wd m operands files) wd file patterns next

talk-grep_given : (wd : Text) (args : ArgsValue) → IsCommandTalk (grep_given wd args)
talk-grep_given wd args =
    talk-gathers wd (manner_of args (length args.operands)) args.operands (arguments args (codes "f")) (all_patterns (arguments args (codes "e"))) 10

talk-grep_first : (wd : Text) (args : ArgsValue) (operands : List Text) → IsCommandTalk (grep_first wd args operands)
talk-grep_first wd args [] = talk-complains _ 2
talk-grep_first wd args (pattern ∷ operands) = talk-gathers wd (manner_of args (length operands)) operands [] (patterns_in pattern) 10

talk-grep_by : (wd : Text) (args : ArgsValue) → IsCommandTalk (grep_by wd args)
talk-grep_by wd args =
    talk-if (gives args (codes "e") || gives args (codes "f")) _ _ (talk-grep_given wd args) (talk-grep_first wd args args.operands)

talk-greps : (wd : Text) (argv : List Text) → IsCommandTalk (greps wd argv)
talk-greps wd argv =
    talk-begins (codes "grep") 2 (options grep_options argv) (grep_by wd) (talk-grep_by wd)

if_named : (b : Bool) (x : Says) (o : Option Says) → IsCommandTalk x → IfSome o IsCommandTalk → IfSome (if b then Some x else o) IsCommandTalk
if_named true x o h k = h
if_named false x o h k = k

pub talk-grep_utility : (wd : Text) (argv : List Text) → IfSome (grep_utility wd argv) IsCommandTalk
talk-grep_utility wd [] = tt
talk-grep_utility wd (name ∷ words) =
    if_named (same_text name (codes "grep")) _ _ (talk-greps wd (name ∷ words)) tt

-- Whatever the words are, fewer turns only cut what `grep` says, and its calls are proper.
abbrev pub EachIsCommandTalk : Type 0
EachIsCommandTalk = (wd : Text) (argv : List Text) → IfSome (grep_utility wd argv) IsCommandTalk
