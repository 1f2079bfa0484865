-- A command may say what `sed` says.
use Rattle.std.specs.Prelude.{ℕ, ◌+◌, List, [], ◌∷◌, codes, Option, Some, None, IfSome, Result, Ok, Err, Bool, true, false, if◌then◌else◌}
use Rattle.rk_base.specs.Text.{Text, same_text}
use Rattle.rk_base.specs.declared.errno.Errno.{Errno}
use Rattle.rk_calls.specs.declared.call.How.TheVariants.{Read as ForReading}
use Rattle.rk_calls.specs.declared.call.Call.TheVariants.{Open, Read}
use Rattle.rk_calls.specs.Brought.{brought}
use Rattle.rk_calls.specs.Places.{absolute}
use Rattle.rk_calls.specs.Talk.{Says}
use Rattle.rk_calls.specs.Views.{IsCommandTalk, talk-ask, talk-if}
use Rattle.ut_args.specs.Opts.{ArgsValue, gives}
use Rattle.ut_args.specs.Usage.{talk-begins, talk-complains}
use Rattle.ut_args.specs.Words.{options}
use Rattle.ut_filter.specs.Filters.{dash, or_dash}
use Rattle.ut_filter.specs.Laws.{talk-filters_from}
use Rattle.ut_sed.specs.declared.gatherer.Source.{Source}
use Rattle.ut_sed.specs.declared.gatherer.Source.TheVariants.{Script, File}
use Rattle.ut_sed.specs.Commands.{CommandValue}
use Rattle.ut_sed.specs.Editing.{sed_job}
use Rattle.ut_sed.specs.Scripts.{script_after}
use Rattle.ut_sed.specs.Starts.{goes_on_by, script_read, script_opened, reads_script, gathers, sources_of, sed_first, sed_with, sed_by, sed_options, seds, sed_utility}

talk-goes_on_by : (s : Text) (o : Option (List CommandValue)) (on : List CommandValue → Says) → ((cs : List CommandValue) → IsCommandTalk (on cs)) → IsCommandTalk (goes_on_by s o on)
talk-goes_on_by s None on goes = talk-complains _ 1
talk-goes_on_by s (Some commands) on goes = goes commands

module _ (on : List CommandValue → ℕ → Says) (goes : (cs : List CommandValue) (n : ℕ) → IsCommandTalk (on cs n)) where
  talk-script_read : (file : Text) (commands : List CommandValue) (next : ℕ) (r : Result Text Errno) → IsCommandTalk (script_read file commands (λ cs. on cs next) r)
  talk-script_read file commands next (Ok text) = talk-goes_on_by file (script_after commands text) (λ cs. on cs next) (λ cs. goes cs next)
  talk-script_read file commands next (Err errno) = talk-complains _ 1

  talk-script_opened : (file : Text) (commands : List CommandValue) (next : ℕ) (r : Result Text Errno) → IsCommandTalk (script_opened file commands next on r)
  talk-script_opened file commands next (Ok bytes) = talk-ask (Read next) 1 _ tt (λ a. talk-script_read file commands (next + 1) (brought a))
  talk-script_opened file commands next (Err errno) = talk-complains _ 1

  talk-reads_script : (wd file : Text) (commands : List CommandValue) (next : ℕ) → IsCommandTalk (reads_script wd file commands next on)
  talk-reads_script wd file commands next =
      talk-if (same_text file dash) _ _ (talk-ask (Read 0) 1 _ tt (λ a. talk-script_read file commands next (brought a)))
      (talk-ask (Open (absolute wd file) ForReading) 1 _ tt (λ a. talk-script_opened file commands next (brought a)))

talk-gathers : (wd : Text) (quiet : Bool) (operands : List Text) (sources : List Source) (commands : List CommandValue) (next : ℕ) → IsCommandTalk (gathers wd quiet operands sources commands next)
talk-gathers wd quiet operands [] commands next = talk-filters_from next (sed_job (record { quiet = quiet; commands = commands })) wd (or_dash operands)
talk-gathers wd quiet operands (Script s ∷ sources) commands next = talk-goes_on_by s (script_after commands s) _ (λ cs. talk-gathers wd quiet operands sources cs next)
talk-gathers wd quiet operands (File file ∷ sources) commands next = talk-reads_script (gathers wd quiet operands sources) (talk-gathers wd quiet operands sources) wd file commands next

talk-sed_first : (wd : Text) (quiet : Bool) (operands : List Text) → IsCommandTalk (sed_first wd quiet operands)
talk-sed_first wd quiet [] = talk-complains _ 1
talk-sed_first wd quiet (s ∷ operands) = talk-gathers wd quiet operands (Script s ∷ []) [] 10

talk-sed_with : (wd : Text) (quiet : Bool) (operands : List Text) (sources : List Source) → IsCommandTalk (sed_with wd quiet operands sources)
talk-sed_with wd quiet operands [] = talk-sed_first wd quiet operands
talk-sed_with wd quiet operands (source ∷ sources) = talk-gathers wd quiet operands (source ∷ sources) [] 10

talk-sed_by : (wd : Text) (args : ArgsValue) → IsCommandTalk (sed_by wd args)
talk-sed_by wd args = talk-sed_with wd (gives args (codes "n")) args.operands (sources_of args.given)

talk-seds : (wd : Text) (argv : List Text) → IsCommandTalk (seds wd argv)
talk-seds wd argv = talk-begins (codes "sed") 1 (options sed_options argv) (sed_by wd) (talk-sed_by wd)

if_named : (b : Bool) (x : Says) (o : Option Says) → IsCommandTalk x → IfSome o IsCommandTalk → IfSome (if b then Some x else o) IsCommandTalk
if_named true x o h k = h
if_named false x o h k = k

pub talk-sed_utility : (wd : Text) (argv : List Text) → IfSome (sed_utility wd argv) IsCommandTalk
talk-sed_utility wd [] = tt
talk-sed_utility wd (name ∷ words) = if_named (same_text name (codes "sed")) _ _ (talk-seds wd (name ∷ words)) tt

-- Whatever the words are, fewer turns only cut what `sed` says, and its calls are proper.
abbrev pub EachIsCommandTalk : Type 0
EachIsCommandTalk = (wd : Text) (argv : List Text) → IfSome (sed_utility wd argv) IsCommandTalk
