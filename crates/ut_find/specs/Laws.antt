-- A command may say what `find` says.
use Rattle.std.specs.Prelude.{List, [], ◌∷◌, codes, Some, None, IfSome, Result, Ok, Err, Bool, true, false, if◌then◌else◌}
use Rattle.rk_base.specs.Text.{Text, same_text}
use Rattle.rk_calls.specs.Talk.{Says}
use Rattle.rk_calls.specs.Views.{IsCommandTalk}
use Rattle.ut_args.specs.Usage.{talk-complains}
use Rattle.ut_find.specs.declared.test.Test.{Test}
use Rattle.ut_find.specs.declared.tests.Fault.{Fault}
use Rattle.ut_find.specs.declared.tests.Fault.TheVariants as fault
use Rattle.ut_find.specs.Finds.{talk-finds_from}
use Rattle.ut_find.specs.Starts.{by_tests, find_utility}
use Rattle.ut_find.specs.Words.{paths_of, tests_in, tests_of}

talk-by_tests : (wd : Text) (paths : List Text) (tests : Result (List Test) Fault) → IsCommandTalk (by_tests wd paths tests)
talk-by_tests wd paths (Err (fault.OfTest word)) = talk-complains _ 1
talk-by_tests wd paths (Err fault.Surplus) = talk-complains _ 1
talk-by_tests wd [] (Ok tests) = talk-complains _ 1
talk-by_tests wd (path ∷ paths) (Ok tests) = talk-finds_from _ _

if_named : (b : Bool) (x : Says) → IsCommandTalk x → IfSome (if b then Some x else None) IsCommandTalk
if_named true x h = h
if_named false x h = tt

pub talk-find_utility : (wd : Text) (argv : List Text) → IfSome (find_utility wd argv) IsCommandTalk
talk-find_utility wd [] = tt
talk-find_utility wd (name ∷ words) = if_named (same_text name (codes "find")) _ (talk-by_tests wd (paths_of words) (tests_of (tests_in words)))

-- Whatever the words are, fewer turns only cut what the utility says, and its calls are proper.
abbrev pub EachIsCommandTalk : Type 0
EachIsCommandTalk = (wd : Text) (argv : List Text) → IfSome (find_utility wd argv) IsCommandTalk
