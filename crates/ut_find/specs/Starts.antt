-- What `find` says by its words, of which the first is the name.
use Rattle.std.specs.Prelude.{List, [], ◌∷◌, codes, Option, Some, None, Result, Ok, Err, if◌then◌else◌}
use Rattle.rk_base.specs.Text.{Text, same_text}
use Rattle.rk_calls.specs.Talk.{Says}
use Rattle.ut_args.specs.Usage.{misuses, misuses_option}
use Rattle.ut_find.specs.declared.test.Test.{Test}
use Rattle.ut_find.specs.declared.tests.Fault.{Fault}
use Rattle.ut_find.specs.declared.tests.Fault.TheVariants as fault
use Rattle.ut_find.specs.Finds.{finds}
use Rattle.ut_find.specs.Words.{paths_of, tests_in, tests_of}

-- by its paths and tests, or by the first fault of these, which is told before a missing path
abbrev pub by_tests : Text → List Text → Result (List Test) Fault → Says
by_tests wd paths (Err (fault.OfTest word)) = misuses_option (codes "find") word 1
by_tests wd paths (Err fault.Surplus) = misuses (codes "find") 1
by_tests wd [] (Ok tests) = misuses (codes "find") 1
by_tests wd (path ∷ paths) (Ok tests) = finds (record { wd = wd; tests = tests }) (path ∷ paths)

-- `find PATH.. [-name P] [-type f|d|l] [-print]`
abbrev pub finds_by : Text → List Text → Says
finds_by wd words = by_tests wd (paths_of words) (tests_of (tests_in words))

-- `find` in a working directory, where the words name it
abbrev pub find_utility : Text → List Text → Option Says
find_utility wd [] = None
find_utility wd (name ∷ words) = if same_text name (codes "find") then Some (finds_by wd words) else None
