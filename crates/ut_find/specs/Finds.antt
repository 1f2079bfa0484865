-- What `find` says: a directory's names are visited after it and before what comes after it.
use Rattle.std.specs.Prelude.{◌≡◌, ℕ, ◌-◌, ◌<◌, suc, List, [], ◌∷◌, ◌++◌, map, codes, None, false, Result, Ok, Err, if◌then◌else◌, refl}
use Rattle.std.proofs.Common.{arith}
use Rattle.rk_base.specs.Text.{Text, is_slash}
use Rattle.rk_base.specs.Errno.{word}
use Rattle.rk_base.specs.declared.errno.Errno.{Errno}
use Rattle.rk_base.specs.declared.file_type.FileType.{FileType}
use Rattle.rk_base.specs.declared.file_type.FileType.TheVariants.{File, Dir, Link}
use Rattle.rk_calls.specs.declared.call.Call.TheVariants.{Stat, List as ListOf}
use Rattle.rk_calls.specs.Fix.{fix, Pays_first, AlikeBelow, fix-is, talk-fix}
use Rattle.rk_calls.specs.Lines.{error_line}
use Rattle.rk_calls.specs.Places.{absolute}
use Rattle.rk_calls.specs.Talk.{Says, ask}
use Rattle.rk_calls.specs.Views.{View, Alike, IsCommandTalk, alike-ask}
use Rattle.ut_filter.specs.declared.made.Input.{Input}
use Rattle.ut_filter.specs.declared.made.Made.{Made}
use Rattle.ut_filter.specs.Filters.{Job, filters}
use Rattle.ut_filter.specs.Laws.{talk-filters}
use Rattle.ut_filter.specs.Statuses.{status_of}
use Rattle.ut_files.specs.declared.answers.Stood.{Stood}
use Rattle.ut_files.specs.Answers.{found, names_in}
use Rattle.ut_find.specs.declared.find.Visit.{Visit}
use Rattle.ut_find.specs.declared.find.Visit.TheVariants.{Look, Enter}
use Rattle.ut_find.specs.declared.found.Found.{Found}
use Rattle.ut_find.specs.declared.test.Test.{Test}
use Rattle.ut_find.specs.Tests.{meets_all}

-- the working directory, and what is tested of each path
pub record FindValue : Type 0 where
  pub wd : Text
  pub tests : List Test

-- what was found and what was refused, and what is left to visit
pub record Work : Type 0 where
  pub output : Text
  pub errors : Text
  pub left : List Visit

-- where all tests hold, the path and a newline
abbrev pub shown : List Test → Text → FileType → Text
shown tests path kind = if meets_all kind path tests then path ++ 10 ∷ [] else []

-- a directory is entered, and no link is followed
abbrev pub inside : Text → FileType → List Visit
inside path File = []
inside path Dir = Enter path ∷ []
inside path Link = []

abbrev pub refusal : Text → Errno → Text
refusal path errno = error_line (codes "find") path (word errno)

-- a path was looked at, or not
abbrev pub looked : List Test → Text → Work → Result Stood Errno → Work
looked tests path work (Ok stood) = record { output = work.output ++ shown tests path stood.kind; errors = work.errors; left = inside path stood.kind ++ work.left }
looked tests path work (Err errno) = record { output = work.output; errors = work.errors ++ refusal path errno; left = work.left }

-- the last byte of a text, or else this one
abbrev pub last_byte : ℕ → Text → ℕ
last_byte last [] = last
last_byte last (b ∷ bs) = last_byte b bs

-- a name in a directory, after a slash where the directory's path doesn't end with one
abbrev pub joined : Text → Text → Text
joined path name = path ++ (if is_slash (last_byte 0 path) then name else 47 ∷ name)

abbrev pub entries : Text → List Text → List Visit
entries path names = map (λ name. Look (joined path name)) names

-- a directory was listed, or not
abbrev pub listed : Text → Work → Result (List Text) Errno → Work
listed path work (Ok names) = record { output = work.output; errors = work.errors; left = entries path names ++ work.left }
listed path work (Err errno) = record { output = work.output; errors = work.errors ++ refusal path errno; left = work.left }

abbrev pub with_left : Work → List Visit → Work
with_left work left = record { output = work.output; errors = work.errors; left = left }

-- the output and the error text, as a filter of no inputs writes them
abbrev pub found_job : Found → Job
found_job f =
    record {
      name = codes "find";
      failed = 1;
      out = None;
      makes = λ (inputs : List Input). (let made : Made = record { output = f.output; errors = f.errors; status = status_of 1 f.errors } in made);
    }

abbrev pub writes : Text → Work → Says
writes wd work = filters (found_job (record { output = work.output; errors = work.errors })) wd []

-- one visit, and how it goes on
abbrev pub visits : FindValue → (Work → Says) → Work → List Visit → Says
visits f again work [] = writes f.wd work
visits f again work (Look path ∷ left) = ask (Stat (absolute f.wd path) false) 1 (λ a. again (looked f.tests path (with_left work left) (found a)))
visits f again work (Enter path ∷ left) = ask (ListOf (absolute f.wd path)) 1 (λ a. again (listed path (with_left work left) (names_in a)))

abbrev pub visits_in : FindValue → (Work → Says) → Work → Says
visits_in f again work = visits f again work work.left

-- all visits; the turns bound them
unfoldable pub finds_from : FindValue → Work → Says
finds_from f = fix (visits_in f)

-- `find` of these paths
abbrev pub finds : FindValue → List Text → Says
finds f paths = finds_from f (record { output = []; errors = []; left = map Look paths })

-- What holds of every search.

abbrev pub SameWork : View → ℕ → Work → Work → Type 0
SameWork v p work work' = work ≡ work'

visit-pays : (f : FindValue) (v : View) (P : ℕ) (x y : Work → Says) → AlikeBelow v (SameWork v) P x y → (work : Work) (left : List Visit) (p : ℕ) → p < suc P → Alike v p (visits f x work left) (visits f y work left)
visit-pays f v P x y h work [] p lt = talk-filters (found_job (record { output = work.output; errors = work.errors })) f.wd [] v p
visit-pays f v P x y h work (Look path ∷ left) p lt =
    alike-ask v p (Stat (absolute f.wd path) false) 1 _ _ tt (λ le a. h (looked f.tests path (with_left work left) (found a)) (looked f.tests path (with_left work left) (found a)) (p - 1) (omega arith) refl)
visit-pays f v P x y h work (Enter path ∷ left) p lt =
    alike-ask v p (ListOf (absolute f.wd path)) 1 _ _ tt (λ le a. h (listed path (with_left work left) (names_in a)) (listed path (with_left work left) (names_in a)) (p - 1) (omega arith) refl)

finds-pays : (f : FindValue) → Pays_first SameWork (visits_in f)
finds-pays f v P x y h work work' p lt e = rw (← e) (visit-pays f v P x y h work work.left p lt)

-- one visit of it
pub finds-is : (f : FindValue) (work : Work) (p : ℕ) → finds_from f work p ≡ visits f (finds_from f) work work.left p
unfolding finds_from
finds-is f work p = fix-is SameWork (visits_in f) (finds-pays f) work p refl

-- a command may say it
pub talk-finds_from : (f : FindValue) (work : Work) → IsCommandTalk (finds_from f work)
unfolding finds_from
talk-finds_from f work = talk-fix SameWork (visits_in f) (finds-pays f) work (λ v p. refl)
