-- How the words of `find` are read.
use Rattle.std.specs.Prelude.{◌≡◌, List, [], ◌∷◌, ◌++◌, take, drop, codes, Option, Some, None, Result, Ok, Err, Bool, false, ◌==◌, if◌then◌else◌}
use Rattle.std.specs.List.{position_or_len}
use Rattle.rk_base.specs.Text.{Text, same_text}
use Rattle.rk_base.specs.declared.file_type.FileType.{FileType}
use Rattle.rk_base.specs.declared.file_type.FileType.TheVariants.{File, Dir, Link}
use Rattle.ut_find.specs.declared.test.Test.{Test}
use Rattle.ut_find.specs.declared.test.Test.TheVariants.{Named, OfKind}
use Rattle.ut_find.specs.declared.tests.Wants.{Wants}
use Rattle.ut_find.specs.declared.tests.Wants.TheVariants.{Another, Pattern, Letter}
use Rattle.ut_find.specs.declared.tests.Judged.{Judged}
use Rattle.ut_find.specs.declared.tests.Judged.TheVariants.{Goes, BadTest, BadType, Surplus}
use Rattle.ut_find.specs.declared.tests.Fault.{Fault}
use Rattle.ut_find.specs.declared.tests.Fault.TheVariants as fault

abbrev pub is_dashed : Text → Bool
is_dashed [] = false
is_dashed (b ∷ bs) = b == 45

-- the words before the first that begins with a `-`
abbrev pub paths_of : List Text → List Text
paths_of words = take (position_or_len is_dashed words) words

abbrev pub tests_in : List Text → List Text
tests_in words = drop (position_or_len is_dashed words) words

-- `f`, `d` or `l`
abbrev pub kind_of : Text → Option FileType
kind_of word =
    if same_text word (codes "f") then Some File else
    (if same_text word (codes "d") then Some Dir else
    (if same_text word (codes "l") then Some Link else None))

-- what comes after a test; a word that begins with no `-` is none
abbrev pub judged : Text → Judged
judged word =
    if same_text word (codes "-print") then Goes Another else
    (if same_text word (codes "-name") then Goes Pattern else
    (if same_text word (codes "-type") then Goes Letter else
    (if is_dashed word then BadTest else Surplus)))

-- a test at fault, by its word
abbrev pub faulty : Text → Result (List Test) Fault
faulty word = Err (fault.OfTest word)

-- how it goes on: with what the next words give, or it is at fault
abbrev pub on_judged : Judged → Text → (Wants → Result (List Test) Fault) → Result (List Test) Fault
on_judged (Goes wants) word on = on wants
on_judged BadTest word on = faulty word
on_judged BadType word on = faulty (codes "-type")
on_judged Surplus word on = Err fault.Surplus

abbrev pub on_kind : Option FileType → (FileType → Result (List Test) Fault) → Result (List Test) Fault
on_kind None on = faulty (codes "-type")
on_kind (Some kind) on = on kind

-- The tests of some words, after those so far, of which the last may want the first word; or the first fault.
abbrev pub tests_from : Wants → List Test → List Text → Result (List Test) Fault
tests_from Another tests [] = Ok tests
tests_from Pattern tests [] = faulty (codes "-name")
tests_from Letter tests [] = faulty (codes "-type")
tests_from Another tests (word ∷ words) = on_judged (judged word) word (λ wants. tests_from wants tests words)
tests_from Pattern tests (word ∷ words) = tests_from Another (tests ++ Named word ∷ []) words
tests_from Letter tests (word ∷ words) = on_kind (kind_of word) (λ kind. tests_from Another (tests ++ OfKind kind ∷ []) words)

abbrev pub tests_of : List Text → Result (List Test) Fault
tests_of = tests_from Another []

-- what the code judges of a word
abbrev pub JudgesTo : Wants → List Test → Text → Judged → List Test → Type 0
JudgesTo wants old word j new = (words : List Text) → tests_from wants old (word ∷ words) ≡ on_judged j word (λ next. tests_from next new words)
