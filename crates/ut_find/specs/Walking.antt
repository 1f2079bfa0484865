-- What the machine of `find` says on its way.
use Rattle.std.specs.Prelude.{◌≡◌, ℕ, List, [], Option, Some, None}
use Rattle.rk_calls.specs.declared.answer.Answer.{Answer}
use Rattle.rk_calls.specs.declared.turn.Turn.{Turn}
use Rattle.rk_calls.specs.Talk.{Says, after}
use Rattle.ut_files.specs.Answers.{found, names_in}
use Rattle.ut_find.specs.declared.find.Visit.{Visit}
use Rattle.ut_find.specs.declared.find.Visit.TheVariants.{Look, Enter}
use Rattle.ut_find.specs.declared.test.Test.{Test}
use Rattle.ut_find.specs.declared.walk.Walk.{Walk}
use Rattle.ut_find.specs.Finds.{Work, looked, listed, visits, finds_from}

abbrev pub work_of : Walk → Work
work_of w = record { output = w.output.items; errors = w.errors.items; left = w.left.items }

-- once the visit that was asked, where there is one, was answered
abbrev pub settled : List Test → Option Visit → Answer → Work → Work
settled tests None a work = work
settled tests (Some (Look path)) a work = looked tests path work (found a)
settled tests (Some (Enter path)) a work = listed path work (names_in a)

abbrev pub walk_talk : Walk → Answer → Says
walk_talk w a = finds_from w.find (settled w.find.tests w.asked a (work_of w))

-- the same search, and this work
abbrev pub Stays : Walk → Walk → Work → Type 0
Stays old new work = (new.find ≡ old.find) × (work_of new ≡ work)

-- the next call, or nothing is left
abbrev pub IsNext : Walk → Walk → Option Turn → Type 0
IsNext old new None = (new.find ≡ old.find) × (work_of new ≡ work_of old) × (old.left.items ≡ [])
IsNext old new (Some turn) =
    (new.find ≡ old.find)
    × ((p : ℕ) → visits old.find (finds_from old.find) (work_of old) old.left.items p ≡ after turn (λ a. finds_from old.find (settled old.find.tests new.asked a (work_of new))) p)
