-- The records of a key that are left: those which may still be what a command does.
use Rattle.std.specs.Prelude.{◌≡◌, ℕ, ◌⊎◌, Bool, true, false, ◌&&◌, List, [], ◌∷◌, ◌++◌, length, take, drop, filter}
use Rattle.std.specs.List.{AllByRecursion as Each}
use Rattle.rk_calls.specs.declared.answer.Answer.{Answer}
use Rattle.rk_calls.specs.declared.drive.Spoke.{Spoke}
use Rattle.rk_calls.specs.declared.drive.Spoke.TheVariants.{Call as Calls, Exit as Exits}
use Rattle.tr_record.specs.declared.records.Record.{Record}
use Rattle.tr_record.specs.declared.steps.Step.{Step}
use Rattle.tr_record.specs.Rec.{rec_at}
use Rattle.tr_matching.specs.Answers.{same_answer}
use Rattle.tr_matching.specs.Steps.{answers_of, IsFirstDifference}

-- whether the first answers of these steps are these
abbrev pub begins : List Answer → List Step → Bool
begins [] steps = true
begins (a ∷ answers) [] = false
begins (a ∷ answers) (st ∷ steps) = same_answer st.answer a && begins answers steps

-- of the records with these numbers, those whose first answers are these
abbrev pub left : List Record → List Answer → List ℕ → List ℕ
left old answers numbers = filter (λ i. begins answers (rec_at i old).steps) numbers

-- whether a record's step behind so many was answered so
abbrev pub is_answered : List Record → ℕ → Answer → ℕ → Bool
is_answered old at a i = begins (a ∷ []) (drop at (rec_at i old).steps)

-- what is asked first of these steps, or the exit where there are none
abbrev pub next_in : ℕ → ℕ → List Step → Spoke
next_in exit cost [] = Exits exit cost
next_in exit cost (st ∷ steps) = Calls st.call st.cost

-- what a record has next behind so many steps: a call at its cost, or the exit at its cost
abbrev pub next_at : ℕ → Record → Spoke
next_at at rec = next_in rec.exit rec.exit_cost (drop at rec.steps)

-- both did the same: they are equal but for key and ordinal
abbrev pub AreTalkAlike : Record → Record → Type 0
AreTalkAlike a b = (a.steps ≡ b.steps) × (a.exit ≡ b.exit) × (a.exit_cost ≡ b.exit_cost)

-- a record begins with these steps
abbrev pub BeginsWith : List Step → Record → Type 0
BeginsWith steps rec = take (length steps) rec.steps ≡ steps

-- one of these steps was answered otherwise than is recorded
abbrev pub IsParted : List Step → Record → Type 0
IsParted steps rec = (k : ℕ) × IsFirstDifference rec.steps steps k

-- A command has taken these steps. Of the records of its key, which have these numbers, those are left whose first answers are
-- the ones that it was given. Each of them begins with its very steps, and each other one has another answer at one of them.
pub record IsMatching (old : List Record) (numbers : List ℕ) (steps : List Step) (now : List ℕ) : Type 0 where
  pub left_are : now ≡ left old (answers_of steps) numbers
  pub alike : Each (λ i. BeginsWith steps (rec_at i old)) now
  pub others : Each (λ i. (begins (answers_of steps) (rec_at i old).steps ≡ true) ⊎ IsParted steps (rec_at i old)) numbers

-- a record goes on from these steps
abbrev pub GoesOnSo : List Step → Record → Type 0
GoesOnSo steps rec = (more : List Step) × (rec.steps ≡ steps ++ more)
