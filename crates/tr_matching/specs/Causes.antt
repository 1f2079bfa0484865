-- Why a command ran.
use Rattle.std.specs.Prelude.{ℕ, suc, nat_lt, if◌then◌else◌, List, [], ◌∷◌, Option, Some, None, fold}
use Rattle.tr_record.specs.declared.records.Record.{Record}
use Rattle.tr_record.specs.declared.steps.Step.{Step}
use Rattle.tr_record.specs.Rec.{rec_at}
use Rattle.tr_matching.specs.declared.cause.Cause.{Cause}
use Rattle.tr_matching.specs.declared.cause.Cause.TheVariants.{NoRecord, Differs}
use Rattle.tr_matching.specs.Answers.{same_answer}

-- the first step whose answers differ, with both; the first of these steps has this number
abbrev pub first_difference : ℕ → List Step → List Step → Option Cause
first_difference number [] seen = None
first_difference number (r ∷ recorded) [] = None
first_difference number (r ∷ recorded) (s ∷ seen) =
    if same_answer r.answer s.answer then first_difference (suc number) recorded seen else Some (Differs number r.answer s.answer)

-- of two causes, by an earlier record and by a later one, the one that goes further; of two that go as far, the earlier
abbrev pub further_of : Cause → Cause → Cause
further_of NoRecord later = later
further_of (Differs n recorded seen) NoRecord = Differs n recorded seen
further_of (Differs n recorded seen) (Differs m recorded' seen') = if nat_lt n m then Differs m recorded' seen' else Differs n recorded seen

-- the same, where a record may have no difference: then the command didn't run
abbrev pub further : Option Cause → Option Cause → Option Cause
further None later = None
further (Some c) None = None
further (Some c) (Some d) = Some (further_of c d)

-- Why a command with these steps ran, if it did, where the records of its key have these numbers: there is none; or the step is
-- the greatest of the first ones at which they differ, with the answer of the first record that differs there.
unfoldable pub cause_among : List Record → List ℕ → List Step → Option Cause
cause_among old numbers steps = fold (λ best i. further best (first_difference 1 (rec_at i old).steps steps)) (Some NoRecord) numbers
