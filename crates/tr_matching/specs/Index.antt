-- Parts by the answers that lead to them.
use Rattle.std.specs.Prelude.{ℕ, List, Option}
use Rattle.std.specs.Map.{lookup}
use Rattle.rk_calls.specs.declared.answer.Answer.{Answer}
use Rattle.tr_matching.specs.Answers.{same_answer}

-- the number of the part that stands under an answer
abbrev pub part_of : List (Answer × ℕ) → Answer → Option ℕ
part_of parts a = lookup (same_answer a) parts
