-- `test` and `[` (XCU 4, `test`).
use Rattle.std.specs.Prelude.{ℕ, ◌-◌, List, codes, Bool, true, false, not, Option, Some, None, if◌then◌else◌, take, length, slice_get}
use Rattle.rk_base.specs.Text.{Text, same_text}
use Rattle.rk_calls.specs.declared.answer.Answer.{Answer}
use Rattle.rk_calls.specs.declared.answer.Answer.TheVariants as answer
use Rattle.rk_calls.specs.declared.call.Call.TheVariants.{Stat}
use Rattle.rk_calls.specs.Places.{absolute}
use Rattle.sh_builtin.specs.declared.name.Name.TheVariants as name
use Rattle.sh_operands.specs.declared.primary.Primary.{Primary}
use Rattle.sh_operands.specs.declared.verdict.Verdict.{Verdict}
use Rattle.sh_operands.specs.declared.primary.Primary.{Primary}
use Rattle.sh_operands.specs.declared.verdict.Verdict.TheVariants.{Holds, Asks, Misused}
use Rattle.sh_builtin.specs.Action.{Action, ends, asks}
use Rattle.sh_operands.specs.Primaries.{follows, holds_of}
use Rattle.sh_builtin.specs.Telling.{complains}
use Rattle.sh_operands.specs.Verdicts.{decides}

-- of an answer to Stat; a refusal is false
abbrev pub holds : Primary → Answer → Bool
holds p (answer.Stat kind mode empty) = holds_of p kind mode empty
holds p a = false

-- 0 for true, 1 for false
abbrev pub status_of : Bool → ℕ
status_of true = 0
status_of false = 1

abbrev pub inverted_if : Bool → Bool → Bool
inverted_if true b = not b
inverted_if false b = b

-- what stands at a path decides; a path is looked up from the working directory
abbrev pub judges : Verdict → Action
judges (Holds b) = ends (status_of b)
judges (Asks p operand negated) = λ slots k env. asks (Stat (absolute env.wd operand) (follows p)) 1 (λ a. ends (status_of (inverted_if negated (holds p a)))) slots k env
judges (Misused word) = complains name.Test word (codes "usage") 2

abbrev pub tests : List Text → Action
tests operands = judges (decides operands)

abbrev pub is_closing : Option Text → Bool
is_closing None = false
is_closing (Some word) = same_text word (codes "]")

-- `[` is `test` with a last operand `]`
abbrev pub brackets : List Text → Action
brackets operands =
    if is_closing (slice_get operands (length operands - 1)) then tests (take (length operands - 1) operands) else complains name.Test (codes "]") (codes "usage") 2
