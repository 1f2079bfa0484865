-- What a redirection does at each stage.
use Rattle.std.specs.Prelude.{◌≡◌, ◌≤◌, ℕ, Some}
use Rattle.rk_base.specs.Text.{Text}
use Rattle.rk_calls.specs.declared.answer.Answer.{Answer}
use Rattle.rk_calls.specs.Talk.{Says, ask}
use Rattle.sh_vars.specs.declared.env.Env.{Env}
use Rattle.sh_redirect.specs.declared.descriptors.DescriptorTable.{DescriptorTable}
use Rattle.sh_redirect.specs.declared.redirecting.Stage.{Stage}
use Rattle.sh_redirect.specs.declared.redirecting.Stage.TheVariants.{Begins, Opening, Piping, Filling, Telling}
use Rattle.sh_redirect.specs.declared.redirecting.Turn.{Turn}
use Rattle.sh_redirect.specs.declared.redirecting.Turn.TheVariants.{Ask, Made, Refused}
use Rattle.sh_redirect.specs.declared.redirecting.Move.{Move}
use Rattle.sh_redirect.specs.declared.redirecting.Redirecting.{Redirecting}
use Rattle.sh_redirect.specs.Answers.{refusal, heard}
use Rattle.sh_redirect.specs.Redirects.{Goes, After, Action, makes, is_refused, opened, filled, redirects}

-- by the answer
abbrev pub stage_does : Stage → Answer → Action
stage_does (Begins kind d operand) a = redirects kind d operand
stage_does (Opening d operand n) a = opened d operand n (refusal a)
stage_does (Piping d body n) a = filled d body n
stage_does (Filling d n) a = makes d (Some n)
stage_does Telling a = is_refused

-- a turn, and what it does afterwards
abbrev pub after : Turn → (Answer → Action) → Action
after (Ask call cost) next k ds env = ask call cost (λ a. next a k ds (heard a env))
after Made next k ds env = k.made ds env
after Refused next k ds env = k.refused ds env

-- a call costs something
abbrev pub IsAsking : Turn → Type 0
IsAsking (Ask call cost) = 1 ≤ cost
IsAsking Made = Unit {0}
IsAsking Refused = Unit {0}

-- this is done by a turn and by what comes after it
abbrev pub IsDoneBy : Action → DescriptorTable → Env → Move → DescriptorTable → Type 0
IsDoneBy x ds env move ds' = (k : After) (p : ℕ) → x k ds env p ≡ after move.turn (stage_does move.stage) k ds' env p

abbrev pub redirecting_does : Redirecting → Answer → Action
redirecting_does r a = stage_does r.stage a
