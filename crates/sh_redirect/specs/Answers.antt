-- What answers tell.
use Rattle.std.specs.Prelude.{ℕ, Option, Some, None}
use Rattle.rk_base.specs.declared.errno.Errno.{Errno}
use Rattle.rk_calls.specs.declared.answer.Answer.{Answer}
use Rattle.rk_calls.specs.declared.answer.Answer.TheVariants as answer
use Rattle.sh_vars.specs.declared.env.Env.{Env}
use Rattle.sh_vars.specs.Numbers.{number_after}

-- the refusal that an answer is
abbrev pub refusal : Answer → Option Errno
refusal (answer.No errno) = Some errno
refusal a = None

-- the next local number after an answer: each descriptor that was opened takes one
abbrev pub numbered : Answer → ℕ → ℕ
numbered answer.Opened n = number_after n
numbered answer.Piped n = number_after (number_after n)
numbered a n = n

-- once an answer was heard
abbrev pub heard : Answer → Env → Env
heard a env = record env { next = numbered a env.next }
