-- What an answer brings.
use Rattle.std.specs.Prelude.{ℕ, [], Result, Ok, Err}
use Rattle.rk_base.specs.Text.{Text}
use Rattle.rk_base.specs.declared.errno.Errno.{Errno}
use Rattle.rk_calls.specs.declared.answer.Answer.{Answer}
use Rattle.rk_calls.specs.declared.answer.Answer.TheVariants.{Content, Joined, No}

-- a refusal, or bytes; only a content has any
abbrev pub brought : Answer → Result Text Errno
brought (Content bytes) = Ok bytes
brought (No errno) = Err errno
brought answer = Ok []

-- the status of a command that was launched
abbrev pub joined : Answer → ℕ
joined (Joined status) = status
joined answer = 0
