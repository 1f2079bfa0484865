-- What a builtin does where a shell evaluates it.
use Rattle.std.specs.Prelude.{ℕ, Option, Some, None}
use Rattle.rk_base.specs.declared.errno.Errno.TheVariants.{BadRef}
use Rattle.rk_calls.specs.declared.call.Call.{Call}
use Rattle.rk_calls.specs.declared.call.Call.TheVariants.{Write, ReadLine}
use Rattle.rk_calls.specs.declared.answer.Answer.{Answer}
use Rattle.rk_calls.specs.declared.answer.Answer.TheVariants as answer
use Rattle.rk_calls.specs.declared.turn.Turn.{Turn}
use Rattle.rk_calls.specs.declared.turn.Turn.TheVariants.{Ask, More, Exit}
use Rattle.rk_calls.specs.Talk.{Says, pay, ask}
use Rattle.sh_vars.specs.declared.env.Env.{Env}
use Rattle.sh_vars.specs.Numbers.{number_after}

-- the local number that each descriptor of the shell's map stands for
abbrev pub Slots : Type 0
Slots = ℕ → Option ℕ

-- what comes after it, by its status
abbrev pub Ended : Type 0
Ended = ℕ → Env → Says

-- with a map of descriptors, what comes after it, and the environment that it is lent
abbrev pub Action : Type 0
Action = Slots → Ended → Env → Says

-- the next local number after an answer: each descriptor that was opened takes one
abbrev pub numbered : Answer → ℕ → ℕ
numbered answer.Opened n = number_after n
numbered answer.Piped n = number_after (number_after n)
numbered a n = n

-- once an answer was heard
abbrev pub heard : Answer → Env → Env
heard a env = record env { next = numbered a env.next }

-- A call on a descriptor that the map lacks isn't asked and pays nothing, and counts as refused.
abbrev pub at_slot : Option ℕ → (ℕ → Call) → ℕ → (Answer → Env → Says) → Env → Says
at_slot None call cost next env = next (answer.No BadRef) env
at_slot (Some n) call cost next env = ask (call n) cost (λ a. next a (heard a env))

-- a call of a builtin, which names a descriptor as the shell does
abbrev pub through : Slots → Call → ℕ → (Answer → Env → Says) → Env → Says
through slots (Write d bytes) cost next env = at_slot (slots d) (λ n. Write n bytes) cost next env
through slots (ReadLine d) cost next env = at_slot (slots d) (λ n. ReadLine n) cost next env
through slots call cost next env = ask call cost (λ a. next a (heard a env))

-- a turn of a builtin, and what it does afterwards
abbrev pub after : Slots → Turn → (Answer → Env → Says) → Ended → Env → Says
after slots (Ask call cost) next k env = through slots call cost next env
after slots (More cost) next k env = pay cost (next answer.Go env)
after slots (Exit status cost) next k env = pay cost (k status env)

-- it is over
abbrev pub ends : ℕ → Action
ends status slots k env = k status env

-- it asks, and goes on by the answer
abbrev pub asks : Call → ℕ → (Answer → Action) → Action
asks call cost next slots k env = through slots call cost (λ a. next a slots k) env
