-- Which calls a command may make.
use Rattle.std.specs.Prelude.{ℕ, ◌+◌, ◌≤◌}
use Rattle.rk_calls.specs.declared.call.Call.{Call}
use Rattle.rk_calls.specs.declared.call.Call.TheVariants.{Mkdir, Chmod}
use Rattle.rk_calls.specs.declared.answer.Answer.{Answer}
use Rattle.rk_calls.specs.Saying.{rest_of, goes_on}
use Rattle.rk_calls.specs.Talk.{Talk, Says, Cut, Exited, Asked}

-- a mode in a call is at most 0777
abbrev pub IsProper : Call → Type 0
IsProper (Mkdir path mode) = mode ≤ 511
IsProper (Chmod path mode) = mode ≤ 511
IsProper call = Unit {0}

-- each call in a talk is so, whatever is answered
abbrev pub IsProperTalk : Talk → Type 0
IsProperTalk Cut = Unit {0}
IsProperTalk (Exited status cost) = Unit {0}
IsProperTalk (Asked call cost rest) = IsProper call × ((a : Answer) → IsProperTalk (rest a))

abbrev pub AsksProperly : Says → Type 0
AsksProperly x = (p : ℕ) → IsProperTalk (x p)

proper-rest : (t : Talk) (a : Answer) → IsProperTalk t → IsProperTalk (rest_of t a)
proper-rest Cut a h = tt
proper-rest (Exited status cost) a h = tt
proper-rest (Asked call cost rest) a h = h.1 a

-- what goes on from a call keeps it
pub proper-goes_on : (c : ℕ) (x : Says) (a : Answer) → AsksProperly x → AsksProperly (goes_on c x a)
unfolding goes_on
proper-goes_on c x a h p = proper-rest (x (p + c)) a (h (p + c))
