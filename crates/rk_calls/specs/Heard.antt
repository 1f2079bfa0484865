-- What the code tells of what a command says.
use Rattle.std.specs.Prelude.{◌≡◌, ℕ, ◌≤◌}
use Rattle.rk_calls.specs.declared.answer.Answer.{Answer}
use Rattle.rk_calls.specs.declared.drive.Spoke.{Spoke}
use Rattle.rk_calls.specs.declared.drive.Spoke.TheVariants.{Call as Calls, Exit as Exits, Short}
use Rattle.rk_calls.specs.Talk.{Says}
use Rattle.rk_calls.specs.Saying.{goes_on}

-- the purse meets it, and a call costs something
abbrev pub IsPaid : ℕ → Spoke → Type 0
IsPaid purse (Calls call cost) = (1 ≤ cost) × (cost ≤ purse)
IsPaid purse (Exits status cost) = cost ≤ purse
IsPaid purse Short = Unit {0}

-- from what it said it goes on so, by the answer
abbrev pub Goes : Spoke → Says → (Answer → Says) → Type 0
Goes (Calls call cost) x wait = (a : Answer) → wait a ≡ goes_on cost x a
Goes (Exits status cost) x wait = Unit {0}
Goes Short x wait = Unit {0}
