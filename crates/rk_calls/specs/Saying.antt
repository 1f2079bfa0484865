-- What a command says next, and how it goes on.
use Rattle.std.specs.Prelude.{ℕ, ◌+◌, cond, leb}
use Rattle.rk_calls.specs.declared.answer.Answer.{Answer}
use Rattle.rk_calls.specs.declared.drive.Spoke.{Spoke}
use Rattle.rk_calls.specs.declared.drive.Spoke.TheVariants.{Call as Calls, Exit as Exits, Short}
use Rattle.rk_calls.specs.Talk.{Talk, Says, Cut, Exited, Asked}

-- where the purse meets it; a call costs something
abbrev pub node : ℕ → Talk → Spoke
node p Cut = Short
node p (Exited status c) = cond (leb c p) (Exits status c) Short
node p (Asked call c rest) = cond (leb 1 c) (cond (leb c p) (Calls call c) Short) Short

-- what it says next with this purse
unfoldable pub speaks : ℕ → Says → Spoke
speaks p x = node p (x p)

abbrev pub rest_of : Talk → Answer → Talk
rest_of Cut a = Cut
rest_of (Exited status c) a = Cut
rest_of (Asked call c rest) a = rest a

-- how it goes on from a call at this cost
unfoldable pub goes_on : ℕ → Says → Answer → Says
goes_on c x a p = rest_of (x (p + c)) a
