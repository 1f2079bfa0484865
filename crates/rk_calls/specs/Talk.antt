-- What a command says, whoever answers it.
use Rattle.std.specs.Prelude.{ℕ, ◌≡◌, ◌+◌, ◌-◌, Bool, true, false, cond, leb}
use Rattle.rk_calls.specs.declared.call.Call.{Call}
use Rattle.rk_calls.specs.declared.answer.Answer.{Answer}
use Rattle.rk_calls.specs.declared.answer.Answer.TheVariants.{Go}
use Rattle.rk_calls.specs.declared.turn.Turn.{Turn}
use Rattle.rk_calls.specs.declared.turn.Turn.TheVariants.{Ask, More, Exit}

-- It exits, or it asks and goes on by the answer; a cost is all that was paid since the step before. Where
-- the turns that it may take are used up, it is cut.
pub data Talk : Type 0 where
  Cut : Talk
  Exited : (status cost : ℕ) → Talk
  Asked : (call : Call) (cost : ℕ) (rest : Answer → Talk) → Talk

-- what it says within so many turns
abbrev pub Says : Type 0
Says = ℕ → Talk

-- so much more was paid before
abbrev pub add : ℕ → Talk → Talk
add n Cut = Cut
add n (Exited status cost) = Exited status (n + cost)
add n (Asked call cost rest) = Asked call (n + cost) rest

-- what comes once it is known whether a payment can be met
abbrev pub paid : Bool → ℕ → ℕ → Says → Talk
paid true c p x = add c (x p)
paid false c p x = Cut

abbrev pub asked : Bool → Call → ℕ → ℕ → (Answer → Says) → Talk
asked true call c p next = Asked call c (λ a. next a p)
asked false call c p next = Cut

-- pays, and says this
abbrev pub pay : ℕ → Says → Says
pay c x p = paid (leb c p) c (p - c) x

-- asks, and goes on by the answer
abbrev pub ask : Call → ℕ → (Answer → Says) → Says
ask call c next p = asked (leb c p) call c (p - c) next

-- exits
abbrev pub exits : ℕ → ℕ → Says
exits status c p = cond (leb c p) (Exited status c) Cut

-- a machine's turn, and what it says afterwards
abbrev pub after : Turn → (Answer → Says) → Says
after (Ask call c) next p = ask call c next p
after (More c) next p = pay c (next Go) p
after (Exit status c) next p = exits status c p

-- the same within fewer turns
abbrev pub cut : ℕ → Talk → Talk
cut p Cut = Cut
cut p (Exited status c) = cond (leb c p) (Exited status c) Cut
cut p (Asked call c rest) = cond (leb c p) (Asked call c (λ a. cut (p - c) (rest a))) Cut

-- what it says within fewer turns is the beginning of what it says within more
abbrev pub Lasts : Says → Type 0
Lasts x = (p more : ℕ) → cut p (x (p + more)) ≡ x p
