-- What a machine says where something was paid since the step before.
use Rattle.std.proofs.Common.{◌≡◌, ℕ, ◌+◌, ◌-◌, ◌≤◌, ◌<◌, refl, sym, ◌∙◌, ap, subst, arith, inl, inr}
use Rattle.std.proofs.lemmas.Bool.{le-leb, lt-leb}
use Rattle.std.proofs.lemmas.Bool.Decides.{leb_tells}
use Rattle.rk_calls.specs.declared.call.Call.{Call}
use Rattle.rk_calls.specs.declared.answer.Answer.{Answer}
use Rattle.rk_calls.specs.declared.answer.Answer.TheVariants.{Go}
use Rattle.rk_calls.specs.declared.turn.Turn.{Turn}
use Rattle.rk_calls.specs.declared.turn.Turn.TheVariants.{Ask, More, Exit}
use Rattle.rk_calls.specs.declared.drive.Spoke.TheVariants.{Call as Calls, Exit as Exits, Short}
use Rattle.rk_calls.specs.Talk.{Talk, Says, Cut, Exited, Asked, add, pay, after}
use Rattle.rk_calls.specs.Saying.{speaks, goes_on}
use Rattle.rk_calls.specs.Heard.{Goes}
use Rattle.rk_calls.specs.Views.{pay-nothing}
use Rattle.rk_calls.specs.Costly.{IsCostly}

pub pay-zero : (x : Says) → pay 0 x ≡ x
pay-zero x = λ i p. pay-nothing x p i

add-add : (n m : ℕ) (t : Talk) → add n (add m t) ≡ add (n + m) t
add-add n m Cut = refl
add-add n m (Exited s c) = ap (Exited s) (omega arith)
add-add n m (Asked call c rest) = ap (λ n. Asked call n rest) (omega arith)

pay_short : (o : ℕ) (x : Says) (p : ℕ) → p < o → pay o x p ≡ Cut
pay_short o x p h = rw (lt-leb o p h) refl

pay_met : (o : ℕ) (x : Says) (p : ℕ) → o ≤ p → pay o x p ≡ add o (x (p - o))
pay_met o x p h = rw (le-leb o p h) refl

pub pay-more_at : (o c : ℕ) (x : Says) (p : ℕ) → pay o (pay c x) p ≡ pay (o + c) x p
pay-more_at o c x p =
    elim (leb_tells o p) [
      | inl e ↦
          let le : o ≤ p = e.1 in
          elim (leb_tells c (p - o)) [
            | inl f ↦
                let le' : c ≤ p - o = f.1 in
                let m : (p - o) - c ≡ p - (o + c) = omega arith in
                rw (e.0, f.0, m, le-leb (o + c) p (omega arith)) (add-add o c (x (p - (o + c))))
            | inr f ↦ let lt : p - o < c = f.1 in rw (e.0, f.0, lt-leb (o + c) p (omega arith)) refl
          ]
      | inr e ↦ let lt : p < o = e.1 in rw (e.0, lt-leb (o + c) p (omega arith)) refl
    ]

pub pay-ask_at : (o c : ℕ) (call : Call) (next : Answer → Says) (p : ℕ) → pay o (after (Ask call c) next) p ≡ after (Ask call (o + c)) next p
pay-ask_at o c call next p =
    elim (leb_tells o p) [
      | inl e ↦
          let le : o ≤ p = e.1 in
          elim (leb_tells c (p - o)) [
            | inl f ↦
                let le' : c ≤ p - o = f.1 in
                let m : (p - o) - c ≡ p - (o + c) = omega arith in
                rw (e.0, f.0, m, le-leb (o + c) p (omega arith)) refl
            | inr f ↦ let lt : p - o < c = f.1 in rw (e.0, f.0, lt-leb (o + c) p (omega arith)) refl
          ]
      | inr e ↦ let lt : p < o = e.1 in rw (e.0, lt-leb (o + c) p (omega arith)) refl
    ]

pub pay-exit_at : (o c status : ℕ) (next : Answer → Says) (p : ℕ) → pay o (after (Exit status c) next) p ≡ after (Exit status (o + c)) next p
pay-exit_at o c status next p =
    elim (leb_tells o p) [
      | inl e ↦
          let le : o ≤ p = e.1 in
          elim (leb_tells c (p - o)) [
            | inl f ↦ let le' : c ≤ p - o = f.1 in rw (e.0, f.0, le-leb (o + c) p (omega arith)) refl
            | inr f ↦ let lt : p - o < c = f.1 in rw (e.0, f.0, lt-leb (o + c) p (omega arith)) refl
          ]
      | inr e ↦ let lt : p < o = e.1 in rw (e.0, lt-leb (o + c) p (omega arith)) refl
    ]

-- what is said then
pub speaks-ask : (call : Call) (c : ℕ) (next : Answer → Says) (p : ℕ) → 1 ≤ c → c ≤ p → speaks p (after (Ask call c) next) ≡ Calls call c
unfolding speaks
speaks-ask call c next p h k = rw (le-leb c p k, le-leb 1 c h, le-leb c p k) refl

pub speaks-ask_short : (call : Call) (c : ℕ) (next : Answer → Says) (p : ℕ) → p < c → speaks p (after (Ask call c) next) ≡ Short
unfolding speaks
speaks-ask_short call c next p k = rw (lt-leb c p k) refl

pub speaks-exit : (status c : ℕ) (next : Answer → Says) (p : ℕ) → c ≤ p → speaks p (after (Exit status c) next) ≡ Exits status c
unfolding speaks
speaks-exit status c next p k = rw (le-leb c p k, le-leb c p k) refl

pub speaks-exit_short : (status c : ℕ) (next : Answer → Says) (p : ℕ) → p < c → speaks p (after (Exit status c) next) ≡ Short
unfolding speaks
speaks-exit_short status c next p k = rw (lt-leb c p k) refl

pub speaks-pay_short : (c : ℕ) (x : Says) (p : ℕ) → p < c → speaks p (pay c x) ≡ Short
unfolding speaks
speaks-pay_short c x p k = rw (lt-leb c p k) refl

goes-ask_at : (call : Call) (c : ℕ) (next : Answer → Says) (a : Answer) (p : ℕ) → next a p ≡ goes_on c (after (Ask call c) next) a p
unfolding goes_on
goes-ask_at call c next a p =
    let m : (p + c) - c ≡ p = omega arith in
    rw (le-leb c (p + c) (omega arith), m) refl

pub goes-ask : (call : Call) (c : ℕ) (next : Answer → Says) (x : Says) → x ≡ after (Ask call c) next → Goes (Calls call c) x next
goes-ask call c next x e a = (λ i p. goes-ask_at call c next a p i) ∙ ap (λ x. goes_on c x a) (sym e)

-- how a command that owes o takes a turn
module _ (z : Says) (o : ℕ) (x : Says) (paid : z ≡ pay o x) (t : Turn) (next : Answer → Says) (turns : (p : ℕ) → x p ≡ after t next p) where
  at_turn : z ≡ pay o (after t next)
  at_turn = paid ∙ ap (pay o) (λ i p. turns p i)

  owes-ask : (call : Call) (c : ℕ) → t ≡ Ask call c → z ≡ after (Ask call (o + c)) next
  owes-ask call c e = at_turn ∙ ap (λ t. pay o (after t next)) e ∙ (λ i p. pay-ask_at o c call next p i)

  owes-exit : (status c : ℕ) → t ≡ Exit status c → z ≡ after (Exit status (o + c)) next
  owes-exit status c e = at_turn ∙ ap (λ t. pay o (after t next)) e ∙ (λ i p. pay-exit_at o c status next p i)

  owes-more : (c : ℕ) → t ≡ More c → z ≡ pay (o + c) (next Go)
  owes-more c e = at_turn ∙ ap (λ t. pay o (after t next)) e ∙ (λ i p. pay-more_at o c (next Go) p i)

  pub turn-ask : (call : Call) (c p : ℕ) → t ≡ Ask call c → IsCostly t → o + c ≤ p → Calls call (o + c) ≡ speaks p z
  turn-ask call c p e h k =
      let dear : 1 ≤ c = subst IsCostly e h in
      sym (ap (speaks p) (owes-ask call c e) ∙ speaks-ask call (o + c) next p (omega arith) k)

  pub turn-ask_goes : (call : Call) (c : ℕ) → t ≡ Ask call c → Goes (Calls call (o + c)) z next
  turn-ask_goes call c e = goes-ask call (o + c) next z (owes-ask call c e)

  pub turn-ask_short : (call : Call) (c p : ℕ) → t ≡ Ask call c → p < o + c → Short ≡ speaks p z
  turn-ask_short call c p e k = sym (ap (speaks p) (owes-ask call c e) ∙ speaks-ask_short call (o + c) next p k)

  pub turn-exit : (status c p : ℕ) → t ≡ Exit status c → o + c ≤ p → Exits status (o + c) ≡ speaks p z
  turn-exit status c p e k = sym (ap (speaks p) (owes-exit status c e) ∙ speaks-exit status (o + c) next p k)

  pub turn-exit_short : (status c p : ℕ) → t ≡ Exit status c → p < o + c → Short ≡ speaks p z
  turn-exit_short status c p e k = sym (ap (speaks p) (owes-exit status c e) ∙ speaks-exit_short status (o + c) next p k)

  pub turn-more : (c : ℕ) → t ≡ More c → z ≡ pay (o + c) (next Go)
  turn-more c e = owes-more c e

  pub turn-more_short : (c p : ℕ) → t ≡ More c → p < o + c → Short ≡ speaks p z
  turn-more_short c p e k = sym (ap (speaks p) (owes-more c e) ∙ speaks-pay_short (o + c) (next Go) p k)
