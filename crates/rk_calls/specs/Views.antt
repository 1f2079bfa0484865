-- One pass over a definition gives all that is to be known of what a command says.
use Rattle.std.proofs.Common.{◌≡◌, ℕ, ◌+◌, ◌-◌, ◌≤◌, ◌<◌, Bool, true, false, if◌then◌else◌, refl, ◌∙◌, ap, zero-add, arith, inl, inr}
use Rattle.std.proofs.Math.Nat.{sub-zero}
use Rattle.std.proofs.lemmas.Bool.{le-leb, lt-leb}
use Rattle.std.proofs.lemmas.Bool.Decides.{leb_tells}
use Rattle.rk_calls.specs.declared.call.Call.{Call}
use Rattle.rk_calls.specs.declared.answer.Answer.{Answer}
use Rattle.rk_calls.specs.Proper.{IsProper, IsProperTalk, AsksProperly}
use Rattle.rk_calls.specs.Talk.{Talk, Says, Cut, Exited, Asked, add, pay, ask, exits, cut, Lasts}

-- The ways to look at what is said with p turns left, beside what is said with no fewer.
pub data View : Type 0 where
  As_is : View
  Cut_to : (extra : ℕ) → View
  Properly : View

abbrev pub more : View → ℕ → ℕ
more As_is p = p
more (Cut_to extra) p = p + extra
more Properly p = p

-- the same; or its beginning; or with proper calls alone
abbrev pub Seen : View → ℕ → Talk → Talk → Type 0
Seen As_is p t t' = t' ≡ t
Seen (Cut_to extra) p t t' = cut p t' ≡ t
Seen Properly p t t' = IsProperTalk t

-- two sayings are so where p turns are left
abbrev pub Alike : View → ℕ → Says → Says → Type 0
Alike v p x y = Seen v p (x p) (y (more v p))

-- What a command may say: fewer turns only cut it, and its calls are proper.
abbrev pub IsCommandTalk : Says → Type 0
IsCommandTalk x = (v : View) (p : ℕ) → Alike v p x x

-- The steps in each view.

cut-exits : (status c p n : ℕ) → cut p (exits status c (p + n)) ≡ exits status c p
cut-exits status c p n =
    elim (leb_tells c p) [
      | inl e ↦ let h : c ≤ p = e.1 in rw (e.0, le-leb c (p + n) (omega arith), e.0) refl
      | inr e ↦
          elim (leb_tells c (p + n)) [
            | inl f ↦ rw (e.0, f.0, e.0) refl
            | inr f ↦ rw (e.0, f.0) refl
          ]
    ]

cut-add : (p c : ℕ) (t : Talk) → c ≤ p → cut p (add c t) ≡ add c (cut (p - c) t)
cut-add p c Cut h = refl
cut-add p c (Exited status d) h =
    elim (leb_tells d (p - c)) [
      | inl e ↦ let le : d ≤ p - c = e.1 in rw (e.0, le-leb (c + d) p (omega arith)) refl
      | inr e ↦ let lt : p - c < d = e.1 in rw (e.0, lt-leb (c + d) p (omega arith)) refl
    ]
cut-add p c (Asked call d rest) h =
    elim (leb_tells d (p - c)) [
      | inl e ↦
          let le : d ≤ p - c = e.1 in
          let m : (p - c) - d ≡ p - (c + d) = omega arith in
          rw (e.0, le-leb (c + d) p (omega arith), m) refl
      | inr e ↦ let lt : p - c < d = e.1 in rw (e.0, lt-leb (c + d) p (omega arith)) refl
    ]

cut-add_short : (p c : ℕ) (t : Talk) → p < c → cut p (add c t) ≡ Cut
cut-add_short p c Cut h = refl
cut-add_short p c (Exited status d) h = rw (lt-leb (c + d) p (omega arith)) refl
cut-add_short p c (Asked call d rest) h = rw (lt-leb (c + d) p (omega arith)) refl

cut-pay : (n c p : ℕ) (x y : Says) → (c ≤ p → cut (p - c) (y ((p - c) + n)) ≡ x (p - c)) → cut p (pay c y (p + n)) ≡ pay c x p
cut-pay n c p x y h =
    elim (leb_tells c p) [
      | inl e ↦
          let le : c ≤ p = e.1 in
          let m : (p + n) - c ≡ (p - c) + n = omega arith in
          rw (e.0, le-leb c (p + n) (omega arith), m) (cut-add p c (y ((p - c) + n)) le ∙ ap (add c) (h le))
      | inr e ↦
          elim (leb_tells c (p + n)) [
            | inl f ↦ rw (e.0, f.0) (cut-add_short p c (y ((p + n) - c)) e.1)
            | inr f ↦ rw (e.0, f.0) refl
          ]
    ]

cut-ask : (n : ℕ) (call : Call) (c p : ℕ) (x y : Answer → Says) → (c ≤ p → (a : Answer) → cut (p - c) (y a ((p - c) + n)) ≡ x a (p - c)) → cut p (ask call c y (p + n)) ≡ ask call c x p
cut-ask n call c p x y h =
    elim (leb_tells c p) [
      | inl e ↦
          let le : c ≤ p = e.1 in
          let m : (p + n) - c ≡ (p - c) + n = omega arith in
          rw (e.0, le-leb c (p + n) (omega arith), e.0, m) (ap (Asked call c) (λ i a. h le a i))
      | inr e ↦
          elim (leb_tells c (p + n)) [
            | inl f ↦ rw (e.0, f.0, e.0) refl
            | inr f ↦ rw (e.0, f.0) refl
          ]
    ]

same-pay : (c p : ℕ) (x y : Says) → (c ≤ p → y (p - c) ≡ x (p - c)) → pay c y p ≡ pay c x p
same-pay c p x y h =
    elim (leb_tells c p) [
      | inl e ↦ rw e.0 (ap (add c) (h e.1))
      | inr e ↦ rw e.0 refl
    ]

same-ask : (call : Call) (c p : ℕ) (x y : Answer → Says) → (c ≤ p → (a : Answer) → y a (p - c) ≡ x a (p - c)) → ask call c y p ≡ ask call c x p
same-ask call c p x y h =
    elim (leb_tells c p) [
      | inl e ↦ rw e.0 (ap (Asked call c) (λ i a. h e.1 a i))
      | inr e ↦ rw e.0 refl
    ]

proper-exits : (status c p : ℕ) → IsProperTalk (exits status c p)
proper-exits status c p =
    elim (leb_tells c p) [
      | inl e ↦ rw e.0 tt
      | inr e ↦ rw e.0 tt
    ]

proper-add : (c : ℕ) (t : Talk) → IsProperTalk t → IsProperTalk (add c t)
proper-add c Cut h = tt
proper-add c (Exited status cost) h = tt
proper-add c (Asked call cost rest) h = h

proper-pay : (c p : ℕ) (x : Says) → (c ≤ p → IsProperTalk (x (p - c))) → IsProperTalk (pay c x p)
proper-pay c p x h =
    elim (leb_tells c p) [
      | inl e ↦ rw e.0 (proper-add c (x (p - c)) (h e.1))
      | inr e ↦ rw e.0 tt
    ]

proper-ask : (call : Call) (c p : ℕ) (next : Answer → Says) → IsProper call → (c ≤ p → (a : Answer) → IsProperTalk (next a (p - c))) → IsProperTalk (ask call c next p)
proper-ask call c p next k h =
    elim (leb_tells c p) [
      | inl e ↦ rw e.0 (k, h e.1)
      | inr e ↦ rw e.0 tt
    ]

-- What keeps two sayings alike, in any view. For each definition of what is said one lemma is enough, by these:
-- as it is it gives the unfolding, cut that fewer turns only cut it, properly that its calls are proper.

-- a view sees no fewer turns
pub more-above : (v : View) (p : ℕ) → p ≤ more v p
more-above As_is p = omega arith
more-above (Cut_to extra) p = omega arith
more-above Properly p = omega arith

-- exiting
pub alike-exits : (v : View) (p status c : ℕ) → Alike v p (exits status c) (exits status c)
alike-exits As_is p status c = refl
alike-exits (Cut_to extra) p status c = cut-exits status c p extra
alike-exits Properly p status c = proper-exits status c p

-- paying; what is said then has c turns fewer
pub alike-pay : (v : View) (p c : ℕ) (x y : Says) → (c ≤ p → Alike v (p - c) x y) → Alike v p (pay c x) (pay c y)
alike-pay As_is p c x y h = same-pay c p x y h
alike-pay (Cut_to extra) p c x y h = cut-pay extra c p x y h
alike-pay Properly p c x y h = proper-pay c p x h

-- asking a proper call
pub alike-ask : (v : View) (p : ℕ) (call : Call) (c : ℕ) (x y : Answer → Says) → IsProper call → (c ≤ p → (a : Answer) → Alike v (p - c) (x a) (y a)) → Alike v p (ask call c x) (ask call c y)
alike-ask As_is p call c x y k h = same-ask call c p x y h
alike-ask (Cut_to extra) p call c x y k h = cut-ask extra call c p x y h
alike-ask Properly p call c x y k h = proper-ask call c p x k h

-- choosing
pub alike-if : (v : View) (p : ℕ) (b : Bool) (x x' y y' : Says) → Alike v p x x' → Alike v p y y' → Alike v p (if b then x else y) (if b then x' else y')
alike-if v p true x x' y y' h k = h
alike-if v p false x x' y y' h k = k

-- What a command may say, by its parts.

-- exiting
pub talk-exits : (status c : ℕ) → IsCommandTalk (exits status c)
talk-exits status c v p = alike-exits v p status c

-- paying
pub talk-pay : (c : ℕ) (x : Says) → IsCommandTalk x → IsCommandTalk (pay c x)
talk-pay c x h v p = alike-pay v p c x x (λ _. h v (p - c))

-- asking a proper call
pub talk-ask : (call : Call) (c : ℕ) (next : Answer → Says) → IsProper call → ((a : Answer) → IsCommandTalk (next a)) → IsCommandTalk (ask call c next)
talk-ask call c next k h v p = alike-ask v p call c next next k (λ _ a. h a v (p - c))

-- choosing
pub talk-if : (b : Bool) (x y : Says) → IsCommandTalk x → IsCommandTalk y → IsCommandTalk (if b then x else y)
talk-if true x y h k = h
talk-if false x y h k = k

-- What is known of it then.

-- fewer turns only cut it
pub talk-lasts : (x : Says) → IsCommandTalk x → Lasts x
talk-lasts x h p extra = h (Cut_to extra) p

-- its calls are proper
pub talk-proper : (x : Says) → IsCommandTalk x → AsksProperly x
talk-proper x h p = h Properly p

add-nothing : (t : Talk) → add 0 t ≡ t
add-nothing Cut = refl
add-nothing (Exited status c) = ap (Exited status) (zero-add c)
add-nothing (Asked call c rest) = ap (λ n. Asked call n rest) (zero-add c)

-- a payment of nothing
pub pay-nothing : (x : Says) (p : ℕ) → pay 0 x p ≡ x p
pay-nothing x p = rw (le-leb 0 p (omega arith), sub-zero, add-nothing (x p)) refl
