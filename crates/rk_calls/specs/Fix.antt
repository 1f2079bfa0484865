-- What says itself again after it paid: loops, calls of functions and work lists.
use Rattle.std.proofs.Common.{◌≡◌, ℕ, zero, suc, ◌≤◌, ◌<◌, sym, arith}
use Rattle.rk_calls.specs.Talk.{Says, Cut}
use Rattle.rk_calls.specs.Views.{View, As_is, more, Alike, more-above, IsCommandTalk}

-- with at most n of them inside one another
abbrev pub fix_to : {J : Type 0} → ((J → Says) → J → Says) → ℕ → J → Says
fix_to f zero j p = Cut
fix_to f (suc n) j p = f (fix_to f n) j p

-- each is paid, so the turns bound them
unfoldable pub fix : {J : Type 0} → ((J → Says) → J → Says) → J → Says
fix f j p = fix_to f (suc p) j p

-- two ways to go on are alike where fewer than P turns are left, at jobs that are
abbrev pub AlikeBelow : {J : Type 0} → (v : View) → (ℕ → J → J → Type 0) → ℕ → (J → Says) → (J → Says) → Type 0
AlikeBelow {J} v r P x y = (j j' : J) (p : ℕ) → p < P → r p j j' → Alike v p (x j) (y j')

-- it pays before it says itself again
abbrev pub Pays_first : {J : Type 0} → (View → ℕ → J → J → Type 0) → ((J → Says) → J → Says) → Type 0
Pays_first {J} r f = (v : View) (P : ℕ) (x y : J → Says) → AlikeBelow v (r v) P x y → AlikeBelow v (r v) (suc P) (f x) (f y)

module _ {J : Type 0} (r : View → ℕ → J → J → Type 0) (f : (J → Says) → J → Says) (pays : Pays_first r f) where
  to_alike : (v : View) (P n m : ℕ) → P ≤ n → P ≤ m → AlikeBelow v (r v) P (fix_to f n) (fix_to f m)
  to_alike v zero n m a b j j' p lt h = absurd (omega arith)
  to_alike v (suc P) zero m a b j j' p lt h = absurd (omega arith)
  to_alike v (suc P) (suc n) zero a b j j' p lt h = absurd (omega arith)
  to_alike v (suc P) (suc n) (suc m) a b j j' p lt h = pays v P (fix_to f n) (fix_to f m) (to_alike v P n m (omega arith) (omega arith)) j j' p lt h

  to_fix : (v : View) (P : ℕ) → AlikeBelow v (r v) P (fix_to f P) (fix f)
  unfolding fix
  to_fix v P j j' p lt h =
      let up : p ≤ more v p = more-above v p in
      to_alike v (suc p) P (suc (more v p)) (omega arith) (omega arith) j j' p (omega arith) h

  -- in any view, at jobs that are alike
  pub fix-alike : (v : View) (P : ℕ) → AlikeBelow v (r v) P (fix f) (fix f)
  unfolding fix
  fix-alike v P j j' p lt h =
      let up : p ≤ more v p = more-above v p in
      to_alike v (suc p) (suc p) (suc (more v p)) (omega arith) (omega arith) j j' p (omega arith) h

  -- what it says, by what it says again
  pub fix-is : (j : J) (p : ℕ) → r As_is p j j → fix f j p ≡ f (fix f) j p
  unfolding fix
  fix-is j p h = sym (pays As_is p (fix_to f p) (fix f) (to_fix As_is p) j j p (omega arith) h)

  -- a command may say it
  pub talk-fix : (j : J) → ((v : View) (p : ℕ) → r v p j j) → IsCommandTalk (fix f j)
  talk-fix j h v p = fix-alike v (suc p) j j p (omega arith) (h v p)
