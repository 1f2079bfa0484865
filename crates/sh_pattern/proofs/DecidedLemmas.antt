-- The test tells what is matched.
use Rattle.std.proofs.Common.{◌≡◌, ℕ, zero, suc, List, [], ◌∷◌, drop, refl, sym, Bool, true, false, ◌&&◌, ◌||◌}
use Rattle.std.specs.Prelude.{IsTrue, ◌↔◌}
use Rattle.rk_base.specs.Text.{Text}
use Rattle.sh_pattern.specs.Parts.{Part, Star, One, parts}
use Rattle.sh_pattern.specs.Matching.{MatchesParts, Matches}
use Rattle.sh_pattern.specs.Decided.{any_end, matched, is_matched}

either : (a b : Bool) (P Q : Type 0) → (a ≡ true → P) → (b ≡ true → Q) → (P → Q) → (a || b) ≡ true → Q
either true b P Q f g h e = h (f refl)
either false b P Q f g h e = g e

any_there : (ps : List Part) → ((t : Text) → matched ps t ≡ true → MatchesParts ps t) → (text : Text) → any_end (matched ps) text ≡ true → (n : ℕ) × MatchesParts ps (drop n text)
any_there ps again [] e = (0, again [] e)
any_there ps again (b ∷ bs) e =
    either (matched ps (b ∷ bs)) (any_end (matched ps) bs) (MatchesParts ps (b ∷ bs)) ((n : ℕ) × MatchesParts ps (drop n (b ∷ bs))) (again (b ∷ bs))
    (λ f. let m = any_there ps again bs f in (suc m.0, m.1))
    (λ m. (0, m)) e

both : (a b : Bool) → (a && b) ≡ true → (a ≡ true) × (b ≡ true)
both true b e = (refl, e)
both false b e = absurd (cc)

pub there : (ps : List Part) (text : Text) → matched ps text ≡ true → MatchesParts ps text
there [] [] e = refl
there [] (b ∷ bs) e = absurd (cc)
there (Star ∷ ps) text e = any_there ps (there ps) text e
there (One meets ∷ ps) [] e = absurd (cc)
there (One meets ∷ ps) (b ∷ bs) e = let h = both (meets b) (matched ps bs) e in (h.0, there ps bs h.1)

or_right : (a b : Bool) → b ≡ true → (a || b) ≡ true
or_right true b e = refl
or_right false b e = e

any_back : (ps : List Part) → ((t : Text) → MatchesParts ps t → matched ps t ≡ true) → (n : ℕ) (text : Text) → MatchesParts ps (drop n text) → any_end (matched ps) text ≡ true
any_back ps again zero [] m = again [] m
any_back ps again zero (b ∷ bs) m = rw (again (b ∷ bs) m) refl
any_back ps again (suc n) [] m = again [] m
any_back ps again (suc n) (b ∷ bs) m = or_right (matched ps (b ∷ bs)) (any_end (matched ps) bs) (any_back ps again n bs m)

pub back : (ps : List Part) (text : Text) → MatchesParts ps text → matched ps text ≡ true
back [] [] m = refl
back [] (b ∷ bs) m = absurd (cc)
back (Star ∷ ps) text (n, m) = any_back ps (back ps) n text m
back (One meets ∷ ps) [] m = absurd m
back (One meets ∷ ps) (b ∷ bs) (e, m) = rw (e, back ps bs m) refl

same : (a b : Bool) → (a ≡ true → b ≡ true) → (b ≡ true → a ≡ true) → a ≡ b
same true true f g = refl
same true false f g = sym (f refl)
same false true f g = g refl
same false false f g = refl

pub decided : (pattern text : Text) (r : Bool) → IsTrue r ↔ Matches pattern text → r ≡ is_matched pattern text
unfolding is_matched
decided pattern text r h = same r (matched (parts pattern) text) (λ e. back (parts pattern) text (h.0 e)) (λ e. h.1 (there (parts pattern) text e))
