-- Numbers that digits write.
use Rattle.std.proofs.Common.{◌≡◌, ℕ, suc, ◌+◌, ◌-◌, ◌*◌, ◌≤◌, ◌<◌, [], ◌∷◌, length, drop, drop-cons, get_or, sym, ap, arith, inl, inr}
use Rattle.std.specs.Prelude.{None}
use Rattle.std.proofs.lemmas.Bool.Decides.{eqb_tells}
use Rattle.std.proofs.lemmas.Option.{slice_get_past}
use Rattle.rk_base.specs.Text.{Text}
use Rattle.sh_vars.specs.declared.env.Env.{Env}
use Rattle.sh_expand.specs.Values.{number, number_from, positional_at}

-- more digits only add
number_from-above : (n : ℕ) (digits : Text) → n ≤ number_from n digits
number_from-above n [] = omega arith
number_from-above n (b ∷ bs) = let h : n * 10 + (b - 48) ≤ number_from (n * 10 + (b - 48)) bs = number_from-above (n * 10 + (b - 48)) bs in omega arith

-- what is too great after a digit is too great after all of them
pub spilled : (digits : Text) (i n m : ℕ) → i < length digits → number_from n (drop i digits) ≡ number digits → m ≤ n * 10 + (get_or digits i 0 - 48) → m ≤ number digits
spilled digits i n m lt e h =
    let more : number_from n (drop i digits) ≡ number_from (n * 10 + (get_or digits i 0 - 48)) (drop (suc i) digits) = ap (number_from n) (drop-cons digits i 0 lt) in
    let above : n * 10 + (get_or digits i 0 - 48) ≤ number_from (n * 10 + (get_or digits i 0 - 48)) (drop (suc i) digits) = number_from-above (n * 10 + (get_or digits i 0 - 48)) (drop (suc i) digits) in
    omega arith

-- there is no parameter of a number above the last one's
pub past_last : (e : Env) (n : ℕ) → length e.vars.positional < n → None ≡ positional_at e n
past_last e n h = elim (eqb_tells n 0) [ inl f ↦ absurd (omega (arith, f.1)) | inr f ↦ rw f.0 (sym (slice_get_past e.vars.positional (n - 1) (omega (arith, f.1)))) ]
