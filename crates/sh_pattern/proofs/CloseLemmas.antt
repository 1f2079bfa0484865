-- Where no `]` is left, nothing closes a set.
use Rattle.std.proofs.Common.{◌≡◌, ℕ, zero, suc, ◌+◌, ◌-◌, List, [], ◌∷◌, ◌++◌, drop, subst, refl, inl, inr, Bool, true, false, ◌||◌}
use Rattle.std.specs.Prelude.{None, ◌==◌}
use Rattle.std.proofs.lemmas.Bool.Decides.{eqb_tells}
use Rattle.rk_base.specs.Text.{Text}
use Rattle.sh_pattern.specs.declared.set.Item.{Item}
use Rattle.sh_pattern.specs.Sets.{set_from, item_at, has_close}
use Rattle.sh_pattern.specs.Parts.{bracket, byte}
use Rattle.sh_pattern.specs.Special.{is_closed}
use Rattle.sh_pattern.proofs.SpecialLemmas.{rest}

or_left : (a b : Bool) → (a || b) ≡ false → a ≡ false
or_left false b h = refl
or_left true b h = h

or_right : (a b : Bool) → (a || b) ≡ false → b ≡ false
or_right false b h = h
or_right true b h = absurd (cc)

pub close-tail : (b : ℕ) (bs : Text) → has_close (b ∷ bs) ≡ false → has_close bs ≡ false
close-tail b bs h = or_right (b == 93) (has_close bs) h

pub close-drop : (n : ℕ) (text : Text) → has_close text ≡ false → has_close (drop n text) ≡ false
close-drop zero text h = h
close-drop (suc n) [] h = refl
close-drop (suc n) (b ∷ bs) h = close-drop n bs (close-tail b bs h)

-- one byte further
pub close_goes : (pattern : Text) (at : ℕ) (b : ℕ) (bs : Text) (n : ℕ) → drop at pattern ≡ b ∷ bs → has_close bs ≡ false → has_close (drop (at + (1 + n)) pattern) ≡ false
close_goes pattern at b bs n e h = subst (λ t. has_close t ≡ false) (rest pattern at b bs n e) (close-drop n bs h)

-- before a byte
pub close_there : (pattern : Text) (at : ℕ) (b : ℕ) (bs : Text) → drop at pattern ≡ b ∷ bs → has_close (drop at pattern) ≡ false → has_close bs ≡ false
close_there pattern at b bs e h = close-tail b bs (subst (λ t. has_close t ≡ false) e h)

no_set : (items : List Item) (at skip : ℕ) (text : Text) → has_close text ≡ false → set_from items at skip text ≡ None
no_set items at skip [] h = refl
no_set items at (suc skip) (b ∷ bs) h = no_set items (at + 1) skip bs (close-tail b bs h)
no_set items at zero (b ∷ bs) h = rw (or_left (b == 93) (has_close bs) h) (no_set (items ++ (item_at b bs).0 ∷ []) (at + 1) ((item_at b bs).1 - 1) bs (close-tail b bs h))

pub open_bracket : (text : Text) → has_close text ≡ false → bracket text ≡ record { part = byte 91; more = 0 }
open_bracket [] h = refl
open_bracket (b ∷ bs) h =
    elim (eqb_tells b 33) [
      | inl e ↦ rw (e.0, no_set [] 0 0 bs (close-tail b bs h)) refl
      | inr e ↦ rw (e.0, no_set [] 0 0 (b ∷ bs) h) refl
    ]

pub not_closed : (text : Text) → has_close text ≡ false → is_closed text ≡ false
not_closed [] h = refl
not_closed (b ∷ bs) h =
    elim (eqb_tells b 33) [
      | inl e ↦ rw (e.0, no_set [] 0 0 bs (close-tail b bs h)) refl
      | inr e ↦ rw (e.0, no_set [] 0 0 (b ∷ bs) h) refl
    ]
