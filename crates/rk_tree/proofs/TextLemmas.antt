-- Texts of paths.
use Rattle.std.proofs.Common.{◌≡◌, ◌⊎◌, inl, inr, Bool, true, false, refl, subst}
use Rattle.std.specs.Ordering.{eq_by_cmp}
use Rattle.std.specs.Cmp.{Equal-is}
use Rattle.rk_base.specs.Text.{Text, text_cmp, root, or_root, stem, parent, join, hidden, is_within}
pub use Rattle.rk_base.proofs.WithinLemmas.{one_of, or_right, exact_texts, same_is, ties_itself, same_itself, stem-back, within-join}

-- two texts are one, or they don't tie
pub told_apart : (a b : Text) → ((a ≡ b) × (eq_by_cmp text_cmp a b ≡ true)) ⊎ ((a ≡ b → ⊥) × (eq_by_cmp text_cmp a b ≡ false))
told_apart a b = elim (eq_by_cmp text_cmp a b) as (λ (t : Bool). eq_by_cmp text_cmp a b ≡ t → ((a ≡ b) × (eq_by_cmp text_cmp a b ≡ true)) ⊎ ((a ≡ b → ⊥) × (eq_by_cmp text_cmp a b ≡ false))) [
  | true ↦ λ e. inl (exact_texts a b ((Equal-is (text_cmp a b)).0 e), e)
  | false ↦ λ e. inr ((λ same. clash _ (subst (λ (t : Text). eq_by_cmp text_cmp a t ≡ true) same (ties_itself a)) e), e)
] refl where
  clash : (b : Bool) → b ≡ true → b ≡ false → ⊥
  clash b t f = cc

pub parent-root : parent root ≡ root
unfolding parent
parent-root = refl

-- the root isn't hidden
pub root_seen : is_within (join root hidden) root ≡ false
unfolding is_within join
root_seen = refl

pub name_at_root : (name : Text) → join root name ≡ join root hidden → name ≡ hidden
unfolding join
name_at_root name h = cc

pub hidden-back : or_root (stem (join root hidden)) ≡ join root hidden
unfolding join
hidden-back = refl
