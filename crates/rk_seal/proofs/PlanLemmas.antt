-- The plan of calls.
use Rattle.std.proofs.Common.{◌≡◌, List, [], ◌∷◌, Bool, true, false, cond, Option, Some, None, option_map, refl, sym, ap, ◌∙◌}
use Rattle.rk_base.specs.Canonical.{is_empty}
use Rattle.rk_seal.specs.Ops.{are_calls}
use Rattle.rk_seal.specs.Plans.{plan_of, with_calls}
use Rattle.rk_seal.specs.declared.ops.Op.{Op}

clash : (b : Bool) → b ≡ true → b ≡ false → ⊥
clash b t f = cc

-- there are no calls
pub plan-none : (ops : List Op) (fresh b : Bool) → b ≡ is_empty ops → b ≡ true → Some (with_calls fresh None) ≡ plan_of ops fresh
plan-none [] fresh b is on = refl
plan-none (op ∷ ops) fresh b is on = absurd (clash b on is)

-- they are a list
pub plan-list : (ops list : List Op) (fresh b : Bool) (found : Option (List Op)) → b ≡ is_empty ops → b ≡ false → found ≡ cond (are_calls ops) (Some ops) None → found ≡ Some list → Some (with_calls fresh (Some list)) ≡ plan_of ops fresh
plan-list [] list fresh b found is off made at = absurd (clash b is off)
plan-list (op ∷ ops) list fresh b found is off made at = sym (ap (option_map (λ (l : List Op). with_calls fresh (Some l))) (sym made ∙ at))

-- or aren't
pub plan-not : (ops : List Op) (fresh b : Bool) (found : Option (List Op)) → b ≡ is_empty ops → b ≡ false → found ≡ cond (are_calls ops) (Some ops) None → found ≡ None → None ≡ plan_of ops fresh
plan-not [] fresh b found is off made at = absurd (clash b is off)
plan-not (op ∷ ops) fresh b found is off made at = sym (ap (option_map (λ (l : List Op). with_calls fresh (Some l))) (sym made ∙ at))
