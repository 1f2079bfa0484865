-- The plan of calls, and the calls of a plan.
use Rattle.std.proofs.Common.{◌≡◌, ◌⊎◌, inl, inr, List, [], ◌∷◌, Bool, true, false, cond, Option, Some, None, IfSome, IsSome, is_some, option_map, unwrap_or, refl, sym, ap, subst}
use Rattle.rk_seal.specs.Ops.{are_calls}
use Rattle.rk_seal.specs.Plans.{calls_in, plan_of, with_calls}
use Rattle.rk_seal.specs.declared.ops.Op.{Op}
use Rattle.rk_seal.specs.declared.plan.Plan.{Plan}

-- a plan with these calls
abbrev with_list : Bool → List Op → Plan
with_list fresh list = with_calls fresh (Some list)

abbrev IsPlanOf : List Op → Bool → Plan → Type 0
IsPlanOf ops fresh plan = (calls_in plan ≡ ops) × (plan.fresh_list ≡ fresh)

found-is : (made plan : Plan) (ops : List Op) (fresh : Bool) → IsPlanOf ops fresh made → Some made ≡ Some plan → IsPlanOf ops fresh plan
found-is made plan ops fresh is same = subst (IsPlanOf ops fresh) (ap (λ (o : Option Plan). unwrap_or o made) same) is

none-found : {X : Type 0} (plan : Plan) → None ≡ Some plan → X
none-found plan h = absurd (no h) where
  no : None ≡ Some plan → ⊥
  no e = cc

-- of the plan of some calls, these are its calls
pub plan-calls : (ops : List Op) (fresh : Bool) (plan : Plan) → plan_of ops fresh ≡ Some plan → (calls_in plan ≡ ops) × (plan.fresh_list ≡ fresh)
plan-calls [] fresh plan h = found-is (with_calls fresh None) plan [] fresh (refl, refl) h
plan-calls (op ∷ ops) fresh plan h = by (are_calls (op ∷ ops)) h where
  by : (b : Bool) → option_map (λ (list : List Op). with_calls fresh (Some list)) (cond b (Some (op ∷ ops)) None) ≡ Some plan → (calls_in plan ≡ op ∷ ops) × (plan.fresh_list ≡ fresh)
  by true e = found-is (with_list fresh (op ∷ ops)) plan (op ∷ ops) fresh (refl, refl) e
  by false e = none-found plan e

-- and there are none, or they are such as a list has
abbrev pub IsListed : Option (List Op) → List Op → Type 0
IsListed None ops = ops ≡ []
IsListed (Some list) ops = (list ≡ ops) × (are_calls ops ≡ true)

pub plan-list : (ops : List Op) (fresh : Bool) (plan : Plan) → plan_of ops fresh ≡ Some plan → IsListed plan.calls ops
plan-list [] fresh plan h = subst (λ (p : Plan). IsListed p.calls []) (ap (λ (o : Option Plan). unwrap_or o (with_calls fresh None)) h) refl
plan-list (op ∷ ops) fresh plan h = by (are_calls (op ∷ ops)) refl h where
  by : (b : Bool) → are_calls (op ∷ ops) ≡ b → option_map (λ (list : List Op). with_calls fresh (Some list)) (cond b (Some (op ∷ ops)) None) ≡ Some plan → IsListed plan.calls (op ∷ ops)
  by true are e = subst (λ (p : Plan). IsListed p.calls (op ∷ ops)) (ap (λ (o : Option Plan). unwrap_or o (with_list fresh (op ∷ ops))) e) (refl, are)
  by false are e = none-found plan e

-- what is so of the calls is so of those of their plan
pub of-plan : (P : List Op → Type 0) (ops : List Op) (fresh : Bool) (found : Option Plan) → found ≡ plan_of ops fresh → P ops → IfSome found (λ plan. P (calls_in plan))
of-plan P ops fresh None h p = tt
of-plan P ops fresh (Some plan) h p = subst P (sym (plan-calls ops fresh plan (sym h)).0) p

-- there is one of none, and of such calls as a list has
pub plan-some : (ops : List Op) (fresh : Bool) → (ops ≡ []) ⊎ (are_calls ops ≡ true) → IsSome (plan_of ops fresh)
plan-some ops fresh (inl none) = subst (λ (l : List Op). is_some (plan_of l fresh) ≡ true) (sym none) refl
plan-some [] fresh (inr are) = refl
plan-some (op ∷ ops) fresh (inr are) = ap (λ (b : Bool). is_some (option_map (λ (list : List Op). with_calls fresh (Some list)) (cond b (Some (op ∷ ops)) None))) are
