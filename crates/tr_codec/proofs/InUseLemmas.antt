-- How many nodes are in use, number by number.
use Rattle.std.proofs.Common.{◌≡◌, ◌∙◌, refl, sym, subst, ℕ, ◌≤◌, inl, inr, List, [], ◌∷◌, ◌++◌, Option, Some, None, length, arith}
use Rattle.std.specs.Prelude.{IfSome, IfNone}
use Rattle.tr_nodes.specs.Nodes.{Node}
use Rattle.tr_nodes.specs.Tails.{Uses, UsesAll}
use Rattle.tr_nodes.proofs.LoopLemmas.{one_use}
use Rattle.tr_record.specs.declared.steps.Step.{Step}
use Rattle.tr_codec.specs.Rows.{InUse}

module _ {X : Type 0} where
  uses_push : (nodes : List (Node X)) (first : ℕ) (heads : List ℕ) (mid head now : ℕ) → UsesAll nodes first heads mid → Uses nodes mid head now → UsesAll nodes first (heads ++ head ∷ []) now
  uses_push nodes first [] mid head now all last = (now, subst (λ (n : ℕ). Uses nodes n head now) (sym all) last, refl)
  uses_push nodes first (h ∷ heads) mid head now all last = (all.0, all.1, uses_push nodes all.0 heads mid head now all.2 last)

  uses_split : (nodes : List (Node X)) (first : ℕ) (heads : List ℕ) (head now : ℕ) → UsesAll nodes first (heads ++ head ∷ []) now → (mid : ℕ) × UsesAll nodes first heads mid × Uses nodes mid head now
  uses_split nodes first [] head now all = (first, refl, subst (λ (n : ℕ). Uses nodes first head n) all.2 all.1)
  uses_split nodes first (h ∷ heads) head now all =
      let rest = uses_split nodes all.0 heads head now all.2 in
      (rest.0, (all.0, all.1, rest.1), rest.2)

  pub one_count : (nodes : List (Node X)) (first : ℕ) (heads : List ℕ) (a b : ℕ) → UsesAll nodes first heads a → UsesAll nodes first heads b → a ≡ b
  one_count nodes first [] a b p q = sym p ∙ q
  one_count nodes first (head ∷ heads) a b p q =
      let same = one_use nodes first head p.0 q.0 p.1 q.1 in
      one_count nodes p.0 heads a b p.2 (subst (λ (n : ℕ). UsesAll nodes n heads b) (sym same) q.2)

-- nothing is in use at first
pub in_use_none : (nodes : List (Node Step)) → InUse nodes [] (Some 0)
in_use_none nodes = (refl, omega arith)

-- where others were skipped before, they were
pub none_stays : (nodes : List (Node Step)) (heads : List ℕ) (head : ℕ) → InUse nodes heads None → InUse nodes (heads ++ head ∷ []) None
none_stays nodes heads head none now all = let s = uses_split nodes 0 heads head now all in none s.0 s.1

-- after one number more
pub in_use_more : (nodes : List (Node Step)) (heads : List ℕ) (used head : ℕ) (result : Option ℕ) → head ≤ length nodes → InUse nodes heads (Some used)
    → IfSome result (λ now. Uses nodes used head now) → IfNone result ((now : ℕ) → Uses nodes used head now → ⊥) → InUse nodes (heads ++ head ∷ []) result
in_use_more nodes heads used head None le so some none = λ now all.
    let s = uses_split nodes 0 heads head now all in
    let same = one_count nodes 0 heads s.0 used s.1 so.0 in
    none now (subst (λ (n : ℕ). Uses nodes n head now) same s.2)
in_use_more nodes heads used head (Some now) le so some none = (
  uses_push nodes 0 heads used head now so.0 some,
  elim some [ inl a ↦ let same = a.1 in let low = so.1 in omega arith | inr a ↦ let same = a.3 in omega arith ],
)
