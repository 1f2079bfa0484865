use Rattle.std.proofs.Common.{arith, ◌≡◌, ℕ, Bool, true, false, ◌&&◌, eqb, refl, ap, ◌∙◌}
use Rattle.std.specs.Bool.{Decides}
use Rattle.std.specs.Cmp.{unsigned_Decides}
use Rattle.std.proofs.lemmas.Grind.{common_steps}
use Rattle.std.proofs.lemmas.Slice.Eq.{slice_eq-Decides}
use Rattle.rk_calls.proofs.refmap.RefMap.same.Goals as goal

both : (a b : Bool) → (a && b) ≡ true → (a ≡ true) × (b ≡ true)
both true b h = (refl, h)
both false b h = cc

and_both : (a b : Bool) → a ≡ true → b ≡ true → (a && b) ≡ true
and_both a b h k = ap (λ (x : Bool). x && b) h ∙ k

joined : (p q : ℕ × ℕ) → p.0 ≡ q.0 → p.1 ≡ q.1 → p ≡ q
joined p q n e = ap (λ (n : ℕ). let r : ℕ × ℕ = (n, p.1) in r) n ∙ ap (λ (e : ℕ). let r : ℕ × ℕ = (q.0, e) in r) e

pair_decides : (p q : ℕ × ℕ) → Decides (eqb p.0 q.0 && eqb p.1 q.1) (p ≡ q)
pair_decides p q =
    let firsts = unsigned_Decides p.0 q.0 in
    let seconds = unsigned_Decides p.1 q.1 in (
      λ e. let r = both _ _ e in joined p q (firsts.0 r.0) (seconds.0 r.1),
      λ e. and_both _ _ (firsts.1 (ap (λ (r : ℕ × ℕ). r.0) e)) (seconds.1 (ap (λ (r : ℕ × ℕ). r.1) e)),
    )

pub returns : goal.returns
returns c =
    let d = slice_eq-Decides pair_decides c.as_slice.result.now c.as_slice-2.result.now c.eq.result c.eq.ensures in
    grind (arith, common_steps, d)
