use Rattle.std.proofs.Common.{arith, ◌≡◌, Bool, true, false, ◌&&◌, refl, ap, ◌∙◌}
use Rattle.std.specs.Bool.{Decides}
use Rattle.std.proofs.lemmas.Grind.{common_steps}
use Rattle.std.proofs.lemmas.Slice.Eq.{slice_eq-Decides}
use Rattle.std.specs.Cmp.Lexicographic.{bytes_decides}
use Rattle.rk_base.specs.declared.vars.Var.{Var}
use Rattle.rk_base.specs.Vars.{var_eq}
use Rattle.rk_base.proofs.vars.VarList.same.Goals as goal

both : (a b : Bool) → (a && b) ≡ true → (a ≡ true) × (b ≡ true)
both true b h = (refl, h)
both false b h = cc

and_both : (a b : Bool) → a ≡ true → b ≡ true → (a && b) ≡ true
and_both a b h k = ap (λ (x : Bool). x && b) h ∙ k

joined : (v w : Var) → v.name ≡ w.name → v.value ≡ w.value → v ≡ w
joined v w n e = ap (λ n. record { name = n; value = v.value }) n ∙ ap (λ e. record { name = w.name; value = e }) e

var_decides : (v w : Var) → Decides (var_eq v w) (v ≡ w)
var_decides v w =
    let names = bytes_decides v.name w.name in
    let values = bytes_decides v.value w.value in (
      λ e. let p = both _ _ e in joined v w (names.0 p.0) (values.0 p.1),
      λ e. and_both _ _ (names.1 (ap (λ (x : Var). x.name) e)) (values.1 (ap (λ (x : Var). x.value) e)),
    )

pub returns : goal.returns
returns c =
    let d = slice_eq-Decides var_decides c.as_slice.result.now c.as_slice-2.result.now c.eq.result c.eq.ensures in
    grind (arith, common_steps, d)
