-- The test of keys tells equality.
use Rattle.std.proofs.Common.{◌≡◌, ◌∙◌, ap, refl, sym, Bool, true, false, ◌&&◌, List, ℕ}
use Rattle.std.specs.Bool.{Decides}
use Rattle.std.specs.Cmp.Lexicographic.{pointwise_decides, bytes_decides}
use Rattle.rk_base.specs.declared.vars.Var.{Var}
use Rattle.rk_calls.specs.Keys.{KeyValue, same_var, same_key}

both : (a b : Bool) → (a && b) ≡ true → (a ≡ true) × (b ≡ true)
both true b h = (refl, h)
both false b h = cc

and_both : (a b : Bool) → a ≡ true → b ≡ true → (a && b) ≡ true
and_both a b h k = ap (λ (x : Bool). x && b) h ∙ k

joined_var : (v w : Var) → v.name ≡ w.name → v.value ≡ w.value → v ≡ w
joined_var v w n e = ap (λ n. record { name = n; value = v.value }) n ∙ ap (λ e. record { name = w.name; value = e }) e

pub same_var-Decides : (v w : Var) → Decides (same_var v w) (v ≡ w)
same_var-Decides v w =
    let names = bytes_decides v.name w.name in
    let values = bytes_decides v.value w.value in (
      λ e. let p = both _ _ e in joined_var v w (names.0 p.0) (values.0 p.1),
      λ e. and_both _ _ (names.1 (ap (λ (x : Var). x.name) e)) (values.1 (ap (λ (x : Var). x.value) e)),
    )

joined_key : (a b : KeyValue) → a.argv ≡ b.argv → a.wd ≡ b.wd → a.vars ≡ b.vars → a ≡ b
joined_key a b words wd vars =
    ap (λ (x : List (List ℕ)). let k : KeyValue = record { argv = x; wd = a.wd; vars = a.vars } in k) words
    ∙ ap (λ (x : List ℕ). let k : KeyValue = record { argv = b.argv; wd = x; vars = a.vars } in k) wd
    ∙ ap (λ (x : List Var). let k : KeyValue = record { argv = b.argv; wd = b.wd; vars = x } in k) vars

pub same_key-Decides : (a b : KeyValue) → Decides (same_key a b) (a ≡ b)
same_key-Decides a b =
    let words = pointwise_decides bytes_decides a.argv b.argv in
    let wd = bytes_decides a.wd b.wd in
    let vars = pointwise_decides same_var-Decides a.vars b.vars in (
      λ e. let p = both _ _ e in let q = both _ _ p.1 in joined_key a b (words.0 p.0) (wd.0 q.0) (vars.0 q.1),
      λ e. and_both _ _ (words.1 (ap (λ (x : KeyValue). x.argv) e)) (and_both _ _ (wd.1 (ap (λ (x : KeyValue). x.wd) e)) (vars.1 (ap (λ (x : KeyValue). x.vars) e))),
    )

-- what tells equality is the test
pub told_key : (r : Bool) (a b : KeyValue) → Decides r (a ≡ b) → r ≡ same_key a b
told_key r a b h =
    let d = same_key-Decides a b in
    (elim r as (λ (x : Bool). (x ≡ true → a ≡ b) → (a ≡ b → x ≡ true) → x ≡ same_key a b) [
      | true ↦ λ f g. sym (d.1 (f refl))
      | false ↦ λ f g. (elim (same_key a b) as (λ (y : Bool). (y ≡ true → a ≡ b) → false ≡ y) [ true ↦ λ k. g (k refl) | false ↦ λ k. refl ]) d.0
    ]) h.0 h.1
