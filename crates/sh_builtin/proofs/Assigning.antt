-- One variable of `read` after another.
use Rattle.std.proofs.Common.{◌≡◌, ℕ, suc, ◌+◌, ◌<◌, List, ◌∷◌, drop, get_or, length, false, refl, sym, ap, ◌∙◌, add-one}
use Rattle.std.proofs.Math.Seq.{drop-cons}
use Rattle.std.proofs.lemmas.List.{drop-drop}
use Rattle.rk_base.specs.Text.{Text}
use Rattle.sh_vars.specs.declared.env.Env.{Env}
use Rattle.sh_vars.specs.Held.{is_readonly}
use Rattle.sh_builtin.specs.Cds.{with_value}
use Rattle.sh_builtin.specs.Action.{Slots, Ended}
use Rattle.sh_builtin.specs.Reads.{first_value, assigns}

one : (front rest values more : List Text) (x : Text) (status : ℕ) (env : Env) (slots : Slots) (k : Ended) (p : ℕ) → front ≡ x ∷ rest → drop 1 values ≡ more → is_readonly env.vars x ≡ false → assigns front values status slots k env p ≡ assigns rest more status slots k (with_value x (first_value values) env) p
one front rest values more x status env slots k p e f ro = rw (e, ro, f) refl

pub assigned_next : (names values : List Text) (at : ℕ) (x : Text) (status : ℕ) (env : Env) (slots : Slots) (k : Ended) (p : ℕ) → at < length names → x ≡ get_or names at x → is_readonly env.vars x ≡ false → assigns (drop at names) (drop at values) status slots k env p ≡ assigns (drop (at + 1) names) (drop (at + 1) values) status slots k (with_value x (first_value (drop at values)) env) p
assigned_next names values at x status env slots k p lt is ro =
    let e : drop at names ≡ x ∷ drop (at + 1) names = rw add-one (drop-cons names at x lt ∙ ap (λ y. y ∷ drop (suc at) names) (sym is)) in
    one (drop at names) (drop (at + 1) names) (drop at values) (drop (at + 1) values) x status env slots k p e (drop-drop 1 at values) ro
