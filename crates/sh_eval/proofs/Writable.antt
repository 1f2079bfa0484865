-- Variables of which none is readonly.
use Rattle.std.proofs.Common.{◌≡◌, Bool, true, false, cond, Option, Some, ap, sym, subst, ◌∙◌}
use Rattle.std.specs.Ordering.{eq_by_cmp}
use Rattle.std.specs.Cmp.Lexicographic.{nat_list_cmp_total}
use Rattle.std.specs.FinMap.{get, get-empty, get-insert}
use Rattle.rk_base.specs.Text.{Text, text_cmp}
use Rattle.sh_vars.specs.declared.variable.Variable.{Variable}
use Rattle.sh_vars.specs.Held.{Held, is_kept, nothing, with_variable, assigned, given}
use Rattle.sh_eval.specs.Starting.{NoneReadonly}

kept_either : (b : Bool) (v : Variable) (o : Option Variable) → v.readonly ≡ false → is_kept o ≡ false → is_kept (cond b (Some v) o) ≡ false
kept_either true v o of_v of_o = of_v
kept_either false v o of_v of_o = of_o

with_none : (name : Text) (v : Variable) (held : Held) → v.readonly ≡ false → NoneReadonly held → NoneReadonly (with_variable name v held)
with_none name v held of_v none q =
    ap is_kept (get-insert nat_list_cmp_total held.variables name v q) ∙ kept_either (eq_by_cmp text_cmp q name) v (get held.variables q) of_v (none q)

-- a value is assigned
pub assigned_none : (now held : Held) (name value : Text) → now ≡ assigned name value held → NoneReadonly held → NoneReadonly now
assigned_none now held name value is none = subst NoneReadonly (sym is) (with_none name _ held (none name) none)

-- a variable is exported
pub given_none : (now held : Held) (name : Text) → now ≡ given name held → NoneReadonly held → NoneReadonly now
given_none now held name is none = subst NoneReadonly (sym is) (with_none name _ held (none name) none)

-- nothing is set
pub nothing_none : (now : Held) → now ≡ nothing → NoneReadonly now
nothing_none now is = subst NoneReadonly (sym is) (λ name. ap is_kept (get-empty text_cmp name))
