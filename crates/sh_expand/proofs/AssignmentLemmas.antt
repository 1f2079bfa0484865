-- An assignment by an expression, in the map of the variables.
use Rattle.std.proofs.Common.{◌≡◌, Some, refl, sym, ap, subst}
use Rattle.rk_base.specs.Text.{Text}
use Rattle.sh_arith.specs.Environment.{ChangesOne}
use Rattle.sh_vars.specs.declared.variable.Variable.{Variable}
use Rattle.sh_vars.specs.Held.{Held, assigned, is_exported, is_readonly, is_kept, value_of}
use Rattle.sh_vars.proofs.NameMap.{at_each, at_name, at_other}
use Rattle.sh_expand.specs.Arithmetic.{variables_in}

assigned_one : (held : Held) (x text : Text) → ChangesOne (variables_in held) (variables_in (assigned x text held)) x text
assigned_one held x text =
    let it : Variable = record { value = Some text; exported = is_exported held x; readonly = is_readonly held x } in
    record {
      named = ap value_of (at_name held.variables x it);
      others = λ y other. ap value_of (at_other held.variables x it y other);
      flags = λ y. at_each held.variables x it y is_kept refl;
    }

pub changes_one : (old new held : Held) (x text value : Text) → new ≡ assigned x text held → held ≡ old → text ≡ value → ChangesOne (variables_in old) (variables_in new) x value
changes_one old new held x text value is before told =
    subst (λ (t : Text). ChangesOne (variables_in old) (variables_in new) x t) told
    (subst (λ (h : Held). ChangesOne (variables_in h) (variables_in new) x text) before
    (subst (λ (h : Held). ChangesOne (variables_in held) (variables_in h) x text) (sym is) (assigned_one held x text)))
