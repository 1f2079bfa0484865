use Rattle.std.proofs.Common.{rules, w64, FitsSigned, sym, ap, ◌∙◌, ◌++◌}
use Rattle.std.proofs.lemmas.Int.{to_z-of_z}
use Rattle.std.specs.Prelude.{ℤ}
use Rattle.std.specs.Fmt.{signed_decimal}
use Rattle.sh_split.specs.Marked.{given}
use Rattle.sh_expand.proofs.ArithmeticLemmas.{number_is_put, fault_is_told}
use Rattle.sh_expand.proofs.arithmetic.compute.Goals as goal

pub returns-in_ok-put_number-in-Ok : goal.returns-in_ok-put_number-in-Ok
returns-in_ok-put_number-in-Ok c =
    let fits : FitsSigned w64 c.in-Ok.number = search rules in
    number_is_put c.args.quoted c.args.text.now c.args.env.now _ _ c.variables.inside.vars _ c.in-Ok.number c.args.marks.now.items _ c.replace-vars.ensures.value (sym c.variables.view_is) c.in-Ok.is c.value-worth.ensures (c.in_ok-put_number-in-Ok.ensures ∙ ap (λ (z : ℤ). c.args.marks.now.items ++ given c.args.quoted (signed_decimal z)) (to_z-of_z w64 c.in-Ok.number fits))

pub returns-in_ok-fault-in-Err : goal.returns-in_ok-fault-in-Err
returns-in_ok-fault-in-Err c =
    fault_is_told c.args.quoted c.args.text.now c.args.env.now _ _ c.variables.inside.vars _ c.in-Err.fault c.args.marks.now.items c.in_ok-fault-in-Err.fault c.replace-vars.ensures.value (sym c.variables.view_is) c.in-Err.is c.value-worth.ensures c.in_ok-fault-in-Err.ensures.told c.in_ok-fault-in-Err.ensures.is
