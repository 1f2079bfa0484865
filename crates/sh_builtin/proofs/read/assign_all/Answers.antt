use Rattle.std.proofs.Common.{◌≡◌, ◌∙◌, drop, false, rules, arith}
use Rattle.std.proofs.lemmas.Grind.{common_steps}
use Rattle.sh_vars.specs.Held.{assigned, is_readonly}
use Rattle.sh_builtin.specs.Reads.{first_value}
use Rattle.sh_builtin.proofs.Assigning.{assigned_next}
use Rattle.sh_builtin.proofs.read.assign_all.Goals as goal

pub names-preserved : goal.names-preserved
names-preserved c slots k p =
    let now : c.assign.new.vars ≡ assigned c.index-names-at.result (first_value (drop c.names.at c.args.values.now)) c.names.env.vars =
    first_of (search (rules, c.in_ok-assign.ensures), grind (arith, common_steps, c.in_ok-assign.ensures, c.as_slice-in-names.ensures, c.value_at.ensures)) in
    let kept : is_readonly c.names.env.vars c.index-names-at.result ≡ false =
    first_of (search (rules, c.if-is_readonly.false), grind (arith, common_steps, c.is_readonly.ensures, c.if-is_readonly.false, c.as_slice.ensures)) in
    c.names.invariant slots k p
    ∙ rw now (assigned_next c.args.names.now c.args.values.now c.names.at c.index-names-at.result c.args.status c.names.env slots k p c.names-test.true c.index-names-at.is kept)
