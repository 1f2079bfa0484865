use Rattle.std.proofs.Common.{rules, ◌≡◌}
use Rattle.std.specs.Fmt.{signed_decimal}
use Rattle.sh_expand.proofs.AssignmentLemmas.{changes_one}
use Rattle.sh_expand.proofs.arithmetic.VariablesNames.set.Goals as goal

pub returns-in-Ok-set-clause-one : goal.returns-in-Ok-set-clause-one
returns-in-Ok-set-clause-one c =
    let told : c.as_slice.result.now ≡ signed_decimal c.args.value = search rules in
    changes_one c.args.self.now c.set.new.self c.self.inside.vars c.args.name.now _ _ c.in-Ok-set.ensures.ok c.self.view_is told
