use Rattle.std.proofs.Common.{rules, ◌≡◌}
use Rattle.std.specs.Fmt.{signed_decimal}
use Rattle.rk_rows.proofs.AssignmentLemmas.{changes_one}
use Rattle.rk_rows.proofs.table.NameTableNames.set.Goals as goal

pub returns-in-Ok-put-clause-one : goal.returns-in-Ok-put-clause-one
returns-in-Ok-put-clause-one c =
    let told : c.in-Ok.value ≡ signed_decimal c.args.value = search rules in
    changes_one c.args.self.now c.put.new.self c.args.name.now _ _ c.in-Ok-put.ensures.ok told
