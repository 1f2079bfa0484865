use Rattle.std.proofs.Common.{◌-◌, ◌∙◌, sym, arith}
use Rattle.ut_select.proofs.SetLemmas.{misnamed_step}
use Rattle.ut_select.proofs.sets.misnamed.Goals as goal

pub parts-preserved : goal.parts-preserved
parts-preserved c =
    misnamed_step c.parts.left (c.parts.left - 1) c.in-Some.b c.in-Some.after.now _ _ _ c.in-Some.ensures (sym c.is_unknown.ensures ∙ c.if-is_unknown.false) c.after_part-rest.ensures c.parts.invariant (omega arith)
