use Rattle.std.proofs.Common.{Some, sym, ap, ◌∙◌}
use Rattle.tr_record.proofs.Finding.{found-some, found-none}
use Rattle.tr_record.proofs.table.Table.find.Goals as goal

pub returns-in-Some : goal.returns-in-Some
returns-in-Some c = ap (λ rec. Some rec) c.at.ensures ∙ sym (found-some _ _ _ _ c.in-Some.ensures.some.0 c.in-Some.ensures.some.1 c.in-Some.ensures.some.2 c.in-Some.ensures.first)

pub returns-in-None : goal.returns-in-None
returns-in-None c = sym (found-none _ _ _ c.in-None.ensures.none)
