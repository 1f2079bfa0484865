use Rattle.std.proofs.Common.{◌≡◌, ◌++◌, drop, map}
use Rattle.std.specs.List.{filter}
use Rattle.ut_select.specs.Trs.{image, kept, squeeze, tr_text}
use Rattle.ut_select.proofs.tr.Tr.put_all.Given as goal

abbrev pub invariant-bytes : goal.invariant-bytes
invariant-bytes l =
    l.output.items ++ squeeze l.self.squeezed l.last (map (image l.self.from l.self.to) (filter (kept l.self) (drop l.b-index l.text))) ≡ l.initial.output.items ++ tr_text l.self l.text
