use Rattle.std.proofs.Common.{◌≡◌, map}
use Rattle.std.specs.List.{range_with_len}
use Rattle.ut_select.specs.Trs.{image}
use Rattle.ut_select.proofs.table.Table.of_images.Given as goal

abbrev pub invariant-loop-i : goal.invariant-loop-i
invariant-loop-i l = l.entries.items ≡ map (image l.from l.to) (range_with_len 0 l.i)
