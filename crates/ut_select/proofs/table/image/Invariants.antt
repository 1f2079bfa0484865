use Rattle.std.proofs.Common.{◌≡◌, drop}
use Rattle.ut_select.specs.Trs.{image, image_after}
use Rattle.ut_select.proofs.table.image.Given as goal

abbrev pub invariant-loop-a : goal.invariant-loop-a
invariant-loop-a l = image_after l.found l.last (drop l.a-index l.from) l.left l.c ≡ image l.from l.to l.c
