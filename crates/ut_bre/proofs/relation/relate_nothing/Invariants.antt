use Rattle.std.proofs.Common.{◌≡◌, ℕ}
use Rattle.ut_bre.specs.Relations.{Relates}
use Rattle.ut_bre.proofs.relation.relate_nothing.Given as goal

abbrev pub invariant-places : goal.invariant-places
invariant-places l = (start : ℕ) → Relates (λ i j. i ≡ j) start l.size l.place l.table.items
