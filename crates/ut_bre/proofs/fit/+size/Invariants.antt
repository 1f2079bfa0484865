use Rattle.std.proofs.Common.{◌≡◌, ◌+◌, ◌≤◌, drop}
use Rattle.ut_bre.specs.Trees.{trees_of}
use Rattle.ut_bre.specs.Fitting.{least_size, capped}
use Rattle.ut_bre.proofs.fit.+size.Given as goal

abbrev pub invariant-least_size-items : goal.invariant-least_size-items
invariant-least_size-items l = record {
  within : l.sum ≤ 18446744073709551615;
  counted : capped (l.sum + least_size (trees_of (drop l.item-index l.items))) ≡ capped (least_size (trees_of l.items));
}
