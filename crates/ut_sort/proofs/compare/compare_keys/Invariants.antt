use Rattle.std.proofs.Common.{◌≡◌, drop}
use Rattle.ut_sort.specs.Orders.{keys_cmp}
use Rattle.ut_sort.proofs.compare.compare_keys.Given as goal

abbrev pub invariant-keys : goal.invariant-keys
invariant-keys l = keys_cmp l.delimiter (drop l.key-index l.keys) l.a l.b ≡ keys_cmp l.delimiter l.keys l.a l.b
