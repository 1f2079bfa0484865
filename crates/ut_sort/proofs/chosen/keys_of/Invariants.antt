use Rattle.std.proofs.Common.{◌≡◌, ◌++◌, drop, map}
use Rattle.ut_sort.specs.Chosen.{key_of}
use Rattle.ut_sort.proofs.chosen.keys_of.Given as goal

abbrev pub invariant-texts : goal.invariant-texts
invariant-texts l = l.keys.items ++ map (key_of l.numeric l.reversed) (drop l.text-index l.texts) ≡ map (key_of l.numeric l.reversed) l.texts
