use Rattle.std.proofs.Common.{◌≡◌, take}
use Rattle.tr_codec.proofs.read_table.texts_of.Given as goal

abbrev pub invariant-texts : goal.invariant-texts
invariant-texts l = l.texts.items ≡ take l.text-index l.all
