-- What the code reads of a set.
use Rattle.std.specs.Prelude.{◌≡◌}
use Rattle.ut_select.specs.declared.sets.Unit.{Unit}
use Rattle.ut_select.specs.declared.sets.Item.{Item}
use Rattle.ut_select.specs.Sets.{UnitValue, ItemValue}

abbrev pub IsUnit : Unit → UnitValue → Type 0
IsUnit u v = (u.byte ≡ v.byte) × (u.rest.now ≡ v.rest)

abbrev pub IsItem : Item → ItemValue → Type 0
IsItem i v = (i.low ≡ v.low) × (i.high ≡ v.high) × (i.rest.now ≡ v.rest)
