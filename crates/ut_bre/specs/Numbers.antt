-- The numbers of groups.
use Rattle.std.specs.Prelude.{◌≡◌, ℕ, ◌<◌, Bool}
use Rattle.rk_base.specs.Text.{Text}
use Rattle.ut_bre.specs.Reading.{reads, read_folded}
use Rattle.ut_bre.specs.Trees.{ItemTree, one, group, ItemsTree, no_items, item_and, Expression}

abbrev mutual
  -- each group's number is below this
  pub IsBelow : ℕ → ItemTree → Type 0
  IsBelow n (one times what) = Unit {0}
  IsBelow n (group times number body) = (number < n) × AreBelow n body

  pub AreBelow : ℕ → ItemsTree → Type 0
  AreBelow n no_items = Unit {0}
  AreBelow n (item_and x xs) = IsBelow n x × AreBelow n xs

-- each group of an expression that is read has a place among what the groups took
abbrev pub EachGroupHasItsPlace : Type 0
EachGroupHasItsPlace = (folded : Bool) (text : Text) (e : Expression) → read_folded folded text ≡ reads e → AreBelow e.groups e.items
