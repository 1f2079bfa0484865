-- What matches the same in a piece of a line that has so many bytes: turns for which it has no room aren't counted.
use Rattle.std.specs.Prelude.{◌≡◌, ◌↔◌, ℕ, ◌+◌, ◌-◌, ◌*◌, ◌≤◌, ◌==◌, ◌||◌, nat_lt, nat_le, min, Bool, true, false, Option, Some, None, if◌then◌else◌}
use Rattle.rk_base.specs.Text.{Text}
use Rattle.ut_bre.specs.declared.tree.Times.{Times}
use Rattle.ut_bre.specs.declared.tree.Item.{Item}
use Rattle.ut_bre.specs.Matching.{Repeated, MatchesItem, MatchesItems}
use Rattle.ut_bre.specs.Mirroring.{put_last}
use Rattle.ut_bre.specs.Picking.{RestTree, MatchesTurn, MatchesRest}
use Rattle.ut_bre.specs.Times.{is_zero, takes_none}
use Rattle.ut_bre.specs.Trees.{ItemTree, one, group, ItemsTree, no_items, item_and, tree_of, times_of, Expression}

abbrev mutual
  -- a turn of an item takes no fewer bytes
  pub turn_size : ItemTree → ℕ
  turn_size (one times what) = 1
  turn_size (group times number body) = least_size body

  -- no match of items takes fewer bytes
  pub least_size : ItemsTree → ℕ
  least_size no_items = 0
  least_size (item_and x xs) = (times_of x).least * turn_size x + least_size xs

-- a number, up to the greatest that is counted to
abbrev pub capped : ℕ → ℕ
capped n = min n 18446744073709551615

-- the one holds from a place to another one, no more than so many bytes behind it, exactly where the other does
abbrev pub AreAlike : ℕ → (ℕ → ℕ → Type 0) → (ℕ → ℕ → Type 0) → Type 0
AreAlike room R S = (i j : ℕ) → j ≤ i + room → R i j ↔ S i j

-- so many turns and some more
abbrev pub and_more : ℕ → Option ℕ → Option ℕ
and_more n None = None
and_more n (Some more) = Some (n + more)

-- turns of so many bytes each: without limit where there is no room for more than that
abbrev pub limit : ℕ → ℕ → Option ℕ → Option ℕ
limit size room None = None
limit size room (Some n) = if nat_lt (n * size) room then Some n else None

-- turns none of which is empty: none is taken beyond the least count where there is no room for one
abbrev pub cut_sized : ℕ → ℕ → Times → Times
cut_sized size room times = if nat_lt room size then record { least = times.least; beyond = Some 0 } else record { least = times.least; beyond = limit size room times.beyond }

-- turns of so many bytes each at the least, in so many bytes; none is needed where each may be empty
abbrev pub cut : ℕ → ℕ → Times → Times
cut size room times = if size == 0 then record { least = 0; beyond = limit 1 room (and_more times.least times.beyond) } else cut_sized size room times

-- so many turns, each of at least so many turns and some more, leave no count out up to those of one turn more
abbrev pub reaches : ℕ → ℕ → Option ℕ → Bool
reaches turns least None = nat_lt 0 turns || nat_le least 1
reaches turns least (Some more) = nat_le least (turns * more + 1)

-- turns of turns leave no count out
abbrev pub has_no_gap : Times → Times → Bool
has_no_gap own turns = is_zero turns.beyond || reaches turns.least own.least own.beyond

abbrev pub most_joined : Option ℕ → Option ℕ → ℕ → Option ℕ
most_joined None turns least = None
most_joined (Some most) None least = None
most_joined (Some most) (Some turns) least = Some (turns * most - least)

-- these are so many turns of so many turns: from the least product to the greatest
pub record IsJoined (own turns times : Times) : Type 0 where
  pub some : takes_none own ≡ false
  pub some_turns : takes_none turns ≡ false
  pub no_gap : has_no_gap own turns ≡ true
  pub least : times.least ≡ turns.least * own.least
  pub beyond : times.beyond ≡ most_joined (and_more own.least own.beyond) (and_more turns.least turns.beyond) (turns.least * own.least)

-- these items are one, whose turns are so many turns of its own
pub record AreJoined (xs : ItemsTree) (turns times : Times) : Type 0 where
  pub only : ItemTree
  pub is_only : xs ≡ item_and only no_items
  pub joined : IsJoined (times_of only) turns times

-- these turns of an item match the same in so many bytes as another item
abbrev pub IsFittedPart : ℕ → ItemTree → Times → ItemTree → Type 0
IsFittedPart room x times y = (line : Text) → AreAlike room (Repeated (MatchesTurn line x) times) (MatchesItem line y)

-- the same; None where that is nothing
abbrev pub IsFitted : ℕ → ItemTree → Times → Option Item → Type 0
IsFitted room x times None = (line : Text) → AreAlike room (Repeated (MatchesTurn line x) times) (λ i j. i ≡ j)
IsFitted room x times (Some item) = IsFittedPart room x times (tree_of item)

-- items that match the same in so many bytes
abbrev pub AreFitted : ℕ → ItemsTree → ItemsTree → Type 0
AreFitted room xs ys = (line : Text) → AreAlike room (MatchesItems line xs) (MatchesItems line ys)

-- what stands behind a place
abbrev pub IsFittedRest : ℕ → RestTree → RestTree → Type 0
IsFittedRest room rest new = (line : Text) → AreAlike room (MatchesRest line rest) (MatchesRest line new)

abbrev pub with_fitted : ItemsTree → Option Item → ItemsTree
with_fitted xs None = xs
with_fitted xs (Some item) = put_last xs (tree_of item)

-- an expression that matches the same in so many bytes
pub record IsFit (room : ℕ) (e f : Expression) : Type 0 where
  pub at_start : f.at_start ≡ e.at_start
  pub at_end : f.at_end ≡ e.at_end
  pub items : AreFitted room e.items f.items
