-- A turn of `find`.
use Rattle.std.specs.Prelude.{◌≡◌, ℕ}
use Rattle.rk_calls.specs.Talk.{Says, after}
use Rattle.ut_find.specs.declared.utility.Moved.{Moved}
use Rattle.ut_find.specs.Utilities.{find_talk}

-- this is said by a turn and by what comes after it
abbrev pub IsSaidBy : Says → Moved → Type 0
IsSaidBy x moved = (p : ℕ) → x p ≡ after moved.turn (find_talk moved.utility) p
