-- A turn of one of these utilities.
use Rattle.std.specs.Prelude.{◌≡◌, ℕ}
use Rattle.rk_calls.specs.Talk.{Says, after}
use Rattle.ut_plain.specs.declared.utility.Moved.{Moved}
use Rattle.ut_plain.specs.Utilities.{plain_talk}

-- this is said by a turn and by what comes after it
abbrev pub IsSaidBy : Says → Moved → Type 0
IsSaidBy x moved = (p : ℕ) → x p ≡ after moved.turn (plain_talk moved.utility) p
