-- What bytes cost, in turns.
use Rattle.std.specs.Prelude.{ℕ, List, [], ◌∷◌, length}
use Rattle.std.specs.Int.{div_ceil}
use Rattle.rk_base.specs.Text.{Text}
use Rattle.rk_calls.specs.Talk.{Says, pay}

-- a turn for each 64 bytes, rounded up
unfoldable pub turns : Text → ℕ
turns bytes = div_ceil (length bytes) 64

-- pays for the expansion of each word, and says this
abbrev pub pay_words : List Text → Says → Says
pay_words [] x = x
pay_words (word ∷ words) x = pay (turns word) (pay_words words x)
