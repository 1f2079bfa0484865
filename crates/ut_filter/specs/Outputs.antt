-- Outputs as they grow.
use Rattle.std.specs.Prelude.{◌≡◌, ℕ, ◌+◌, ◌-◌, ◌≤◌, ◌++◌, length, leb, Bool, true, false, Option, Some, None}
use Rattle.rk_base.specs.Text.{Text}
use Rattle.ut_filter.specs.declared.output.Grown.{Grown}
use Rattle.ut_filter.specs.declared.output.Grown.TheVariants as grown

-- a text that is held, and how many bytes more may be; or how long a text is that isn't
pub data Growing : Type 0 where
  Holds : (room : ℕ) (text : Text) → Growing
  Counts : (length : ℕ) → Growing

-- the bytes are held where they have room
abbrev pub held : Bool → ℕ → Text → Text → Growing
held true room text bytes = Holds (room - length bytes) (text ++ bytes)
held false room text bytes = Counts (length text + length bytes)

-- bytes at the end
unfoldable pub put : Growing → Text → Growing
put (Holds room text) bytes = held (leb (length bytes) room) room text bytes
put (Counts n) bytes = Counts (n + length bytes)

-- what it has become
abbrev pub grown_of : Growing → Grown
grown_of (Holds room text) = grown.Text text
grown_of (Counts n) = grown.Length n

-- it has become this text, or it is so long, and not empty
abbrev pub HasGrown : Text → Grown → Type 0
HasGrown whole (grown.Text text) = text ≡ whole
HasGrown whole (grown.Length n) = (n ≡ length whole) × (1 ≤ n)

-- What the code has.
abbrev pub growing_of : ℕ → Text → Option ℕ → Growing
growing_of room text None = Holds room text
growing_of room text (Some length) = Counts length
