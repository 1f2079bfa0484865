-- The owner's bits of a mode.
use Rattle.std.specs.Prelude.{ℕ, ◌/◌, ◌%◌, ◌==◌, Bool}

abbrev pub has_r : ℕ → Bool
has_r mode = mode / 256 % 2 == 1

abbrev pub has_w : ℕ → Bool
has_w mode = mode / 128 % 2 == 1

abbrev pub has_x : ℕ → Bool
has_x mode = mode / 64 % 2 == 1
