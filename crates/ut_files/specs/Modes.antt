-- Modes.
use Rattle.std.specs.Prelude.{ℕ, ◌+◌, ◌*◌, ◌%◌, List, [], ◌∷◌, ◌==◌, if◌then◌else◌, Option, Some, None}
use Rattle.rk_base.specs.Text.{Text}
use Rattle.ut_args.specs.declared.opts.Given.{Given}

-- The bits of a mode that a call may have, which are all of one to 0777.
abbrev pub bits : ℕ → ℕ
bits mode = mode % 512

-- a text of octal digits as a number, of which the last nine bits count
abbrev pub octal_from : ℕ → Text → ℕ
octal_from n [] = n
octal_from n (b ∷ bs) = octal_from ((n * 8 + b % 8) % 512) bs

abbrev pub octal : Text → ℕ
octal = octal_from 0

-- the argument of `-m`, where it is this option
abbrev pub mode_by : ℕ → ℕ → Option Text → ℕ
mode_by mode letter None = mode
mode_by mode letter (Some text) = if letter == 109 then octal text else mode

-- the mode that the last `-m` gives, or else this one
abbrev pub mode_given : ℕ → List Given → ℕ
mode_given mode [] = mode
mode_given mode (g ∷ gs) = mode_given (mode_by mode g.letter g.argument) gs
