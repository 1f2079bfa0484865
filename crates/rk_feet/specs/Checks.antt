-- What the programs of calls have in common: refusals, and the mode of a directory that gains or loses a name.
use Rattle.std.specs.Prelude.{ℕ, [], not, if◌then◌else◌}
use Rattle.rk_base.specs.declared.errno.Errno.{Errno}
use Rattle.rk_base.specs.declared.errno.Errno.TheVariants.{NoEntry, Denied}
use Rattle.rk_calls.specs.declared.answer.Answer.TheVariants as answer
use Rattle.rk_tree.specs.Hierarchy.{has_w}
use Rattle.rk_waves.specs.Programs.{Reads, Ends, One}
use Rattle.rk_feet.specs.Named.{Name, ModeOf, Value, mode, Does}
use Rattle.rk_feet.specs.Ways.{Place, Found, Absent, Row}

abbrev pub no : Errno → Does
no e = Ends (answer.No e) []

abbrev pub row : (Place → Does) → Row
row at = record { at = λ passed. at; refused = no }

-- what is made of a place by how many components were passed, to climb up from it
abbrev pub climbing : (ℕ → Place → Does) → Row
climbing at = record { at = at; refused = no }

-- an absent name with a slash after it is no entry
abbrev pub strict : (Place → Does) → Place → Does
strict at (Found here) = at (Found here)
strict at (Absent dir name slash) = if slash then no NoEntry else at (Absent dir name slash)

-- if a directory lacks `w`, a refusal
abbrev pub writing_mode : Does → Value → Does
writing_mode then_does m = if not (has_w (mode m)) then no Denied else then_does

abbrev pub writing : Name → Does → Does
writing dir then_does = Reads (One (ModeOf dir)) (writing_mode then_does)
