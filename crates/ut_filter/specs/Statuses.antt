-- The status of a filter.
use Rattle.std.specs.Prelude.{ℕ, if◌then◌else◌}
use Rattle.rk_base.specs.Text.{Text}
use Rattle.rk_base.specs.Canonical.{is_empty}

-- a status that tells whether there is error text
abbrev pub status_of : ℕ → Text → ℕ
status_of failed errors = if is_empty errors then 0 else failed
