-- Patterns that are more than a text (XCU 2.13.3).
use Rattle.std.specs.Prelude.{ℕ, [], ◌∷◌, Bool, false, ◌==◌, ◌&&◌, ◌||◌, is_some, if◌then◌else◌}
use Rattle.rk_base.specs.Text.{Text}
use Rattle.sh_pattern.specs.Sets.{set_of}

-- whether a `[` before this text begins a bracket expression: a `]` closes it
abbrev pub is_closed : Text → Bool
is_closed [] = false
is_closed (b ∷ bs) = if b == 33 then is_some (set_of bs) else is_some (set_of (b ∷ bs))

-- a star, a question mark, or a bracket that is closed
abbrev pub is_special : ℕ → Text → Bool
is_special b bs = (b == 42) || (b == 63) || ((b == 91) && is_closed bs)

-- whether a pattern has any of these that no backslash quotes
abbrev pub has_special : Text → Bool
has_special [] = false
has_special (b ∷ []) = is_special b []
has_special (b ∷ c ∷ cs) = if b == 92 then has_special cs else (is_special b (c ∷ cs) || has_special (c ∷ cs))

-- the one text that a pattern without any of these matches
abbrev pub unquoted : Text → Text
unquoted [] = []
unquoted (b ∷ []) = b ∷ []
unquoted (b ∷ c ∷ cs) = if b == 92 then c ∷ unquoted cs else b ∷ unquoted (c ∷ cs)
