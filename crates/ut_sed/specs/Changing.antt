-- What `y` makes of a line (XCU sed, "Editing Commands in sed").
use Rattle.std.specs.Prelude.{ℕ, ◌==◌, map, List, [], ◌∷◌, if◌then◌else◌}
use Rattle.std.specs.List.{range_with_len}
use Rattle.rk_base.specs.Text.{Text}

-- the two strings
pub record ChangeValue : Type 0 where
  pub from : Text
  pub to : Text

-- the byte in the place where this one stands first in the other string
abbrev pub image : ℕ → Text → Text → ℕ
image b [] to = b
image b (a ∷ from) [] = b
image b (a ∷ from) (c ∷ to) = if a == b then c else image b from to

-- for each byte what stands for it
abbrev pub images_of : Text → Text → List ℕ
images_of from to = map (λ b. image b from to) (range_with_len 0 256)

abbrev pub changed : ChangeValue → Text → Text
changed c text = map (λ b. image b c.from c.to) text
