-- Matching as a test.
use Rattle.std.specs.Prelude.{List, [], ◌∷◌, Bool, true, false, ◌&&◌, ◌||◌}
use Rattle.rk_base.specs.Text.{Text}
use Rattle.sh_pattern.specs.Parts.{Part, Star, One, parts}

-- whether a text or what is left of it from some place on passes
abbrev pub any_end : (Text → Bool) → Text → Bool
any_end f [] = f []
any_end f (b ∷ bs) = f (b ∷ bs) || any_end f bs

abbrev pub matched : List Part → Text → Bool
matched [] [] = true
matched [] (b ∷ bs) = false
matched (Star ∷ ps) text = any_end (matched ps) text
matched (One meets ∷ ps) [] = false
matched (One meets ∷ ps) (b ∷ bs) = meets b && matched ps bs

-- whether the pattern matches the text
unfoldable pub is_matched : Text → Text → Bool
is_matched pattern text = matched (parts pattern) text
