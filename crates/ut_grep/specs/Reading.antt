-- What is kept of what was read, while any of several texts is sought (Aho and Corasick): its longest end that begins one.
use Rattle.std.specs.Prelude.{List, [], ◌∷◌, Bool, ◌||◌, if◌then◌else◌}
use Rattle.std.specs.List.{list_any}
use Rattle.rk_base.specs.Text.{Text, same_text, begins_with}

-- whether one of the texts begins so
abbrev pub begins_any : List Text → Text → Bool
begins_any texts t = list_any (λ text. begins_with text t) texts

-- the longest end of what was read that begins a text
abbrev pub longest : List Text → Text → Text
longest texts [] = []
longest texts (b ∷ bs) = if begins_any texts (b ∷ bs) then b ∷ bs else longest texts bs

-- whether what was read ends with this text
abbrev pub ends_with : Text → Text → Bool
ends_with [] text = same_text [] text
ends_with (b ∷ bs) text = same_text (b ∷ bs) text || ends_with bs text

-- whether it ends with one of the texts
abbrev pub ends_any : List Text → Text → Bool
ends_any texts t = list_any (ends_with t) texts

-- whether it is one of them
abbrev pub is_any : List Text → Text → Bool
is_any texts t = list_any (same_text t) texts
