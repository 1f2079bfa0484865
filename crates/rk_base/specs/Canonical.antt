-- Names, and the canonical texts of paths.
use Rattle.std.specs.Prelude.{ℕ, List, [], ◌∷◌, length, nat_lt, Bool, true, false, not, ◌&&◌, ◌||◌, ◌==◌}
use Rattle.std.specs.List.{list_all, list_any}
use Rattle.std.specs.Str.{is_utf8}
use Rattle.rk_base.specs.Text.{Text, is_slash, components, same_text, dot, dot_dot}

abbrev pub is_nul : ℕ → Bool
is_nul b = b == 0

abbrev pub has_nul : Text → Bool
has_nul = list_any is_nul

-- a slash or a NUL
abbrev pub is_barred : ℕ → Bool
is_barred b = is_slash b || (b == 0)

abbrev pub is_empty : {A : Type 0} → List A → Bool
is_empty [] = true
is_empty (x ∷ xs) = false

-- UTF-8 of 1 to 255 bytes, without a slash or a NUL, and not `.` or `..`
unfoldable pub is_name : Text → Bool
is_name name =
    not (is_empty name) && nat_lt (length name) 256 && is_utf8 name && not (list_any is_barred name) && not (same_text name dot) && not (same_text name dot_dot)

abbrev pub begins_named : Text → Bool
begins_named [] = false
begins_named (b ∷ bs) = is_slash b && (is_empty bs || list_all is_name (components bs))

-- `/`, or names each after one slash
unfoldable pub is_canonical : Text → Bool
is_canonical = begins_named
