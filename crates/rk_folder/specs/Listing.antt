-- The order in which a folder is listed: a directory before what is in it, and that before the next name.
use Rattle.std.specs.Prelude.{◌≡◌, ℕ, ◌+◌, List, [], ◌∷◌, map, Bool, true, false, if◌then◌else◌, Option, Some, None}
use Rattle.std.specs.Ordering.{is_lt}
use Rattle.rk_base.specs.Text.{Text, text_cmp, is_slash}

-- a slash comes before each other byte
abbrev pub rank : ℕ → ℕ
rank b = if is_slash b then 0 else b + 1

-- by the ranks of their bytes
unfoldable pub is_listed_before : Text → Text → Bool
is_listed_before p q = is_lt (text_cmp (map rank p) (map rank q))

abbrev pub earlier : Text → Option Text → Text
earlier p None = p
earlier p (Some q) = if is_listed_before q p then q else p

-- the first of these paths in the order of the listings
abbrev pub first_listed : List Text → Option Text
first_listed [] = None
first_listed (p ∷ ps) = Some (earlier p (first_listed ps))

-- the path passes the test, and none that does is listed before it; or none does
abbrev pub IsFirst : (Text → Bool) → Option Text → Type 0
IsFirst test None = (q : Text) → test q ≡ false
IsFirst test (Some p) = (test p ≡ true) × ((q : Text) → test q ≡ true → is_listed_before q p ≡ false)
