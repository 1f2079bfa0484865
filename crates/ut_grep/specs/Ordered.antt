-- Texts in the order of their bytes.
use Rattle.std.specs.Prelude.{◌≡◌, ℕ, ◌<◌, ◌≤◌, List, [], length, slice_index_or, Bool, true, not}
use Rattle.std.specs.Ordering.{is_gt}
use Rattle.rk_base.specs.Text.{Text, text_cmp}

abbrev pub is_at_most : Text → Text → Bool
is_at_most a b = not (is_gt (text_cmp a b))

-- none is above a later one
pub record AreOrdered (texts : List Text) : Type 0 where
  pub rises : (i j : ℕ) → i ≤ j → j < length texts → is_at_most (slice_index_or texts i []) (slice_index_or texts j []) ≡ true
