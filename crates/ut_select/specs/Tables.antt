-- Tables with an entry for each byte.
use Rattle.std.specs.Prelude.{◌≡◌, ℕ, ◌<◌, List, slice_index, if◌then◌else◌}
use Rattle.ut_select.specs.Sets.{is_member}
use Rattle.ut_select.specs.Trs.{TrValue, image}

-- the entry of each byte is the function's value
abbrev pub IsTable : (ℕ → ℕ) → List ℕ → Type 0
IsTable f table = (c : ℕ) → c < 256 → slice_index table c ≡ f c

abbrev pub flag : List ℕ → ℕ → ℕ
flag set c = if is_member set c then 1 else 0

-- the tables of what is deleted, of what bytes become, and of what is squeezed
pub record TablesValue : Type 0 where
  pub deleted : List ℕ
  pub images : List ℕ
  pub squeezed : List ℕ

pub record AreTables (t : TrValue) (v : TablesValue) : Type 0 where
  pub deleted : IsTable (flag t.deleted) v.deleted
  pub images : IsTable (image t.from t.to) v.images
  pub squeezed : IsTable (flag t.squeezed) v.squeezed
