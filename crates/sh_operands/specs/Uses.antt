-- How often `printf` uses its format, and what it writes then (XCU 4, `printf`).
use Rattle.std.specs.Prelude.{◌≡◌, ◌≢◌, ℕ, ◌<◌, ◌≤◌, List, [], ◌∷◌, ◌++◌, length, count_by}
use Rattle.rk_base.specs.Text.{Text}
use Rattle.sh_operands.specs.declared.format.Piece.{Piece}
use Rattle.sh_operands.specs.Elements.{takes}
use Rattle.sh_operands.specs.Made.{MadeValue, nothing}
use Rattle.sh_operands.specs.Printed.{pass}

-- how many operands a format takes
abbrev pub taken : List Piece → ℕ
taken ps = count_by takes ps

-- The operands of each use of a format that takes so many: it is used once, and again as long as operands are left and it takes
-- any. Each use but the last has as many as it takes.
abbrev pub AreUses : ℕ → List Text → List (List Text) → Type 0
AreUses n operands [] = ⊥
AreUses n operands (share ∷ []) = (share ≡ operands) × (0 < n → length share ≤ n)
AreUses n operands (share ∷ next ∷ uses) = (left : List Text) × (operands ≡ share ++ left) × (left ≢ []) × (0 < n) × (length share ≡ n) × AreUses n left (next ∷ uses)

-- what the uses make, one after another
abbrev pub made_by : List Piece → List (List Text) → MadeValue → MadeValue
made_by ps [] made = made
made_by ps (share ∷ uses) made = made_by ps uses (pass ps share made)

-- this is what a format makes of operands
pub record IsPrinted (ps : List Piece) (operands : List Text) (made : MadeValue) : Type 0 where
  pub uses : List (List Text)
  pub are : AreUses (taken ps) operands uses
  pub made_so : made ≡ made_by ps uses nothing
