-- A text is one expression, or has one fault.
use Rattle.std.specs.Prelude.{◌≡◌, ◌⊎◌, ℕ}
use Rattle.rk_base.specs.Text.{Text}
use Rattle.sh_arith.specs.Expression.{Expression}
use Rattle.sh_arith.specs.Grammar.{Is, Stops}

abbrev pub EachText : Type 0
EachText = (text : Text) → ((x : Expression) × Is text x) ⊎ ((at : ℕ) × Stops text at)

abbrev pub OneExpression : Type 0
OneExpression = (text : Text) (x y : Expression) → Is text x → Is text y → x ≡ y

abbrev pub OneFault : Type 0
OneFault = (text : Text) (i j : ℕ) → Stops text i → Stops text j → i ≡ j

abbrev pub NotBoth : Type 0
NotBoth = (text : Text) (x : Expression) (at : ℕ) → Is text x → Stops text at → ⊥
