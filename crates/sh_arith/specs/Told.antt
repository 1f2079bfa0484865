-- What the code tells; want of memory tells nothing.
use Rattle.std.specs.Prelude.{◌≡◌, ◌⊎◌, ℕ, Bool, Err}
use Rattle.std.proofs.Common.{inl, inr}
use Rattle.rk_base.specs.Text.{Text}
use Rattle.sh_arith.specs.declared.error.ArithErr.{ArithErr}
use Rattle.sh_arith.specs.declared.error.ArithErr.TheVariants.{NoMemory, Syntax}
use Rattle.sh_arith.specs.Environment.{Environment}
use Rattle.sh_arith.specs.Expression.{Expression}
use Rattle.sh_arith.specs.Grammar.{Is, Stops}
use Rattle.sh_arith.specs.Meaning.{Ends, ends, value_of}
use Rattle.sh_arith.specs.Operators.{Worth}

abbrev pub Told : Worth → Worth → Type 0
Told (Err NoMemory) w = Unit {0}
Told r w = r ≡ w

-- a text that is no expression: where its fault is
abbrev pub Refuses : Text → ArithErr → Type 0
Refuses text (Syntax at) = Stops text at
Refuses text NoMemory = Unit {0}
Refuses text fault = ⊥

-- What the value of a text is, and the names that it leaves: a text that is an expression gives what that means, a number
-- or a fault, and any other the place of its fault, with the names as they were.
abbrev pub Valued : {S : Type 0} → Bool → Text → Environment S → Worth → Environment S → Type 0
Valued nounset text old (Err NoMemory) new = Unit {0}
Valued nounset text old (Err (Syntax at)) new = Stops text at × (new ≡ old)
Valued nounset text old r new = (x : Expression) × Is text x × (value_of nounset x old ≡ ends r new)

-- a text is an expression, or stops being one at a place
abbrev pub One_of : Text → Type 0
One_of text = ((x : Expression) × Is text x) ⊎ ((at : ℕ) × Stops text at)

-- its worth, and what it leaves
abbrev pub worth_as : {S : Type 0} → Bool → (text : Text) → One_of text → Environment S → Ends S
worth_as nounset text (inl x) e = value_of nounset x.0 e
worth_as nounset text (inr at) e = ends (Err (Syntax at.0)) e
