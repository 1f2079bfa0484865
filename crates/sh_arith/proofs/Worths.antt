-- What a text is worth, by the proof that it is an expression or stops being one, so no file of specs can have it.
use Rattle.std.proofs.Common.{◌≡◌, ap, sym, ◌∙◌, inl, inr}
use Rattle.std.specs.Prelude.{ℕ, Bool, Ok, Err}
use Rattle.rk_base.specs.Text.{Text}
use Rattle.sh_arith.specs.declared.error.ArithErr.TheVariants as err
use Rattle.sh_arith.specs.Environment.{Environment}
use Rattle.sh_arith.specs.Expression.{Expression}
use Rattle.sh_arith.specs.Grammar.{Is, Stops}
use Rattle.sh_arith.specs.Meaning.{Ends, ends, value_of}
use Rattle.sh_arith.specs.Operators.{Worth}
use Rattle.sh_arith.specs.Steps.{Ended}
use Rattle.sh_arith.specs.Told.{Valued, One_of, worth_as}
use Rattle.sh_arith.proofs.Texts.{is_or, one_expression, one_fault, not_both}

-- what the one expression means that a text is, or its one fault
unfoldable pub worth_of : {S : Type 0} → Bool → Text → Environment S → Ends S
worth_of nounset text e = worth_as nounset text (is_or text) e

as_value : {S : Type 0} (u : Bool) (text : Text) (x : Expression) (e : Environment S) (one : One_of text) → Is text x → worth_as u text one e ≡ value_of u x e
as_value u text x e (inl y) is = ap (λ x. value_of u x e) (one_expression text y.0 x y.1 is)
as_value u text x e (inr at) is = absurd (not_both text x at.0 is at.1)

as_fault : {S : Type 0} (u : Bool) (text : Text) (at : ℕ) (e : Environment S) (one : One_of text) → Stops text at → worth_as u text one e ≡ ends (Err (err.Syntax at)) e
as_fault u text at e (inl x) is = absurd (not_both text x.0 at x.1 is)
as_fault u text at e (inr other) is = ap (λ at. ends (Err (err.Syntax at)) e) (one_fault text other.0 at other.1 is)

by_value : {S : Type 0} (u : Bool) (text : Text) (old new : Environment S) (r : Worth) → (x : Expression) × Is text x × (value_of u x old ≡ ends r new) → worth_of u text old ≡ ends r new
unfolding worth_of
by_value u text old new r h = as_value u text h.0 old (is_or text) h.1 ∙ h.2

-- what is told of a text is what it is worth
pub worth_told : {S : Type 0} (u : Bool) (text : Text) (old new : Environment S) (r : Worth) → Valued u text old r new → Ended r new (worth_of u text old)
unfolding worth_of
worth_told u text old new (Ok v) h = by_value u text old new (Ok v) h
worth_told u text old new (Err (err.Syntax at)) h = as_fault u text at old (is_or text) h.0 ∙ ap (ends (Err (err.Syntax at))) (sym h.1)
worth_told u text old new (Err err.Overflow) h = by_value u text old new (Err err.Overflow) h
worth_told u text old new (Err err.ZeroDivisor) h = by_value u text old new (Err err.ZeroDivisor) h
worth_told u text old new (Err (err.Name y)) h = by_value u text old new (Err (err.Name y)) h
worth_told u text old new (Err (err.Unset y)) h = by_value u text old new (Err (err.Unset y)) h
worth_told u text old new (Err (err.Readonly y)) h = by_value u text old new (Err (err.Readonly y)) h
worth_told u text old new (Err err.NoMemory) h = tt
