-- What is there, and what isn't.
use Rattle.std.proofs.Common.{◌≡◌, true, false, Option, Some, None, refl}
use Rattle.rk_tree.specs.Refusals.{is_there}
use Rattle.rk_feet.specs.NamingLemmas.{clash}

pub same-some : {A : Type 0} (a b : A) → Some a ≡ Some b → a ≡ b
same-some a b e = cc

pub none-some : {A : Type 0} (x : A) → None ≡ Some x → ⊥
none-some x e = cc

pub some-of : {A : Type 0} (o : Option A) → is_there o ≡ true → (x : A) × (o ≡ Some x)
some-of None h = absurd (clash false h refl)
some-of (Some x) h = (x, refl)
