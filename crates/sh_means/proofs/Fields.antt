-- A `for` over fields.
use Rattle.std.proofs.Common.{◌≡◌, ℕ, ◌≤◌, List, [], ◌∷◌, length, refl, arith}
use Rattle.rk_base.specs.Text.{Text}
use Rattle.sh_ast.specs.declared.command.CommandList.{CommandList}
use Rattle.sh_means.specs.declared.flow.Flow.TheVariants.{Normal}
use Rattle.sh_means.specs.declared.flow.Place.{Place}
use Rattle.sh_means.specs.Compound.{for_each, for_fields}
use Rattle.sh_means.specs.Flows.{Next}
use Rattle.sh_means.specs.Stack.{whole}
use Rattle.sh_means.specs.State.{Shell, with_status}

pub fields_over : (name : Text) (fields : List Text) (b : CommandList) (pl : Place) (k : Next) (e : Shell) (p : ℕ) → length fields ≡ 0 → for_fields name fields (whole b) pl k e p ≡ k Normal (with_status 0 e) p
fields_over name [] b pl k e p h = refl
fields_over name (f ∷ fs) b pl k e p h = cc

pub fields_left : (name : Text) (fields : List Text) (b : CommandList) (pl : Place) (k : Next) (e : Shell) (p : ℕ) → 1 ≤ length fields → for_fields name fields (whole b) pl k e p ≡ for_each name fields (whole b) pl k e p
fields_left name [] b pl k e p h = absurd (omega arith)
fields_left name (f ∷ fs) b pl k e p h = refl
