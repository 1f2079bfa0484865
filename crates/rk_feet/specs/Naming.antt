-- Names of the numbers of nodes, descriptions and pipes.
use Rattle.std.specs.Prelude.{◌≡◌, ℕ, ◌<◌, Bool, false, ◌&&◌, ◌==◌, if◌then◌else◌, Option, Some}
use Rattle.rk_base.specs.Text.{same_text}
use Rattle.rk_feet.specs.Named.{Name, Start, Given, Made}

abbrev pub same_name : Name → Name → Bool
same_name (Start a) (Start b) = same_text a b
same_name (Given a) (Given b) = a == b
same_name (Made r s p m) (Made t u q n) = (r == t) && ((s == u) && ((p == q) && (m == n)))
same_name _ _ = false

pub record Naming : Type 0 where
  pub name_of : ℕ → Name
  pub number_of : Name → Option ℕ

-- the numbers below a count have names, each its own
pub record AreNamed (count : ℕ) (it : Naming) : Type 0 where
  pub back : (n : ℕ) → n < count → it.number_of (it.name_of n) ≡ Some n
  pub there : (x : Name) (n : ℕ) → it.number_of x ≡ Some n → (n < count) × (it.name_of n ≡ x)

-- the next number gets a name
abbrev pub with_name : Naming → ℕ → Name → Naming
with_name it count me = record {
  name_of = λ n. if n == count then me else it.name_of n;
  number_of = λ x. if same_name me x then Some count else it.number_of x;
}
