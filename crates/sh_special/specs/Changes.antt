-- What `export`, `readonly`, `unset`, `shift` and `set` change (XCU 2.14).
use Rattle.std.specs.Prelude.{ℕ, List, [], ◌∷◌, drop, length, Bool, true, false, Option, Some, None, nat_le, if◌then◌else◌}
use Rattle.rk_base.specs.Text.{Text}
use Rattle.sh_vars.specs.declared.env.Env.{Env}
use Rattle.sh_vars.specs.Held.{Held, assigned, given, kept, without, is_readonly}
use Rattle.sh_special.specs.declared.declaration.Declaration.{Declaration}
use Rattle.sh_special.specs.declared.options.Options.{Options}

-- what is held then, and the readonly variable that stood in the way
pub record Changed : Type 0 where
  pub held : Held
  pub barred : Option Text

-- a value isn't given to a readonly variable
abbrev pub is_barred : Option Text → Text → Held → Bool
is_barred None x held = false
is_barred (Some value) x held = is_readonly held x

abbrev pub with_value : Option Text → Text → Held → Held
with_value None x held = held
with_value (Some value) x held = assigned x value held

abbrev pub marked : Bool → Text → Held → Held
marked true x held = kept x held
marked false x held = given x held

-- a variable takes its value, where one stands, and is marked
abbrev pub declared : Bool → Declaration → Held → Held
declared readonly d held = marked readonly d.name (with_value d.value d.name held)

-- one after another, up to a readonly variable
abbrev pub declare_all : Bool → List Declaration → Held → Changed
declare_all readonly [] held = record { held = held; barred = None }
declare_all readonly (d ∷ ds) held = if is_barred d.value d.name held then record { held = held; barred = Some d.name } else declare_all readonly ds (declared readonly d held)

abbrev pub unset_all : List Text → Held → Changed
unset_all [] held = record { held = held; barred = None }
unset_all (x ∷ xs) held = if is_readonly held x then record { held = held; barred = Some x } else unset_all xs (without x held)

-- whether there are so many positional parameters
abbrev pub has_shift : ℕ → Held → Bool
has_shift n held = nat_le n (length held.positional)

abbrev pub shifted : ℕ → Held → Held
shifted n held = if has_shift n held then record held { positional = drop n held.positional } else held

abbrev pub or_before : Option Bool → Bool → Bool
or_before None before = before
or_before (Some now) before = now

-- `set -u` and `set -f`
abbrev pub with_options : Options → Env → Env
with_options options env = record env { nounset = or_before options.nounset env.nounset; noglob = or_before options.noglob env.noglob }
