-- A builtin as a command by itself.
use Rattle.std.specs.Prelude.{List, [], ◌∷◌, Option, Some, None, false, if◌then◌else◌}
use Rattle.rk_base.specs.Text.{Text}
use Rattle.rk_calls.specs.Talk.{Says, exits}
use Rattle.sh_vars.specs.declared.env.Env.{Env}
use Rattle.sh_vars.specs.Held.{nothing}
use Rattle.sh_builtin.specs.Builtins.{does}
use Rattle.sh_builtin.specs.Action.{Action}
use Rattle.sh_builtin.specs.Names.{is_builtin}

-- each descriptor is the command's own, and then it exits
abbrev pub alone : Action → Env → Says
alone x = x (λ d. Some d) (λ status env. exits status 0)

-- with these words, its name first, in this environment
abbrev pub says : List Text → Env → Says
says words env = alone (does words) env

-- A command that is no shell is launched without variables: it begins with none set, in its working directory.
abbrev pub own_env : Text → Text → Env
own_env wd name = record { vars = nothing; zero = name; wd = wd; status = 0; substituted = false; nounset = false; noglob = false; next = 10 }

-- the builtin of this name, with these words
abbrev pub named_command : Text → Text → List Text → Option Says
named_command name wd argv = if is_builtin name then Some (says argv (own_env wd name)) else None

-- the builtin of some words in a working directory; None where the first names none
abbrev pub builtin_command : Text → List Text → Option Says
builtin_command wd [] = None
builtin_command wd (name ∷ words) = named_command name wd (name ∷ words)
