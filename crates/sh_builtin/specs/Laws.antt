-- What holds of every builtin.
use Rattle.std.specs.Prelude.{ℕ, ◌≤◌, List, IfSome}
use Rattle.rk_base.specs.Text.{Text}
use Rattle.rk_calls.specs.Views.{View, Alike, IsCommandTalk}
use Rattle.sh_vars.specs.declared.env.Env.{Env}
use Rattle.sh_builtin.specs.Builtins.{does}
use Rattle.sh_builtin.specs.Commands.{says, builtin_command}
use Rattle.sh_builtin.specs.Action.{Slots, Ended, Action}

-- what comes after, wherever at most p turns are left
abbrev pub EndsAlike : View → ℕ → Ended → Ended → Type 0
EndsAlike v p k k' = (status : ℕ) (env : Env) (q : ℕ) → q ≤ p → Alike v q (k status env) (k' status env)

-- two doings, where p turns are left
abbrev pub BothAlike : View → ℕ → Action → Action → Type 0
BothAlike v p x y = (slots : Slots) (k k' : Ended) (env : Env) → EndsAlike v p k k' → Alike v p (x slots k env) (y slots k' env)

abbrev pub IsAlike : Action → Type 0
IsAlike x = (v : View) (p : ℕ) → BothAlike v p x x

-- Whatever comes after a builtin: where that is alike, it is. For one thing, fewer turns only cut what is said, if they
-- only cut what comes after.
abbrev pub EachIsAlike : Type 0
EachIsAlike = (words : List Text) → IsAlike (does words)

-- As a command by itself, fewer turns only cut what it says, and its calls are proper.
abbrev pub EachIsCommandTalk : Type 0
EachIsCommandTalk = (words : List Text) (env : Env) → IsCommandTalk (says words env)

-- The same of what it says where it is launched by its name.
abbrev pub EachByNameIsCommandTalk : Type 0
EachByNameIsCommandTalk = (wd : Text) (argv : List Text) → IfSome (builtin_command wd argv) IsCommandTalk
