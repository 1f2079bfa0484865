-- Syntax as the code has it, and variables that may be readonly.
use Rattle.std.specs.Prelude.{◌≡◌, ℕ, Option, Some, None, Bool, true, false}
use Rattle.std.specs.declared.rc.Rc.{Rc}
use Rattle.std.specs.declared.alloc.Global.{Global}
use Rattle.rk_base.specs.Text.{Text}
use Rattle.sh_ast.specs.Commands.{CommandsTree, no_commands, command_and, ForWords, positional, in_words, words}
use Rattle.sh_ast.specs.declared.command.Words.{Words}
use Rattle.sh_vars.specs.Held.{Held, assigned}
use Rattle.sh_means.specs.State.{Shell, with_status, with_held, set_variable}
use Rattle.sh_means.specs.Flows.{Means}
use Rattle.sh_means.specs.Words.{body_at}
use Rattle.std.specs.Prelude.{List}

-- whether there is no second command
abbrev pub is_one : CommandsTree → Bool
is_one no_commands = true
is_one (command_and c no_commands) = true
is_one (command_and c (command_and d cs)) = false

-- without a command the status is 0
abbrev pub cleared : CommandsTree → Shell → Shell
cleared no_commands e = with_status 0 e
cleared (command_and c cs) e = e

abbrev pub for_words_of : Option (Rc Words Global) → ForWords
for_words_of None = positional
for_words_of (Some ws) = in_words (words ws.value)

-- what a body of this number means
abbrev pub IsBody : List Means → ℕ → Means → Type 0
IsBody ms i m = body_at ms i ≡ m

abbrev pub given_if : Bool → Text → Text → Shell → Shell
given_if true name value e = with_held (assigned name value e.env.vars) e
given_if false name value e = e

abbrev pub set_if : Bool → Bool → Text → Text → Held → Held
set_if true exported name value held = set_variable exported name value held
set_if false exported name value held = held
