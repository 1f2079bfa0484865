-- The state of a shell that evaluates commands (XCU 2.12), without where it lies in memory.
use Rattle.std.specs.Prelude.{ℕ, Bool, false, List, [], ◌∷◌, Option, if◌then◌else◌}
use Rattle.std.specs.FinMap.{FinMap, insert}
use Rattle.rk_base.specs.Text.{Text, text_cmp}
use Rattle.rk_calls.specs.declared.answer.Answer.{Answer}
use Rattle.sh_ast.specs.Commands.{CompoundTree, RedirectsTree}
use Rattle.sh_vars.specs.declared.env.Env.{Env}
use Rattle.sh_vars.specs.Held.{Held, variable_at, with_entry, assigned, given}
use Rattle.sh_expand.specs.Expands.{counted}
use Rattle.sh_redirect.specs.declared.descriptors.DescriptorTable.{DescriptorTable}
use Rattle.sh_redirect.specs.DescriptorTable.{set_slot}

-- a function (XCU 2.9.5): its body, and the redirections that are made at each call
pub record FunctionTree : Type 0 where
  pub body : CompoundTree
  pub redirects : RedirectsTree

abbrev pub function_tree : CompoundTree → RedirectsTree → FunctionTree
function_tree b rs = record { body = b; redirects = rs }

-- functions by name
abbrev pub Functions : Type 0
Functions = FinMap text_cmp FunctionTree

-- what expansion and builtins are lent; whether `set -e` is on; the functions; and the map of descriptors
pub record Shell : Type 0 where
  pub env : Env
  pub errexit : Bool
  pub functions : Functions
  pub descriptors : DescriptorTable

abbrev pub with_env : Env → Shell → Shell
with_env env e = record e { env = env }

abbrev pub with_status : ℕ → Shell → Shell
with_status n e = record e { env = record e.env { status = n } }

-- a simple command begins, which has performed no substitution so far
abbrev pub unsubstituted : Shell → Shell
unsubstituted e = record e { env = record e.env { substituted = false } }

abbrev pub with_slot : ℕ → Option ℕ → Shell → Shell
with_slot d n e = record e { descriptors = set_slot d n e.descriptors }

abbrev pub with_held : Held → Shell → Shell
with_held held e = record e { env = record e.env { vars = held } }

abbrev pub with_positional : List Text → Shell → Shell
with_positional words e = with_held (record e.env.vars { positional = words }) e

-- once an answer was heard, which may give local numbers
abbrev pub heard : Answer → Shell → Shell
heard a e = with_env (counted a e.env) e

-- Of a subshell its status and the local numbers are kept, and nothing else.
abbrev pub back_env : Env → Env → Env
back_env env env' = record env { status = env'.status; next = env'.next }

abbrev pub back : Shell → Shell → Shell
back e e' = with_env (back_env e.env e'.env) e

-- Of a stage of a pipeline that is not the last the local numbers alone are kept, so the next one has the state that the
-- pipeline met, its status included (XCU 2.5.2).
abbrev pub past_stage : Shell → Shell → Shell
past_stage e e' = with_status e.env.status (back e e')

-- a name has this function from now on
abbrev pub define : Text → FunctionTree → Shell → Shell
define name f e = record e { functions = insert e.functions name f }

-- Variables.

-- a value is assigned, and exported for the time of a command
abbrev pub set_variable : Bool → Text → Text → Held → Held
set_variable exported name value held = if exported then given name (assigned name value held) else assigned name value held

-- those of these names are as they were before
abbrev pub put_back_variables : List Text → Held → Held → Held
put_back_variables [] before now = now
put_back_variables (name ∷ names) before now = put_back_variables names before (with_entry name (variable_at before name) now)
