-- The state of a shell as the code keeps it.
use Rattle.std.specs.Prelude.{ℕ, List, map, Vec}
use Rattle.sh_ast.specs.Commands as tree
use Rattle.sh_vars.specs.Rows.{named, map_of}
use Rattle.sh_means.specs.declared.state.Callee.{Callee}
use Rattle.sh_means.specs.declared.functions.Functions as code
use Rattle.sh_means.specs.declared.state.State.{State}
use Rattle.sh_means.specs.declared.state.SavedState.{SavedState}
use Rattle.sh_means.specs.State.{FunctionTree, Functions, Shell}

abbrev pub function_of : Callee → FunctionTree
function_of c = record { body = tree.compound c.body.value; redirects = tree.redirects c.redirects.value }

-- what each name's function does
abbrev pub callees : {A : Type 0} → List (Vec ℕ A × Callee) → List (Vec ℕ A × FunctionTree)
callees rows = map (λ row. (row.0, function_of row.1)) rows

abbrev pub functions_of : code.Functions → Functions
functions_of fs = map_of (named (callees fs.rows.entries))

abbrev pub shell_of : State → Shell
shell_of s = record { env = s.env; errexit = s.errexit; functions = functions_of s.functions.value; descriptors = s.descriptors.value }

-- what was saved, with the status and the next local number of now
abbrev pub back_to : SavedState → Shell → Shell
back_to s e = record {
  env = record { vars = s.vars; zero = s.zero; wd = s.wd; status = e.env.status; substituted = s.substituted; nounset = s.nounset; noglob = s.noglob; next = e.env.next };
  errexit = s.errexit;
  functions = functions_of s.functions.value;
  descriptors = s.descriptors.value;
}
