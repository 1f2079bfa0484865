-- What reading of a text answers.
use Rattle.std.specs.Prelude.{◌≡◌, ℕ, List, Result, Ok, Err}
use Rattle.sh_ast.specs.Commands as c
use Rattle.sh_token.specs.declared.fault.ScriptFault.{ScriptFault}
use Rattle.sh_script.specs.Scripts.{IsScript, IsFaulty}
use Rattle.sh_parse.specs.declared.script.Script.{Script}
use Rattle.sh_parse.specs.declared.script.ReadErr.{ReadErr}
use Rattle.sh_parse.specs.declared.script.ReadErr.TheVariants as e

-- a fault is told, unless memory ran out
abbrev pub Tells : ScriptFault → ReadErr → Type 0
Tells f (e.Fault g) = g ≡ f
Tells f e.NoMemory = Unit {0}

-- the fault is the text's; memory may run out
abbrev pub IsFaultTold : List ℕ → ReadErr → Type 0
IsFaultTold text (e.Fault f) = IsFaulty text f
IsFaultTold text e.NoMemory = Unit {0}

-- the script is what the text is, the fault is the text's; memory may run out
abbrev pub IsAnswer : List ℕ → Result Script ReadErr → Type 0
IsAnswer text (Ok s) = IsScript text (c.commands s.commands.value)
IsAnswer text (Err x) = IsFaultTold text x

-- no other script, and no fault
abbrev pub IsOnlyScript : c.CommandsTree → Result Script ReadErr → Type 0
IsOnlyScript s (Ok x) = c.commands x.commands.value ≡ s
IsOnlyScript s (Err (e.Fault f)) = ⊥
IsOnlyScript s (Err e.NoMemory) = Unit {0}

-- no other fault, and no script
abbrev pub IsOnlyFault : ScriptFault → Result Script ReadErr → Type 0
IsOnlyFault f (Ok x) = ⊥
IsOnlyFault f (Err (e.Fault g)) = g ≡ f
IsOnlyFault f (Err e.NoMemory) = Unit {0}
