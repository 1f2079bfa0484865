-- `cd` (XCU 4, `cd`), and setting a variable.
use Rattle.std.specs.Prelude.{List, [], ◌∷◌, codes, if◌then◌else◌}
use Rattle.rk_base.specs.Text.{Text, same_text}
use Rattle.rk_base.specs.Errno.{word}
use Rattle.rk_calls.specs.declared.answer.Answer.{Answer}
use Rattle.rk_calls.specs.declared.answer.Answer.TheVariants.{Place, No}
use Rattle.rk_calls.specs.declared.call.Call.TheVariants.{Walk}
use Rattle.rk_calls.specs.Places.{absolute}
use Rattle.sh_vars.specs.declared.env.Env.{Env}
use Rattle.sh_vars.specs.Held.{assigned, is_readonly}
use Rattle.sh_builtin.specs.declared.name.Name.{Name}
use Rattle.sh_builtin.specs.declared.name.Name.TheVariants.{Cd}
use Rattle.sh_builtin.specs.Action.{Action, ends, asks}
use Rattle.sh_builtin.specs.Telling.{complains, tells, usage_line}

-- goes on unless this variable is readonly, which is told
abbrev pub unless_readonly : Name → Text → Action → Action
unless_readonly name x go slots k env = if is_readonly env.vars x then complains name x (codes "readonly") 1 slots k env else go slots k env

-- a variable has this value
abbrev pub with_value : Text → Text → Env → Env
with_value x value env = record env { vars = assigned x value env.vars }

-- sets a variable and goes on, unless it is readonly
abbrev pub sets : Name → Text → Text → Action → Action
sets name x value go = unless_readonly name x (λ slots k env. go slots k (with_value x value env))

abbrev pub pwd_name : Text
pwd_name = codes "PWD"

-- the working directory is this, and so is PWD
abbrev pub moves : Text → Action
moves place = sets Cd pwd_name place (λ slots k env. ends 0 slots k (record env { wd = place }))

-- once the directory was looked up
abbrev pub walked : Text → Answer → Action
walked operand (Place place) = moves place
walked operand (No errno) = complains Cd operand (word errno) 1
walked operand a = ends 0

-- a readonly PWD is told before the directory is looked up
abbrev pub walks : Text → Action
walks operand = unless_readonly Cd pwd_name (λ slots k env. asks (Walk (absolute env.wd operand)) 1 (λ a. walked operand a) slots k env)

-- to the one operand, which isn't `-`
abbrev pub cds : List Text → Action
cds [] = tells (usage_line (codes "cd")) 1
cds (operand ∷ []) = if same_text operand (codes "-") then complains Cd operand (codes "usage") 1 else walks operand
cds (operand ∷ more ∷ most) = tells (usage_line (codes "cd")) 1
