-- `echo` and `pwd` (XCU 4, `echo` and `pwd`).
use Rattle.std.specs.Prelude.{List, [], ◌∷◌, ◌++◌, codes, if◌then◌else◌}
use Rattle.rk_base.specs.Text.{Text, same_text}
use Rattle.sh_operands.specs.Words.{joined}
use Rattle.sh_builtin.specs.declared.name.Name.TheVariants.{Echo, Pwd}
use Rattle.sh_builtin.specs.Action.{Action}
use Rattle.sh_builtin.specs.Telling.{puts, tells, usage_line}

-- a first `-n` drops the newline; a backslash is ordinary
abbrev pub echoed : List Text → Text
echoed [] = 10 ∷ []
echoed (word ∷ words) = if same_text word (codes "-n") then joined words else joined (word ∷ words) ++ 10 ∷ []

abbrev pub echoes : List Text → Action
echoes operands = puts Echo (echoed operands) 0

-- the working directory and a newline; there are no operands
abbrev pub pwds : List Text → Action
pwds [] = λ slots k env. puts Pwd (env.wd ++ 10 ∷ []) 0 slots k env
pwds (operand ∷ operands) = tells (usage_line (codes "pwd")) 1
