-- Lines of error text.
use Rattle.std.specs.Prelude.{List, [], ◌∷◌, ◌++◌, codes, Option, Some, None}
use Rattle.rk_base.specs.Text.{Text}
use Rattle.rk_base.specs.Errno.{word}
use Rattle.rk_base.specs.declared.errno.Errno.{Errno}
use Rattle.rk_calls.specs.Lines.{error_line}
use Rattle.ut_files.specs.declared.manner.Manner.{Manner}
use Rattle.ut_files.specs.declared.step.WorkItem.{WorkItem}
use Rattle.ut_files.specs.declared.step.WorkItem.TheVariants.{Tell}

-- `NAME: OPERAND: word`
abbrev pub complaint : {T : Type 0} → Manner → Text → Errno → WorkItem T
complaint m operand errno = Tell (error_line m.name operand (word errno))

-- a line where it was refused
abbrev pub refused : {T : Type 0} → Manner → Text → Option Errno → List (WorkItem T)
refused m operand None = []
refused m operand (Some errno) = complaint m operand errno ∷ []

-- `NAME: usage`
unfoldable pub usage_line : Text → Text
usage_line name = name ++ codes ": usage\n"

-- where operands are missing or too many, or one isn't of its form
abbrev pub usage : {T : Type 0} → Manner → List (WorkItem T)
usage m = Tell (usage_line m.name) ∷ []

-- for an option that is at fault
abbrev pub bad_option : {T : Type 0} → Manner → Text → List (WorkItem T)
bad_option m option = Tell (error_line m.name option (codes "usage")) ∷ []
