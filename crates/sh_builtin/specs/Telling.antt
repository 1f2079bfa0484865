-- Lines of error text, and output.
use Rattle.std.specs.Prelude.{ℕ, ◌+◌, ◌++◌, codes, Result, Ok, Err, if◌then◌else◌}
use Rattle.rk_base.specs.Text.{Text}
use Rattle.rk_base.specs.Canonical.{is_empty}
use Rattle.rk_base.specs.Errno.{word}
use Rattle.rk_base.specs.declared.errno.Errno.{Errno}
use Rattle.rk_calls.specs.declared.call.Call.TheVariants.{Write}
use Rattle.rk_calls.specs.Brought.{brought}
use Rattle.rk_calls.specs.Lines.{error_line}
use Rattle.rk_calls.specs.Turns.{turns}
use Rattle.sh_builtin.specs.declared.name.Name.{Name}
use Rattle.sh_builtin.specs.Action.{Action, ends, asks}
use Rattle.sh_builtin.specs.Names.{text_of}

-- `NAME: usage` and a newline
unfoldable pub usage_line : Text → Text
usage_line name = name ++ codes ": usage\n"

-- a line on 2, and its end, whether the line is refused or not
abbrev pub tells : Text → ℕ → Action
tells line status = asks (Write 2 line) (1 + turns line) (λ a. ends status)

-- `NAME: OPERAND: WORD`
abbrev pub complains : Name → Text → Text → ℕ → Action
complains name operand what status = tells (error_line (text_of name) operand what) status

-- once its output was written, or refused
abbrev pub written : Name → ℕ → Result Text Errno → Action
written name status (Ok bytes) = ends status
written name status (Err errno) = complains name (codes "output") (word errno) 1

-- its output, where there is any, on 1
abbrev pub puts : Name → Text → ℕ → Action
puts name output status = if is_empty output then ends status else asks (Write 1 output) (1 + turns output) (λ a. written name status (brought a))
