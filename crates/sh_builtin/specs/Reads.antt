-- `read` (XCU 4, `read`).
use Rattle.std.specs.Prelude.{ℕ, List, [], ◌∷◌, ◌++◌, codes, drop, Bool, true, false, Option, Some, None, Result, Ok, Err, if◌then◌else◌}
use Rattle.rk_base.specs.Text.{Text, same_text}
use Rattle.rk_base.specs.Errno.{word}
use Rattle.rk_base.specs.declared.errno.Errno.{Errno}
use Rattle.rk_calls.specs.declared.call.Call.TheVariants.{ReadLine}
use Rattle.rk_calls.specs.Brought.{brought}
use Rattle.rk_calls.specs.Fix.{fix}
use Rattle.rk_calls.specs.Talk.{Says}
use Rattle.sh_vars.specs.declared.env.Env.{Env}
use Rattle.sh_vars.specs.Held.{value_at, is_readonly}
use Rattle.sh_operands.specs.Words.{first_that, is_misnamed}
use Rattle.sh_builtin.specs.declared.name.Name.TheVariants as name
use Rattle.sh_builtin.specs.declared.marks.Marked.{Marked}
use Rattle.sh_builtin.specs.declared.line.End.{End}
use Rattle.sh_builtin.specs.declared.line.End.TheVariants.{Whole, Short, Continued}
use Rattle.sh_builtin.specs.Cds.{sets}
use Rattle.sh_builtin.specs.Action.{Slots, Ended, Action, ends, asks}
use Rattle.sh_builtin.specs.Fields.{values}
use Rattle.sh_builtin.specs.Lines.{line_of}
use Rattle.sh_builtin.specs.Telling.{complains, tells, usage_line}

-- the first of what is left; no bytes where nothing is
abbrev pub first_value : List Text → Text
first_value [] = []
first_value (value ∷ values) = value

-- the variables have these values, one after another
abbrev pub assigns : List Text → List Text → ℕ → Action
assigns [] values status = ends status
assigns (x ∷ xs) values status = sets name.Read x (first_value values) (assigns xs (drop 1 values) status)

-- where IFS is unset it is a blank, a tab and a newline
abbrev pub ifs_or_default : Option Text → Text
ifs_or_default None = 32 ∷ 9 ∷ 10 ∷ []
ifs_or_default (Some ifs) = ifs

abbrev pub ifs_of : Env → Text
ifs_of env = ifs_or_default (value_at env.vars (codes "IFS"))

-- the fields of the line, by IFS as it is before any of them is assigned
abbrev pub takes : List Text → List Marked → ℕ → Action
takes names marks status slots k env = assigns names (values (ifs_of env) names marks) status slots k env

-- Where a read stands: `-r`, the variables, and the line so far, where the shell's map is this.
pub record At : Type 0 where
  pub raw : Bool
  pub names : List Text
  pub marks : List Marked
  pub slots : Slots
  pub env : Env

-- and what comes after it
pub record Job : Type 0 where
  pub at : At
  pub next : Ended

abbrev pub from_here : (Job → Says) → Bool → List Text → List Marked → Action
from_here again raw names marks slots k env = again (record { at = record { raw = raw; names = names; marks = marks; slots = slots; env = env }; next = k })

-- where the input ends before the newline, what came is assigned, and the status is 1
abbrev pub by_end : (Job → Says) → Bool → List Text → List Marked → End → Action
by_end again raw names marks Whole = takes names marks 0
by_end again raw names marks Short = takes names marks 1
by_end again raw names marks Continued = from_here again raw names marks

abbrev pub line_read : (Job → Says) → Bool → List Text → List Marked → Result Text Errno → Action
line_read again raw names marks (Ok text) = by_end again raw names (marks ++ (line_of raw text).marks) (line_of raw text).end
line_read again raw names marks (Err errno) = complains name.Read (codes "input") (word errno) 1

-- one line, and the next one where a backslash and a newline join them
abbrev pub reads_line : (Job → Says) → Job → Says
reads_line again job = asks (ReadLine 0) 1 (λ a. line_read again job.at.raw job.at.names job.at.marks (brought a)) job.at.slots job.next job.at.env

abbrev pub reads_on : Job → Says
reads_on = fix reads_line

abbrev pub reads_lines : Bool → List Text → List Marked → Action
reads_lines = from_here reads_on

abbrev pub unless_readonly : Option Text → Action → Action
unless_readonly None go = go
unless_readonly (Some x) go = complains name.Read x (codes "readonly") 1

abbrev pub unless_misnamed : Option Text → Action → Action
unless_misnamed None go = go
unless_misnamed (Some x) go = complains name.Read x (codes "usage") 1

-- a readonly variable is told before a line is asked for
abbrev pub reads_named : Bool → List Text → Action
reads_named raw names slots k env = unless_readonly (first_that (is_readonly env.vars) names) (reads_lines raw names []) slots k env

-- a name that no variable may have is told before that
abbrev pub reads_into : Bool → List Text → Action
reads_into raw [] = tells (usage_line (codes "read")) 1
reads_into raw (x ∷ xs) = unless_misnamed (first_that is_misnamed (x ∷ xs)) (reads_named raw (x ∷ xs))

-- `-r` comes first
abbrev pub reads : List Text → Action
reads [] = reads_into false []
reads (x ∷ xs) = if same_text x (codes "-r") then reads_into true xs else reads_into false (x ∷ xs)
