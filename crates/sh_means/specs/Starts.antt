-- How the shell of a key begins (XCU `sh`): by the words of `sh`, or by a first word with a slash, which names a script.
use Rattle.std.specs.Prelude.{ℕ, ◌/◌, ◌%◌, ◌==◌, List, [], ◌∷◌, Bool, true, false, Result, Ok, Err, codes, if◌then◌else◌}
use Rattle.std.specs.FinMap.{empty}
use Rattle.rk_base.specs.Text.{Text, same_text}
use Rattle.rk_base.specs.Errno.{word}
use Rattle.rk_base.specs.declared.errno.Errno.{Errno}
use Rattle.rk_base.specs.declared.file_type.FileType.{FileType}
use Rattle.rk_base.specs.declared.file_type.FileType.TheVariants.{File, Dir, Link}
use Rattle.rk_base.specs.declared.vars.Var.{Var}
use Rattle.rk_calls.specs.Brought.{brought}
use Rattle.rk_calls.specs.Keys.{KeyValue, shell}
use Rattle.rk_calls.specs.Lines.{error_line}
use Rattle.rk_calls.specs.Places.{absolute}
use Rattle.rk_calls.specs.Talk.{Says}
use Rattle.rk_calls.specs.declared.answer.Answer.{Answer}
use Rattle.rk_calls.specs.declared.answer.Answer.TheVariants as answer
use Rattle.rk_calls.specs.declared.call.Call.TheVariants.{Open, Read, Stat}
use Rattle.rk_calls.specs.declared.call.How.TheVariants as how
use Rattle.sh_vars.specs.Held.{Held, nothing, assigned, given}
use Rattle.sh_redirect.specs.DescriptorTable.{own}
use Rattle.sh_special.specs.Lines.{usage_line}
use Rattle.sh_means.specs.declared.flow.Flow.TheVariants.{Exits}
use Rattle.sh_special.specs.Invocation.{Start, Misused, Given, Script, options}
use Rattle.sh_means.specs.State.{Shell}
use Rattle.sh_means.specs.Flows.{Next, Go_on, asks, tells, sh, ends, outermost}
use Rattle.sh_means.specs.Simple.{Meaning, Reads}
use Rattle.sh_script.specs.Reads.{Reading}
use Rattle.sh_means.specs.Eval.{run, over}

-- Its state.

abbrev pub all_given : List Var → Held → Held
all_given [] held = held
all_given (v ∷ vs) held = all_given vs (given v.name (assigned v.name v.value held))

-- the variables of the key, exported; IFS and PWD keep the flag that they have
abbrev pub first_variables : List Var → Text → Held
first_variables vars wd = assigned (codes "PWD") wd (assigned (codes "IFS") (codes " \t\n") (all_given vars nothing))

abbrev pub first_shell : Text → List Text → List Var → Text → Shell
first_shell zero words vars wd = record {
  env = record { vars = record (first_variables vars wd) { positional = words }; zero = zero; wd = wd; status = 0; substituted = false; nounset = false; noglob = false; next = 10 };
  errexit = false;
  functions = empty;
  descriptors = own;
}

-- What it says.

-- a script that can't be read
abbrev pub fails : Text → Text → ℕ → Next → Go_on
fails file what status k e = tells (error_line sh file what) (ends Exits status k) e

abbrev pub script_read : Meaning → Text → Next → Result Text Errno → Go_on
script_read again file k (Err errno) e = fails file (word errno) 127 k e
script_read again file k (Ok text) e = again (Reads file text) outermost e k

abbrev pub script_opened : Meaning → Text → ℕ → Next → Result Text Errno → Go_on
script_opened again file n k (Err errno) e = fails file (word errno) 127 k e
script_opened again file n k (Ok bytes) e = asks (Read n) 1 (λ a. script_read again file k (brought a)) e

-- a script is read whole before its first command runs
abbrev pub runs_script : Meaning → Text → Next → Go_on
runs_script again file k e = asks (Open (absolute e.env.wd file) how.Read) 1 (λ a. script_opened again file e.env.next k (brought a)) e

abbrev pub is_directory : FileType → Bool
is_directory File = false
is_directory Dir = true
is_directory Link = false

-- whether the owner may run it
abbrev pub has_x : ℕ → Bool
has_x mode = mode / 64 % 2 == 1

-- what was looked up: a refusal, a directory, and what nobody may run
abbrev pub looked : Meaning → Text → Next → Answer → Go_on
looked again file k (answer.No errno) e = fails file (word errno) 127 k e
looked again file k (answer.Stat kind mode is_empty) e =
    if is_directory kind then fails file (codes "is a directory") 126 k e else (if has_x mode then runs_script again file k e else fails file (codes "denied") 126 k e)
looked again file k a e = runs_script again file k e

abbrev pub runs_command : Meaning → Text → Next → Go_on
runs_command again file k e = asks (Stat (absolute e.env.wd file) true) 1 (λ a. looked again file k a) e

abbrev pub starts : Meaning → Start → List Var → Text → Says
starts again (Misused line) vars wd = tells line (ends Exits 2 over) (first_shell sh [] vars wd)
starts again (Given zero text words) vars wd = again (Reads (codes "-c") text) outermost (first_shell zero words vars wd) over
starts again (Script file words) vars wd = runs_script again file over (first_shell file words vars wd)

-- words behind a first word with a slash are the positional parameters
abbrev pub by_argv : (Text → Reading) → List Text → List Var → Text → Says
by_argv read [] vars wd = starts (run read) (Misused (usage_line sh)) vars wd
by_argv read (w ∷ ws) vars wd = if same_text w shell then starts (run read) (options false ws) vars wd else runs_command (run read) w over (first_shell w ws vars wd)

-- the shell of a key, whose start was paid for
abbrev pub shell_says : (Text → Reading) → KeyValue → Says
shell_says read key = by_argv read key.argv key.vars key.wd
