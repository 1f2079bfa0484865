-- What holds of every script and of every shell, however texts read.
use Rattle.std.specs.Prelude.{◌≡◌, ℕ}
use Rattle.rk_base.specs.Text.{Text}
use Rattle.rk_calls.specs.Keys.{KeyValue}
use Rattle.rk_calls.specs.Views.{IsCommandTalk}
use Rattle.sh_ast.specs.Commands.{CommandsTree}
use Rattle.sh_means.specs.declared.flow.Place.{Place}
use Rattle.sh_means.specs.State.{Shell}
use Rattle.sh_means.specs.Flows.{Next}
use Rattle.sh_means.specs.Simple.{Job}
use Rattle.sh_means.specs.Eval.{whole_in, job_in, run, over}
use Rattle.sh_means.specs.Starts.{shell_says}
use Rattle.sh_script.specs.Reads.{Reading}

-- Fewer turns only cut what a script says, and its calls are proper.
abbrev pub EachIsCommandTalk : Type 0
EachIsCommandTalk = (read : Text → Reading) (cs : CommandsTree) (pl : Place) (e : Shell) → IsCommandTalk (whole_in (run read) cs pl e over)

-- What is evaluated again means what its job does.
abbrev pub EachMeansItsJob : Type 0
EachMeansItsJob = (read : Text → Reading) (j : Job) (pl : Place) (e : Shell) (k : Next) (p : ℕ) → run read j pl e k p ≡ job_in read (run read) j pl e k p

-- Fewer turns only cut what the shell of a key says, and its calls are proper.
abbrev pub EachShellIsACommand : Type 0
EachShellIsACommand = (read : Text → Reading) (key : KeyValue) → IsCommandTalk (shell_says read key)
