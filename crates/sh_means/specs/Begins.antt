-- What the shell of a key does before its script is evaluated.
use Rattle.rk_calls.specs.Brought.{brought}
use Rattle.rk_calls.specs.declared.answer.Answer.{Answer}
use Rattle.sh_means.specs.declared.control.Begin.{Begin}
use Rattle.sh_means.specs.declared.control.Begin.TheVariants as begin
use Rattle.sh_means.specs.declared.flow.Flow.TheVariants.{Exits}
use Rattle.sh_means.specs.Flows.{Next, Go_on, tells, ends}
use Rattle.sh_means.specs.Run.{run}
use Rattle.sh_means.specs.Starts.{runs_script, runs_command, looked, script_opened, script_read}

abbrev pub begins : Begin → Next → Answer → Go_on
begins (begin.Misused line) k a = tells line (ends Exits 2 k)
begins (begin.Script file) k a = runs_script run file k
begins (begin.Command file) k a = runs_command run file k
begins (begin.Looked file) k a = looked run file k a
begins (begin.Opened file n) k a = script_opened run file n k (brought a)
begins (begin.Read file) k a = script_read run file k (brought a)
