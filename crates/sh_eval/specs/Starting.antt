-- How a shell begins.
use Rattle.std.specs.Prelude.{◌≡◌, false}
use Rattle.rk_base.specs.Text.{Text}
use Rattle.rk_calls.specs.declared.answer.Answer.{Answer}
use Rattle.rk_calls.specs.Talk.{Says}
use Rattle.sh_vars.specs.Held.{Held, is_readonly}
use Rattle.sh_eval.specs.declared.shell.Shell as shell
use Rattle.sh_eval.specs.Machine.{evaluator_says}

-- no variable is readonly
abbrev pub NoneReadonly : Held → Type 0
NoneReadonly held = (name : Text) → is_readonly held name ≡ false

abbrev pub shell_talk : shell.Shell → Answer → Says
shell_talk s = evaluator_says s.evaluator
