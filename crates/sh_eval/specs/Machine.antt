-- What the machine says.
use Rattle.std.specs.Prelude.{ℕ, ◌+◌, ◌<◌}
use Rattle.rk_calls.specs.declared.answer.Answer.{Answer}
use Rattle.rk_calls.specs.declared.turn.Turn.{Turn}
use Rattle.rk_calls.specs.Talk.{Says}
use Rattle.sh_eval.specs.declared.machine.Evaluator.{Evaluator}
use Rattle.sh_means.specs.Stack.{IsStep, context, resumed}
use Rattle.sh_means.specs.State.{heard}
use Rattle.sh_means.specs.Views.{shell_of}
use Rattle.sh_means.specs.Weights.{IsFree, weigh, weigh_all}

-- with an answer that was heard
abbrev pub steps_on : Evaluator → Answer → Says
steps_on x a = resumed x.control (context x.shell.stack.items) a (shell_of x.shell.state)

-- it hears the answer first
abbrev pub evaluator_says : Evaluator → Answer → Says
evaluator_says x a = resumed x.control (context x.shell.stack.items) a (heard a (shell_of x.shell.state))

-- how much is left to do without cost
abbrev pub free_work : Evaluator → ℕ
free_work x = weigh x.control + weigh_all x.shell.stack.items

-- a call costs something, and after a free turn there is less to do without cost
abbrev pub Sheds : Evaluator → Turn → Evaluator → Type 0
Sheds x t y = IsStep t × (IsFree t → free_work y < free_work x)
