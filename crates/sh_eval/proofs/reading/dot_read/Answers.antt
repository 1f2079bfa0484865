use Rattle.std.proofs.Common.{sym, ◌∙◌, arith}
use Rattle.rk_calls.specs.Brought.{brought}
use Rattle.sh_means.specs.Stack.{context}
use Rattle.sh_means.specs.Views.{shell_of}
use Rattle.sh_means.proofs.Calling.{script_read}
use Rattle.sh_means.proofs.Weighing.{sinks_lower}
use Rattle.sh_eval.proofs.reading.dot_read.Goals as goal

pub returns-in_ok-put_undo-in-Ok-clause-talk : goal.returns-in_ok-put_undo-in-Ok-clause-talk
returns-in_ok-put_undo-in-Ok-clause-talk c =
    λ p. script_read (brought c.args.answer) c.in-Ok.text c.args.file c.args.place (context c.args.shell.now.stack.items) (context c.put_undo.new.stack.items) (shell_of c.args.shell.now.state) p (sym c.in_ok-it.ensures ∙ c.in-Ok.is) c.in_ok-put_undo-in-Ok.ensures.talk
    ∙ c.free.ensures.talk (context c.put_undo.new.stack.items) (shell_of c.args.shell.now.state) p

pub returns-in-Err-clause-costly : goal.returns-in-Err-clause-costly
returns-in-Err-clause-costly c = sinks_lower c.refuse.result 1 4 _ c.refuse.ensures.costly (omega arith)

pub returns-in_ok-put_undo-in-Ok-clause-costly : goal.returns-in_ok-put_undo-in-Ok-clause-costly
returns-in_ok-put_undo-in-Ok-clause-costly c = λ m le. c.free.ensures.costly m _ (omega (arith, c.in_ok-put_undo-in-Ok.ensures.weight))
