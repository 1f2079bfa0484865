use Rattle.sh_means.specs.Stack.{context}
use Rattle.sh_means.proofs.Undone.{time_over, time_kept}
use Rattle.sh_words.proofs.making.put_back_later.Goals as goal

pub returns-in-None-clause-talk : goal.returns-in-None-clause-talk
returns-in-None-clause-talk c = time_over c.args.assignments.now.value c.deref.result.now c.args.vars.now (context c.args.stack.now.items) c.deref.ensures c.in-None.ensures

pub returns-in_ok-put_undo-in-Some-clause-talk : goal.returns-in_ok-put_undo-in-Some-clause-talk
returns-in_ok-put_undo-in-Some-clause-talk c =
    time_kept c.args.assignments.now.value c.in_ok-assignments-in-Some.assignments c.args.vars.now c.in_ok-before-in-Some.before (context c.args.stack.now.items) (context c.put_undo.new.stack.items) c.in_ok-assignments-in-Some.ensures.cases c.in_ok-before-in-Some.ensures c.in_ok-put_undo-in-Some.ensures.talk
