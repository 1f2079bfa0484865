use Rattle.std.proofs.Common.{◌<◌, ◌+◌, refl, ◌∙◌, arith}
use Rattle.sh_means.specs.Stack.{context}
use Rattle.sh_means.specs.Views.{shell_of}
use Rattle.sh_means.proofs.Bounds.{command_small}
use Rattle.sh_compound.proofs.Branching.{found, stages_over, stage_more, stage_last}
use Rattle.sh_means.proofs.Weighing.{falls_asked}
use Rattle.sh_compound.proofs.compounds.act_stages.Goals as goal

pub overflow_add-next : goal.overflow_add-next
overflow_add-next c = let small : c.args.at < 9223372036854775808 = command_small c.deref.result.now c.args.at _ c.in-Some.ensures in omega arith

pub returns-in-None-clause-talk : goal.returns-in-None-clause-talk
returns-in-None-clause-talk c =
    let k = context c.args.shell.now.stack.items in
    let e = shell_of c.args.shell.now.state in
    λ p. stages_over c.args.list.value c.deref.result.now c.args.at c.args.input c.args.place k e p c.deref.ensures c.in-None.ensures ∙ c.free.ensures.talk k e p

pub returns-in-Some-get-clause-talk : goal.returns-in-Some-get-clause-talk
returns-in-Some-get-clause-talk c =
    let l = c.args.list.value in
    λ p. stage_more c.args.list _ _ c.args.at c.args.input c.args.place (context c.args.shell.now.stack.items) (shell_of c.args.shell.now.state) p (found l c.deref.result.now _ c.args.at c.args.at c.deref.ensures refl c.in-Some.ensures) (found l c.deref-in-Some.result.now _ (c.args.at + 1) (c.args.at + 1) c.deref-in-Some.ensures refl c.in-Some-get.ensures)

pub returns-in_ok-read_from-in-None-get-clause-talk : goal.returns-in_ok-read_from-in-None-get-clause-talk
returns-in_ok-read_from-in-None-get-clause-talk c =
    let l = c.args.list.value in
    let k' = context c.put_undo.new.stack.items in
    let e' = shell_of c.read_from.new.state in
    λ p. stage_last c.args.list _ c.args.at c.in_ok-saved-in-None-get.saved c.args.input c.args.place (context c.args.shell.now.stack.items) k' (shell_of c.args.shell.now.state) e' p (found l c.deref.result.now _ c.args.at c.args.at c.deref.ensures refl c.in-Some.ensures) (found l c.deref-in-Some.result.now _ (c.args.at + 1) (c.args.at + 1) c.deref-in-Some.ensures refl c.in-None-get.ensures) c.in_ok-saved-in-None-get.ensures c.in_ok-put_undo-in-None-get.ensures.talk c.in_ok-read_from-in-None-get.ensures
    ∙ c.free-in-None-get.ensures.talk k' e' p

pub returns-in-Some-get-clause-costly : goal.returns-in-Some-get-clause-costly
returns-in-Some-get-clause-costly c = λ m le. falls_asked m _ _ 1 _ (omega arith)

pub returns-in_ok-read_from-in-None-get-clause-costly : goal.returns-in_ok-read_from-in-None-get-clause-costly
returns-in_ok-read_from-in-None-get-clause-costly c = λ m le. c.free-in-None-get.ensures.costly m _ (omega (arith, c.in_ok-put_undo-in-None-get.ensures.weight))

pub returns-in-None-clause-costly : goal.returns-in-None-clause-costly
returns-in-None-clause-costly c = λ m le. c.free.ensures.costly m _ (omega arith)
