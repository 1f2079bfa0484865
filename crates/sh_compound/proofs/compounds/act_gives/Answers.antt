use Rattle.std.proofs.Common.{◌∙◌, arith}
use Rattle.sh_means.specs.Stack.{context}
use Rattle.sh_means.specs.Views.{shell_of}
use Rattle.sh_means.proofs.Bounds.{found_behind}
use Rattle.sh_compound.proofs.ByKind.{gives_none, gives_taken, gives_barred, told_name}
use Rattle.sh_compound.proofs.compounds.act_gives.Goals as goal

pub enter_body-requires : goal.enter_body-requires
enter_body-requires c = found_behind _ _ _ c.in-Some.ensures.next

pub returns-in-None-clause-talk : goal.returns-in-None-clause-talk
returns-in-None-clause-talk c =
    let k = context c.args.shell.now.stack.items in
    λ p. gives_none c.args.each c.as_slice-fields.result.now c.args.place k (shell_of c.args.shell.now.state) p c.as_slice-fields.ensures c.in-None.ensures.item ∙ c.free.ensures.talk k (shell_of c.args.shell.now.state) p

pub returns-then-done-clause-talk : goal.returns-then-done-clause-talk
returns-then-done-clause-talk c =
    let e = shell_of c.args.shell.now.state in
    let e' = shell_of c.give.new.state in
    λ p. gives_taken c.args.each c.as_slice-fields.result.now c.in-Some.field.now c.as_slice-name.result.now c.as_slice-value.result.now c.in_ok-done-in-Some.done c.args.place (context c.args.shell.now.stack.items) e e' p c.as_slice-fields.ensures c.in-Some.ensures.item c.as_slice-name.ensures c.as_slice-value.ensures c.in_ok-done-in-Some.ensures.answer c.in_ok-done-in-Some.ensures.state c.if-done.true
    ∙ c.in_ok-control-in-Some.ensures.talk e' p
    ∙ c.free-then-done.ensures.talk (context c.enter_body.new.stack.items) e' p

pub returns-clause-talk : goal.returns-clause-talk
returns-clause-talk c =
    let e = shell_of c.args.shell.now.state in
    let e' = shell_of c.give.new.state in
    let k = context c.args.shell.now.stack.items in
    λ p. gives_barred c.args.each c.as_slice-fields.result.now c.in-Some.field.now c.as_slice-name.result.now c.as_slice-value.result.now c.in_ok-done-in-Some.done c.args.place k e e' p c.as_slice-fields.ensures c.in-Some.ensures.item c.as_slice-name.ensures c.as_slice-value.ensures c.in_ok-done-in-Some.ensures.answer c.in_ok-done-in-Some.ensures.state c.if-done.false
    ∙ told_name c.args.each.name c.as_slice-name.result.now k e' p c.as_slice-name.ensures
    ∙ c.in_ok-acted-in-Some.ensures.talk k p

pub returns-then-done-clause-costly : goal.returns-then-done-clause-costly
returns-then-done-clause-costly c = λ m le. c.free-then-done.ensures.costly m _ (omega (arith, c.in_ok-control-in-Some.ensures.weight))

pub returns-clause-costly : goal.returns-clause-costly
returns-clause-costly c = λ m le. c.in_ok-acted-in-Some.ensures.costly m _ (omega arith)

pub returns-in-None-clause-costly : goal.returns-in-None-clause-costly
returns-in-None-clause-costly c = λ m le. c.free.ensures.costly m _ (omega arith)
