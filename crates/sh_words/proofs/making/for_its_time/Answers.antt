use Rattle.std.proofs.Common.{Bool, sym, ap, ◌∙◌}
use Rattle.sh_means.specs.Simple.{for_its_time}
use Rattle.sh_means.specs.Stack.{assigns_from, context}
use Rattle.sh_means.specs.Words.{names}
use Rattle.sh_words.proofs.making.for_its_time.Goals as goal

pub returns-then-plain-clause-talk : goal.returns-then-plain-clause-talk
returns-then-plain-clause-talk c =
    c.in_ok-put_back_later.ensures.talk ∙ ap (λ (b : Bool). for_its_time b (names (assigns_from c.args.assignments.now.value 0)) c.args.vars.now (context c.args.stack.now.items)) (sym c.if-plain.true)

pub returns-clause-talk : goal.returns-clause-talk
returns-clause-talk c = ap (λ (b : Bool). for_its_time b (names (assigns_from c.args.assignments.now.value 0)) c.args.vars.now (context c.args.stack.now.items)) (sym c.if-plain.false)
