use Rattle.std.proofs.Common.{ap, ◌∙◌}
use Rattle.sh_ast.specs.declared.command.CommandList.{CommandList, out-CommandList}
use Rattle.sh_means.proofs.Substituted.{body_is, body_missing}
use Rattle.sh_means.proofs.expanding.body_of.Goals as goal

pub returns-in_ok-body-in-Some : goal.returns-in_ok-body-in-Some
returns-in_ok-body-in-Some c = body_is c.args.word.now c.args.number c.in-Some.body.now.value c.in_ok-body-in-Some.body c.in-Some.ensures c.in_ok-body-in-Some.ensures.cases

pub returns-in_ok-body-in-None : goal.returns-in_ok-body-in-None
returns-in_ok-body-in-None c = body_missing c.args.word.now c.args.number c.in_ok-body-in-None.body c.in-None.ensures (ap (λ (l : CommandList). (out-CommandList l).items.items) c.in_ok-body-in-None.ensures.ok ∙ c.new.ensures.items)
