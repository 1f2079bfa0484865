use Rattle.std.proofs.Common.{◌∙◌, ap, arith}
use Rattle.sh_compound.proofs.ByKind.{case_begun}
use Rattle.sh_ast.specs.declared.command.CaseItems.{CaseItems}
use Rattle.sh_means.specs.Weights.{items_left}
use Rattle.sh_compound.proofs.compounds.act_case.Goals as goal

pub returns-clause-talk : goal.returns-clause-talk
returns-clause-talk c =
    λ k e p. case_begun c.args.word.now.value c.in_ok-word.word c.args.items.now.value c.in_ok-items.items c.args.place k e p c.in_ok-word.ensures.cases c.in_ok-items.ensures.cases
    ∙ c.in_ok-control.ensures.talk k e p

pub returns-clause-weight : goal.returns-clause-weight
returns-clause-weight c = omega (arith, ap (λ (is : CaseItems). items_left is 0 0) c.in_ok-items.ensures.cases, c.in_ok-control.ensures.weight)
