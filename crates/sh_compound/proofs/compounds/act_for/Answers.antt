use Rattle.std.proofs.Common.{◌∙◌, Option, ap, arith}
use Rattle.sh_means.specs.Views.{shell_of}
use Rattle.sh_compound.proofs.ByKind.{for_parameters, for_words}
use Rattle.std.specs.declared.rc.Rc.{Rc}
use Rattle.std.specs.declared.alloc.Global.{Global}
use Rattle.sh_ast.specs.declared.command.Words.{Words}
use Rattle.sh_means.specs.Trees.{for_words_of}
use Rattle.sh_means.specs.Weights.{weigh_for}
use Rattle.sh_means.proofs.Weighing.{for_words_weigh}
use Rattle.sh_compound.proofs.compounds.act_for.Goals as goal

pub returns-in_ok-fields-in-None-clause-talk : goal.returns-in_ok-fields-in-None-clause-talk
returns-in_ok-fields-in-None-clause-talk c =
    λ k p. for_parameters c.args.words.now c.args.name.now c.in_ok-name.name c.in_ok-fields-in-None.fields c.args.body.now.value c.in_ok-body.body c.args.place k (shell_of c.args.state.now) p c.in-None.is c.in_ok-name.ensures c.in_ok-fields-in-None.ensures c.in_ok-body.ensures.cases
    ∙ c.over_fields.ensures.talk k p

pub returns-in_ok-words-in-Some-clause-talk : goal.returns-in_ok-words-in-Some-clause-talk
returns-in_ok-words-in-Some-clause-talk c =
    λ k p. for_words c.args.words.now c.in-Some.words c.in_ok-words-in-Some.words c.args.name.now c.in_ok-name.name c.new-fields.result c.args.body.now.value c.in_ok-body.body c.args.place k (shell_of c.args.state.now) p c.in-Some.is c.in_ok-words-in-Some.ensures.cases c.in_ok-name.ensures (c.new-fields.ensures ∙ c.new.ensures.items) c.in_ok-body.ensures.cases

pub returns-in_ok-fields-in-None-clause-weight : goal.returns-in_ok-fields-in-None-clause-weight
returns-in_ok-fields-in-None-clause-weight c =
    omega (arith, ap (λ (ws : Option (Rc Words Global)). weigh_for (for_words_of ws)) c.in-None.is, c.over_fields.ensures.weight)

pub returns-in_ok-words-in-Some-clause-weight : goal.returns-in_ok-words-in-Some-clause-weight
returns-in_ok-words-in-Some-clause-weight c =
    omega (arith, ap (λ (ws : Option (Rc Words Global)). weigh_for (for_words_of ws)) c.in-Some.is, for_words_weigh c.in-Some.words.value c.in_ok-words-in-Some.words.value c.in_ok-words-in-Some.ensures.cases)
