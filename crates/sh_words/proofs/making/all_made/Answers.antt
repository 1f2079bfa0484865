use Rattle.std.proofs.Common.{sym, ap, ◌∙◌, arith}
use Rattle.sh_ast.specs.Commands as tree
use Rattle.sh_means.specs.declared.control.Made.{Made}
use Rattle.sh_means.specs.Eval.{compound_in}
use Rattle.sh_means.specs.Flows.{Next}
use Rattle.sh_means.specs.Run.{run}
use Rattle.sh_means.specs.Stack.{context, redirects_from, made_go}
use Rattle.sh_means.specs.Views.{shell_of}
use Rattle.sh_means.specs.Words.{named}
use Rattle.sh_means.specs.Weights.{weigh_made}
use Rattle.sh_words.proofs.making.all_made.Goals as goal

pub returns-in_ok-control-in-Simple-clause-talk : goal.returns-in_ok-control-in-Simple-clause-talk
returns-in_ok-control-in-Simple-clause-talk c =
    λ p. ap (λ (m : Made). made_go m (named (redirects_from c.args.left.redirects.value 0)) c.args.left.before.value c.args.place (context c.args.shell.now.stack.items) (shell_of c.args.shell.now.state) p) c.in-Simple.is ∙ c.in_ok-control-in-Simple.ensures.talk p

pub returns-in_ok-put_map_back_later-in-Compound-clause-talk : goal.returns-in_ok-put_map_back_later-in-Compound-clause-talk
returns-in_ok-put_map_back_later-in-Compound-clause-talk c =
    λ p. ap (λ (m : Made). made_go m (named (redirects_from c.args.left.redirects.value 0)) c.args.left.before.value c.args.place (context c.args.shell.now.stack.items) (shell_of c.args.shell.now.state) p) c.in-Compound.is
    ∙ ap (λ (k : Next). compound_in run (tree.compound c.in-Compound.body.value) c.args.place (shell_of c.args.shell.now.state) k p) (sym c.in_ok-put_map_back_later-in-Compound.ensures.talk)

pub returns-in_ok-control-in-Simple-clause-weight : goal.returns-in_ok-control-in-Simple-clause-weight
returns-in_ok-control-in-Simple-clause-weight c = omega (arith, ap weigh_made c.in-Simple.is, c.in_ok-control-in-Simple.ensures.weight)

pub returns-in_ok-put_map_back_later-in-Compound-clause-weight : goal.returns-in_ok-put_map_back_later-in-Compound-clause-weight
returns-in_ok-put_map_back_later-in-Compound-clause-weight c = omega (arith, ap weigh_made c.in-Compound.is, c.in_ok-put_map_back_later-in-Compound.ensures.weight)
