use Rattle.std.proofs.Common.{ap, subst}
use Rattle.sh_builtin.specs.Refused.{HasBegunAt, refusals, refusals_at}
use Rattle.sh_builtin.proofs.Refusing.{not_begun, begun_refused}
use Rattle.sh_builtin.proofs.builtin.next_move.Goals as goal

pub returns-in-Begins-clause-refused : goal.returns-in-Begins-clause-refused
returns-in-Begins-clause-refused c = not_begun c.begin.result c.args.answer c.args.progress (λ begun. subst HasBegunAt c.in-Begins.is begun)

pub returns-in-Stands-clause-refused : goal.returns-in-Stands-clause-refused
returns-in-Stands-clause-refused c = begun_refused c.go_on.result c.args.answer c.args.progress (refusals c.in-Stands.stage) c.go_on.ensures.refused (ap refusals_at c.in-Stands.is)
