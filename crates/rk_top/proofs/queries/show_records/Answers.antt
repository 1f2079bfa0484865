use Rattle.std.proofs.Common.{refl}
use Rattle.rk_top.proofs.QueryLemmas.{query-no-fault, shown-counted}
use Rattle.rk_top.proofs.queries.show_records.Goals as goal

pub returns-clause-asked : goal.returns-clause-asked
returns-clause-asked g c = (c.trace.ensures.held, (c.trace.result, (c.outcome_of_answer.ensures, c.trace.ensures.shows)))

pub returns-clause-counts : goal.returns-clause-counts
returns-clause-counts g c = λ x. rw c.outcome_of_answer.ensures (shown-counted _ _ c.trace.result c.trace.ensures.reads c.trace.ensures.writes c.trace.ensures.puts refl)

pub returns-clause-steady : goal.returns-clause-steady
returns-clause-steady g c = λ folder out. rw c.outcome_of_answer.ensures (query-no-fault c.trace.result (c.trace.ensures.steady folder out))
