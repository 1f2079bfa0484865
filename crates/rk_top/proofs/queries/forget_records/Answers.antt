use Rattle.std.proofs.Common.{refl}
use Rattle.rk_top.proofs.QueryLemmas.{query-no-fault, forgotten-counted}
use Rattle.rk_top.proofs.queries.forget_records.Goals as goal

pub returns-clause-asked : goal.returns-clause-asked
returns-clause-asked g c = (c.forget.result, (c.outcome_of_answer.ensures, (c.forget.ensures.folder, c.forget.ensures.output)))

pub returns-clause-counts : goal.returns-clause-counts
returns-clause-counts g c = λ x. rw c.outcome_of_answer.ensures (forgotten-counted _ _ c.forget.result c.forget.ensures.reads c.forget.ensures.writes refl)

pub returns-clause-steady : goal.returns-clause-steady
returns-clause-steady g c = λ folder out. rw c.outcome_of_answer.ensures (query-no-fault c.forget.result (c.forget.ensures.steady folder out))
