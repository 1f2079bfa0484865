use Rattle.std.proofs.Common.{sym, subst}
use Rattle.ut_bre.specs.Matching.{Finds}
use Rattle.ut_bre.specs.Picking.{FindsGroups}
use Rattle.ut_bre.proofs.Existing.{is-span_found, span_found-finds, is-found, found-finds}
use Rattle.ut_bre.proofs.law.one_match.Goals as goal

pub returns : goal.returns
returns c = record {
  spans = λ e line from r. (is-span_found e line from r, λ z. subst (Finds e line from) (sym z) (span_found-finds e line from));
  groups = λ e line from r. (is-found e line from r, λ z. subst (FindsGroups e line from) (sym z) (found-finds e line from));
}
