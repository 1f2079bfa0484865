use Rattle.std.proofs.Common.{List, [], ◌∷◌, ◌++◌, Bool, true, sym, ap, ◌∙◌, subst}
use Rattle.ut_bre.specs.Rows.{TellsWhere}
use Rattle.ut_bre.proofs.Rowed.{IsAtEnd, end-row}
use Rattle.ut_bre.proofs.row.Row.of_end.Goals as goal

pub returns : goal.returns
returns c =
    let span = c.args.span in
    let one = c.in_ok-push.ensures ∙ ap (λ (row : List Bool). row ++ true ∷ []) c.new-row.ensures in
    subst (λ (row : List Bool). TellsWhere (IsAtEnd span.end) span.start span.end row) (sym one) (end-row span.start span.end)
