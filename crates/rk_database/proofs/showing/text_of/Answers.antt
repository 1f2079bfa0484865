use Rattle.std.proofs.Common.{List, ap, subst, sym, ◌∙◌}
use Rattle.std.specs.List.{AllByRecursion}
use Rattle.std.proofs.lemmas.Result.{err_from_is_err_and}
use Rattle.rk_show.specs.Traces.{IsCounted}
use Rattle.tr_record.specs.declared.records.Record.{Record}
use Rattle.rk_database.specs.Texts.{shown_text}
use Rattle.rk_database.proofs.TextLemmas.{spelt-counted}
use Rattle.rk_database.proofs.showing.text_of.Goals as goal

pub shown-requires : goal.shown-requires
shown-requires c = subst (AllByRecursion IsCounted) (sym c.newest.ensures) (spelt-counted _ _ c.in_ok-kept.ensures.spelt)

pub returns-in_err-kept-clause-refused : goal.returns-in_err-kept-clause-refused
returns-in_err-kept-clause-refused c =
    let p = err_from_is_err_and c.from_residual.result c.from_residual.ensures.1 in
    rw (p.1, p.2) c.in_err-kept.ensures.refused

pub returns-clause-shown : goal.returns-clause-shown
returns-clause-shown c = (c.in_ok-kept.kept, (c.in_ok-kept.ensures.spelt, c.in_ok-text.ensures ∙ ap (λ (t : List Record). shown_text c.args.json t c.args.db.now) c.newest.ensures))
