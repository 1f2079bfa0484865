use Rattle.std.proofs.Common.{sym, ap, ◌∙◌}
use Rattle.std.specs.Ordering.{is_lt}
use Rattle.rk_tree.proofs.AscendingLemmas.{last_got, last_none, not_less}
use Rattle.rk_tree.proofs.ascending.comes_last.Goals as goal

pub returns-in-None : goal.returns-in-None
returns-in-None c = sym (last_none c.args.rows.now c.args.name.now (sym c.in-None.ensures.value))

pub returns-in-Less : goal.returns-in-Less
returns-in-Less c = ap is_lt c.in-Less.ensures ∙ sym (last_got c.args.rows.now c.in-Some.last.now c.args.name.now (sym c.in-Some.ensures.value))

pub returns-in_default : goal.returns-in_default
returns-in_default c =
    sym (not_less c.compared.result c.in_default.not-Less) ∙ ap is_lt c.compared.ensures
    ∙ sym (last_got c.args.rows.now c.in-Some.last.now c.args.name.now (sym c.in-Some.ensures.value))
