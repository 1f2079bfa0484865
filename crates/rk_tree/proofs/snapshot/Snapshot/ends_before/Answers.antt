use Rattle.std.proofs.Common.{sym, ap, ◌∙◌}
use Rattle.std.specs.FinMap.{get}
use Rattle.rk_tree.specs.Entries.{Entries}
use Rattle.rk_tree.proofs.RowsLemmas.{no_rows, past_all}
use Rattle.rk_tree.proofs.snapshot.Snapshot.ends_before.Goals as goal

pub returns-in-None : goal.returns-in-None
returns-in-None c = λ yes. sym (ap (λ (m : Entries). get m c.args.path.now) c.self.view_is) ∙ no_rows c.self.inside.rows.entries c.args.path.now c.in-None.ensures.variant.1

pub returns-in-Less : goal.returns-in-Less
returns-in-Less c = λ yes.
    sym (ap (λ (m : Entries). get m c.args.path.now) c.self.view_is)
    ∙ past_all c.self.inside.rows.entries c.in-Some.last.now c.args.path.now c.in-Some.ensures.greatest (sym c.cmp.ensures ∙ c.in-Less.is)
