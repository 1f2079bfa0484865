use Rattle.std.proofs.Common.{rules}
use Rattle.std.proofs.lemmas.Fn.{always_returns_same}
use Rattle.rk_base.specs.Text.{text_cmp}
use Rattle.rk_tree.proofs.AscendingLemmas.{Row, searchable, missed, same_name, yes}
use Rattle.rk_tree.proofs.ascending.place.Goals as goal

pub returns-in-Ok : goal.returns-in-Ok
returns-in-Ok c = (c.in-Ok.ensures.bound, same_name c.args.rows.now c.args.name.now c.in-Ok.i (c.in-Ok.ensures.position (λ (row : Row). text_cmp row.0.items c.args.name.now) (always_returns_same _ _ _ (λ a r f k. search rules))))

pub returns-in-Err : goal.returns-in-Err
returns-in-Err c = missed c.args.rows.now c.args.name.now c.in-Err.field-0 (c.in-Err.ensures.position (λ (row : Row). text_cmp row.0.items c.args.name.now) (always_returns_same _ _ _ (λ a r f k. search rules)) (searchable c.args.rows.now c.args.name.now (yes _ c.requires)))
