use Rattle.std.proofs.Common.{◌≡◌, Bool, sym, ap, subst, ◌∙◌}
use Rattle.std.specs.Prelude.{MatchBool}
use Rattle.std.specs.FinMap.{insert}
use Rattle.rk_base.specs.Text.{Text}
use Rattle.rk_tree.specs.Rows.{map_of}
use Rattle.rk_tree.proofs.RowsLemmas.{map_of-put}
use Rattle.rk_tree.proofs.tree.copying.put_number.Goals as goal

pub returns : goal.returns
returns c =
    subst (λ (b : Bool). MatchBool b (map_of c.insert.new.self.entries ≡ insert (map_of c.args.numbers.now.entries) c.args.path.now c.args.n) (c.insert.new.self.entries ≡ c.args.numbers.now.entries))
    (sym c.if-not-is_dir.false ∙ c.is_dir.ensures)
    (map_of-put c.args.numbers.now.entries c.insert.new.self.entries c.in_ok-copy.field-0 c.args.n c.in_ok-insert.ensures.updates.0
    ∙ ap (λ (path : Text). insert (map_of c.args.numbers.now.entries) path c.args.n) c.in_ok-copy.ensures.copy)
