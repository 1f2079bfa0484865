use Rattle.std.proofs.Common.{sym, ap, subst, ◌∙◌, List}
use Rattle.rk_base.specs.Text.{Text}
use Rattle.rk_tree.specs.Rows.{map_of}
use Rattle.rk_folder.specs.Told.{Held, with_odd}
use Rattle.rk_folder.specs.Whole.{IsWhole}
use Rattle.rk_folder.proofs.WholeLemmas.{whole-odd}
use Rattle.rk_folder.proofs.held.HeldRows.mark_odd.Goals as goal

pub returns-clause-whole : goal.returns-clause-whole
returns-clause-whole c =
    subst IsWhole (sym (ap (λ (o : List Text). record { places = map_of c.self.inside.rows.entries; odd = o }) (c.in_ok-push.ensures.items) ∙ ap (λ (h : Held). with_odd c.in_ok-dir.dir h) c.self.view_is ∙ ap (λ (d : Text). with_odd d c.args.self.now) c.in_ok-dir.ensures.copy))
    (whole-odd _ _ c.requires.allowed c.requires.whole)
