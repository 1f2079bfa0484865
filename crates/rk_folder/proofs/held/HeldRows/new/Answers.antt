use Rattle.std.proofs.Common.{sym, ap, subst, ◌∙◌, List, []}
use Rattle.std.specs.FinMap.{empty}
use Rattle.rk_base.specs.Text.{Text}
use Rattle.rk_tree.proofs.RowsLemmas.{empty_rows}
use Rattle.rk_folder.specs.Told.{Held, Places, with_standing}
use Rattle.rk_folder.specs.Whole.{IsWhole}
use Rattle.rk_folder.specs.declared.folder.Standing.TheVariants.{Dir}
use Rattle.rk_folder.proofs.WholeLemmas.{whole-root_alone}
use Rattle.rk_folder.proofs.held.HeldRows.new.Goals as goal

pub returns-clause-held : goal.returns-clause-held
returns-clause-held c =
    c.in_ok-put.ensures.ok ∙ ap (λ (h : Held). with_standing c.in_ok-root.root Dir h)
    (ap (λ (m : Places). record { places = m; odd = c.new-2.result.items }) (empty_rows c.new.result.entries c.new.ensures.empty) ∙ ap (λ (o : List Text). record { places = empty; odd = o }) c.new-2.ensures.items)
    ∙ ap (λ (p : Text). with_standing p Dir (record { places = empty; odd = [] })) c.in_ok-root.ensures

pub returns-clause-whole : goal.returns-clause-whole
returns-clause-whole c = subst IsWhole (sym (returns-clause-held c)) whole-root_alone
