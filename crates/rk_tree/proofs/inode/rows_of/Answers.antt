use Rattle.std.proofs.Common.{◌≡◌, ℕ, Option, refl, sym, ap, subst, ◌∙◌}
use Rattle.std.specs.Prelude.{IfOk, slice_get}
use Rattle.std.proofs.lemmas.Option.{slice_get_past, slice_get_read}
use Rattle.std.specs.FinMap.{entries}
use Rattle.rk_tree.specs.declared.inode.Inode.{Inode}
use Rattle.rk_tree.specs.Inodes.{names_in}
use Rattle.rk_tree.proofs.NamesLemmas.{no_entries}
use Rattle.rk_tree.proofs.inode.rows_of.Goals as goal

pub returns-in-None : goal.returns-in-None
returns-in-None c =
    c.new.ensures.items ∙ sym no_entries ∙ ap (λ (o : Option Inode). entries (names_in o)) (sym (slice_get_past c.args.nodes.now c.number.result c.in-None.ensures.lookup.3))
    ∙ ap (λ (k : ℕ). entries (names_in (slice_get c.args.nodes.now k))) c.number.ensures

pub returns-in-Some : goal.returns-in-Some
returns-in-Some c =
    subst (λ (o : Option Inode). IfOk c.rows.result (λ rows. rows.items ≡ entries (names_in o)))
    (sym (slice_get_read c.args.nodes.now _ c.number.result c.in-Some.inode.now refl c.in-Some.ensures.lookup.3.0 c.in-Some.ensures.lookup.1) ∙ ap (λ (k : ℕ). slice_get c.args.nodes.now k) c.number.ensures) c.rows.ensures
