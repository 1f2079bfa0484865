use Rattle.std.proofs.Common.{ℕ, not, List, Option, refl, sym, ap, ◌∙◌}
use Rattle.std.proofs.lemmas.Option.{slice_get_past, slice_get_read}
use Rattle.std.specs.Prelude.{slice_get}
use Rattle.std.specs.FinMap.{entries}
use Rattle.rk_base.specs.Text.{Text}
use Rattle.rk_base.specs.Canonical.{is_empty}
use Rattle.rk_tree.specs.declared.inode.Inode.{Inode}
use Rattle.rk_tree.specs.Inodes.{names_in}
use Rattle.rk_tree.proofs.NamesLemmas.{no_entries}
use Rattle.rk_tree.proofs.inode.has_names.Goals as goal

pub returns-in-None : goal.returns-in-None
returns-in-None c =
    ap (λ (rows : List (Text × ℕ)). not (is_empty rows)) (sym no_entries) ∙ ap (λ (o : Option Inode). not (is_empty (entries (names_in o)))) (sym (slice_get_past c.args.nodes.now c.number.result c.in-None.ensures.lookup.3))
    ∙ ap (λ (k : ℕ). not (is_empty (entries (names_in (slice_get c.args.nodes.now k))))) c.number.ensures

pub returns-in-Some : goal.returns-in-Some
returns-in-Some c =
    ap not c.is_empty.ensures ∙ ap (λ (o : Option Inode). not (is_empty (entries (names_in o)))) (sym (slice_get_read c.args.nodes.now _ c.number.result c.in-Some.inode.now refl c.in-Some.ensures.lookup.3.0 c.in-Some.ensures.lookup.1))
    ∙ ap (λ (k : ℕ). not (is_empty (entries (names_in (slice_get c.args.nodes.now k))))) c.number.ensures
