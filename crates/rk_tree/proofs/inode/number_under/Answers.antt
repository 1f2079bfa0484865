use Rattle.std.proofs.Common.{ℕ, Option, refl, sym, ap, ◌∙◌}
use Rattle.std.proofs.lemmas.Option.{slice_get_past, slice_get_read}
use Rattle.std.specs.FinMap.{get, get-empty}
use Rattle.rk_base.specs.Text.{text_cmp}
use Rattle.rk_tree.specs.declared.inode.Inode.{Inode}
use Rattle.rk_tree.specs.Inodes.{names_in, under}
use Rattle.rk_tree.proofs.inode.number_under.Goals as goal

pub returns-in-None : goal.returns-in-None
returns-in-None c =
    sym (get-empty text_cmp c.args.name.now) ∙ ap (λ (o : Option Inode). get (names_in o) c.args.name.now) (sym (slice_get_past c.args.nodes.now c.number.result c.in-None.ensures.lookup.3))
    ∙ ap (λ (k : ℕ). under c.args.nodes.now k c.args.name.now) c.number.ensures

pub returns-in-Some : goal.returns-in-Some
returns-in-Some c =
    c.get-in-Some.ensures ∙ ap (λ (o : Option Inode). get (names_in o) c.args.name.now) (sym (slice_get_read c.args.nodes.now _ c.number.result c.in-Some.inode.now refl c.in-Some.ensures.lookup.3.0 c.in-Some.ensures.lookup.1))
    ∙ ap (λ (k : ℕ). under c.args.nodes.now k c.args.name.now) c.number.ensures
