use Rattle.std.proofs.Common.{◌≡◌, ◌∙◌, sym, ap, Some, None, subst}
use Rattle.rk_tree.specs.Hierarchy.{Hierarchy, added}
use Rattle.rk_tree.specs.Copying.{HasDirs, with_node_at}
use Rattle.rk_tree.proofs.BelowLemmas.{none_some}
use Rattle.rk_tree.proofs.PlantedLemmas.{Lands, lands, may_hold, child_absent, added_at, not_the_root, has_last}
use Rattle.rk_tree.proofs.DirsLemmas.{numbers_more, up_by}
use Rattle.rk_tree.specs.Whole.{IsWhole}
use Rattle.rk_tree.proofs.tree.Tree.put_path.Goals as goal
use Rattle.rk_tree.proofs.tree.Tree.put_path.Goals.{In-Some-get, After-drop-name-inside-2}

pub unreachable-requires : goal.unreachable-requires
unreachable-requires c = has_last c.args.path.now c.in_ok-name.field-0 (not_the_root c.args.self.now c.args.path.now (subst IsWhole c.self.view_is c.self.invariant.0) c.requires.takes.absent) c.in_ok-name.ensures c.in_default.is

pub unreachable-requires-in-None : goal.unreachable-requires-in-None
unreachable-requires-in-None c =
    none_some (sym (up_by c.args.self.now c.args.numbers.now.entries c.args.path.now c.in_ok-parent.field-0 None c.requires.numbers c.requires.takes.placed c.in_ok-parent.ensures c.in-None.ensures.value)) c.requires.takes.placed.stands

lands_at : (c : In-Some-get) → Lands c.args.self.now c.args.path.now c.in-Some.name c.in-Some-get.up.now
lands_at c = lands c.args.self.now c.args.path.now c.in-Some.name c.args.it.now c.in-Some-get.up.now (subst IsWhole c.self.view_is c.self.invariant.0) c.requires.takes (sym c.in_ok-name.ensures ∙ c.in-Some.is)
    (sym (up_by c.args.self.now c.args.numbers.now.entries c.args.path.now c.in_ok-parent.field-0 (Some c.in-Some-get.up.now) c.requires.numbers c.requires.takes.placed c.in_ok-parent.ensures c.in-Some-get.ensures.value))

pub adds-requires-clause-holds : goal.adds-requires-clause-holds
adds-requires-clause-holds c = may_hold c.args.self.now c.args.path.now c.in-Some.name c.args.it.now c.in-Some-get.up.now (subst IsWhole c.self.view_is c.self.invariant.0) c.requires.takes (lands_at (goal.at.adds-requires-clause-holds c).In-Some-get)

pub adds-requires-clause-absent : goal.adds-requires-clause-absent
adds-requires-clause-absent c = child_absent c.args.self.now c.args.path.now c.in-Some.name c.args.it.now c.in-Some-get.up.now c.requires.takes (lands_at (goal.at.adds-requires-clause-absent c).In-Some-get)

planted : (c : After-drop-name-inside-2) → Lands c.args.self.now c.args.path.now c.in-Some.name c.in-Some-get.up.now → c.adds.new.self ≡ with_node_at c.args.self.now c.args.path.now c.args.it.now
planted c l =
    c.in_ok-n-in-Some-get.ensures.added
    ∙ ap (added c.args.self.now c.in-Some-get.up.now c.in-Some.name) c.in_ok-copy-in-Some-get.ensures
    ∙ added_at c.args.self.now c.args.path.now c.in-Some.name c.args.it.now c.in-Some-get.up.now l

pub returns-clause-tree : goal.returns-clause-tree
returns-clause-tree c = planted c (lands_at (goal.at.returns-clause-tree c).In-Some-get)

pub returns-clause-numbers : goal.returns-clause-numbers
returns-clause-numbers c =
    subst (λ (tree : Hierarchy). HasDirs tree c.put_number.new.numbers.entries) (sym (planted c (lands_at (goal.at.returns-clause-numbers c).In-Some-get)))
    (numbers_more c.args.self.now c.args.path.now c.args.it.now c.args.numbers.now.entries (subst IsWhole c.self.view_is c.self.invariant.0) c.requires.numbers
    c.put_number.new.numbers.entries c.in_ok-n-in-Some-get.n c.in_ok-n-in-Some-get.ensures.number c.in_ok-put_number-in-Some-get.ensures)
