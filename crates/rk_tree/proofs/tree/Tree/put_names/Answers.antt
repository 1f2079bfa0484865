use Rattle.std.proofs.Common.{◌≡◌, ◌∙◌, ℕ, List, Some, map, sym, subst, ap, refl}
use Rattle.std.specs.Prelude.{All}
use Rattle.std.specs.List.{fold}
use Rattle.std.specs.Option.{option_copied}
use Rattle.std.proofs.lemmas.List.Folds.{fold-map}
use Rattle.rk_base.specs.Text.{Text, join}
use Rattle.rk_tree.specs.Copies.{put_found}
use Rattle.rk_tree.specs.Copying.{made_of, put_name}
use Rattle.rk_tree.specs.Hierarchy.{child}
use Rattle.rk_tree.proofs.SnapshotLemmas.{fold_on, fold_all, found_child, put_child}
use Rattle.rk_tree.proofs.tree.Tree.put_names.Goals as goal

pub loop-name-init : goal.loop-name-init
loop-name-init c = refl

pub loop-name-preserved : goal.loop-name-preserved
loop-name-preserved c =
    let row = c.loop-name-item.result in
    let all : All (λ (row : Text × ℕ). Some row.1 ≡ child c.args.self.now c.args.dir row.0) c.deref-name-items.result.now = subst (All (λ (row : Text × ℕ). Some row.1 ≡ child c.args.self.now c.args.dir row.0)) (sym c.deref-name-items.ensures.value) c.in_ok-children.ensures.numbers in
    fold_on (put_child c.args.self.now c.args.path.now) (made_of c.args.rows.now.items) c.deref-name-items.result.now (made_of c.loop-name.rows.items) (made_of c.put_found.new.rows.items) c.loop-name.name-index row c.loop-name.invariant c.loop-name-test.true c.loop-name-item.is
    (c.in_ok-put_found.ensures
    ∙ ap (λ (path : Text). put_found (made_of c.loop-name.rows.items) path (option_copied c.look.result)) c.in_ok-path.ensures.path
    ∙ ap (put_found (made_of c.loop-name.rows.items) (join c.args.path.now row.0)) (c.look.ensures.node ∙ sym (found_child c.args.self.now c.args.dir c.args.path.now row c.requires.at
    (subst (λ (row : Text × ℕ). Some row.1 ≡ child c.args.self.now c.args.dir row.0) (sym c.loop-name-item.is) (all c.loop-name.name-index row c.loop-name-test.true)))))

pub returns : goal.returns
returns c =
    fold_all (put_child c.args.self.now c.args.path.now) (made_of c.args.rows.now.items) c.deref-name-items.result.now (made_of c.loop-name.rows.items) c.loop-name.name-index c.loop-name.invariant c.loop-name-test.false
    ∙ sym (fold-map (put_name c.args.self.now c.args.path.now) (λ (row : Text × ℕ). row.0) (made_of c.args.rows.now.items) c.deref-name-items.result.now)
    ∙ ap (λ (given : List Text). fold (put_name c.args.self.now c.args.path.now) (made_of c.args.rows.now.items) given) (ap (map (λ (row : Text × ℕ). row.0)) c.deref-name-items.ensures.value ∙ c.in_ok-children.ensures.names)
