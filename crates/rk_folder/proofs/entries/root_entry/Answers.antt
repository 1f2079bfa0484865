use Rattle.std.proofs.Common.{◌≡◌, sym, ap, subst, ◌∙◌}
use Rattle.std.specs.FinMap.{empty, get, insert}
use Rattle.rk_base.specs.Text.{Text, root}
use Rattle.rk_tree.specs.Entries as tree
use Rattle.rk_tree.specs.Entries.{Entries, IsWholeSnapshot}
use Rattle.rk_tree.specs.Node.{Dir}
use Rattle.rk_folder.specs.Steps.{root_entry}
use Rattle.rk_folder.proofs.SnapshotLemmas.{root_entry-whole, root_entry-dir}
use Rattle.rk_folder.proofs.entries.root_entry.Goals as goal

pub returns-clause-whole : goal.returns-clause-whole
returns-clause-whole c =
    let is : c.put.new.self ≡ root_entry = c.in_ok-put.ensures ∙ ap (λ (s : Entries). insert s c.in_ok-root.field-0 (Dir 493)) c.new-snapshot.ensures ∙ ap (λ (p : Text). insert empty p (Dir 493)) c.in_ok-root.ensures in
    subst IsWholeSnapshot (sym is) root_entry-whole

pub returns-clause-placed : goal.returns-clause-placed
returns-clause-placed c =
    let is : c.put.new.self ≡ root_entry = c.in_ok-put.ensures ∙ ap (λ (s : Entries). insert s c.in_ok-root.field-0 (Dir 493)) c.new-snapshot.ensures ∙ ap (λ (p : Text). insert empty p (Dir 493)) c.in_ok-root.ensures in
    ap (λ (s : Entries). tree.is_dir (get s root)) is ∙ root_entry-dir
