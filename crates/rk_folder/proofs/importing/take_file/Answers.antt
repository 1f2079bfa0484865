use Rattle.std.proofs.Common.{ap, ◌∙◌}
use Rattle.rk_tree.specs.Entries as tree
use Rattle.rk_tree.specs.Entries.{Entries}
use Rattle.rk_tree.specs.Node as entry
use Rattle.rk_tree.specs.declared.content.Content.TheVariants.{Unread}
use Rattle.std.specs.FinMap.{get}
use Rattle.rk_folder.proofs.SnapshotLemmas.{with_entry-keeps}
use Rattle.rk_folder.proofs.TakenLemmas.{not_hidden, with_file-whole, told-hidden_file, told-file}
use Rattle.rk_folder.proofs.importing.take_file.Goals as goal

pub returns-then-is_hidden-clause-taken : goal.returns-then-is_hidden-clause-taken
returns-then-is_hidden-clause-taken g c = told-hidden_file _ c.args.dir.now c.args.name.now c.in_ok-path.path _ c.requires.agrees c.in_ok-path.ensures.path c.is_hidden.ensures c.if-is_hidden.true

pub returns-clause-whole : goal.returns-clause-whole
returns-clause-whole g c =
    with_file-whole c.args.snapshot.now c.lay.new.snapshot c.in_ok-path.path c.args.dir.now c.args.name.now (Unread c.in_ok-import.import) c.requires.whole c.requires.placed c.in_ok-path.ensures.dir c.in_ok-path.ensures.name c.requires.seen
    (not_hidden c.in_ok-path.path c.args.dir.now c.args.name.now _ c.in_ok-path.ensures.path c.is_hidden.ensures c.if-is_hidden.false) c.in_ok-path.ensures.path c.in_ok-lay.ensures

pub returns-clause-placed : goal.returns-clause-placed
returns-clause-placed g c = ap (λ (s : Entries). tree.is_dir (get s c.args.dir.now)) c.in_ok-lay.ensures ∙ with_entry-keeps c.in_ok-path.path (entry.File 420 (Unread c.in_ok-import.import)) c.args.snapshot.now c.args.dir.now c.requires.placed

pub returns-clause-taken : goal.returns-clause-taken
returns-clause-taken g c =
    told-file _ c.args.dir.now c.args.name.now c.in_ok-path.path c.in_ok-import.import c.args.snapshot.now c.lay.new.snapshot (g.met.F.Folder.whole c.args.folder.now) c.requires.seen c.in_ok-path.ensures.dir c.in_ok-path.ensures.name c.requires.agrees c.in_ok-path.ensures.path
    (not_hidden c.in_ok-path.path c.args.dir.now c.args.name.now _ c.in_ok-path.ensures.path c.is_hidden.ensures c.if-is_hidden.false) c.in_ok-import.ensures.copy c.in_ok-lay.ensures
