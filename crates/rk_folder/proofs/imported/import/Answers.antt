use Rattle.std.proofs.Common.{◌≡◌, None, sym}
use Rattle.rk_folder.specs.Specials.{hidden_special}
use Rattle.rk_folder.specs.Import.{listed_of}
use Rattle.rk_folder.specs.Steps.{hidden_listed}
use Rattle.rk_folder.proofs.ReadingLemmas.{moved-told}
use Rattle.rk_folder.proofs.LooksLemmas.{looks-entries, looks-listed, looks-none, looks-state}
use Rattle.rk_folder.proofs.ImportLemmas.{told-plain}
use Rattle.rk_folder.proofs.imported.import.Goals as goal

pub state_listed-requires-clause-plain : goal.state_listed-requires-clause-plain
state_listed-requires-clause-plain g c =
    moved-told (λ held. hidden_special held ≡ None) _ _ (sym c.in_ok-entries.ensures.held)
    (told-plain _ (λ held. (c.in_ok-entries.field-0.entries ≡ listed_of held) × (c.in_ok-entries.field-0.listed ≡ hidden_listed held)) (g.met.F.Folder.whole c.list-2.new.folder) c.in_ok-entries.ensures.told)

pub returns-in_err-entries-clause-looks : goal.returns-in_err-entries-clause-looks
returns-in_err-entries-clause-looks g c = looks-entries (g.F.Folder.told c.args.folder.now) (g.F.Folder.told c.list-2.new.folder) c.args.skips_db (g.F.Folder.reach c.args.folder.now) (g.F.Folder.reach c.list-2.new.folder) c.in_ok-root.field-0 c.in_ok-items.items.items c.deref.result.now _ _ c.in_ok-items.ensures.held c.in_ok-items.ensures.reach c.in_ok-root.ensures c.in_ok-items.ensures.items c.deref.ensures.value c.in_ok-items.ensures.calls _ c.entries_listed.ensures.looks

pub returns-in_err-hidden-clause-looks : goal.returns-in_err-hidden-clause-looks
returns-in_err-hidden-clause-looks g c =
    looks-state (g.F.Folder.told c.args.folder.now) (g.F.Folder.told c.list-2.new.folder) c.args.skips_db (g.F.Folder.reach c.args.folder.now) (g.F.Folder.reach c.list-2.new.folder) c.in_ok-root.field-0 c.in_ok-items.items.items c.deref.result.now _ _ c.in_ok-items.ensures.held c.in_ok-items.ensures.reach c.in_ok-root.ensures c.in_ok-items.ensures.items c.deref.ensures.value c.in_ok-items.ensures.calls _ _ (g.F.Folder.told c.entries_listed.new.folder) c.in_ok-entries.ensures.held c.entries_listed.ensures.looks c.state_listed.ensures.looks

pub returns-clause-looks : goal.returns-clause-looks
returns-clause-looks g c =
    looks-state (g.F.Folder.told c.args.folder.now) (g.F.Folder.told c.list-2.new.folder) c.args.skips_db (g.F.Folder.reach c.args.folder.now) (g.F.Folder.reach c.list-2.new.folder) c.in_ok-root.field-0 c.in_ok-items.items.items c.deref.result.now _ _ c.in_ok-items.ensures.held c.in_ok-items.ensures.reach c.in_ok-root.ensures c.in_ok-items.ensures.items c.deref.ensures.value c.in_ok-items.ensures.calls _ _ (g.F.Folder.told c.entries_listed.new.folder) c.in_ok-entries.ensures.held c.entries_listed.ensures.looks c.state_listed.ensures.looks

pub returns-in_err-items-clause-looks : goal.returns-in_err-items-clause-looks
returns-in_err-items-clause-looks g c = looks-listed (g.F.Folder.told c.args.folder.now) c.args.skips_db (g.F.Folder.reach c.args.folder.now) c.in_ok-root.field-0 _ _ c.in_ok-root.ensures c.list-2.ensures.calls

pub returns-in_err-root-clause-looks : goal.returns-in_err-root-clause-looks
returns-in_err-root-clause-looks g c = looks-none (g.F.Folder.told c.args.folder.now) _ (g.F.Folder.schedule c.args.folder.now)
