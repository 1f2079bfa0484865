use Rattle.std.proofs.Common.{◌≡◌, ◌-◌, Option, None, IfSome, arith, ap, refl, subst, sym}
use Rattle.rk_tree.specs.Entries.{Entries}
use Rattle.rk_folder.proofs.LooksLemmas.{looks-none, root-part}
use Rattle.rk_base.specs.Text.{depth}
use Rattle.rk_folder.specs.Import.{listed_of}
use Rattle.rk_folder.specs.Specials.{first_special}
use Rattle.rk_folder.specs.Steps.{hidden_listed}
use Rattle.rk_folder.specs.declared.entries.RootEntries.{RootEntries}
use Rattle.rk_folder.specs.declared.hidden_listing.Listed.{Listed}
use Rattle.rk_folder.proofs.RootLemmas.{told-both, told-root_listed}
use Rattle.rk_folder.proofs.ImportLemmas.{root-depth, told-agree_root, told-odd_root, told-entries, told-no_entries}
use Rattle.rk_folder.proofs.entries.entries_listed.Goals as goal

pub returns-then-has_odd-clause-told : goal.returns-then-has_odd-clause-told
returns-then-has_odd-clause-told g c = told-odd_root _ c.in_ok-root.root c.args.items.now c.has_odd.result (g.met.F.Folder.whole c.args.folder.now) c.in_ok-root.ensures c.requires c.has_odd.ensures c.if-has_odd.true

pub take_root-requires-clause-agrees : goal.take_root-requires-clause-agrees
take_root-requires-clause-agrees g c = told-agree_root _ c.in_ok-root.root c.args.items.now (g.met.F.Folder.whole c.args.folder.now) c.in_ok-root.ensures c.requires

pub returns-in-Ok-clause-told : goal.returns-in-Ok-clause-told
returns-in-Ok-clause-told g c =
    told-both (g.F.Folder.told c.args.folder.now) first_special (λ held. c.in_ok-entries-in-Ok.entries ≡ listed_of held) (λ held. c.in-Ok.listed ≡ hidden_listed held)
    (subst (λ (s : Entries). IfSome (g.F.Folder.told c.args.folder.now) (λ held. (first_special held ≡ None) × (s ≡ listed_of held))) (sym c.in_ok-entries-in-Ok.ensures)
    (told-entries _ _ c.in_ok-root.root c.args.items.now c.has_odd.result c.in_ok-entries.entries c.take_root.new.snapshot c.in-Ok.listed refl (g.met.F.Folder.whole c.args.folder.now) c.in_ok-root.ensures c.requires c.in_ok-entries.ensures.entry c.has_odd.ensures c.if-has_odd.false c.in-Ok.ensures.taken))
    (told-root_listed (g.F.Folder.told c.args.folder.now) c.args.items.now c.in-Ok.listed (g.met.F.Folder.whole c.args.folder.now) c.requires c.in-Ok.ensures.listed)

pub returns-clause-told : goal.returns-clause-told
returns-clause-told g c =
    told-no_entries (Option Listed) {B = RootEntries} _ _ c.in_ok-root.root c.args.items.now c.has_odd.result c.in_ok-entries.entries c.take_root.new.snapshot (λ held it. (it.entries ≡ listed_of held) × (it.listed ≡ hidden_listed held)) c.in-Err.e refl (g.met.F.Folder.whole c.args.folder.now) c.in_ok-root.ensures c.requires c.in_ok-entries.ensures.entry c.has_odd.ensures c.if-has_odd.false c.in-Err.ensures.taken

pub returns-in-Ok-clause-looks : goal.returns-in-Ok-clause-looks
returns-in-Ok-clause-looks g c =
    let deep : g.F.Folder.reach c.args.folder.now - depth c.in_ok-root.root ≡ g.F.Folder.reach c.args.folder.now = omega (arith, ap depth c.in_ok-root.ensures, root-depth) in
    root-part (g.F.Folder.told c.args.folder.now) (g.F.Folder.told c.args.folder.now) _ (g.F.Folder.reach c.args.folder.now) c.in_ok-root.root c.args.items.now _ _ refl c.in_ok-root.ensures deep c.take_root.ensures.looks

pub returns-in_err-entries-in-Ok-clause-looks : goal.returns-in_err-entries-in-Ok-clause-looks
returns-in_err-entries-in-Ok-clause-looks g c =
    let deep : g.F.Folder.reach c.args.folder.now - depth c.in_ok-root.root ≡ g.F.Folder.reach c.args.folder.now = omega (arith, ap depth c.in_ok-root.ensures, root-depth) in
    root-part (g.F.Folder.told c.args.folder.now) (g.F.Folder.told c.args.folder.now) _ (g.F.Folder.reach c.args.folder.now) c.in_ok-root.root c.args.items.now _ _ refl c.in_ok-root.ensures deep c.take_root.ensures.looks

pub returns-clause-looks : goal.returns-clause-looks
returns-clause-looks g c =
    let deep : g.F.Folder.reach c.args.folder.now - depth c.in_ok-root.root ≡ g.F.Folder.reach c.args.folder.now = omega (arith, ap depth c.in_ok-root.ensures, root-depth) in
    root-part (g.F.Folder.told c.args.folder.now) (g.F.Folder.told c.args.folder.now) _ (g.F.Folder.reach c.args.folder.now) c.in_ok-root.root c.args.items.now _ _ refl c.in_ok-root.ensures deep c.take_root.ensures.looks

pub returns-in_err-root-clause-looks : goal.returns-in_err-root-clause-looks
returns-in_err-root-clause-looks g c = looks-none (g.F.Folder.told c.args.folder.now) _ (g.F.Folder.schedule c.args.folder.now)

pub returns-then-has_odd-clause-looks : goal.returns-then-has_odd-clause-looks
returns-then-has_odd-clause-looks g c = looks-none (g.F.Folder.told c.args.folder.now) _ (g.F.Folder.schedule c.args.folder.now)

pub returns-in_err-entries-clause-looks : goal.returns-in_err-entries-clause-looks
returns-in_err-entries-clause-looks g c = looks-none (g.F.Folder.told c.args.folder.now) _ (g.F.Folder.schedule c.args.folder.now)
