use Rattle.std.proofs.Common.{◌≡◌, Option, Some, sym, ap, refl, ◌∙◌}
use Rattle.rk_folder.specs.Steps.{hidden_listed, listed_in}
use Rattle.rk_folder.specs.declared.folder.Item.{Item}
use Rattle.rk_folder.specs.declared.hidden_listing.Listed.{Listed}
use Rattle.rk_folder.proofs.ReadingLemmas.{told-hidden_dir, told-no_dir}
use Rattle.rk_folder.proofs.ImportLemmas.{told-listed, told-no_hidden, told-lists_hidden_dir, told-hidden_listed, told-hidden_failed}
use Rattle.rk_folder.proofs.state_files.look_at_hidden.Goals as goal

pub returns-in-None-clause-look : goal.returns-in-None-clause-look
returns-in-None-clause-look g c = told-no_hidden _ c.args.items.now (g.met.F.Folder.whole c.args.folder.now) c.requires (sym c.in-None.ensures)

pub hidden_listed-requires : goal.hidden_listed-requires
hidden_listed-requires g c = told-lists_hidden_dir _ (told-hidden_dir (g.F.Folder.told c.args.folder.now) c.args.items.now c.in-Some-Dir.field-0-0 (g.met.F.Folder.whole c.args.folder.now) (told-listed _ c.args.items.now c.requires) (sym c.in-Some-Dir.ensures ∙ ap (λ (i : Item). Some i) c.in-Some-Dir.field-0-is))

pub returns-in-Ok-clause-look : goal.returns-in-Ok-clause-look
returns-in-Ok-clause-look g c = told-hidden_listed _ c.in-Ok.listed (told-hidden_dir (g.F.Folder.told c.args.folder.now) c.args.items.now c.in-Some-Dir.field-0-0 (g.met.F.Folder.whole c.args.folder.now) (told-listed _ c.args.items.now c.requires) (sym c.in-Some-Dir.ensures ∙ ap (λ (i : Item). Some i) c.in-Some-Dir.field-0-is)) c.in-Ok.ensures.listed

pub returns-in-Err-clause-look : goal.returns-in-Err-clause-look
returns-in-Err-clause-look g c =
    told-hidden_failed {A = Listed} {B = Option Listed} _ (λ held it. it ≡ listed_in held) (λ held it. it ≡ hidden_listed held) c.in-Err.e (told-hidden_dir (g.F.Folder.told c.args.folder.now) c.args.items.now c.in-Some-Dir.field-0-0 (g.met.F.Folder.whole c.args.folder.now) (told-listed _ c.args.items.now c.requires) (sym c.in-Some-Dir.ensures ∙ ap (λ (i : Item). Some i) c.in-Some-Dir.field-0-is)) c.in-Err.ensures.listed

pub returns-in_ok-hidden_dir-in-Some-File-clause-look :
    goal.returns-in_ok-hidden_dir-in-Some-File-clause-look
returns-in_ok-hidden_dir-in-Some-File-clause-look g c =
    told-no_dir _ c.args.items.now _ c.in_ok-hidden_dir-in-Some-File.field-0 (g.met.F.Folder.whole c.args.folder.now) (told-listed _ c.args.items.now c.requires) (sym c.in-Some-File.ensures ∙ ap (λ (i : Item). Some i) c.in-Some-File.field-0-is) refl c.in_ok-hidden_dir-in-Some-File.ensures

pub returns-in_ok-hidden_dir-in-Some-Special-clause-look :
    goal.returns-in_ok-hidden_dir-in-Some-Special-clause-look
returns-in_ok-hidden_dir-in-Some-Special-clause-look g c =
    told-no_dir _ c.args.items.now _ c.in_ok-hidden_dir-in-Some-Special.field-0 (g.met.F.Folder.whole c.args.folder.now) (told-listed _ c.args.items.now c.requires) (sym c.in-Some-Special.ensures ∙ ap (λ (i : Item). Some i) c.in-Some-Special.field-0-is) refl c.in_ok-hidden_dir-in-Some-Special.ensures

pub returns-in_ok-hidden_dir-in-Some-Odd-clause-look :
    goal.returns-in_ok-hidden_dir-in-Some-Odd-clause-look
returns-in_ok-hidden_dir-in-Some-Odd-clause-look g c =
    told-no_dir _ c.args.items.now _ c.in_ok-hidden_dir-in-Some-Odd.field-0 (g.met.F.Folder.whole c.args.folder.now) (told-listed _ c.args.items.now c.requires) (sym c.in-Some-Odd.ensures ∙ ap (λ (i : Item). Some i) c.in-Some-Odd.field-0-is) refl c.in_ok-hidden_dir-in-Some-Odd.ensures
