use Rattle.rk_install.proofs.LookLemmas.{told-listed}
use Rattle.rk_install.proofs.looking.place_listed.Goals as goal

pub returns-clause-told : goal.returns-clause-told
returns-clause-told g c =
    told-listed (g.F.Folder.told c.args.folder.now) c.args.path.now c.in_ok-dir.dir c.name.result.now c.in_ok-items.items.items c.deref.result.now _ c.place_by.result (g.met.F.Folder.whole c.args.folder.now) c.requires.canonical c.requires.below_root c.in_ok-dir.ensures c.name.ensures c.in_ok-items.ensures.items c.deref.ensures.value
    c.named.ensures c.place_by.ensures
