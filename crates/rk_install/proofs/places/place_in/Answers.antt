use Rattle.rk_install.specs.Known.{seen_at}
use Rattle.rk_install.proofs.KnownLemmas.{told-known_place}
use Rattle.rk_install.proofs.places.place_in.Goals as goal

pub returns-clause-told : goal.returns-clause-told
returns-clause-told g c = told-known_place _ (g.F.Folder.told c.args.folder.now) c.args.dir.now c.args.name.now c.in_ok-path.path (seen_at c.list_once.new.known) c.place.result c.in_ok-list_once.ensures.held c.requires.canonical c.requires.name c.in_ok-list_once.ensures.known c.in_ok-list_once.ensures.listed c.in_ok-path.ensures c.place.ensures
