use Rattle.std.proofs.Common.{refl, sym, ◌∙◌}
use Rattle.rk_folder.proofs.CallsLemmas.{makes-none}
use Rattle.rk_folder.specs.Looks.{lists}
use Rattle.rk_install.specs.Known.{seen_at}
use Rattle.rk_install.proofs.KnownLemmas.{listed_now, told-knows_listing}
use Rattle.rk_install.proofs.places.list_once.Goals as goal

pub returns-then-is_listed-clause-calls : goal.returns-then-is_listed-clause-calls
returns-then-is_listed-clause-calls g c = makes-none (lists c.args.dir.now) _ _ refl

pub returns-then-is_listed-clause-listed : goal.returns-then-is_listed-clause-listed
returns-then-is_listed-clause-listed g c = sym c.is_listed.ensures ∙ c.if-is_listed.true

pub returns-clause-known : goal.returns-clause-known
returns-clause-known g c = told-knows_listing (g.F.Folder.told c.args.folder.now) _ c.args.dir.now c.in_ok-items.items.items c.deref.result.now (seen_at c.args.known.now) (seen_at c.put_listing.new.self) c.in_ok-items.ensures.held (g.met.F.Folder.whole c.args.folder.now) c.requires.dir c.in_ok-items.ensures.items c.deref.ensures.value c.requires.known c.in_ok-put_listing.ensures

pub returns-clause-listed : goal.returns-clause-listed
returns-clause-listed g c = listed_now c.args.dir.now c.deref.result.now (seen_at c.args.known.now) (seen_at c.put_listing.new.self) c.in_ok-put_listing.ensures
