use Rattle.std.proofs.Common.{Option, Some, ap}
use Rattle.rk_base.specs.Text.{Text}
use Rattle.rk_install.specs.Known.{seen_at, with_name}
use Rattle.rk_install.specs.Looks.{place_by}
use Rattle.rk_install.proofs.KnownLemmas.{item-kept}
use Rattle.rk_install.proofs.knowing.Known.put_item.Goals as goal

pub returns-in-None : goal.returns-in-None
returns-in-None c = ap (λ (o : Option Text). with_name c.args.dir.now (seen_at c.args.self.now) o (place_by (Some c.args.item.now))) c.in-None.ensures

pub returns-in-Some : goal.returns-in-Some
returns-in-Some c = item-kept c.put_name.result c.args.dir.now c.in-Some.name.now c.args.item.now c.place_by-place.result (seen_at c.args.self.now) (seen_at c.put_name.new.self) c.put_name.ensures c.in-Some.ensures c.place_by-place.ensures
