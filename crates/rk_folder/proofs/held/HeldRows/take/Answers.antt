use Rattle.std.proofs.Common.{ap, ◌∙◌}
use Rattle.rk_folder.specs.Told.{Places, without}
use Rattle.rk_folder.proofs.HeldLemmas.{map_of-take}
use Rattle.rk_folder.proofs.held.HeldRows.take.Goals as goal

pub returns : goal.returns
returns c = ap (λ (m : Places). record { places = m; odd = c.self.inside.odd.items }) (map_of-take c.self.inside.rows.entries c.remove.new.self.entries c.args.path.now c.remove.ensures.updates.0) ∙ ap (without c.args.path.now) c.self.view_is
