use Rattle.std.proofs.Common.{ap, ◌∙◌}
use Rattle.rk_base.specs.Text.{Text}
use Rattle.rk_seal.specs.Ops.{path_of}
use Rattle.rk_install.specs.Known.{seen_at, unlisted, with_seen}
use Rattle.rk_install.specs.declared.looking.Place.{Place}
use Rattle.rk_install.proofs.knowing.Known.put_call.Goals as goal

pub returns : goal.returns
returns c =
    c.in_ok-put.ensures ∙ ap (λ (p : Text). with_seen p (unlisted c.place_left-place.result) (seen_at c.args.self.now)) (c.in_ok-path.ensures.copy ∙ c.path.ensures)
    ∙ ap (λ (place : Place). with_seen (path_of c.args.op.now) (unlisted place) (seen_at c.args.self.now)) c.place_left-place.ensures
