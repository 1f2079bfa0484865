use Rattle.std.proofs.Common.{ap, ◌∙◌}
use Rattle.rk_base.specs.Text.{Text}
use Rattle.rk_install.specs.Known.{seen_at, unlisted, with_seen}
use Rattle.rk_install.proofs.knowing.Known.put_name.Goals as goal

pub returns : goal.returns
returns c = c.in_ok-put.ensures ∙ ap (λ (p : Text). with_seen p (unlisted c.args.place) (seen_at c.args.self.now)) c.in_ok-path.ensures.path
