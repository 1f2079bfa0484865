use Rattle.std.proofs.Common.{Option, ap, ◌∙◌}
use Rattle.rk_base.specs.Text.{Text}
use Rattle.rk_install.specs.Known.{listed_dir, seen_at, with_seen}
use Rattle.rk_install.specs.declared.knowing.Seen.{Seen}
use Rattle.rk_install.proofs.knowing.Known.put_listing.Goals as goal

pub returns : goal.returns
returns c =
    c.in_ok-put.ensures ∙ ap (λ (p : Text). with_seen p listed_dir (seen_at c.put_items.new.self)) c.in_ok-path.ensures.copy
    ∙ ap (λ (seen : Text → Option Seen). with_seen c.args.dir.now listed_dir seen) c.in_ok-put_items.ensures
