use Rattle.std.proofs.Common.{◌≡◌, length}
use Rattle.std.specs.List.{list_all}
use Rattle.rk_base.specs.Text.{components}
use Rattle.rk_base.specs.Canonical.{is_name}
use Rattle.rk_base.proofs.text.all_names.Given as goal

abbrev pub invariant-names : goal.invariant-names
invariant-names l = list_all is_name (components l.rest) ≡ list_all is_name (components l.text)

abbrev pub decreases-names : goal.decreases-names
decreases-names l = length l.rest
