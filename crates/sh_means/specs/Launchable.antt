-- What is launched has a name.
use Rattle.std.specs.Prelude.{List, [], ◌∷◌, Bool, true, false}
use Rattle.rk_base.specs.Text.{Text}
use Rattle.sh_special.specs.declared.order.Order.{Order}
use Rattle.sh_special.specs.declared.order.Order.TheVariants as order
use Rattle.sh_means.specs.declared.control.CommandKind.{CommandKind}
use Rattle.sh_means.specs.declared.control.CommandKind.TheVariants as kind

abbrev pub has_name : List Text → Bool
has_name [] = false
has_name (name ∷ words) = true

-- `exec` with a command names it
abbrev pub names_command : Order → Bool
names_command (order.Exec words) = has_name words
names_command o = true

-- a command that is launched has a name
abbrev pub is_launchable : CommandKind → List Text → Bool
is_launchable (kind.Special o) fields = names_command o
is_launchable kind.Launches fields = has_name fields
is_launchable kd fields = true
