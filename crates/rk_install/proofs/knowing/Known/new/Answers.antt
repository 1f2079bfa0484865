use Rattle.std.proofs.Common.{List, ap}
use Rattle.std.proofs.Math.Path.{fun_ext}
use Rattle.std.specs.BTreeMap.{is_at}
use Rattle.std.specs.Map.{lookup}
use Rattle.rk_base.specs.Text.{Text, text_cmp}
use Rattle.rk_install.specs.declared.knowing.Seen.{Seen}
use Rattle.rk_install.proofs.knowing.Known.new.Goals as goal

pub returns : goal.returns
returns c = fun_ext (λ (path : Text). ap (λ (rows : List (Text × Seen)). lookup (is_at (text_cmp path)) rows) c.new.ensures.empty)
