-- Lines of usage faults.
use Rattle.std.specs.Prelude.{◌++◌, codes}
use Rattle.rk_base.specs.Text.{Text}

-- `NAME: usage` and a newline
unfoldable pub usage_line : Text → Text
usage_line name = name ++ codes ": usage\n"
