-- What a command says whose name is unknown.
use Rattle.std.specs.Prelude.{codes}
use Rattle.rk_base.specs.Text.{Text}
use Rattle.rk_calls.specs.Keys.{shell}
use Rattle.rk_calls.specs.Talk.{Says}
use Rattle.rk_calls.specs.Lines.{error_line}
use Rattle.ut_args.specs.Usage.{complains}

-- `sh: NAME: not found`, and status 127
abbrev pub is_unknown : Text → Says
is_unknown name = complains (error_line shell name (codes "not found")) 127
