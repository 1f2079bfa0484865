-- The command that a build runs.
use Rattle.std.specs.Prelude.{[], ◌∷◌, codes}
use Rattle.rk_base.specs.Text.{root}
use Rattle.rk_calls.specs.Keys.{KeyValue, shell}

-- `sh Rikerfile` in the root, without variables
abbrev pub script_key : KeyValue
script_key = record { argv = shell ∷ codes "Rikerfile" ∷ []; wd = root; vars = [] }
