-- What was found at a place.
use Rattle.std.specs.Prelude.{◌≡◌, Option, Some, None}
use Rattle.sh_rules.specs.declared.token_kind.Mode.{Mode}
use Rattle.sh_token.specs.Places.{Place}
use Rattle.sh_token.specs.Lexemes.{look}
use Rattle.sh_script.specs.TextReader.{StandsThere}
use Rattle.sh_parse.specs.declared.ahead.Found.{Found}

-- what was found before stands there, and is found there in its mode
abbrev pub Ahead : Option Found → Place → Type 0
Ahead None p = Unit {0}
Ahead (Some x) p = (Some (x.kind, x.length) ≡ look x.mode p) × StandsThere x.kind x.length p

-- what is found there in a mode
abbrev pub IsFound : Mode → Place → Option Found → Type 0
IsFound mode p None = None ≡ look mode p
IsFound mode p (Some x) = (Some (x.kind, x.length) ≡ look mode p) × Ahead (Some x) p
