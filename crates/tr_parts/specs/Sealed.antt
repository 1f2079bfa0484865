-- A digest at the end of bytes.
use Rattle.std.specs.Prelude.{ℕ, List, ◌++◌}
use Rattle.sha2.specs.Sha256.{sha256}

-- bytes, and their digest
abbrev pub sealed : List ℕ → List ℕ
sealed bytes = bytes ++ sha256 bytes
