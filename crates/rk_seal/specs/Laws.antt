-- Laws of the spelling.
use Rattle.std.specs.Prelude.{◌≡◌, ◌<◌, ◌^◌, List, length, true}
use Rattle.rk_seal.specs.declared.ops.Op.{Op}
use Rattle.rk_seal.specs.Ops.{are_calls}
use Rattle.rk_seal.specs.Spelling.{install_spelling}

-- no two lists of calls have one spelling (of fewer than 2^64 bytes, as all bytes in memory are)
abbrev pub OneList : Type 0
OneList = (a b : List Op) → are_calls a ≡ true → are_calls b ≡ true → length (install_spelling a) < 2 ^ 64 → install_spelling a ≡ install_spelling b → a ≡ b
