-- The spelling of a list of calls.
use Rattle.std.specs.Prelude.{ℕ, List, [], ◌∷◌, ◌++◌, length}
use Rattle.std.specs.List.{flat_map}
use Rattle.tr_parts.specs.Piece.{num, string}
use Rattle.tr_parts.specs.Sealed.{sealed}
use Rattle.rk_seal.specs.declared.ops.Op.{Op}
use Rattle.rk_seal.specs.declared.ops.Op.TheVariants.{RemoveFile, RemoveDir, MakeDir, Write}

-- a kind and the path, and of a write the bytes
abbrev pub op_spelling : Op → List ℕ
op_spelling (RemoveFile path) = 1 ∷ string path
op_spelling (RemoveDir path) = 2 ∷ string path
op_spelling (MakeDir path) = 3 ∷ string path
op_spelling (Write path bytes) = (4 ∷ string path) ++ string bytes

-- `RKI1`
abbrev pub magic : List ℕ
magic = 0x52 ∷ 0x4b ∷ 0x49 ∷ 0x31 ∷ []

-- the magic, how many calls there are, and each
abbrev pub list_body : List Op → List ℕ
list_body ops = magic ++ (num (length ops) ++ flat_map op_spelling ops)

abbrev pub install_spelling : List Op → List ℕ
install_spelling ops = sealed (list_body ops)
