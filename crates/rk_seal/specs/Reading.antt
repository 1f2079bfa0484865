-- Reading calls, as functions on bytes: a value and the rest, or none.
use Rattle.std.specs.Prelude.{◌≡◌, ℕ, List, Option, Some, None, ◌==◌, if◌then◌else◌}
use Rattle.rk_base.specs.Text.{Text}
use Rattle.tr_parts.specs.Reading.{◌>>=◌, given, byte_at, string_at, counted_at}
use Rattle.tr_parts.specs.Reading.{path_at}
use Rattle.rk_seal.specs.declared.ops.Op.{Op}
use Rattle.rk_seal.specs.declared.ops.Op.TheVariants.{RemoveFile, RemoveDir, MakeDir, Write}
use Rattle.rk_seal.specs.Ops.{are_calls}

-- what a reader of the code gives, of what reading gives
abbrev pub Gives : {X Y : Type 0} → (X → Y) → Option X → Option Y → Type 0
Gives view None read = read ≡ None
Gives view (Some x) read = read ≡ Some (view x)

-- a write of what stands behind its path
unfoldable pub written_at : Text → List ℕ → Option (Op × List ℕ)
written_at path bytes = do
  text ← string_at bytes
  Some (Write path text.0, text.1)

abbrev pub op_from : ℕ → Text → List ℕ → Option (Op × List ℕ)
op_from kind path bytes =
    if kind == 1 then Some (RemoveFile path, bytes) else
    if kind == 2 then Some (RemoveDir path, bytes) else
    if kind == 3 then Some (MakeDir path, bytes) else
    if kind == 4 then written_at path bytes else None

unfoldable pub op_at : List ℕ → Option (Op × List ℕ)
op_at bytes = do
  kind ← byte_at bytes
  path ← path_at kind.1
  op_from kind.0 path.0 path.1

-- the calls that a body may spell, after its magic; what stands after them isn't looked at
unfoldable pub calls_at : List ℕ → Option (List Op)
calls_at bytes = do
  ops ← counted_at (λ front. op_at) bytes
  given (are_calls ops.0) ops.0
