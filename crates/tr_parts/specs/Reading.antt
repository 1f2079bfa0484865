-- Reading, as functions on bytes: a value and the rest, or none.
use Rattle.std.specs.Prelude.{ℕ, zero, suc, ◌^◌, List, [], ◌∷◌, ◌++◌, length, take, drop, Option, Some, None, Bool, true, false, ◌==◌, nat_lt, nat_le, if◌then◌else◌, slice_get}
use Rattle.std.specs.Int.{Width, w16, w64, byte_len, from_be_bytes}
use Rattle.rk_base.specs.Text.{Text}
use Rattle.rk_base.specs.Canonical.{is_canonical}

infixl 10 ◌>>=◌
abbrev pub ◌>>=◌ : {A B : Type 0} → Option A → (A → Option B) → Option B
None >>= f = None
(Some x) >>= f = f x

-- the value where the test passes
abbrev pub given : {A : Type 0} → Bool → A → Option A
given b x = if b then Some x else None

-- a number of some width, and one that its bytes can hold
unfoldable pub number_at : Width → List ℕ → Option (ℕ × List ℕ)
number_at w bytes =
    if nat_lt (length bytes) (byte_len w) then None else
    given (nat_lt (from_be_bytes w (take (byte_len w) bytes)) (256 ^ byte_len w)) (from_be_bytes w (take (byte_len w) bytes), drop (byte_len w) bytes)

unfoldable pub byte_at : List ℕ → Option (ℕ × List ℕ)
byte_at [] = None
byte_at (b ∷ bytes) = given (nat_lt b 256) (b, bytes)

-- a mode: a number of two bytes, to 0777
unfoldable pub mode_at : List ℕ → Option (ℕ × List ℕ)
mode_at bytes = do
  mode ← number_at w16 bytes
  given (nat_le mode.0 511) mode

abbrev pub flag_of : ℕ → Option Bool
flag_of code = if code == 0 then Some false else if code == 1 then Some true else None

-- a truth value
unfoldable pub flag_at : List ℕ → Option (Bool × List ℕ)
flag_at bytes = do
  code ← byte_at bytes
  flag ← flag_of code.0
  Some (flag, code.1)

-- a number that is no more than the bytes after it
unfoldable pub count_at : List ℕ → Option (ℕ × List ℕ)
count_at bytes = do
  n ← number_at w64 bytes
  if nat_lt (length n.1) n.0 then None else Some n

-- so many, one after the other, each with what was read before it
unfoldable pub many_at : {A : Type 0} → (List A → List ℕ → Option (A × List ℕ)) → ℕ → List A → List ℕ → Option (List A × List ℕ)
many_at one zero front bytes = Some (front, bytes)
many_at one (suc count) front bytes = do
  x ← one front bytes
  many_at one count (front ++ x.0 ∷ []) x.1

-- how many, and each
abbrev pub counted_at : {A : Type 0} → (List A → List ℕ → Option (A × List ℕ)) → List ℕ → Option (List A × List ℕ)
counted_at one bytes = do
  n ← count_at bytes
  many_at one n.0 [] n.1

unfoldable pub string_at : List ℕ → Option (Text × List ℕ)
string_at bytes = do
  n ← number_at w64 bytes
  if nat_lt (length n.1) n.0 then None else Some (take n.0 n.1, drop n.0 n.1)

-- the text of the blob with this number
unfoldable pub blob_at : List Text → List ℕ → Option (Text × List ℕ)
blob_at blobs bytes = do
  n ← number_at w64 bytes
  text ← slice_get blobs n.0
  Some (text, n.1)

-- a path, which is canonical
unfoldable pub path_at : List ℕ → Option (Text × List ℕ)
path_at bytes = do
  text ← string_at bytes
  path ← given (is_canonical text.0) text.0
  Some (path, text.1)
