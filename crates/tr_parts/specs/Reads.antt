-- What a read tells.
use Rattle.std.specs.Prelude.{◌≡◌, ◌≢◌, ◌<◌, ◌≤◌, ◌-◌, ℕ, List, take, drop, length, Option, Some, None, Result, Ok, Err}
use Rattle.std.specs.Borrow.{Bor}
use Rattle.sha2.specs.Sha256.{sha256}
use Rattle.tr_parts.specs.Sealed.{sealed}
use Rattle.tr_parts.specs.declared.fault.PartErr.{PartErr}
use Rattle.tr_parts.specs.declared.fault.PartErr.TheVariants.{Form, NoMemory}
use Rattle.tr_parts.specs.declared.fault.Damage.{Damage}
use Rattle.tr_parts.specs.declared.fault.Damage.TheVariants as damage
use Rattle.tr_parts.specs.declared.fault.CodecErr.{CodecErr}
use Rattle.tr_parts.specs.declared.fault.CodecErr.TheVariants as fault

-- what a reader of the code gives, of what reading gives: Form only where it gives none
abbrev pub Fails : {Y : Type 0} → PartErr → Option Y → Type 0
Fails Form read = read ≡ None
Fails NoMemory read = Unit {0}

abbrev pub Gives : {X Y : Type 0} → (X → Y) → Result X PartErr → Option Y → Type 0
Gives view (Ok x) read = read ≡ Some (view x)
Gives view (Err e) read = Fails e read

-- all but the last 32 bytes, and these
abbrev pub front_of : List ℕ → List ℕ
front_of bytes = take (length bytes - 32) bytes

abbrev pub seal_of : List ℕ → List ℕ
seal_of bytes = drop (length bytes - 32) bytes

-- which damage it is: too short, else another digest, else the form
abbrev pub IsDamage : ℕ → List ℕ → Damage → Type 0
IsDamage least bytes (damage.Short n) = (n ≡ length bytes) × (n < least)
IsDamage least bytes (damage.Digest kept computed) = (least ≤ length bytes) × (kept ≡ seal_of bytes) × (computed ≡ sha256 (front_of bytes)) × (kept ≢ computed)
IsDamage least bytes damage.Form = (least ≤ length bytes) × (seal_of bytes ≡ sha256 (front_of bytes))

abbrev pub Tells : {T : Type 0} → ℕ → List ℕ → Result T CodecErr → Type 0
Tells least bytes (Ok it) = Unit {0}
Tells least bytes (Err (fault.Damaged it)) = IsDamage least bytes it
Tells least bytes (Err fault.NoMemory) = Unit {0}

-- the value, unless memory ran out
abbrev pub Finds : {T : Type 0} → Result T CodecErr → T → Type 0
Finds (Ok x) y = x ≡ y
Finds (Err (fault.Damaged it)) y = ⊥
Finds (Err fault.NoMemory) y = Unit {0}

-- the same of a part
abbrev pub FindsPart : {T : Type 0} → Result T PartErr → T → Type 0
FindsPart (Ok x) y = x ≡ y
FindsPart (Err Form) y = ⊥
FindsPart (Err NoMemory) y = Unit {0}

-- what stands before a right digest, or which damage it is
abbrev pub Opens : ℕ → List ℕ → Result (Bor (List ℕ)) Damage → Type 0
Opens least bytes (Ok front) = (least ≤ length bytes) × (bytes ≡ sealed front.now)
Opens least bytes (Err (damage.Short n)) = IsDamage least bytes (damage.Short n)
Opens least bytes (Err (damage.Digest kept computed)) = IsDamage least bytes (damage.Digest kept computed)
Opens least bytes (Err damage.Form) = ⊥
