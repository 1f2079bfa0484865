-- What a digest at the end of bytes tells, and what reading finds.
use Rattle.std.proofs.Common.{◌≡◌, ℕ, ◌-◌, ◌<◌, ◌≤◌, List, length, Option, Some, Result, Err, refl, sym, ap, ◌∙◌, arith}
use Rattle.std.proofs.lemmas.List.{take_at, drop_at, length-append}
use Rattle.sha2.specs.Sha256.{sha256}
use Rattle.sha2.proofs.Facts256.{length-sha256}
use Rattle.tr_parts.specs.declared.fault.PartErr.{PartErr}
use Rattle.tr_parts.specs.declared.fault.PartErr.TheVariants.{Form, NoMemory}
use Rattle.tr_parts.specs.declared.fault.Damage.{Damage}
use Rattle.tr_parts.specs.declared.fault.Damage.TheVariants as damage
use Rattle.tr_parts.specs.declared.fault.CodecErr.{CodecErr}
use Rattle.tr_parts.specs.Piece.{num}
use Rattle.tr_parts.specs.Sealed.{sealed}
use Rattle.tr_parts.specs.Whole.{whole}
use Rattle.tr_parts.specs.Reads.{Fails, FindsPart, Finds, Tells, IsDamage, Opens, front_of, seal_of}

-- ---- the digest

before_seal : (front : List ℕ) → length (sealed front) - 32 ≡ length front
before_seal front = omega (arith, length-append front (sha256 front), length-sha256 front)

pub front_is : (bytes front : List ℕ) → bytes ≡ sealed front → front_of bytes ≡ front
front_is bytes front e = ap front_of e ∙ take_at front (sha256 front) _ (sym (before_seal front))

pub seal_is : (bytes front : List ℕ) → bytes ≡ sealed front → seal_of bytes ≡ sha256 front
seal_is bytes front e = ap seal_of e ∙ drop_at front (sha256 front) _ (sym (before_seal front))

pub one_front : (bytes a b : List ℕ) → bytes ≡ sealed a → bytes ≡ sealed b → a ≡ b
one_front bytes a b e f = sym (front_is bytes a e) ∙ front_is bytes b f

-- a right digest is that of what stands before it
pub seal_right : (bytes front : List ℕ) → bytes ≡ sealed front → seal_of bytes ≡ sha256 (front_of bytes)
seal_right bytes front e = seal_is bytes front e ∙ ap sha256 (sym (front_is bytes front e))

-- what isn't opened has no right digest, or too few bytes
pub unopened : (least : ℕ) (bytes front : List ℕ) (d : Damage) → Opens least bytes (Err d) → least ≤ length bytes → bytes ≡ sealed front → ⊥
unopened least bytes front (damage.Short n) h le e = let a : n ≡ length bytes = h.0 in let b : n < least = h.1 in omega arith
unopened least bytes front (damage.Digest kept computed) h le e = h.3 (h.1 ∙ seal_right bytes front e ∙ sym h.2)
unopened least bytes front damage.Form h le e = h

pub unopened_tells : (least : ℕ) (bytes : List ℕ) (d : Damage) → Opens least bytes (Err d) → IsDamage least bytes d
unopened_tells least bytes (damage.Short n) h = h
unopened_tells least bytes (damage.Digest kept computed) h = h
unopened_tells least bytes damage.Form h = absurd h

pub unopened_short : (least : ℕ) (bytes : List ℕ) (d : Damage) → Opens least bytes (Err d) → length bytes < least → d ≡ damage.Short (length bytes)
unopened_short least bytes (damage.Short n) h lt = ap damage.Short h.0
unopened_short least bytes (damage.Digest kept computed) h lt = let le : least ≤ length bytes = h.0 in absurd (omega arith)
unopened_short least bytes damage.Form h lt = absurd h

pub unopened_digest : (least : ℕ) (bytes : List ℕ) (d : Damage) → Opens least bytes (Err d) → least ≤ length bytes → d ≡ damage.Digest (seal_of bytes) (sha256 (front_of bytes))
unopened_digest least bytes (damage.Short n) h le = let a : n ≡ length bytes = h.0 in let b : n < least = h.1 in absurd (omega arith)
unopened_digest least bytes (damage.Digest kept computed) h le = ap (λ k. damage.Digest k computed) h.1 ∙ ap (damage.Digest (seal_of bytes)) h.2
unopened_digest least bytes damage.Form h le = absurd h

-- ---- parts

pub whole_finds : {T : Type 0} (e : PartErr) (y : T) → FindsPart (Err e) y → Finds (Err (whole e)) y
whole_finds Form y h = h
whole_finds NoMemory y h = tt

-- behind a right digest, damage is of the form
pub whole_tells : {T : Type 0} (least : ℕ) (bytes front : List ℕ) (e : PartErr) (result : Result T CodecErr) → result ≡ Err (whole e) → least ≤ length bytes → bytes ≡ sealed front → Tells least bytes result
whole_tells least bytes front Form result err le is = rw err (le, seal_right bytes front is)
whole_tells least bytes front NoMemory result err le is = rw err tt

pub fails_finds : {Y : Type 0} (e : PartErr) (read : Option Y) (y : Y) → Fails e read → read ≡ Some y → FindsPart (Err e) y
fails_finds Form read y fails is = absurd cc
fails_finds NoMemory read y fails is = tt

-- ---- lengths

pub num_length : (n : ℕ) → length (num n) ≡ 8
unfolding num
num_length n = refl
