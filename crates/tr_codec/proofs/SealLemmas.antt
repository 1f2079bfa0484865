-- What reading finds of a table, and how long its spelling is.
use Rattle.std.proofs.Common.{◌≡◌, ℕ, ◌+◌, ◌^◌, ◌<◌, ◌≤◌, inl, inr, false, cond, List, [], ◌++◌, take, drop, length, Some, None, refl, ap, subst, ◌∙◌, arith}
use Rattle.std.specs.List.{flat_map}
use Rattle.std.proofs.lemmas.List.{length-append}
use Rattle.sha2.specs.Sha256.{sha256}
use Rattle.sha2.proofs.Facts256.{length-sha256}
use Rattle.rk_base.specs.Text.{Text, same_text}
use Rattle.tr_record.specs.declared.records.Record.{Record}
use Rattle.tr_parts.specs.Piece.{Piece, plain, ◌⊕◌, each, counted, num, string, with_uses}
use Rattle.tr_nodes.specs.Tails.{needed}
use Rattle.tr_codec.specs.Same.{same_step}
use Rattle.tr_codec.specs.Spelling.{node_piece, record_piece, talks, table_piece, magic, body, sealed, db_spelling}
use Rattle.tr_codec.specs.OldSpelling as old
use Rattle.tr_codec.specs.OldSpelling.{old_spelling}
use Rattle.tr_codec.specs.Spelt.{IsSpelling, IsBody}
use Rattle.tr_codec.specs.Reading.{table_at, body_at}
use Rattle.tr_codec.specs.OldReading.{either_at}
use Rattle.tr_codec.specs.OldReading as reading
use Rattle.tr_codec.proofs.BodyLemmas.{body_again, body_exact}
use Rattle.tr_codec.proofs.OldBodyLemmas as before
use Rattle.tr_codec.proofs.ExactLemmas.{AreBytes, if_inv}
pub use Rattle.tr_parts.proofs.SealLemmas.{front_is, seal_is, one_front, seal_right, unopened, unopened_tells, unopened_short, unopened_digest, whole_finds, whole_tells, fails_finds, num_length}

-- ---- what a body spells is read, and no other

-- what is read by its own magic is read
either_new : (front : List ℕ) (table : List Record) → body_at front ≡ Some table → either_at front ≡ Some table
unfolding body_at
either_new front table h =
    let read = table_at (drop 4 front) in
    if_inv (same_text (take 4 front) magic) read None table (either_at front ≡ Some table) (λ is e. ap (λ b. cond b read (reading.body_at front)) is ∙ e) (λ isnt e. absurd cc) h

old_magic : (piece : Piece) → same_text (take 4 (body old.magic piece)) magic ≡ false
unfolding body
old_magic piece = refl

either_old : (front : List ℕ) (table : List Record) → front ≡ body old.magic (old.table_piece table) → reading.body_at front ≡ Some table → either_at front ≡ Some table
either_old front table e h =
    let isnt : same_text (take 4 front) magic ≡ false = ap (λ l. same_text (take 4 l) magic) e ∙ old_magic (old.table_piece table) in
    ap (λ b. cond b (table_at (drop 4 front)) (reading.body_at front)) isnt ∙ h

pub parsed : (front : List ℕ) (table : List Record) → length front < 2 ^ 64 → IsBody front table → either_at front ≡ Some table
parsed front table small is =
    elim is [
      | inl x ↦
          let less : length (body magic (table_piece table)) < 2 ^ 64 = subst (λ (f : List ℕ). length f < 2 ^ 64) x.1 small in
          either_new front table (ap body_at x.1 ∙ body_again table x.0 less)
      | inr x ↦
          let less : length (body old.magic (old.table_piece table)) < 2 ^ 64 = subst (λ (f : List ℕ). length f < 2 ^ 64) x.1 small in
          either_old front table x.1 (ap reading.body_at x.1 ∙ before.body_again table x.0 less)
    ]

pub either_exact : (front : List ℕ) (table : List Record) → AreBytes front → either_at front ≡ Some table → IsBody front table
unfolding body_at
either_exact front table small h =
    let read = table_at (drop 4 front) in
    if_inv (same_text (take 4 front) magic) read (reading.body_at front) table (IsBody front table)
    (λ is e. inl (body_exact front table small (ap (λ b. cond b read None) is ∙ e)))
    (λ isnt e. inr (before.body_exact front table small e))
    h

-- ---- lengths

-- a body has its magic and the number of blobs
body_length : (version : List ℕ) (piece : Piece) → length version ≡ 4 → 12 + length (piece.spelt (with_uses [] piece.uses)) ≤ length (body version piece)
unfolding body
body_length version piece four =
    let blobs = with_uses [] piece.uses in
    let spelt = piece.spelt blobs in
    omega (
      arith,
      num_length (length blobs),
      length-append version (num (length blobs) ++ (flat_map string blobs ++ spelt)),
      length-append (num (length blobs)) (flat_map string blobs ++ spelt),
      length-append (flat_map string blobs) spelt,
    )

pub counted_length : {X : Type 0} (f : X → Piece) (xs : List X) (blobs : List Text) → 8 ≤ length ((counted f xs).spelt blobs)
unfolding ◌⊕◌ plain
counted_length f xs blobs = omega (arith, num_length (length xs), length-append (num (length xs)) ((each f xs).spelt blobs))

table_length : (blobs : List Text) (table : List Record) → 8 ≤ length ((table_piece table).spelt blobs)
unfolding ◌⊕◌
table_length blobs table =
    let tails = needed same_step (talks table) in
    omega (arith, counted_length (node_piece tails) tails blobs, length-append ((counted (node_piece tails) tails).spelt blobs) ((counted (record_piece tails) table).spelt blobs))

pub sealed_length : (bytes : List ℕ) (version : List ℕ) (piece : Piece) → length version ≡ 4 → 8 ≤ length (piece.spelt (with_uses [] piece.uses)) → bytes ≡ sealed (body version piece) → 52 ≤ length bytes
sealed_length bytes version piece four least e =
    let front = body version piece in
    omega (arith, ap length e, body_length version piece four, length-append front (sha256 front), length-sha256 front)

new_length : (bytes : List ℕ) (table : List Record) → bytes ≡ db_spelling table → 52 ≤ length bytes
new_length bytes table e = sealed_length bytes magic (table_piece table) refl (table_length (with_uses [] (table_piece table).uses) table) e

old_length : (bytes : List ℕ) (table : List Record) → bytes ≡ old_spelling table → 52 ≤ length bytes
old_length bytes table e = sealed_length bytes old.magic (old.table_piece table) refl (counted_length old.record_piece table (with_uses [] (old.table_piece table).uses)) e

-- ---- a body and its digest

pub is_spelling : (bytes front : List ℕ) (table : List Record) → bytes ≡ sealed front → IsBody front table → IsSpelling bytes table
is_spelling bytes front table e is = elim is [ inl x ↦ inl (x.0, e ∙ ap sealed x.1) | inr x ↦ inr (x.0, e ∙ ap sealed x.1) ]

pub is_body : (bytes front : List ℕ) (table : List Record) → bytes ≡ sealed front → IsSpelling bytes table → IsBody front table
is_body bytes front table e is =
    elim is [
      | inl x ↦ inl (x.0, one_front bytes front (body magic (table_piece table)) e x.1)
      | inr x ↦ inr (x.0, one_front bytes front (body old.magic (old.table_piece table)) e x.1)
    ]

-- a spelling ends with the digest of what stands before it
pub has_front : (bytes : List ℕ) (table : List Record) → IsSpelling bytes table → (front : List ℕ) × (bytes ≡ sealed front) × (52 ≤ length bytes)
has_front bytes table is =
    elim is [
      | inl x ↦ (body magic (table_piece table), x.1, new_length bytes table x.1)
      | inr x ↦ (body old.magic (old.table_piece table), x.1, old_length bytes table x.1)
    ]
