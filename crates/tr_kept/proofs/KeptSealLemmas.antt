-- What reading finds of what is kept.
use Rattle.std.proofs.Common.{◌≡◌, ℕ, ◌^◌, ◌<◌, ◌≤◌, inl, inr, true, false, cond, List, [], take, drop, length, Option, Some, None, Result, Ok, Err, refl, sym, ap, subst, ◌∙◌, arith}
use Rattle.std.specs.Prelude.{IfOk}
use Rattle.std.proofs.lemmas.List.{length-append}
use Rattle.sha2.specs.Sha256.{sha256}
use Rattle.rk_base.specs.Text.{Text, same_text}
use Rattle.tr_nodes.specs.Tails.{needed}
use Rattle.tr_record.specs.Generations.{records}
use Rattle.tr_record.specs.declared.records.Record.{Record}
use Rattle.tr_parts.specs.Piece.{Piece, ◌⊕◌, counted, with_uses}
use Rattle.tr_parts.specs.Reads.{Gives, FindsPart}
use Rattle.tr_parts.specs.declared.fault.PartErr.{PartErr}
use Rattle.tr_kept.specs.KeptReading.{kept_at, body_at, any_at}
use Rattle.tr_kept.specs.KeptSpelling.{kept_piece, magic, kept_spelling, one_of, FitsKept, IsKeptSpelling, IsKeptBody}
use Rattle.tr_codec.specs.OldReading.{either_at}
use Rattle.tr_codec.specs.OldSpelling as old
use Rattle.tr_codec.specs.Reading.{◌>>=◌}
use Rattle.tr_codec.specs.Same.{same_step}
use Rattle.tr_codec.specs.Spelling as table
use Rattle.tr_codec.specs.Spelling.{node_piece, record_piece, talks, body, sealed}
use Rattle.tr_codec.specs.Spelt.{IsBody}
use Rattle.tr_codec.proofs.ExactLemmas.{AreBytes, bind_inv, if_inv, some_is}
use Rattle.tr_kept.proofs.KeptBodyLemmas.{body_again, body_exact}
use Rattle.tr_codec.proofs.SealLemmas as before
use Rattle.tr_codec.proofs.SealLemmas.{either_exact, counted_length, sealed_length, one_front, fails_finds}

-- ---- what a body spells is read, and no other

any_new : (front : List ℕ) (kept : List (List Record)) → body_at front ≡ Some kept → any_at front ≡ Some kept
unfolding body_at
any_new front kept h =
    let read = kept_at (drop 4 front) in
    let earlier = either_at front >>= λ table. Some (one_of table) in
    if_inv (same_text (take 4 front) magic) read None kept (any_at front ≡ Some kept) (λ is e. ap (λ b. cond b read earlier) is ∙ e) (λ isnt e. absurd cc) h

-- a body of an earlier version has another magic
table_magic : (piece : Piece) → same_text (take 4 (body table.magic piece)) magic ≡ false
unfolding body
table_magic piece = refl

old_magic : (piece : Piece) → same_text (take 4 (body old.magic piece)) magic ≡ false
unfolding body
old_magic piece = refl

earlier_magic : (front : List ℕ) (it : List Record) → IsBody front it → same_text (take 4 front) magic ≡ false
earlier_magic front it is =
    elim is [
      | inl x ↦ ap (λ l. same_text (take 4 l) magic) x.1 ∙ table_magic (table.table_piece it)
      | inr x ↦ ap (λ l. same_text (take 4 l) magic) x.1 ∙ old_magic (old.table_piece it)
    ]

any_earlier : (front : List ℕ) (kept : List (List Record)) (it : List Record) → length front < 2 ^ 64 → kept ≡ one_of it → IsBody front it → any_at front ≡ Some kept
any_earlier front kept it small e is =
    ap (λ b. cond b (kept_at (drop 4 front)) (either_at front >>= λ table. Some (one_of table))) (earlier_magic front it is)
    ∙ ap (λ (o : Option (List Record)). o >>= λ table. Some (one_of table)) (before.parsed front it small is)
    ∙ ap (λ (k : List (List Record)). Some k) (sym e)

pub parsed : (front : List ℕ) (kept : List (List Record)) → length front < 2 ^ 64 → IsKeptBody front kept → any_at front ≡ Some kept
parsed front kept small is =
    elim is [
      | inl x ↦
          let less : length (body magic (kept_piece kept)) < 2 ^ 64 = subst (λ (f : List ℕ). length f < 2 ^ 64) x.1 small in
          any_new front kept (ap body_at x.1 ∙ body_again kept x.0 less)
      | inr x ↦ any_earlier front kept x.0 small x.1 x.2
    ]

any_exact : (front : List ℕ) (kept : List (List Record)) → AreBytes front → any_at front ≡ Some kept → IsKeptBody front kept
unfolding body_at
any_exact front kept small h =
    let read = kept_at (drop 4 front) in
    if_inv (same_text (take 4 front) magic) read (either_at front >>= λ table. Some (one_of table)) kept (IsKeptBody front kept)
    (λ is e. inl (body_exact front kept small (ap (λ b. cond b read None) is ∙ e)))
    (λ isnt e. let one = bind_inv (either_at front) _ kept e in inr (one.0, sym (some_is (one_of one.0) kept one.2), either_exact front one.0 small one.1))
    h

-- what a reader of a body gives is what it keeps
pub found_of : (front : List ℕ) (result : Result (List (List Record)) PartErr) → AreBytes front → Gives (λ x. x) result (any_at front) → IfOk result (λ kept. IsKeptBody front kept)
found_of front (Ok kept) small h = any_exact front kept small h
found_of front (Err e) small h = tt

pub finds_of : (front : List ℕ) (result : Result (List (List Record)) PartErr) (kept : List (List Record)) → Gives (λ x. x) result (any_at front) → any_at front ≡ Some kept → FindsPart result kept
finds_of front (Ok x) kept h e = let one : Some x ≡ Some kept = sym h ∙ e in cc
finds_of front (Err fault) kept h e = fails_finds fault (any_at front) kept h e

-- ---- a body and its digest

kept_length : (blobs : List Text) (kept : List (List Record)) → 8 ≤ length ((kept_piece kept).spelt blobs)
unfolding ◌⊕◌
kept_length blobs kept =
    let tails = needed same_step (talks (records kept)) in
    omega (arith, counted_length (node_piece tails) tails blobs, length-append ((counted (node_piece tails) tails).spelt blobs) ((counted (counted (record_piece tails)) kept).spelt blobs))

pub is_spelling : (bytes front : List ℕ) (kept : List (List Record)) → bytes ≡ sealed front → IsKeptBody front kept → IsKeptSpelling bytes kept
is_spelling bytes front kept e is = elim is [ inl x ↦ inl (x.0, e ∙ ap sealed x.1) | inr x ↦ inr (x.0, x.1, before.is_spelling bytes front x.0 e x.2) ]

pub is_body : (bytes front : List ℕ) (kept : List (List Record)) → bytes ≡ sealed front → IsKeptSpelling bytes kept → IsKeptBody front kept
is_body bytes front kept e is =
    elim is [
      | inl x ↦ inl (x.0, one_front bytes front (body magic (kept_piece kept)) e x.1)
      | inr x ↦ inr (x.0, x.1, before.is_body bytes front x.0 e x.2)
    ]

-- a spelling ends with the digest of what stands before it
pub has_front : (bytes : List ℕ) (kept : List (List Record)) → IsKeptSpelling bytes kept → (front : List ℕ) × (bytes ≡ sealed front) × (52 ≤ length bytes)
has_front bytes kept is =
    elim is [
      | inl x ↦ (body magic (kept_piece kept), x.1, sealed_length bytes magic (kept_piece kept) refl (kept_length (with_uses [] (kept_piece kept).uses) kept) x.1)
      | inr x ↦ before.has_front bytes x.0 x.2
    ]

-- ---- no two have one spelling

pub one_kept : (bytes : List ℕ) (a b : List (List Record)) → length bytes < 2 ^ 64 → IsKeptSpelling bytes a → IsKeptSpelling bytes b → a ≡ b
one_kept bytes a b small f g =
    let front = has_front bytes a f in
    let less : length front.0 < 2 ^ 64 = omega (arith, ap length front.1, length-append front.0 (sha256 front.0)) in
    let x = parsed front.0 a less (is_body bytes front.0 a front.1 f) in
    let y = parsed front.0 b less (is_body bytes front.0 b front.1 g) in
    cc

new_magic : (piece : Piece) → same_text (take 4 (body magic piece)) magic ≡ true
unfolding body
new_magic piece = refl

apart_from : (kept : List (List Record)) (other : List ℕ) → same_text (take 4 other) magic ≡ false → kept_spelling kept ≡ sealed other → ⊥
apart_from kept other isnt e =
    let same : body magic (kept_piece kept) ≡ other = one_front (kept_spelling kept) (body magic (kept_piece kept)) other refl e in
    let clash : true ≡ false = sym (new_magic (kept_piece kept)) ∙ ap (λ l. same_text (take 4 l) magic) same ∙ isnt in
    absurd cc

pub apart_from_table : (kept : List (List Record)) (it : List Record) → kept_spelling kept ≡ table.db_spelling it → ⊥
apart_from_table kept it e = apart_from kept (body table.magic (table.table_piece it)) (table_magic (table.table_piece it)) e

pub apart_from_old : (kept : List (List Record)) (it : List Record) → kept_spelling kept ≡ old.old_spelling it → ⊥
apart_from_old kept it e = apart_from kept (body old.magic (old.table_piece it)) (old_magic (old.table_piece it)) e

table_begins : (piece : Piece) → take 4 (sealed (body table.magic piece)) ≡ table.magic
unfolding body
table_begins piece = refl

old_begins : (piece : Piece) → take 4 (sealed (body old.magic piece)) ≡ old.magic
unfolding body
old_begins piece = refl

pub earlier_apart : (a b : List Record) → table.db_spelling a ≡ old.old_spelling b → ⊥
earlier_apart a b e =
    let same : table.magic ≡ old.magic = sym (table_begins (table.table_piece a)) ∙ ap (λ (l : List ℕ). take 4 l) e ∙ old_begins (old.table_piece b) in
    let clash : true ≡ false = ap (λ l. same_text l table.magic) same in
    absurd cc

-- what begins with this version's magic is this version's spelling
pub latest : (bytes : List ℕ) (kept : List (List Record)) → take 4 bytes ≡ magic → IsKeptSpelling bytes kept → FitsKept kept × (bytes ≡ kept_spelling kept)
latest bytes kept begins is =
    elim is [
      | inl x ↦ x
      | inr x ↦
          elim x.2 [
            | inl y ↦
                let same : take 4 bytes ≡ table.magic = ap (λ (l : List ℕ). take 4 l) y.1 ∙ table_begins (table.table_piece x.0) in
                let clash : true ≡ false = ap (λ l. same_text l magic) (sym begins ∙ same) in
                absurd cc
            | inr y ↦
                let same : take 4 bytes ≡ old.magic = ap (λ (l : List ℕ). take 4 l) y.1 ∙ old_begins (old.table_piece x.0) in
                let clash : true ≡ false = ap (λ l. same_text l magic) (sym begins ∙ same) in
                absurd cc
          ]
    ]
