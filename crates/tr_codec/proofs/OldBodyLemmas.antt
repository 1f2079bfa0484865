-- A body of the first version is read exactly: as the table that it spells, and none else.
use Rattle.std.proofs.Common.{◌≡◌, ◌∙◌, refl, sym, ap, subst, ℕ, ◌^◌, ◌<◌, true, false, ◌&&◌, ◌==◌, cond, not, List, [], ◌∷◌, ◌++◌, Option, Some, None, length, take, drop, append_assoc, arith}
use Rattle.std.specs.Prelude.{fold}
use Rattle.std.specs.List.{flat_map, IsDistinct}
use Rattle.std.proofs.lemmas.Bool.{eq-eqb, eqb-true}
use Rattle.std.proofs.lemmas.List.{append-nil, length-append, take-append-drop, take_all}
use Rattle.std.specs.Cmp.Lexicographic.{bytes_decides}
use Rattle.rk_base.specs.Text.{Text, same_text}
use Rattle.tr_record.specs.declared.records.Record.{Record}
use Rattle.tr_parts.specs.Piece.{plain, ◌⊕◌, each, has, num, string, with_uses}
use Rattle.tr_parts.proofs.AgainLemmas.{Again, Items, items_length, again_counted, again_given, string_again}
use Rattle.tr_parts.proofs.SealLemmas.{num_length}
use Rattle.tr_codec.specs.Spelling.{body}
use Rattle.tr_codec.specs.OldSpelling.{table_piece, magic, FitsOld}
use Rattle.tr_codec.specs.Used.{used_by, table_used, all_used}
use Rattle.tr_codec.specs.Reading.{◌>>=◌, given, counted_at, string_at, fresh_at}
use Rattle.tr_codec.specs.OldReading.{record_at, records_at, table_at, body_at}
use Rattle.tr_codec.proofs.TableAgain.{Covers, back_table, uses_there}
use Rattle.tr_codec.proofs.UsedLemmas.{Fresh, used_once, uses_all, ascending, after_table}
use Rattle.tr_codec.proofs.ExactLemmas.{AreBytes, bind_inv, given_inv, both, later_bytes, took_blobs, took_records}

-- ---- what is spelt is read

fresh_again : (front : List Text) (text : Text) → has front text ≡ false → Again (fresh_at front) (string text) text
unfolding fresh_at
fresh_again front text new = again_given string_at (λ t. not (has front t)) (λ t. t) (string text) text (string_again text) (ap not new)

pub fresh_items : (front texts : List Text) → Fresh front texts → Items fresh_at string front texts
fresh_items front [] h = tt
fresh_items front (text ∷ texts) h = (fresh_again front text h.0, omega (arith, length-append (num (length text)) text, num_length (length text)), fresh_items (front ++ text ∷ []) texts h.1)

-- what stands after the magic
abbrev pub after_magic : List Text → List ℕ → List ℕ
after_magic blobs spelt = num (length blobs) ++ (flat_map string blobs ++ spelt)

is_used : (blobs : List Text) (table : List Record) → blobs ≡ with_uses [] (table_piece table).uses → table_used blobs (Some 0) table ≡ Some (length blobs)
is_used blobs table e =
    let texts = (table_piece table).uses in
    after_table blobs (Some 0) table ∙ subst (λ (l : List Text). fold (used_by l) (Some 0) texts ≡ Some (length l)) (sym e) (uses_all [] texts)

records_again : (blobs : List Text) (table : List Record) → FitsOld table → blobs ≡ with_uses [] (table_piece table).uses → length blobs < 2 ^ 64 → length ((table_piece table).spelt blobs) < 2 ^ 64
    → records_at blobs ((table_piece table).spelt blobs) ≡ Some table
unfolding records_at
records_again blobs table fits e few small =
    let spelt = (table_piece table).spelt blobs in
    let less : length (spelt ++ []) < 2 ^ 64 = subst (λ l. length l < 2 ^ 64) (sym (append-nil spelt)) small in
    let covered = subst (λ (l : List Text). Covers l (table_piece table).uses) (sym e) (uses_there [] (table_piece table).uses) in
    let next : Option (List Record × List ℕ) → Option (List Record) = λ o. o >>= λ t. given (all_used (table_used blobs (Some 0) t.0) (length blobs) && (length t.1 == 0)) t.0 in
    ap (λ l. next (counted_at (record_at blobs) l)) (sym (append-nil spelt))
    ∙ ap next (back_table blobs few table fits covered [] less)
    ∙ ap (λ u. given (all_used u (length blobs) && true) table) (is_used blobs table e)
    ∙ ap (λ b. given (b && true) table) (eq-eqb (length blobs) (length blobs) refl)

after_again : (blobs : List Text) (table : List Record) → FitsOld table → blobs ≡ with_uses [] (table_piece table).uses → length (after_magic blobs ((table_piece table).spelt blobs)) < 2 ^ 64
    → table_at (after_magic blobs ((table_piece table).spelt blobs)) ≡ Some table
unfolding table_at
after_again blobs table fits e small =
    let spelt = (table_piece table).spelt blobs in
    let items = fresh_items [] blobs (subst (Fresh []) (sym e) (used_once (table_piece table).uses)) in
    let group : after_magic blobs spelt ≡ (num (length blobs) ++ flat_map string blobs) ++ spelt = sym (append_assoc (num (length blobs)) (flat_map string blobs) spelt) in
    let whole : length ((num (length blobs) ++ flat_map string blobs) ++ spelt) < 2 ^ 64 = subst (λ n. n < 2 ^ 64) (ap length group) small in
    let parts = length-append (num (length blobs)) (flat_map string blobs ++ spelt) in
    let strings = length-append (flat_map string blobs) spelt in
    let counted = items_length fresh_at string [] blobs items in
    let few : length blobs < 2 ^ 64 = omega arith in
    let less : length spelt < 2 ^ 64 = omega arith in
    let next : Option (List Text × List ℕ) → Option (List Record) = λ o. o >>= λ blobs. records_at blobs.0 blobs.1 in
    ap (λ bytes. next (counted_at fresh_at bytes)) group
    ∙ ap next (again_counted fresh_at string blobs items spelt whole)
    ∙ records_again blobs table fits e few less

pub body_again : (table : List Record) → FitsOld table → length (body magic (table_piece table)) < 2 ^ 64 → body_at (body magic (table_piece table)) ≡ Some table
unfolding body body_at
body_again table fits small =
    let piece = table_piece table in
    let blobs = with_uses [] piece.uses in
    after_again blobs table fits refl (omega (arith, length-append magic (after_magic blobs (piece.spelt blobs))))

-- ---- what is read is spelt so

pub nothing_left : (bytes : List ℕ) → length bytes ≡ 0 → bytes ≡ []
nothing_left [] e = refl
nothing_left (b ∷ bytes) e = absurd (omega arith)

whole_used : (used : Option ℕ) (n : ℕ) → all_used used n ≡ true → used ≡ Some n
whole_used None n h = absurd cc
whole_used (Some used) n h = ap (λ m. Some m) (eqb-true used n h)

records_exact : (blobs : List Text) (bytes : List ℕ) (table : List Record) → IsDistinct same_text blobs → AreBytes bytes → records_at blobs bytes ≡ Some table
    → FitsOld table × (bytes ≡ (table_piece table).spelt blobs) × (with_uses [] (table_piece table).uses ≡ blobs)
unfolding records_at
records_exact blobs bytes table once small h =
    let a = bind_inv (counted_at (record_at blobs) bytes) _ table h in
    let read = took_records blobs once bytes a.0 small a.1 in
    let used = table_used blobs (Some 0) a.0.0 in
    let g = given_inv (all_used used (length blobs) && (length a.0.1 == 0)) a.0.0 table a.2 in
    let tests = both (all_used used (length blobs)) (length a.0.1 == 0) g.0 in
    let nothing = nothing_left a.0.1 (eqb-true (length a.0.1) 0 tests.1) in
    let texts = (table_piece a.0.0).uses in
    let all : fold (used_by blobs) (Some 0) texts ≡ Some (length blobs) = sym (after_table blobs (Some 0) a.0.0) ∙ whole_used used (length blobs) tests.0 in
    subst (λ (t : List Record). FitsOld t × (bytes ≡ (table_piece t).spelt blobs) × (with_uses [] (table_piece t).uses ≡ blobs)) g.1 (
      read.0,
      read.1.spelt ∙ ap (λ l. (table_piece a.0.0).spelt blobs ++ l) nothing ∙ append-nil ((table_piece a.0.0).spelt blobs),
      ascending blobs texts 0 (length blobs) (omega arith) all ∙ take_all (length blobs) blobs (omega arith),
    )

table_exact : (bytes : List ℕ) (table : List Record) → AreBytes bytes → table_at bytes ≡ Some table
    → FitsOld table × (let blobs = with_uses [] (table_piece table).uses in bytes ≡ after_magic blobs ((table_piece table).spelt blobs))
unfolding table_at ◌⊕◌ each plain
table_exact bytes table small h =
    let a = bind_inv (counted_at fresh_at bytes) _ table h in
    let blobs = a.0.0 in
    let read = took_blobs [] bytes a.0 small a.1 in
    let records = records_exact blobs a.0.1 table read.0 read.1.left a.2 in
    let piece = table_piece table in
    let here : bytes ≡ after_magic blobs (piece.spelt blobs) =
    read.1.spelt ∙ ap (λ l. (num (length blobs) ++ flat_map string blobs) ++ l) records.1 ∙ append_assoc (num (length blobs)) (flat_map string blobs) (piece.spelt blobs)
    in
    (records.0, here ∙ ap (λ (l : List Text). after_magic l (piece.spelt l)) (sym records.2))

pub body_exact : (bytes : List ℕ) (table : List Record) → AreBytes bytes → body_at bytes ≡ Some table → FitsOld table × (bytes ≡ body magic (table_piece table))
unfolding body_at body
body_exact bytes table small h =
    let whole = take-append-drop 4 bytes in
    elim (same_text (take 4 bytes) magic) as (λ b. same_text (take 4 bytes) magic ≡ b → cond b (table_at (drop 4 bytes)) None ≡ Some table → FitsOld table × (bytes ≡ body magic (table_piece table))) [
      | true ↦ λ is read.
          let front = (bytes_decides (take 4 bytes) magic).0 is in
          let rest = table_exact (drop 4 bytes) table (later_bytes (take 4 bytes) (drop 4 bytes) (subst AreBytes (sym whole) small)) read in
          (rest.0, sym whole ∙ ap (λ l. l ++ drop 4 bytes) front ∙ ap (λ l. magic ++ l) rest.1)
      | false ↦ λ is read. absurd cc
    ] refl h
