-- Calls are read again from their spelling, and how long that is.
use Rattle.std.proofs.Common.{◌≡◌, ◌≤◌, ◌<◌, ◌^◌, ℕ, Bool, true, false, not, ◌&&◌, ◌||◌, nat_lt, List, [], ◌∷◌, ◌++◌, length, drop, Option, Some, refl, sym, ap, subst, ◌∙◌, arith}
use Rattle.std.specs.List.{flat_map, list_all}
use Rattle.std.proofs.lemmas.List.{length-append, append-nil}
use Rattle.sha2.specs.Sha256.{sha256}
use Rattle.sha2.proofs.Facts256.{length-sha256}
use Rattle.rk_base.specs.Text.{Text, is_root, is_within}
use Rattle.rk_base.specs.Canonical.{is_canonical}
use Rattle.tr_parts.specs.Piece.{num, string}
use Rattle.tr_parts.specs.Sealed.{sealed}
use Rattle.tr_parts.specs.Reading.{◌>>=◌, given, byte_at, string_at, counted_at}
use Rattle.tr_parts.specs.Reading.{path_at}
use Rattle.tr_parts.proofs.AgainLemmas.{Again, again_bind, again_last, again_check, byte_again, Items, again_counted}
use Rattle.tr_parts.proofs.SealLemmas.{num_length, one_front}
use Rattle.tr_parts.proofs.AgainLemmas.{string_again}
use Rattle.rk_seal.specs.declared.ops.Op.{Op}
use Rattle.rk_seal.specs.declared.ops.Op.TheVariants.{RemoveFile, RemoveDir, MakeDir, Write}
use Rattle.rk_seal.specs.Ops.{hidden_dir, path_of, group, is_call, follow, are_calls}
use Rattle.rk_seal.specs.Spelling.{op_spelling, magic, list_body, install_spelling}
use Rattle.rk_seal.specs.Reading.{written_at, op_from, op_at, calls_at}

both : (a b : Bool) → (a && b) ≡ true → (a ≡ true) × (b ≡ true)
both true b h = (refl, h)
both false b h = cc

-- ---- a call

path_again : (text : Text) → is_canonical text ≡ true → Again path_at (string text) text
unfolding path_at
path_again text h = again_check string_at (λ (t : Text). given (is_canonical t) t) (λ (p : Text). p) (string text) text text (string_again text) (ap (λ b. given b text) h)

written_again : (path bytes : Text) → Again (written_at path) (string bytes) (Write path bytes)
unfolding written_at
written_again path bytes = again_last string_at (Write path) (string bytes) bytes (string_again bytes)

-- what stands behind the kind
abbrev path_then : ℕ → List ℕ → Option (Op × List ℕ)
path_then kind bytes = path_at bytes >>= λ path. op_from kind path.0 path.1

op_again : (op : Op) → is_canonical (path_of op) ≡ true → Again op_at (op_spelling op) op
unfolding op_at
op_again (RemoveFile path) h = again_bind byte_at path_then (1 ∷ []) (string path) 1 (RemoveFile path) (byte_again 1 (omega arith)) (again_last path_at RemoveFile (string path) path (path_again path h))
op_again (RemoveDir path) h = again_bind byte_at path_then (2 ∷ []) (string path) 2 (RemoveDir path) (byte_again 2 (omega arith)) (again_last path_at RemoveDir (string path) path (path_again path h))
op_again (MakeDir path) h = again_bind byte_at path_then (3 ∷ []) (string path) 3 (MakeDir path) (byte_again 3 (omega arith)) (again_last path_at MakeDir (string path) path (path_again path h))
op_again (Write path bytes) h =
    again_bind byte_at path_then (4 ∷ []) (string path ++ string bytes) 4 (Write path bytes) (byte_again 4 (omega arith))
    (again_bind path_at written_at (string path) (string bytes) path (Write path bytes) (path_again path h) (written_again path bytes))

op_length : (op : Op) → 1 ≤ length (op_spelling op)
op_length (RemoveFile path) = omega arith
op_length (RemoveDir path) = omega arith
op_length (MakeDir path) = omega arith
op_length (Write path bytes) = omega arith

call_is : (op : Op) → is_call op ≡ true → is_canonical (path_of op) ≡ true
call_is op h = (both (is_canonical (path_of op)) (not (is_root (path_of op)) && (not (is_within hidden_dir (path_of op)) || nat_lt 2 (group op))) h).0

op_items : (front ops : List Op) → list_all is_call ops ≡ true → Items (λ before. op_at) op_spelling front ops
op_items front [] h = tt
op_items front (op ∷ ops) h =
    let p = both (is_call op) (list_all is_call ops) h in
    (op_again op (call_is op p.0), op_length op, op_items (front ++ op ∷ []) ops p.1)

-- ---- calls

each_call : (ops : List Op) → are_calls ops ≡ true → list_all is_call ops ≡ true
unfolding are_calls
each_call [] h = absurd cc
each_call (op ∷ ops) h = (both (list_all is_call (op ∷ ops)) (follow op ops) h).0

abbrev after_magic : List Op → List ℕ
after_magic ops = num (length ops) ++ flat_map op_spelling ops

calls_again : (ops : List Op) → are_calls ops ≡ true → length (after_magic ops) < 2 ^ 64 → calls_at (after_magic ops) ≡ Some ops
unfolding calls_at
calls_again ops h small =
    let all = after_magic ops in
    let less : length (all ++ []) < 2 ^ 64 = subst (λ l. length l < 2 ^ 64) (sym (append-nil all)) small in
    let last : Option (List Op × List ℕ) → Option (List Op) = λ o. o >>= λ ops. given (are_calls ops.0) ops.0 in
    ap (λ bytes. last (counted_at (λ front. op_at) bytes)) (sym (append-nil all)) ∙ ap last (again_counted (λ front. op_at) op_spelling ops (op_items [] ops (each_call ops h)) [] less) ∙ ap (λ b. given b ops) h

pub parsed_calls : (front : List ℕ) (ops : List Op) → are_calls ops ≡ true → length front < 2 ^ 64 → front ≡ list_body ops → calls_at (drop 4 front) ≡ Some ops
parsed_calls front ops h small e =
    let few : length (list_body ops) < 2 ^ 64 = subst (λ (f : List ℕ). length f < 2 ^ 64) e small in
    ap (λ (f : List ℕ). calls_at (drop 4 f)) e ∙ calls_again ops h (omega (arith, length-append magic (after_magic ops)))

pub list_length : (bytes : List ℕ) (ops : List Op) → bytes ≡ install_spelling ops → 44 ≤ length bytes
list_length bytes ops e =
    let front = list_body ops in
    omega (
      arith,
      ap length e,
      length-append front (sha256 front),
      length-sha256 front,
      length-append magic (after_magic ops),
      length-append (num (length ops)) (flat_map op_spelling ops),
      num_length (length ops),
    )

pub one_list : (a b : List Op) → are_calls a ≡ true → are_calls b ≡ true → length (install_spelling a) < 2 ^ 64 → install_spelling a ≡ install_spelling b → a ≡ b
one_list a b f g small e =
    let front = list_body a in
    let same : front ≡ list_body b = one_front (sealed front) front (list_body b) refl e in
    let few : length front < 2 ^ 64 = omega (arith, length-append front (sha256 front)) in
    let x = parsed_calls front a f few refl in
    let y = parsed_calls front b g few same in
    cc
