-- The spelling of a table is read again.
use Rattle.std.proofs.Common.{◌≡◌, ℕ, suc, ◌+◌, ◌^◌, ◌<◌, ◌≤◌, Bool, true, false, ◌||◌, ◌&&◌, cond, not, nat_lt, nat_le, List, [], ◌∷◌, ◌++◌, length, take, Option, Some, slice_get, refl, sym, ap, subst, ◌∙◌, append_assoc, arith}
use Rattle.std.specs.Int.{w16, w32, w64}
use Rattle.std.specs.List.{flat_map, list_all, AllByRecursion}
use Rattle.std.specs.Cmp.Lexicographic.{bytes_decides}
use Rattle.std.proofs.lemmas.Bool.{le-leb, lt-ltb, ltb-true}
use Rattle.std.proofs.Math.Seq.{get_or-append_seam}
use Rattle.std.proofs.lemmas.List.{take_at, length-append}
use Rattle.rk_base.specs.Text.{Text, same_text}
use Rattle.rk_base.specs.Canonical.{is_canonical, is_name}
use Rattle.rk_base.specs.Names.{are_names, ascend}
use Rattle.rk_base.specs.declared.errno.Errno.{Errno}
use Rattle.rk_base.specs.declared.errno.Errno.TheVariants as errno
use Rattle.rk_base.specs.declared.file_type.FileType.{FileType}
use Rattle.rk_base.specs.declared.file_type.FileType.TheVariants.{File, Dir, Link}
use Rattle.rk_calls.specs.Keys.{KeyValue}
use Rattle.rk_calls.specs.RefMaps.{is_refmap, rise_from}
use Rattle.rk_base.specs.declared.vars.Var.{Var}
use Rattle.rk_calls.specs.declared.call.How.{How}
use Rattle.rk_calls.specs.declared.call.How.TheVariants as how
use Rattle.rk_calls.specs.declared.call.Call.{Call}
use Rattle.rk_calls.specs.declared.call.Call.TheVariants as call
use Rattle.rk_calls.specs.declared.answer.Answer.{Answer}
use Rattle.rk_calls.specs.declared.answer.Answer.TheVariants as answer
use Rattle.tr_record.specs.Rec.{count_of, fresh_rec, no_key, rec_at, AreNumbered}
use Rattle.tr_record.specs.declared.steps.Step.{Step}
use Rattle.tr_record.specs.declared.records.Record.{Record}
use Rattle.tr_codec.specs.Reading.{Row}
use Rattle.tr_parts.specs.Piece.{Piece, plain, blob, ◌⊕◌, each, byte, mode, cost, number, counted, num, has, number_of, with_use, with_uses}
use Rattle.tr_codec.specs.Pieces.{var_piece, key_piece, pair_piece, how_code, flag_code, call_piece, kind_code, errno_code, answer_piece}
use Rattle.tr_codec.specs.OldSpelling.{step_piece, record_piece, table_piece, FitsStep, FitsRecord, FitsOld}
use Rattle.tr_codec.specs.Fits.{FitsKey, FitsMap, FitsCall, FitsAnswer, paid}
use Rattle.tr_codec.specs.Reading.{◌>>=◌, given, number_at, byte_at, mode_at, flag_of, flag_at, counted_at, blob_at, var_at, key_from, key_at, pair_at, map_at, how_of, kind_of, errno_of, number_call_at, path_call_at, texts_call_at, mode_call_at, open_at, write_at, stat_at, launch_at, call_of, call_at, text_answer_at, found_at, name_at, names_at, place_at, same_at, joined_at, no_at, answer_of, answer_at, next_rec}
use Rattle.tr_codec.specs.OldReading.{step_at, row_at, record_at}
use Rattle.tr_parts.proofs.AgainLemmas.{Again, again_bind, again_last, again_check, again_given, number_again, mode_again, cost_again, byte_again, Items, again_counted}
use Rattle.tr_codec.proofs.PutsLemmas.{has_use, with_uses_adds}

-- ---- the texts of a piece are among the blobs

pub has_more : (blobs more : List Text) (text : Text) → has blobs text ≡ true → has (blobs ++ more) text ≡ true
has_more [] more text h = absurd cc
has_more (b ∷ bs) more text h =
    elim (same_text text b) as (λ x. (x || has bs text) ≡ true → (x || has (bs ++ more) text) ≡ true) [ true ↦ λ e. refl | false ↦ λ e. has_more bs more text e ] h

abbrev pub Covers : List Text → List Text → Type 0
Covers blobs texts = AllByRecursion (λ text. has blobs text ≡ true) texts

covers-split : (blobs xs ys : List Text) → Covers blobs (xs ++ ys) → Covers blobs xs × Covers blobs ys
covers-split blobs [] ys h = (tt, h)
covers-split blobs (x ∷ xs) ys h = let r = covers-split blobs xs ys h.1 in ((h.0, r.0), r.1)

pub covers-join : (blobs xs ys : List Text) → Covers blobs xs → Covers blobs ys → Covers blobs (xs ++ ys)
covers-join blobs [] ys h k = k
covers-join blobs (x ∷ xs) ys h k = (h.0, covers-join blobs xs ys h.1 k)

-- each text that is used has a blob
pub uses_there : (blobs texts : List Text) → Covers (with_uses blobs texts) texts
uses_there blobs [] = tt
uses_there blobs (text ∷ texts) =
    let one = with_use blobs text in
    let grown = with_uses_adds one texts in
    (ap (λ l. has l text) grown.1 ∙ has_more one grown.0 text (has_use blobs text), uses_there one texts)

pub both_covered : (blobs : List Text) (p q : Piece) → Covers blobs (p ⊕ q).uses → Covers blobs p.uses × Covers blobs q.uses
unfolding ◌⊕◌
both_covered blobs p q h = covers-split blobs p.uses q.uses h

pub each_covered : {X : Type 0} (blobs : List Text) (f : X → Piece) (x : X) (xs : List X) → Covers blobs (each f (x ∷ xs)).uses → Covers blobs (f x).uses × Covers blobs (each f xs).uses
unfolding each
each_covered blobs f x xs h = covers-split blobs (f x).uses (flat_map (λ y. (f y).uses) xs) h

blob_covered : (blobs : List Text) (text : Text) → Covers blobs (blob text).uses → has blobs text ≡ true
unfolding blob
blob_covered blobs text h = h.0

-- the number of a text that is there names it
pub named : (blobs : List Text) (text : Text) → has blobs text ≡ true → (slice_get blobs (number_of blobs text) ≡ Some text) × (number_of blobs text < length blobs)
named [] text h = absurd cc
named (b ∷ bs) text h =
    elim (same_text text b) as (λ x. same_text text b ≡ x → (x || has bs text) ≡ true → (slice_get (b ∷ bs) (cond (not x) (1 + number_of bs text) 0) ≡ Some text) × (cond (not x) (1 + number_of bs text) 0 < suc (length bs))) [
      | true ↦ λ e there. (ap Some (sym ((bytes_decides text b).0 e)), omega arith)
      | false ↦ λ e there.
          let rest = named bs text there in
          let n : 1 + number_of bs text ≡ suc (number_of bs text) = omega arith in
          (ap (slice_get (b ∷ bs)) n ∙ rest.0, (let lt = rest.1 in omega arith))
    ] refl h

-- ---- pieces take at least one byte

abbrev pub Long : List Text → Piece → Type 0
Long blobs p = 1 ≤ length (p.spelt blobs)

pub long_left : (blobs : List Text) (p q : Piece) → Long blobs p → Long blobs (p ⊕ q)
unfolding ◌⊕◌
long_left blobs p q h = omega (arith, length-append (p.spelt blobs) (q.spelt blobs))

long_blob : (blobs : List Text) (text : Text) → Long blobs (blob text)
unfolding blob num
long_blob blobs text = omega arith

long_byte : (blobs : List Text) (n : ℕ) → Long blobs (byte n)
unfolding plain
long_byte blobs n = omega arith

long_cost : (blobs : List Text) (n : ℕ) → Long blobs (cost n)
unfolding plain
long_cost blobs n = omega arith

pub long_number : (blobs : List Text) (n : ℕ) → Long blobs (number n)
unfolding plain num
long_number blobs n = omega arith

-- ---- descriptors are bytes

both : (a b : Bool) → (a && b) ≡ true → (a ≡ true) × (b ≡ true)
both true b h = (refl, h)
both false b h = cc

abbrev InBytes : ℕ × ℕ → Type 0
InBytes pair = (pair.0 < 256) × (pair.1 < 2 ^ 64)

rise_bytes : (last : ℕ) (ps : List (ℕ × ℕ)) → rise_from last ps ≡ true → AllByRecursion (λ pair. pair.1 < 2 ^ 64) ps → AllByRecursion InBytes ps
rise_bytes last [] h n = tt
rise_bytes last (p ∷ ps) h n =
    let a = both (nat_lt last p.0 && nat_lt p.0 10) (rise_from p.0 ps) h in
    let b = both (nat_lt last p.0) (nat_lt p.0 10) a.0 in
    let small : p.0 < 10 = ltb-true p.0 10 b.1 in
    ((omega arith, n.0), rise_bytes p.0 ps a.1 n.1)

map_bytes : (map : List (ℕ × ℕ)) → FitsMap map → AllByRecursion InBytes map
unfolding is_refmap
map_bytes [] h = tt
map_bytes (p ∷ ps) h =
    let a = both (nat_lt p.0 10) (rise_from p.0 ps) h.descriptors in
    let small : p.0 < 10 = ltb-true p.0 10 a.0 in
    let n = h.numbers in
    ((omega arith, n.0), rise_bytes p.0 ps a.1 n.1)

-- ---- names

names_of : (names : List Text) → list_all is_name names ≡ true → AllByRecursion (λ name. is_name name ≡ true) names
names_of [] h = tt
names_of (name ∷ names) h = let a = both (is_name name) (list_all is_name names) h in (a.0, names_of names a.1)

each_name : (names : List Text) → are_names names ≡ true → AllByRecursion (λ name. is_name name ≡ true) names
unfolding are_names
each_name names h = names_of names (both (list_all is_name names) (ascend names) h).0

-- ---- pieces are read again

module _ (blobs : List Text) where
  -- a reader that reads a piece again
  abbrev pub Back : {X : Type 0} → (List ℕ → Option (X × List ℕ)) → Piece → X → Type 0
  Back one p x = Again one (p.spelt blobs) x

  pub back_bind : {X Y : Type 0} (one : List ℕ → Option (X × List ℕ)) (two : X → List ℕ → Option (Y × List ℕ)) (p q : Piece) (x : X) (y : Y) → Back one p x → Back (two x) q y → Back (λ bytes. one bytes >>= λ r. two r.0 r.1) (p ⊕ q) y
  unfolding ◌⊕◌
  back_bind one two p q x y f g = again_bind one two (p.spelt blobs) (q.spelt blobs) x y f g

  pub back_number : (n : ℕ) → n < 2 ^ 64 → Back (number_at w64) (number n) n
  unfolding plain
  back_number n lt = number_again n lt

  back_cost : (n : ℕ) → n < 2 ^ 32 → Back (number_at w32) (cost n) n
  unfolding plain
  back_cost n lt = cost_again n lt

  pub back_byte : (n : ℕ) → n < 256 → Back byte_at (byte n) n
  unfolding plain
  back_byte n lt = byte_again n lt

  back_mode : (n : ℕ) → n ≤ 511 → Back mode_at (mode n) n
  unfolding mode_at plain
  back_mode n le = again_given (number_at w16) (λ n. nat_le n 511) (λ n. n) ((mode n).spelt blobs) n (mode_again n (omega arith)) (le-leb n 511 le)

  flag_back : (b : Bool) → (flag_code b < 256) × (flag_of (flag_code b) ≡ Some b)
  flag_back false = (omega arith, refl)
  flag_back true = (omega arith, refl)

  pub back_flag : (b : Bool) → Back flag_at (byte (flag_code b)) b
  unfolding flag_at
  back_flag b = again_check byte_at flag_of (λ b. b) ((byte (flag_code b)).spelt blobs) (flag_code b) b (back_byte (flag_code b) (flag_back b).0) (flag_back b).1

  pub items_of : {X : Type 0} (one : List ℕ → Option (X × List ℕ)) (f : X → Piece) (P : X → Type 0) → ((x : X) → P x → Covers blobs (f x).uses → Back one (f x) x) → ((x : X) → Long blobs (f x))
      → (front xs : List X) → AllByRecursion P xs → Covers blobs (each f xs).uses → Items (λ before. one) (λ x. (f x).spelt blobs) front xs
  items_of one f P back long front [] h covered = tt
  items_of one f P back long front (x ∷ xs) h covered =
      let c = each_covered blobs f x xs covered in
      (back x h.0 c.0, long x, items_of one f P back long (front ++ x ∷ []) xs h.1 c.1)

  pub back_counted : {X : Type 0} (one : List X → List ℕ → Option (X × List ℕ)) (f : X → Piece) (xs : List X) → Items one (λ x. (f x).spelt blobs) [] xs → Back (counted_at one) (counted f xs) xs
  unfolding ◌⊕◌ plain each
  back_counted one f xs h = again_counted one (λ x. (f x).spelt blobs) xs h

  module _ (few : length blobs < 2 ^ 64) where
    pub back_blob : (text : Text) → Covers blobs (blob text).uses → Back (blob_at blobs) (blob text) text
    unfolding blob_at blob
    back_blob text covered rest small =
        let n = named blobs text covered.0 in
        let lt = n.1 in
        let next : Option (ℕ × List ℕ) → Option (Text × List ℕ) = λ o. o >>= λ n. slice_get blobs n.0 >>= λ text. Some (text, n.1) in
        let last : Option Text → Option (Text × List ℕ) = λ o. o >>= λ text. Some (text, rest) in
        ap next (number_again (number_of blobs text) (omega arith) rest small) ∙ ap last n.0

    back_var : (v : Var) → Covers blobs (var_piece v).uses → Back (var_at blobs) (var_piece v) v
    unfolding var_at
    back_var v covered =
        let c = both_covered blobs (blob v.name) (blob v.value) covered in
        back_bind (blob_at blobs) (λ name bytes. blob_at blobs bytes >>= λ value. Some (record { name = name; value = value.0 }, value.1)) (blob v.name) (blob v.value) v.name v
        (back_blob v.name c.0)
        (again_last (blob_at blobs) (λ value. let it : Var = record { name = v.name; value = value } in it) ((blob v.value).spelt blobs) v.value (back_blob v.value c.1))

    -- no condition
    Any : {X : Type 0} → X → Type 0
    Any x = Unit {0}

    all_any : {X : Type 0} (xs : List X) → AllByRecursion Any xs
    unfolding Any
    all_any [] = tt
    all_any (x ∷ xs) = (tt, all_any xs)

    back_words : (words : List Text) → Covers blobs (counted blob words).uses → Back (counted_at (λ front. blob_at blobs)) (counted blob words) words
    back_words words covered =
        let c = both_covered blobs (number (length words)) (each blob words) covered in
        back_counted (λ front. blob_at blobs) blob words (items_of (blob_at blobs) blob Any (λ text h d. back_blob text d) (long_blob blobs) [] words (all_any words) c.1)

    back_vars : (vars : List Var) → Covers blobs (counted var_piece vars).uses → Back (counted_at (λ front. var_at blobs)) (counted var_piece vars) vars
    back_vars vars covered =
        let c = both_covered blobs (number (length vars)) (each var_piece vars) covered in
        back_counted (λ front. var_at blobs) var_piece vars
        (items_of (var_at blobs) var_piece Any (λ v h d. back_var v d) (λ v. long_left blobs (blob v.name) (blob v.value) (long_blob blobs v.name)) [] vars (all_any vars) c.1)

    pub back_key : (key : KeyValue) → FitsKey key → Covers blobs (key_piece key).uses → Back (key_at blobs) (key_piece key) key
    unfolding key_at
    back_key key fits covered =
        let c = both_covered blobs (counted blob key.argv) (blob key.wd ⊕ counted var_piece key.vars) covered in
        let d = both_covered blobs (blob key.wd) (counted var_piece key.vars) c.1 in
        let checked : key_from key.argv key.wd key.vars ≡ Some key = rw (fits.wd, fits.vars, fits.words) refl in
        back_bind (counted_at (λ front. blob_at blobs)) (λ argv bytes. blob_at blobs bytes >>= λ wd. counted_at (λ front. var_at blobs) wd.1 >>= λ vars. key_from argv wd.0 vars.0 >>= λ key. Some (key, vars.1))
        (counted blob key.argv) (blob key.wd ⊕ counted var_piece key.vars) key.argv key
        (back_words key.argv c.0)
        (back_bind (blob_at blobs) (λ wd bytes. counted_at (λ front. var_at blobs) bytes >>= λ vars. key_from key.argv wd vars.0 >>= λ key. Some (key, vars.1))
        (blob key.wd) (counted var_piece key.vars) key.wd key
        (back_blob key.wd d.0)
        (again_check (counted_at (λ front. var_at blobs)) (key_from key.argv key.wd) (λ key. key) ((counted var_piece key.vars).spelt blobs) key.vars key (back_vars key.vars d.1) checked))

    back_pair : (pair : ℕ × ℕ) → (pair.0 < 256) × (pair.1 < 2 ^ 64) → Back pair_at (pair_piece pair) pair
    unfolding pair_at
    back_pair pair h =
        back_bind byte_at (λ d bytes. number_at w64 bytes >>= λ n. Some ((d, n.0), n.1)) (byte pair.0) (number pair.1) pair.0 pair
        (back_byte pair.0 h.0)
        (again_last (number_at w64) (λ n. let it : ℕ × ℕ = (pair.0, n) in it) ((number pair.1).spelt blobs) pair.1 (back_number pair.1 h.1))

    back_map : (map : List (ℕ × ℕ)) → FitsMap map → Covers blobs (counted pair_piece map).uses → Back map_at (counted pair_piece map) map
    unfolding map_at
    back_map map fits covered =
        let c = both_covered blobs (number (length map)) (each pair_piece map) covered in
        again_check (counted_at (λ front. pair_at)) (λ pairs. given (is_refmap pairs) pairs) (λ map. map) ((counted pair_piece map).spelt blobs) map map
        (back_counted (λ front. pair_at) pair_piece map
        (items_of pair_at pair_piece InBytes (λ pair h d. back_pair pair h) (λ pair. long_left blobs (byte pair.0) (number pair.1) (long_byte blobs pair.0)) [] map (map_bytes map fits) c.1))
        (ap (λ b. given b map) fits.descriptors)

    -- ---- calls

    how_back : (h : How) → (how_code h < 256) × (how_of (how_code h) ≡ Some h)
    how_back how.Read = (omega arith, refl)
    how_back how.Make = (omega arith, refl)
    how_back how.Append = (omega arith, refl)

    back_number_call : (make : ℕ → Call) (r : ℕ) → r < 2 ^ 64 → Back (number_call_at make) (number r) (make r)
    unfolding number_call_at
    back_number_call make r lt = again_last (number_at w64) make ((number r).spelt blobs) r (back_number r lt)

    back_path_call : (make : Text → Call) (path : Text) → Covers blobs (blob path).uses → Back (path_call_at make blobs) (blob path) (make path)
    unfolding path_call_at
    back_path_call make path covered = again_last (blob_at blobs) make ((blob path).spelt blobs) path (back_blob path covered)

    back_texts_call : (make : Text → Text → Call) (a b : Text) → Covers blobs (blob a ⊕ blob b).uses → Back (texts_call_at make blobs) (blob a ⊕ blob b) (make a b)
    unfolding texts_call_at
    back_texts_call make a b covered =
        let c = both_covered blobs (blob a) (blob b) covered in
        back_bind (blob_at blobs) (λ a bytes. blob_at blobs bytes >>= λ b. Some (make a b.0, b.1)) (blob a) (blob b) a (make a b)
        (back_blob a c.0)
        (again_last (blob_at blobs) (make a) ((blob b).spelt blobs) b (back_blob b c.1))

    back_mode_call : (make : Text → ℕ → Call) (path : Text) (n : ℕ) → n ≤ 511 → Covers blobs (blob path ⊕ mode n).uses → Back (mode_call_at make blobs) (blob path ⊕ mode n) (make path n)
    unfolding mode_call_at
    back_mode_call make path n le covered =
        let c = both_covered blobs (blob path) (mode n) covered in
        back_bind (blob_at blobs) (λ path bytes. mode_at bytes >>= λ n. Some (make path n.0, n.1)) (blob path) (mode n) path (make path n)
        (back_blob path c.0)
        (again_last mode_at (make path) ((mode n).spelt blobs) n (back_mode n le))

    back_open : (path : Text) (h : How) → Covers blobs (blob path ⊕ byte (how_code h)).uses → Back (open_at blobs) (blob path ⊕ byte (how_code h)) (call.Open path h)
    unfolding open_at
    back_open path h covered =
        let c = both_covered blobs (blob path) (byte (how_code h)) covered in
        back_bind (blob_at blobs) (λ path bytes. byte_at bytes >>= λ code. how_of code.0 >>= λ how. Some (call.Open path how, code.1)) (blob path) (byte (how_code h)) path (call.Open path h)
        (back_blob path c.0)
        (again_check byte_at how_of (call.Open path) ((byte (how_code h)).spelt blobs) (how_code h) h (back_byte (how_code h) (how_back h).0) (how_back h).1)

    back_write : (r : ℕ) (bytes : Text) → r < 2 ^ 64 → Covers blobs (number r ⊕ blob bytes).uses → Back (write_at blobs) (number r ⊕ blob bytes) (call.Write r bytes)
    unfolding write_at
    back_write r bytes lt covered =
        let c = both_covered blobs (number r) (blob bytes) covered in
        back_bind (number_at w64) (λ r bytes. blob_at blobs bytes >>= λ text. Some (call.Write r text.0, text.1)) (number r) (blob bytes) r (call.Write r bytes)
        (back_number r lt)
        (again_last (blob_at blobs) (call.Write r) ((blob bytes).spelt blobs) bytes (back_blob bytes c.1))

    back_stat : (path : Text) (follow : Bool) → Covers blobs (blob path ⊕ byte (flag_code follow)).uses → Back (stat_at blobs) (blob path ⊕ byte (flag_code follow)) (call.Stat path follow)
    unfolding stat_at
    back_stat path follow covered =
        let c = both_covered blobs (blob path) (byte (flag_code follow)) covered in
        back_bind (blob_at blobs) (λ path bytes. flag_at bytes >>= λ follow. Some (call.Stat path follow.0, follow.1)) (blob path) (byte (flag_code follow)) path (call.Stat path follow)
        (back_blob path c.0)
        (again_last flag_at (call.Stat path) ((byte (flag_code follow)).spelt blobs) follow (back_flag follow))

    back_launch : (key : KeyValue) (map : List (ℕ × ℕ)) → FitsKey key → FitsMap map → Covers blobs (key_piece key ⊕ counted pair_piece map).uses → Back (launch_at blobs) (key_piece key ⊕ counted pair_piece map) (call.Launch key map)
    unfolding launch_at
    back_launch key map f g covered =
        let c = both_covered blobs (key_piece key) (counted pair_piece map) covered in
        back_bind (key_at blobs) (λ key bytes. map_at bytes >>= λ map. Some (call.Launch key map.0, map.1)) (key_piece key) (counted pair_piece map) key (call.Launch key map)
        (back_key key f c.0)
        (again_last map_at (call.Launch key) ((counted pair_piece map).spelt blobs) map (back_map map g c.1))

    -- what stands after a kind has its blobs too
    pub after_kind : (kind : ℕ) (p : Piece) → Covers blobs (byte kind ⊕ p).uses → Covers blobs p.uses
    after_kind kind p covered = (both_covered blobs (byte kind) p covered).1

    -- a kind, and the fields after it
    back_fields : (kind : ℕ) (p : Piece) (c : Call) → kind < 256 → Back (call_of blobs kind) p c → Back (call_at blobs) (byte kind ⊕ p) c
    unfolding call_at
    back_fields kind p c lt h = back_bind byte_at (call_of blobs) (byte kind) p kind c (back_byte kind lt) h

    back_pipe : Back (call_at blobs) (byte 17) call.Pipe
    unfolding call_at
    back_pipe rest small =
        let next : Option (ℕ × List ℕ) → Option (Call × List ℕ) = λ o. o >>= λ kind. call_of blobs kind.0 kind.1 in
        ap next (back_byte 17 (omega arith) rest small)

    pub back_call : (c : Call) → FitsCall c → Covers blobs (call_piece c).uses → Back (call_at blobs) (call_piece c) c
    back_call (call.Open path h) fits covered =
        let p = blob path ⊕ byte (how_code h) in
        back_fields 1 p (call.Open path h) (omega arith) (back_open path h (after_kind 1 p covered))
    back_call (call.Read r) fits covered = back_fields 2 (number r) (call.Read r) (omega arith) (back_number_call call.Read r fits)
    back_call (call.ReadLine r) fits covered = back_fields 3 (number r) (call.ReadLine r) (omega arith) (back_number_call call.ReadLine r fits)
    back_call (call.Write r bytes) fits covered =
        let p = number r ⊕ blob bytes in
        back_fields 4 p (call.Write r bytes) (omega arith) (back_write r bytes fits (after_kind 4 p covered))
    back_call (call.Stat path follow) fits covered =
        let p = blob path ⊕ byte (flag_code follow) in
        back_fields 5 p (call.Stat path follow) (omega arith) (back_stat path follow (after_kind 5 p covered))
    back_call (call.List path) fits covered = back_fields 6 (blob path) (call.List path) (omega arith) (back_path_call call.List path (after_kind 6 (blob path) covered))
    back_call (call.ReadLink path) fits covered = back_fields 7 (blob path) (call.ReadLink path) (omega arith) (back_path_call call.ReadLink path (after_kind 7 (blob path) covered))
    back_call (call.Walk path) fits covered = back_fields 8 (blob path) (call.Walk path) (omega arith) (back_path_call call.Walk path (after_kind 8 (blob path) covered))
    back_call (call.Same a b) fits covered =
        let p = blob a ⊕ blob b in
        back_fields 9 p (call.Same a b) (omega arith) (back_texts_call call.Same a b (after_kind 9 p covered))
    back_call (call.Mkdir path n) fits covered =
        let p = blob path ⊕ mode n in
        back_fields 10 p (call.Mkdir path n) (omega arith) (back_mode_call call.Mkdir path n fits (after_kind 10 p covered))
    back_call (call.Rmdir path) fits covered = back_fields 11 (blob path) (call.Rmdir path) (omega arith) (back_path_call call.Rmdir path (after_kind 11 (blob path) covered))
    back_call (call.Unlink path) fits covered = back_fields 12 (blob path) (call.Unlink path) (omega arith) (back_path_call call.Unlink path (after_kind 12 (blob path) covered))
    back_call (call.Rename a b) fits covered =
        let p = blob a ⊕ blob b in
        back_fields 13 p (call.Rename a b) (omega arith) (back_texts_call call.Rename a b (after_kind 13 p covered))
    back_call (call.Symlink text path) fits covered =
        let p = blob text ⊕ blob path in
        back_fields 14 p (call.Symlink text path) (omega arith) (back_texts_call call.Symlink text path (after_kind 14 p covered))
    back_call (call.Link a b) fits covered =
        let p = blob a ⊕ blob b in
        back_fields 15 p (call.Link a b) (omega arith) (back_texts_call call.Link a b (after_kind 15 p covered))
    back_call (call.Chmod path n) fits covered =
        let p = blob path ⊕ mode n in
        back_fields 16 p (call.Chmod path n) (omega arith) (back_mode_call call.Chmod path n fits (after_kind 16 p covered))
    back_call call.Pipe fits covered = back_pipe
    back_call (call.Launch key map) fits covered =
        let p = key_piece key ⊕ counted pair_piece map in
        back_fields 18 p (call.Launch key map) (omega arith) (back_launch key map fits.0 fits.1 (after_kind 18 p covered))

    -- ---- answers

    pub kind_back : (k : FileType) → (kind_code k < 256) × (kind_of (kind_code k) ≡ Some k)
    kind_back File = (omega arith, refl)
    kind_back Dir = (omega arith, refl)
    kind_back Link = (omega arith, refl)

    errno_back : (e : Errno) → (errno_code e < 256) × (errno_of (errno_code e) ≡ Some e)
    errno_back errno.NoEntry = (omega arith, refl)
    errno_back errno.NotDir = (omega arith, refl)
    errno_back errno.IsDir = (omega arith, refl)
    errno_back errno.Exists = (omega arith, refl)
    errno_back errno.Denied = (omega arith, refl)
    errno_back errno.Loops = (omega arith, refl)
    errno_back errno.NotEmpty = (omega arith, refl)
    errno_back errno.BadRef = (omega arith, refl)
    errno_back errno.Invalid = (omega arith, refl)

    back_text_answer : (make : Text → Answer) (text : Text) → Covers blobs (blob text).uses → Back (text_answer_at make blobs) (blob text) (make text)
    unfolding text_answer_at
    back_text_answer make text covered = again_last (blob_at blobs) make ((blob text).spelt blobs) text (back_blob text covered)

    back_found : (k : FileType) (n : ℕ) (empty : Bool) → n ≤ 511 → Back found_at (byte (kind_code k) ⊕ mode n ⊕ byte (flag_code empty)) (answer.Stat k n empty)
    unfolding found_at
    back_found k n empty le =
        let later : Again (λ bytes. mode_at bytes >>= λ n. flag_at n.1 >>= λ empty. Some (answer.Stat k n.0 empty.0, empty.1)) ((mode n ⊕ byte (flag_code empty)).spelt blobs) (answer.Stat k n empty) =
        back_bind mode_at (λ n bytes. flag_at bytes >>= λ empty. Some (answer.Stat k n empty.0, empty.1)) (mode n) (byte (flag_code empty)) n (answer.Stat k n empty)
        (back_mode n le)
        (again_last flag_at (answer.Stat k n) ((byte (flag_code empty)).spelt blobs) empty (back_flag empty))
        in
        let known : Again (λ bytes. kind_of (kind_code k) >>= λ k. mode_at bytes >>= λ n. flag_at n.1 >>= λ empty. Some (answer.Stat k n.0 empty.0, empty.1)) ((mode n ⊕ byte (flag_code empty)).spelt blobs) (answer.Stat k n empty) =
        rw (kind_back k).1 later
        in
        back_bind byte_at (λ code bytes. kind_of code >>= λ k. mode_at bytes >>= λ n. flag_at n.1 >>= λ empty. Some (answer.Stat k n.0 empty.0, empty.1)) (byte (kind_code k)) (mode n ⊕ byte (flag_code empty)) (kind_code k) (answer.Stat k n empty)
        (back_byte (kind_code k) (kind_back k).0) known

    back_name : (name : Text) → is_name name ≡ true → Covers blobs (blob name).uses → Back (name_at blobs) (blob name) name
    unfolding name_at
    back_name name h covered = again_check (blob_at blobs) (λ (t : Text). given (is_name t) t) (λ (n : Text). n) ((blob name).spelt blobs) name name (back_blob name covered) (ap (λ b. given b name) h)

    back_names : (names : List Text) → are_names names ≡ true → Covers blobs (counted blob names).uses → Back (names_at blobs) (counted blob names) (answer.Names names)
    unfolding names_at
    back_names names h covered =
        let c = both_covered blobs (number (length names)) (each blob names) covered in
        again_check (counted_at (λ front. name_at blobs)) (λ (l : List Text). given (are_names l) l) answer.Names ((counted blob names).spelt blobs) names names
        (back_counted (λ front. name_at blobs) blob names (items_of (name_at blobs) blob (λ name. is_name name ≡ true) back_name (long_blob blobs) [] names (each_name names h) c.1))
        (ap (λ b. given b names) h)

    back_place : (path : Text) → is_canonical path ≡ true → Covers blobs (blob path).uses → Back (place_at blobs) (blob path) (answer.Place path)
    unfolding place_at
    back_place path h covered = again_check (blob_at blobs) (λ (t : Text). given (is_canonical t) t) answer.Place ((blob path).spelt blobs) path path (back_blob path covered) (ap (λ b. given b path) h)

    back_same : (same : Bool) → Back same_at (byte (flag_code same)) (answer.Same same)
    unfolding same_at
    back_same same = again_last flag_at answer.Same ((byte (flag_code same)).spelt blobs) same (back_flag same)

    back_joined : (status : ℕ) → status < 256 → Back joined_at (byte status) (answer.Joined status)
    unfolding joined_at
    back_joined status lt = again_last byte_at answer.Joined ((byte status).spelt blobs) status (back_byte status lt)

    back_no : (e : Errno) → Back no_at (byte (errno_code e)) (answer.No e)
    unfolding no_at
    back_no e = again_check byte_at errno_of answer.No ((byte (errno_code e)).spelt blobs) (errno_code e) e (back_byte (errno_code e) (errno_back e).0) (errno_back e).1

    -- a kind alone
    back_kind : (kind : ℕ) (a : Answer) → kind < 256 → ((rest : List ℕ) → answer_of blobs kind rest ≡ Some (a, rest)) → Back (answer_at blobs) (byte kind) a
    unfolding answer_at
    back_kind kind a lt e rest small =
        let next : Option (ℕ × List ℕ) → Option (Answer × List ℕ) = λ o. o >>= λ kind. answer_of blobs kind.0 kind.1 in
        ap next (back_byte kind lt rest small) ∙ e rest

    -- a kind, and the fields after it
    back_told : (kind : ℕ) (p : Piece) (a : Answer) → kind < 256 → Back (answer_of blobs kind) p a → Back (answer_at blobs) (byte kind ⊕ p) a
    unfolding answer_at
    back_told kind p a lt h = back_bind byte_at (answer_of blobs) (byte kind) p kind a (back_byte kind lt) h

    pub back_answer : (a : Answer) → FitsAnswer a → Covers blobs (answer_piece a).uses → Back (answer_at blobs) (answer_piece a) a
    back_answer answer.Go fits covered = absurd fits
    back_answer answer.Done fits covered = back_kind 1 answer.Done (omega arith) (λ rest. refl)
    back_answer answer.Opened fits covered = back_kind 2 answer.Opened (omega arith) (λ rest. refl)
    back_answer answer.Piped fits covered = back_kind 3 answer.Piped (omega arith) (λ rest. refl)
    back_answer (answer.Content bytes) fits covered = back_told 4 (blob bytes) (answer.Content bytes) (omega arith) (back_text_answer answer.Content bytes (after_kind 4 (blob bytes) covered))
    back_answer (answer.Stat k n empty) fits covered = back_told 5 (byte (kind_code k) ⊕ mode n ⊕ byte (flag_code empty)) (answer.Stat k n empty) (omega arith) (back_found k n empty fits)
    back_answer (answer.Names names) fits covered = back_told 6 (counted blob names) (answer.Names names) (omega arith) (back_names names fits (after_kind 6 (counted blob names) covered))
    back_answer (answer.Text text) fits covered = back_told 7 (blob text) (answer.Text text) (omega arith) (back_text_answer answer.Text text (after_kind 7 (blob text) covered))
    back_answer (answer.Place path) fits covered = back_told 8 (blob path) (answer.Place path) (omega arith) (back_place path fits (after_kind 8 (blob path) covered))
    back_answer (answer.Same same) fits covered = back_told 9 (byte (flag_code same)) (answer.Same same) (omega arith) (back_same same)
    back_answer (answer.Joined status) fits covered = back_told 10 (byte status) (answer.Joined status) (omega arith) (back_joined status fits)
    back_answer (answer.No e) fits covered = back_told 11 (byte (errno_code e)) (answer.No e) (omega arith) (back_no e)

    -- ---- steps and records

    back_step : (step : Step) → FitsStep step → Covers blobs (step_piece step).uses → Back (step_at blobs) (step_piece step) step
    unfolding step_at
    back_step step fits covered =
        let c = both_covered blobs (cost step.cost) (call_piece step.call ⊕ answer_piece step.answer) covered in
        let d = both_covered blobs (call_piece step.call) (answer_piece step.answer) c.1 in
        back_bind (number_at w32) (λ cost bytes. call_at blobs bytes >>= λ call. answer_at blobs call.1 >>= λ answer. Some (record { cost = cost; call = call.0; answer = answer.0 }, answer.1))
        (cost step.cost) (call_piece step.call ⊕ answer_piece step.answer) step.cost step
        (back_cost step.cost fits.cost)
        (back_bind (call_at blobs) (λ call bytes. answer_at blobs bytes >>= λ answer. Some (record { cost = step.cost; call = call; answer = answer.0 }, answer.1))
        (call_piece step.call) (answer_piece step.answer) step.call step
        (back_call step.call fits.call d.0)
        (again_last (answer_at blobs) (λ answer. let it : Step = record { cost = step.cost; call = step.call; answer = answer } in it) ((answer_piece step.answer).spelt blobs) step.answer (back_answer step.answer fits.answer d.1)))

    back_steps : (steps : List Step) → AllByRecursion FitsStep steps → Covers blobs (counted step_piece steps).uses → Back (counted_at (λ before. step_at blobs)) (counted step_piece steps) steps
    back_steps steps fits covered =
        let c = both_covered blobs (number (length steps)) (each step_piece steps) covered in
        back_counted (λ before. step_at blobs) step_piece steps
        (items_of (step_at blobs) step_piece FitsStep back_step (λ s. long_left blobs (cost s.cost) (call_piece s.call ⊕ answer_piece s.answer) (long_cost blobs s.cost)) [] steps fits c.1)

    row_of : Record → Row
    row_of rec = record { key = rec.key; steps = rec.steps; exit = rec.exit; exit_cost = rec.exit_cost }

    back_row : (rec : Record) → FitsRecord rec → Covers blobs (record_piece rec).uses → Back (row_at blobs) (record_piece rec) (row_of rec)
    unfolding row_at row_of
    back_row rec fits covered =
        let c = both_covered blobs (key_piece rec.key) (counted step_piece rec.steps ⊕ byte rec.exit ⊕ cost rec.exit_cost) covered in
        let d = both_covered blobs (counted step_piece rec.steps) (byte rec.exit ⊕ cost rec.exit_cost) c.1 in
        back_bind (key_at blobs)
        (λ key bytes. counted_at (λ before. step_at blobs) bytes >>= λ steps. byte_at steps.1 >>= λ exit. number_at w32 exit.1 >>= λ exit_cost. given (nat_lt (paid steps.0 exit_cost.0) (2 ^ 64)) (record { key = key; steps = steps.0; exit = exit.0; exit_cost = exit_cost.0 }, exit_cost.1))
        (key_piece rec.key) (counted step_piece rec.steps ⊕ byte rec.exit ⊕ cost rec.exit_cost) rec.key (row_of rec)
        (back_key rec.key fits.key c.0)
        (back_bind (counted_at (λ before. step_at blobs))
        (λ steps bytes. byte_at bytes >>= λ exit. number_at w32 exit.1 >>= λ exit_cost. given (nat_lt (paid steps exit_cost.0) (2 ^ 64)) (record { key = rec.key; steps = steps; exit = exit.0; exit_cost = exit_cost.0 }, exit_cost.1))
        (counted step_piece rec.steps) (byte rec.exit ⊕ cost rec.exit_cost) rec.steps (row_of rec)
        (back_steps rec.steps fits.steps d.0)
        (back_bind byte_at
        (λ exit bytes. number_at w32 bytes >>= λ exit_cost. given (nat_lt (paid rec.steps exit_cost.0) (2 ^ 64)) (record { key = rec.key; steps = rec.steps; exit = exit; exit_cost = exit_cost.0 }, exit_cost.1))
        (byte rec.exit) (cost rec.exit_cost) rec.exit (row_of rec)
        (back_byte rec.exit fits.exit)
        (again_given (number_at w32) (λ exit_cost. nat_lt (paid rec.steps exit_cost) (2 ^ 64)) (λ exit_cost. let it : Row = record { key = rec.key; steps = rec.steps; exit = rec.exit; exit_cost = exit_cost } in it)
        ((cost rec.exit_cost).spelt blobs) rec.exit_cost (back_cost rec.exit_cost fits.exit_cost) (lt-ltb (paid rec.steps rec.exit_cost) (2 ^ 64) fits.paid))))

    back_record : (front : List Record) (rec : Record) → FitsRecord rec → rec.ordinal ≡ count_of rec.key front → Covers blobs (record_piece rec).uses → Back (record_at blobs front) (record_piece rec) rec
    unfolding record_at row_of
    back_record front rec fits ordinal covered =
        subst (λ n. Again (record_at blobs front) ((record_piece rec).spelt blobs) (record rec { ordinal = n })) (sym ordinal)
        (again_last (row_at blobs) (next_rec front) ((record_piece rec).spelt blobs) (row_of rec) (back_row rec fits covered))

    record_items : (front table : List Record) → AllByRecursion FitsRecord table → AreNumbered (front ++ table) → Covers blobs (each record_piece table).uses → Items (record_at blobs) (λ rec. (record_piece rec).spelt blobs) front table
    record_items front [] fits numbered covered = tt
    record_items front (rec ∷ table) fits numbered covered =
        let c = each_covered blobs record_piece rec table covered in
        let all : List Record = front ++ rec ∷ table in
        let at : rec_at (length front) all ≡ rec = get_or-append_seam front rec table (fresh_rec no_key 0) in
        let before : take (length front) all ≡ front = take_at front (rec ∷ table) (length front) refl in
        let within : length front < length all = omega (arith, length-append front (rec ∷ table)) in
        let ordinal : rec.ordinal ≡ count_of rec.key front =
        sym (ap (λ (r : Record). r.ordinal) at) ∙ numbered (length front) within ∙ ap (λ (r : Record). count_of r.key (take (length front) all)) at ∙ ap (count_of rec.key) before
        in (
          back_record front rec fits.0 ordinal c.0,
          long_left blobs (key_piece rec.key) (counted step_piece rec.steps ⊕ byte rec.exit ⊕ cost rec.exit_cost)
              (long_left blobs (counted blob rec.key.argv) (blob rec.key.wd ⊕ counted var_piece rec.key.vars) (long_left blobs (number (length rec.key.argv)) (each blob rec.key.argv) (long_number blobs (length rec.key.argv)))),
          record_items (front ++ rec ∷ []) table fits.1 (subst AreNumbered (sym (append_assoc front (rec ∷ []) table)) numbered) c.1,
        )

    pub back_table : (table : List Record) → FitsOld table → Covers blobs (table_piece table).uses → Back (counted_at (record_at blobs)) (table_piece table) table
    back_table table fits covered =
        let c = both_covered blobs (number (length table)) (each record_piece table) covered in
        back_counted (record_at blobs) record_piece table (record_items [] table fits.records fits.numbered c.1)
