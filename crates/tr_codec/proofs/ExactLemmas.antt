-- What is read has a spelling, and stands there as it is spelt.
use Rattle.std.proofs.Common.{◌≡◌, ℕ, zero, suc, ◌^◌, ◌<◌, ◌≤◌, Bool, true, false, not, ◌&&◌, cond, nat_lt, nat_le, ltb, ◌==◌, List, [], ◌∷◌, ◌++◌, length, take, drop, get_or, Option, Some, None, slice_get, refl, sym, ap, subst, ◌∙◌, append_assoc, arith}
use Rattle.std.specs.Int.{Width, w16, w32, w64, byte_len, from_be_bytes, to_be_bytes}
use Rattle.std.specs.List.{flat_map, AllByRecursion, IsDistinct}
use Rattle.std.proofs.lemmas.Bool.{ltb-true, ltb-false, leb-true, eqb-true, not-true}
use Rattle.std.proofs.lemmas.List.{take-append-drop, length-take-le, append-nil}
use Rattle.std.proofs.lemmas.Nat.{be_bytes_2, be_bytes_4, be_bytes_8}
use Rattle.rk_base.specs.Text.{Text, same_text}
use Rattle.rk_base.specs.Canonical.{is_canonical, is_name}
use Rattle.rk_base.specs.Names.{are_names}
use Rattle.rk_base.specs.Variables.{are_variables}
use Rattle.rk_base.specs.declared.errno.Errno.{Errno}
use Rattle.rk_base.specs.declared.errno.Errno.TheVariants as errno
use Rattle.rk_base.specs.declared.file_type.FileType.{FileType}
use Rattle.rk_base.specs.declared.file_type.FileType.TheVariants.{File, Dir, Link}
use Rattle.rk_base.specs.declared.vars.Var.{Var}
use Rattle.rk_calls.specs.Keys.{KeyValue, is_key}
use Rattle.rk_calls.specs.RefMaps.{is_refmap}
use Rattle.rk_calls.specs.declared.call.How.{How}
use Rattle.rk_calls.specs.declared.call.How.TheVariants as how
use Rattle.rk_calls.specs.declared.call.Call.{Call}
use Rattle.rk_calls.specs.declared.call.Call.TheVariants as call
use Rattle.rk_calls.specs.declared.answer.Answer.{Answer}
use Rattle.rk_calls.specs.declared.answer.Answer.TheVariants as answer
use Rattle.tr_record.specs.Rec.{count_of}
use Rattle.tr_record.specs.declared.steps.Step.{Step}
use Rattle.tr_record.specs.declared.records.Record.{Record}
use Rattle.tr_record.proofs.PlacesLemmas.{numbered_push}
use Rattle.tr_codec.specs.Reading.{Row}
use Rattle.tr_parts.specs.Piece.{Piece, plain, blob, ◌⊕◌, each, byte, mode, cost, number, counted, num, string, has}
use Rattle.tr_codec.specs.Pieces.{var_piece, key_piece, pair_piece, how_code, flag_code, call_piece, kind_code, errno_code, answer_piece}
use Rattle.tr_codec.specs.OldSpelling.{step_piece, record_piece, table_piece, FitsStep, FitsRecord, FitsOld}
use Rattle.tr_codec.specs.Fits.{FitsKey, FitsMap, FitsCall, FitsAnswer, paid}
use Rattle.tr_codec.specs.Reading.{◌>>=◌, given, number_at, byte_at, mode_at, flag_of, flag_at, count_at, many_at, counted_at, string_at, fresh_at, blob_at, var_at, key_from, key_at, pair_at, map_at, how_of, kind_of, errno_of, number_call_at, path_call_at, texts_call_at, mode_call_at, open_at, write_at, stat_at, launch_at, call_at, text_answer_at, found_at, name_at, names_at, place_at, same_at, joined_at, no_at, answer_at, next_rec}
use Rattle.tr_codec.specs.OldReading.{step_at, row_at, record_at}
use Rattle.tr_codec.proofs.PutsLemmas.{numbered}
use Rattle.tr_codec.proofs.TableAgain.{Covers, covers-join}
use Rattle.tr_codec.proofs.UsedLemmas.{distinct_more}

-- ---- what made a value

pub bind_inv : {A B : Type 0} (o : Option A) (f : A → Option B) (y : B) → (o >>= f) ≡ Some y → (x : A) × (o ≡ Some x) × (f x ≡ Some y)
bind_inv None f y h = absurd cc
bind_inv (Some x) f y h = (x, refl, h)

pub given_inv : {A : Type 0} (b : Bool) (x y : A) → given b x ≡ Some y → (b ≡ true) × (x ≡ y)
given_inv true x y h = (refl, cc)
given_inv false x y h = absurd cc

pub some_is : {A : Type 0} (x y : A) → Some x ≡ Some y → x ≡ y
some_is x y e = cc

-- one of two
pub if_inv : {A : Type 0} (b : Bool) (x y : Option A) (p : A) (P : Type 0) → (b ≡ true → x ≡ Some p → P) → (b ≡ false → y ≡ Some p → P) → cond b x y ≡ Some p → P
if_inv true x y p P f g h = f refl h
if_inv false x y p P f g h = g refl h

-- the number is this one, or another
is_or : {A : Type 0} (n k : ℕ) (x y : Option A) (p : A) (P : Type 0) → (n ≡ k → x ≡ Some p → P) → (y ≡ Some p → P) → cond (n == k) x y ≡ Some p → P
is_or n k x y p P f g h = if_inv (n == k) x y p P (λ t. f (eqb-true n k t)) (λ t. g) h

pub both : (a b : Bool) → (a && b) ≡ true → (a ≡ true) × (b ≡ true)
both true b h = (refl, h)
both false b h = cc

-- ---- bytes

abbrev pub AreBytes : List ℕ → Type 0
AreBytes bytes = AllByRecursion (λ b. b < 256) bytes

pub are_bytes : (bytes : List ℕ) → ((i : ℕ) → get_or bytes i 0 < 256) → AreBytes bytes
are_bytes [] h = tt
are_bytes (b ∷ bytes) h = (h 0, are_bytes bytes (λ i. h (suc i)))

byte_in : (bytes : List ℕ) → AreBytes bytes → (i : ℕ) → get_or bytes i 0 < 256
byte_in [] h i = omega arith
byte_in (b ∷ bytes) h zero = h.0
byte_in (b ∷ bytes) h (suc i) = byte_in bytes h.1 i

front_bytes : (xs ys : List ℕ) → AreBytes (xs ++ ys) → AreBytes xs
front_bytes [] ys h = tt
front_bytes (x ∷ xs) ys h = (h.0, front_bytes xs ys h.1)

pub later_bytes : (xs ys : List ℕ) → AreBytes (xs ++ ys) → AreBytes ys
later_bytes [] ys h = h
later_bytes (x ∷ xs) ys h = later_bytes xs ys h.1

-- ---- a number of some width

abbrev IsSpelt : Width → Type 0
IsSpelt w = (bytes : List ℕ) (n : ℕ) → length bytes ≡ byte_len w → ((i : ℕ) → get_or bytes i 0 < 256) → n ≡ from_be_bytes w bytes → to_be_bytes w n ≡ bytes

number_inv : (w : Width) → IsSpelt w → (bytes : List ℕ) (p : ℕ × List ℕ) → AreBytes bytes → number_at w bytes ≡ Some p → (p.0 < 256 ^ byte_len w) × (bytes ≡ to_be_bytes w p.0 ++ p.1)
unfolding number_at
number_inv w spelt bytes p small h =
    let len = byte_len w in
    let front = take len bytes in
    let rest = drop len bytes in
    let n = from_be_bytes w front in
    let whole = take-append-drop len bytes in
    if_inv (ltb (length bytes) len) None (given (ltb n (256 ^ len)) (n, rest)) p ((p.0 < 256 ^ len) × (bytes ≡ to_be_bytes w p.0 ++ p.1))
    (λ t e. absurd cc)
    (λ t e.
    let g = given_inv (ltb n (256 ^ len)) (n, rest) p e in
    let again : to_be_bytes w n ≡ front = spelt front n (length-take-le len bytes (ltb-false (length bytes) len t)) (byte_in front (front_bytes front rest (subst AreBytes (sym whole) small))) refl in
    subst (λ (q : ℕ × List ℕ). (q.0 < 256 ^ len) × (bytes ≡ to_be_bytes w q.0 ++ q.1)) g.1
    (ltb-true n (256 ^ len) g.0, sym whole ∙ ap (λ l. l ++ rest) (sym again)))
    h

-- ---- pieces

module _ (blobs : List Text) where
  -- a piece, whose texts have blobs, stands in front of the rest
  pub record Took (piece : Piece) (bytes rest : List ℕ) : Type 0 where
    pub spelt : bytes ≡ piece.spelt blobs ++ rest
    pub covers : Covers blobs piece.uses
    pub left : AreBytes rest

  pub took : (piece : Piece) (bytes rest : List ℕ) → AreBytes bytes → bytes ≡ piece.spelt blobs ++ rest → Covers blobs piece.uses → Took piece bytes rest
  took piece bytes rest small e covers = record { spelt = e; covers = covers; left = later_bytes (piece.spelt blobs) rest (subst AreBytes e small) }

  pub took_then : (p q : Piece) (a b c : List ℕ) → Took p a b → Took q b c → Took (p ⊕ q) a c
  unfolding ◌⊕◌
  took_then p q a b c f g =
      record { spelt = f.spelt ∙ ap (λ l. p.spelt blobs ++ l) g.spelt ∙ sym (append_assoc (p.spelt blobs) (q.spelt blobs) c); covers = covers-join blobs p.uses q.uses f.covers g.covers; left = g.left }

  -- a reader of a piece
  abbrev pub Exact : {X : Type 0} → (List ℕ → Option (X × List ℕ)) → (X → Piece) → (X → Type 0) → Type 0
  Exact {X} one f P = (bytes : List ℕ) (p : X × List ℕ) → AreBytes bytes → one bytes ≡ Some p → P p.0 × Took (f p.0) bytes p.1

  pub took_number : Exact (number_at w64) number (λ n. n < 2 ^ 64)
  unfolding plain num
  took_number bytes p small h = let n = number_inv w64 be_bytes_8 bytes p small h in (n.0, took (number p.0) bytes p.1 small n.1 tt)

  took_cost : Exact (number_at w32) cost (λ n. n < 2 ^ 32)
  unfolding plain
  took_cost bytes p small h = let n = number_inv w32 be_bytes_4 bytes p small h in (n.0, took (cost p.0) bytes p.1 small n.1 tt)

  pub took_byte : Exact byte_at byte (λ n. n < 256)
  unfolding byte_at plain
  took_byte [] p small h = absurd cc
  took_byte (b ∷ bytes) p small h =
      let g = given_inv (ltb b 256) (b, bytes) p h in
      subst (λ (q : ℕ × List ℕ). (q.0 < 256) × Took (byte q.0) (b ∷ bytes) q.1) g.1 (small.0, record { spelt = refl; covers = tt; left = small.1 })

  took_mode : Exact mode_at mode (λ n. n ≤ 511)
  unfolding mode_at plain
  took_mode bytes p small h =
      let a = bind_inv (number_at w16 bytes) _ p h in
      let n = number_inv w16 be_bytes_2 bytes a.0 small a.1 in
      let g = given_inv (nat_le a.0.0 511) a.0 p a.2 in
      subst (λ (q : ℕ × List ℕ). (q.0 ≤ 511) × Took (mode q.0) bytes q.1) g.1 (leb-true a.0.0 511 g.0, took (mode a.0.0) bytes a.0.1 small n.1 tt)

  flag_inv : (code : ℕ) (b : Bool) → flag_of code ≡ Some b → code ≡ flag_code b
  flag_inv code b h =
      is_or code 0 _ _ b (code ≡ flag_code b) (λ is e. is ∙ ap flag_code (some_is false b e))
      (is_or code 1 _ _ b (code ≡ flag_code b) (λ is e. is ∙ ap flag_code (some_is true b e)) (λ e. absurd cc))
      h

  abbrev NoCondition : {X : Type 0} → X → Type 0
  NoCondition x = Unit {0}

  took_flag : Exact flag_at (λ b. byte (flag_code b)) NoCondition
  unfolding flag_at
  took_flag bytes p small h =
      let a = bind_inv (byte_at bytes) _ p h in
      let b = bind_inv (flag_of a.0.0) _ p a.2 in
      let code = took_byte bytes a.0 small a.1 in
      subst (λ (q : Bool × List ℕ). Unit {0} × Took (byte (flag_code q.0)) bytes q.1) (some_is (b.0, a.0.1) p b.2)
      (tt, subst (λ n. Took (byte n) bytes a.0.1) (flag_inv a.0.0 b.0 b.1) code.1)

  took_string : Exact string_at (λ text. plain (string text)) NoCondition
  unfolding string_at plain num
  took_string bytes p small h =
      let a = bind_inv (number_at w64 bytes) _ p h in
      let n = a.0.0 in
      let rest = a.0.1 in
      let at = number_inv w64 be_bytes_8 bytes a.0 small a.1 in
      if_inv (nat_lt (length rest) n) None (Some (take n rest, drop n rest)) p (Unit {0} × Took (plain (string p.0)) bytes p.1)
      (λ t e. absurd cc)
      (λ t e.
      let len : length (take n rest) ≡ n = length-take-le n rest (ltb-false (length rest) n t) in
      let whole : bytes ≡ string (take n rest) ++ drop n rest =
      at.1 ∙ ap (λ l. num n ++ l) (sym (take-append-drop n rest)) ∙ sym (append_assoc (num n) (take n rest) (drop n rest)) ∙ ap (λ m. (num m ++ take n rest) ++ drop n rest) (sym len)
      in
      subst (λ (q : Text × List ℕ). Unit {0} × Took (plain (string q.0)) bytes q.1) (some_is (take n rest, drop n rest) p e)
      (tt, took (plain (string (take n rest))) bytes (drop n rest) small whole tt))
      a.2

  -- ---- so many

  module _ {A : Type 0} (one : List A → List ℕ → Option (A × List ℕ)) (f : A → Piece) (Q : List A → Type 0) (step : (front : List A) (bytes : List ℕ) (p : A × List ℕ) → Q front → AreBytes bytes → one front bytes ≡ Some p → Q (front ++ p.0 ∷ []) × Took (f p.0) bytes p.1) where
    took_many : (n : ℕ) (front : List A) (bytes : List ℕ) (p : List A × List ℕ) → Q front → AreBytes bytes → many_at one n front bytes ≡ Some p → (xs : List A) × (p.0 ≡ front ++ xs) × (length xs ≡ n) × Q p.0 × Took (each f xs) bytes p.1
    unfolding many_at each
    took_many zero front bytes p q small h =
        subst (λ (r : List A × List ℕ). (xs : List A) × (r.0 ≡ front ++ xs) × (length xs ≡ 0) × Q r.0 × Took (each f xs) bytes r.1) (some_is (front, bytes) p h)
        ([], sym (append-nil front), refl, q, record { spelt = refl; covers = tt; left = small })
    took_many (suc n) front bytes p q small h =
        let a = bind_inv (one front bytes) _ p h in
        let x = a.0.0 in
        let first = step front bytes a.0 q small a.1 in
        let later = took_many n (front ++ x ∷ []) a.0.1 p first.0 first.1.left a.2 in
        let all : bytes ≡ flat_map (λ y. (f y).spelt blobs) (x ∷ later.0) ++ p.1 =
        first.1.spelt ∙ ap (λ l. (f x).spelt blobs ++ l) later.4.spelt ∙ sym (append_assoc ((f x).spelt blobs) (flat_map (λ y. (f y).spelt blobs) later.0) p.1)
        in
        (x ∷ later.0, later.1 ∙ append_assoc front (x ∷ []) later.0, ap (λ k. suc k) later.2, later.3, record { spelt = all; covers = covers-join blobs (f x).uses (flat_map (λ y. (f y).uses) later.0) first.1.covers later.4.covers; left = later.4.left })

    pub took_counted : (bytes : List ℕ) (p : List A × List ℕ) → Q [] → AreBytes bytes → counted_at one bytes ≡ Some p → Q p.0 × Took (counted f p.0) bytes p.1
    unfolding count_at
    took_counted bytes p q small h =
        let a = bind_inv (count_at bytes) _ p h in
        let b = bind_inv (number_at w64 bytes) _ a.0 a.1 in
        let same : b.0 ≡ a.0 = if_inv (nat_lt (length b.0.1) b.0.0) None (Some b.0) a.0 (b.0 ≡ a.0) (λ t e. absurd cc) (λ t e. some_is b.0 a.0 e) b.2 in
        let n = took_number bytes a.0 small (b.1 ∙ ap (λ (r : ℕ × List ℕ). Some r) same) in
        let all = took_many a.0.0 [] a.0.1 p q n.1.left a.2 in
        let is : all.0 ≡ p.0 = sym all.1 in (
          all.3,
          took_then (number (length p.0)) (each f p.0) bytes a.0.1 p.1
              (subst (λ k. Took (number k) bytes a.0.1) (sym all.2 ∙ ap (λ l. length l) is) n.1)
              (subst (λ xs. Took (each f xs) a.0.1 p.1) is all.4),
        )

  pub all_push : {X : Type 0} (P : X → Type 0) (xs : List X) (x : X) → AllByRecursion P xs → P x → AllByRecursion P (xs ++ x ∷ [])
  all_push P [] x h p = (p, tt)
  all_push P (y ∷ ys) x h p = (h.0, all_push P ys x h.1 p)

  took_all : {X : Type 0} (one : List ℕ → Option (X × List ℕ)) (f : X → Piece) (P : X → Type 0) → Exact one f P → Exact (counted_at (λ front. one)) (counted f) (AllByRecursion P)
  took_all one f P exact bytes p small h =
      took_counted (λ front. one) f (AllByRecursion P) (λ front bytes p q small e. let x = exact bytes p small e in (all_push P front p.0 q x.0, x.1)) bytes p tt small h

  -- ---- the blobs, each once

  took_fresh : (front : List Text) (bytes : List ℕ) (p : Text × List ℕ) → IsDistinct same_text front → AreBytes bytes → fresh_at front bytes ≡ Some p → IsDistinct same_text (front ++ p.0 ∷ []) × Took (plain (string p.0)) bytes p.1
  unfolding fresh_at
  took_fresh front bytes p once small h =
      let a = bind_inv (string_at bytes) _ p h in
      let g = given_inv (not (has front a.0.0)) a.0 p a.2 in
      let text = took_string bytes a.0 small a.1 in
      subst (λ (q : Text × List ℕ). IsDistinct same_text (front ++ q.0 ∷ []) × Took (plain (string q.0)) bytes q.1) g.1
      (distinct_more front a.0.0 once (not-true (has front a.0.0) g.0), text.1)

  pub took_blobs : (bytes : List ℕ) (p : List Text × List ℕ) → AreBytes bytes → counted_at fresh_at bytes ≡ Some p → IsDistinct same_text p.0 × Took (counted (λ text. plain (string text)) p.0) bytes p.1
  unfolding IsDistinct
  took_blobs bytes p small h = took_counted fresh_at (λ text. plain (string text)) (IsDistinct same_text) took_fresh bytes p tt small h

  -- ---- pieces with blobs

  module _ (once : IsDistinct same_text blobs) where
    took_blob : Exact (blob_at blobs) blob NoCondition
    unfolding blob_at blob num
    took_blob bytes p small h =
        let a = bind_inv (number_at w64 bytes) _ p h in
        let b = bind_inv (slice_get blobs a.0.0) _ p a.2 in
        let n = number_inv w64 be_bytes_8 bytes a.0 small a.1 in
        let at = numbered blobs a.0.0 b.0 once b.1 in
        subst (λ (q : Text × List ℕ). Unit {0} × Took (blob q.0) bytes q.1) (some_is (b.0, a.0.1) p b.2)
        (tt, took (blob b.0) bytes a.0.1 small (n.1 ∙ ap (λ k. num k ++ a.0.1) at.1) (at.0, tt))

    took_var : Exact (var_at blobs) var_piece NoCondition
    unfolding var_at
    took_var bytes p small h =
        let a = bind_inv (blob_at blobs bytes) _ p h in
        let b = bind_inv (blob_at blobs a.0.1) _ p a.2 in
        let name = took_blob bytes a.0 small a.1 in
        let value = took_blob a.0.1 b.0 name.1.left b.1 in
        let it : Var = record { name = a.0.0; value = b.0.0 } in
        subst (λ (q : Var × List ℕ). Unit {0} × Took (var_piece q.0) bytes q.1) (some_is (it, b.0.1) p b.2)
        (tt, took_then (blob a.0.0) (blob b.0.0) bytes a.0.1 b.0.1 name.1 value.1)

    pub took_key : Exact (key_at blobs) key_piece FitsKey
    unfolding key_at
    took_key bytes p small h =
        let a = bind_inv (counted_at (λ front. blob_at blobs) bytes) _ p h in
        let b = bind_inv (blob_at blobs a.0.1) _ p a.2 in
        let c = bind_inv (counted_at (λ front. var_at blobs) b.0.1) _ p b.2 in
        let d = bind_inv (key_from a.0.0 b.0.0 c.0.0) _ p c.2 in
        let words = took_all (blob_at blobs) blob NoCondition took_blob bytes a.0 small a.1 in
        let place = took_blob a.0.1 b.0 words.1.left b.1 in
        let vars = took_all (var_at blobs) var_piece NoCondition took_var b.0.1 c.0 place.1.left c.1 in
        let key : KeyValue = record { argv = a.0.0; wd = b.0.0; vars = c.0.0 } in
        let g = given_inv (is_canonical b.0.0 && (are_variables c.0.0 && is_key a.0.0 c.0.0)) key d.0 d.1 in
        let wd = both (is_canonical b.0.0) (are_variables c.0.0 && is_key a.0.0 c.0.0) g.0 in
        let ok = both (are_variables c.0.0) (is_key a.0.0 c.0.0) wd.1 in
        let is : (key, c.0.1) ≡ p = ap (λ k. let q : KeyValue × List ℕ = (k, c.0.1) in q) g.1 ∙ some_is (d.0, c.0.1) p d.2 in
        subst (λ (q : KeyValue × List ℕ). FitsKey q.0 × Took (key_piece q.0) bytes q.1) is (
          record { words = ok.1; wd = wd.0; vars = ok.0 },
          took_then (counted blob a.0.0) (blob b.0.0 ⊕ counted var_piece c.0.0) bytes a.0.1 c.0.1 words.1 (took_then (blob b.0.0) (counted var_piece c.0.0) a.0.1 b.0.1 c.0.1 place.1 vars.1),
        )

    took_pair : Exact pair_at pair_piece (λ pair. pair.1 < 2 ^ 64)
    unfolding pair_at
    took_pair bytes p small h =
        let a = bind_inv (byte_at bytes) _ p h in
        let b = bind_inv (number_at w64 a.0.1) _ p a.2 in
        let d = took_byte bytes a.0 small a.1 in
        let n = took_number a.0.1 b.0 d.1.left b.1 in
        subst (λ (q : (ℕ × ℕ) × List ℕ). (q.0.1 < 2 ^ 64) × Took (pair_piece q.0) bytes q.1) (some_is ((a.0.0, b.0.0), b.0.1) p b.2)
        (n.0, took_then (byte a.0.0) (number b.0.0) bytes a.0.1 b.0.1 d.1 n.1)

    took_map : Exact map_at (counted pair_piece) FitsMap
    unfolding map_at
    took_map bytes p small h =
        let a = bind_inv (counted_at (λ front. pair_at) bytes) _ p h in
        let b = bind_inv (given (is_refmap a.0.0) a.0.0) _ p a.2 in
        let pairs = took_all pair_at pair_piece (λ pair. pair.1 < 2 ^ 64) took_pair bytes a.0 small a.1 in
        let g = given_inv (is_refmap a.0.0) a.0.0 b.0 b.1 in
        let is : (a.0.0, a.0.1) ≡ p = ap (λ m. let q : List (ℕ × ℕ) × List ℕ = (m, a.0.1) in q) g.1 ∙ some_is (b.0, a.0.1) p b.2 in
        subst (λ (q : List (ℕ × ℕ) × List ℕ). FitsMap q.0 × Took (counted pair_piece q.0) bytes q.1) is
        (record { descriptors = g.0; numbers = pairs.0 }, pairs.1)

    -- ---- calls

    -- a call's fields, after its kind
    abbrev CallArm : ℕ → (List ℕ → Option (Call × List ℕ)) → Type 0
    CallArm kind one = (all bytes : List ℕ) (p : Call × List ℕ) → Took (byte kind) all bytes → one bytes ≡ Some p → FitsCall p.0 × Took (call_piece p.0) all p.1

    abbrev GoodCall : List ℕ → Call × List ℕ → Type 0
    GoodCall all q = FitsCall q.0 × Took (call_piece q.0) all q.1

    number_call : (kind : ℕ) (make : ℕ → Call) → ((r : ℕ) → r < 2 ^ 64 → FitsCall (make r)) → ((r : ℕ) → byte kind ⊕ number r ≡ call_piece (make r)) → CallArm kind (number_call_at make)
    unfolding number_call_at
    number_call kind make fits is all bytes p front h =
        let a = bind_inv (number_at w64 bytes) _ p h in
        let n = took_number bytes a.0 front.left a.1 in
        subst (GoodCall all) (some_is (make a.0.0, a.0.1) p a.2)
        (fits a.0.0 n.0, subst (λ piece. Took piece all a.0.1) (is a.0.0) (took_then (byte kind) (number a.0.0) all bytes a.0.1 front n.1))

    path_call : (kind : ℕ) (make : Text → Call) → ((path : Text) → FitsCall (make path)) → ((path : Text) → byte kind ⊕ blob path ≡ call_piece (make path)) → CallArm kind (path_call_at make blobs)
    unfolding path_call_at
    path_call kind make fits is all bytes p front h =
        let a = bind_inv (blob_at blobs bytes) _ p h in
        let path = took_blob bytes a.0 front.left a.1 in
        subst (GoodCall all) (some_is (make a.0.0, a.0.1) p a.2)
        (fits a.0.0, subst (λ piece. Took piece all a.0.1) (is a.0.0) (took_then (byte kind) (blob a.0.0) all bytes a.0.1 front path.1))

    texts_call : (kind : ℕ) (make : Text → Text → Call) → ((a b : Text) → FitsCall (make a b)) → ((a b : Text) → byte kind ⊕ blob a ⊕ blob b ≡ call_piece (make a b)) → CallArm kind (texts_call_at make blobs)
    unfolding texts_call_at
    texts_call kind make fits is all bytes p front h =
        let a = bind_inv (blob_at blobs bytes) _ p h in
        let b = bind_inv (blob_at blobs a.0.1) _ p a.2 in
        let one = took_blob bytes a.0 front.left a.1 in
        let two = took_blob a.0.1 b.0 one.1.left b.1 in
        subst (GoodCall all) (some_is (make a.0.0 b.0.0, b.0.1) p b.2)
        (fits a.0.0 b.0.0, subst (λ piece. Took piece all b.0.1) (is a.0.0 b.0.0) (took_then (byte kind) (blob a.0.0 ⊕ blob b.0.0) all bytes b.0.1 front (took_then (blob a.0.0) (blob b.0.0) bytes a.0.1 b.0.1 one.1 two.1)))

    mode_call : (kind : ℕ) (make : Text → ℕ → Call) → ((path : Text) (n : ℕ) → n ≤ 511 → FitsCall (make path n)) → ((path : Text) (n : ℕ) → byte kind ⊕ blob path ⊕ mode n ≡ call_piece (make path n)) → CallArm kind (mode_call_at make blobs)
    unfolding mode_call_at
    mode_call kind make fits is all bytes p front h =
        let a = bind_inv (blob_at blobs bytes) _ p h in
        let b = bind_inv (mode_at a.0.1) _ p a.2 in
        let path = took_blob bytes a.0 front.left a.1 in
        let n = took_mode a.0.1 b.0 path.1.left b.1 in
        subst (GoodCall all) (some_is (make a.0.0 b.0.0, b.0.1) p b.2)
        (fits a.0.0 b.0.0 n.0, subst (λ piece. Took piece all b.0.1) (is a.0.0 b.0.0) (took_then (byte kind) (blob a.0.0 ⊕ mode b.0.0) all bytes b.0.1 front (took_then (blob a.0.0) (mode b.0.0) bytes a.0.1 b.0.1 path.1 n.1)))

    how_inv : (code : ℕ) (it : How) → how_of code ≡ Some it → code ≡ how_code it
    how_inv code it h =
        is_or code 0 _ _ it (code ≡ how_code it) (λ is e. is ∙ ap how_code (some_is how.Read it e))
        (is_or code 1 _ _ it (code ≡ how_code it) (λ is e. is ∙ ap how_code (some_is how.Make it e))
        (is_or code 2 _ _ it (code ≡ how_code it) (λ is e. is ∙ ap how_code (some_is how.Append it e)) (λ e. absurd cc)))
        h

    open_call : CallArm 1 (open_at blobs)
    unfolding open_at
    open_call all bytes p front h =
        let a = bind_inv (blob_at blobs bytes) _ p h in
        let b = bind_inv (byte_at a.0.1) _ p a.2 in
        let c = bind_inv (how_of b.0.0) _ p b.2 in
        let path = took_blob bytes a.0 front.left a.1 in
        let code = took_byte a.0.1 b.0 path.1.left b.1 in
        let way = subst (λ n. Took (byte n) a.0.1 b.0.1) (how_inv b.0.0 c.0 c.1) code.1 in
        subst (GoodCall all) (some_is (call.Open a.0.0 c.0, b.0.1) p c.2)
        (tt, took_then (byte 1) (blob a.0.0 ⊕ byte (how_code c.0)) all bytes b.0.1 front (took_then (blob a.0.0) (byte (how_code c.0)) bytes a.0.1 b.0.1 path.1 way))

    write_call : CallArm 4 (write_at blobs)
    unfolding write_at
    write_call all bytes p front h =
        let a = bind_inv (number_at w64 bytes) _ p h in
        let b = bind_inv (blob_at blobs a.0.1) _ p a.2 in
        let n = took_number bytes a.0 front.left a.1 in
        let text = took_blob a.0.1 b.0 n.1.left b.1 in
        subst (GoodCall all) (some_is (call.Write a.0.0 b.0.0, b.0.1) p b.2)
        (n.0, took_then (byte 4) (number a.0.0 ⊕ blob b.0.0) all bytes b.0.1 front (took_then (number a.0.0) (blob b.0.0) bytes a.0.1 b.0.1 n.1 text.1))

    stat_call : CallArm 5 (stat_at blobs)
    unfolding stat_at
    stat_call all bytes p front h =
        let a = bind_inv (blob_at blobs bytes) _ p h in
        let b = bind_inv (flag_at a.0.1) _ p a.2 in
        let path = took_blob bytes a.0 front.left a.1 in
        let follow = took_flag a.0.1 b.0 path.1.left b.1 in
        subst (GoodCall all) (some_is (call.Stat a.0.0 b.0.0, b.0.1) p b.2)
        (tt, took_then (byte 5) (blob a.0.0 ⊕ byte (flag_code b.0.0)) all bytes b.0.1 front (took_then (blob a.0.0) (byte (flag_code b.0.0)) bytes a.0.1 b.0.1 path.1 follow.1))

    launch_call : CallArm 18 (launch_at blobs)
    unfolding launch_at
    launch_call all bytes p front h =
        let a = bind_inv (key_at blobs bytes) _ p h in
        let b = bind_inv (map_at a.0.1) _ p a.2 in
        let key = took_key bytes a.0 front.left a.1 in
        let map = took_map a.0.1 b.0 key.1.left b.1 in
        subst (GoodCall all) (some_is (call.Launch a.0.0 b.0.0, b.0.1) p b.2)
        ((key.0, map.0), took_then (byte 18) (key_piece a.0.0 ⊕ counted pair_piece b.0.0) all bytes b.0.1 front (took_then (key_piece a.0.0) (counted pair_piece b.0.0) bytes a.0.1 b.0.1 key.1 map.1))

    pub took_call : Exact (call_at blobs) call_piece FitsCall
    unfolding call_at
    took_call bytes p small h =
        let a = bind_inv (byte_at bytes) _ p h in
        let kind = a.0.0 in
        let rest = a.0.1 in
        let code = took_byte bytes a.0 small a.1 in
        let front : (k : ℕ) → kind ≡ k → Took (byte k) bytes rest = λ k is. subst (λ n. Took (byte n) bytes rest) is code.1 in
        is_or kind 1 _ _ p (GoodCall bytes p) (λ is. open_call bytes rest p (front 1 is))
        (is_or kind 2 _ _ p (GoodCall bytes p) (λ is. number_call 2 call.Read (λ r lt. lt) (λ r. refl) bytes rest p (front 2 is))
        (is_or kind 3 _ _ p (GoodCall bytes p) (λ is. number_call 3 call.ReadLine (λ r lt. lt) (λ r. refl) bytes rest p (front 3 is))
        (is_or kind 4 _ _ p (GoodCall bytes p) (λ is. write_call bytes rest p (front 4 is))
        (is_or kind 5 _ _ p (GoodCall bytes p) (λ is. stat_call bytes rest p (front 5 is))
        (is_or kind 6 _ _ p (GoodCall bytes p) (λ is. path_call 6 call.List (λ path. tt) (λ path. refl) bytes rest p (front 6 is))
        (is_or kind 7 _ _ p (GoodCall bytes p) (λ is. path_call 7 call.ReadLink (λ path. tt) (λ path. refl) bytes rest p (front 7 is))
        (is_or kind 8 _ _ p (GoodCall bytes p) (λ is. path_call 8 call.Walk (λ path. tt) (λ path. refl) bytes rest p (front 8 is))
        (is_or kind 9 _ _ p (GoodCall bytes p) (λ is. texts_call 9 call.Same (λ a b. tt) (λ a b. refl) bytes rest p (front 9 is))
        (is_or kind 10 _ _ p (GoodCall bytes p) (λ is. mode_call 10 call.Mkdir (λ path n le. le) (λ path n. refl) bytes rest p (front 10 is))
        (is_or kind 11 _ _ p (GoodCall bytes p) (λ is. path_call 11 call.Rmdir (λ path. tt) (λ path. refl) bytes rest p (front 11 is))
        (is_or kind 12 _ _ p (GoodCall bytes p) (λ is. path_call 12 call.Unlink (λ path. tt) (λ path. refl) bytes rest p (front 12 is))
        (is_or kind 13 _ _ p (GoodCall bytes p) (λ is. texts_call 13 call.Rename (λ a b. tt) (λ a b. refl) bytes rest p (front 13 is))
        (is_or kind 14 _ _ p (GoodCall bytes p) (λ is. texts_call 14 call.Symlink (λ a b. tt) (λ a b. refl) bytes rest p (front 14 is))
        (is_or kind 15 _ _ p (GoodCall bytes p) (λ is. texts_call 15 call.Link (λ a b. tt) (λ a b. refl) bytes rest p (front 15 is))
        (is_or kind 16 _ _ p (GoodCall bytes p) (λ is. mode_call 16 call.Chmod (λ path n le. le) (λ path n. refl) bytes rest p (front 16 is))
        (is_or kind 17 _ _ p (GoodCall bytes p) (λ is e. subst (GoodCall bytes) (some_is (call.Pipe, rest) p e) (tt, front 17 is))
        (is_or kind 18 _ _ p (GoodCall bytes p) (λ is. launch_call bytes rest p (front 18 is)) (λ e. absurd cc))))))))))))))))))
        a.2

    -- ---- answers

    abbrev GoodAnswer : List ℕ → Answer × List ℕ → Type 0
    GoodAnswer all q = FitsAnswer q.0 × Took (answer_piece q.0) all q.1

    abbrev AnswerArm : ℕ → (List ℕ → Option (Answer × List ℕ)) → Type 0
    AnswerArm kind one = (all bytes : List ℕ) (p : Answer × List ℕ) → Took (byte kind) all bytes → one bytes ≡ Some p → GoodAnswer all p

    text_answer : (kind : ℕ) (make : Text → Answer) → ((text : Text) → FitsAnswer (make text)) → ((text : Text) → byte kind ⊕ blob text ≡ answer_piece (make text)) → AnswerArm kind (text_answer_at make blobs)
    unfolding text_answer_at
    text_answer kind make fits is all bytes p front h =
        let a = bind_inv (blob_at blobs bytes) _ p h in
        let text = took_blob bytes a.0 front.left a.1 in
        subst (GoodAnswer all) (some_is (make a.0.0, a.0.1) p a.2)
        (fits a.0.0, subst (λ piece. Took piece all a.0.1) (is a.0.0) (took_then (byte kind) (blob a.0.0) all bytes a.0.1 front text.1))

    kind_inv : (code : ℕ) (it : FileType) → kind_of code ≡ Some it → code ≡ kind_code it
    kind_inv code it h =
        is_or code 1 _ _ it (code ≡ kind_code it) (λ is e. is ∙ ap kind_code (some_is File it e))
        (is_or code 2 _ _ it (code ≡ kind_code it) (λ is e. is ∙ ap kind_code (some_is Dir it e))
        (is_or code 3 _ _ it (code ≡ kind_code it) (λ is e. is ∙ ap kind_code (some_is Link it e)) (λ e. absurd cc)))
        h

    found_answer : AnswerArm 5 found_at
    unfolding found_at
    found_answer all bytes p front h =
        let a = bind_inv (byte_at bytes) _ p h in
        let b = bind_inv (kind_of a.0.0) _ p a.2 in
        let c = bind_inv (mode_at a.0.1) _ p b.2 in
        let d = bind_inv (flag_at c.0.1) _ p c.2 in
        let code = took_byte bytes a.0 front.left a.1 in
        let kind = subst (λ n. Took (byte n) bytes a.0.1) (kind_inv a.0.0 b.0 b.1) code.1 in
        let n = took_mode a.0.1 c.0 kind.left c.1 in
        let empty = took_flag c.0.1 d.0 n.1.left d.1 in
        let end = byte (flag_code d.0.0) in
        subst (GoodAnswer all) (some_is (answer.Stat b.0 c.0.0 d.0.0, d.0.1) p d.2) (
          n.0,
          took_then (byte 5) (byte (kind_code b.0) ⊕ mode c.0.0 ⊕ end) all bytes d.0.1 front
              (took_then (byte (kind_code b.0)) (mode c.0.0 ⊕ end) bytes a.0.1 d.0.1 kind (took_then (mode c.0.0) end a.0.1 c.0.1 d.0.1 n.1 empty.1)),
        )

    took_name : Exact (name_at blobs) blob NoCondition
    unfolding name_at
    took_name bytes p small h =
        let a = bind_inv (blob_at blobs bytes) _ p h in
        let b = bind_inv (given (is_name a.0.0) a.0.0) _ p a.2 in
        let g = given_inv (is_name a.0.0) a.0.0 b.0 b.1 in
        let text = took_blob bytes a.0 small a.1 in
        subst (λ (q : Text × List ℕ). Unit {0} × Took (blob q.0) bytes q.1) (some_is (b.0, a.0.1) p b.2)
        (tt, subst (λ t. Took (blob t) bytes a.0.1) g.1 text.1)

    names_answer : AnswerArm 6 (names_at blobs)
    unfolding names_at
    names_answer all bytes p front h =
        let a = bind_inv (counted_at (λ front. name_at blobs) bytes) _ p h in
        let b = bind_inv (given (are_names a.0.0) a.0.0) _ p a.2 in
        let g = given_inv (are_names a.0.0) a.0.0 b.0 b.1 in
        let names = took_all (name_at blobs) blob NoCondition took_name bytes a.0 front.left a.1 in
        let whole : GoodAnswer all (answer.Names a.0.0, a.0.1) = (g.0, took_then (byte 6) (counted blob a.0.0) all bytes a.0.1 front names.1) in
        subst (GoodAnswer all) (some_is (answer.Names b.0, a.0.1) p b.2) (subst (λ l. GoodAnswer all (answer.Names l, a.0.1)) g.1 whole)

    place_answer : AnswerArm 8 (place_at blobs)
    unfolding place_at
    place_answer all bytes p front h =
        let a = bind_inv (blob_at blobs bytes) _ p h in
        let b = bind_inv (given (is_canonical a.0.0) a.0.0) _ p a.2 in
        let g = given_inv (is_canonical a.0.0) a.0.0 b.0 b.1 in
        let path = took_blob bytes a.0 front.left a.1 in
        let whole : GoodAnswer all (answer.Place a.0.0, a.0.1) = (g.0, took_then (byte 8) (blob a.0.0) all bytes a.0.1 front path.1) in
        subst (GoodAnswer all) (some_is (answer.Place b.0, a.0.1) p b.2) (subst (λ t. GoodAnswer all (answer.Place t, a.0.1)) g.1 whole)

    same_answer : AnswerArm 9 same_at
    unfolding same_at
    same_answer all bytes p front h =
        let a = bind_inv (flag_at bytes) _ p h in
        let same = took_flag bytes a.0 front.left a.1 in
        subst (GoodAnswer all) (some_is (answer.Same a.0.0, a.0.1) p a.2) (tt, took_then (byte 9) (byte (flag_code a.0.0)) all bytes a.0.1 front same.1)

    joined_answer : AnswerArm 10 joined_at
    unfolding joined_at
    joined_answer all bytes p front h =
        let a = bind_inv (byte_at bytes) _ p h in
        let status = took_byte bytes a.0 front.left a.1 in
        subst (GoodAnswer all) (some_is (answer.Joined a.0.0, a.0.1) p a.2) (status.0, took_then (byte 10) (byte a.0.0) all bytes a.0.1 front status.1)

    errno_inv : (code : ℕ) (it : Errno) → errno_of code ≡ Some it → code ≡ errno_code it
    errno_inv code it h =
        is_or code 1 _ _ it (code ≡ errno_code it) (λ is e. is ∙ ap errno_code (some_is errno.NoEntry it e))
        (is_or code 2 _ _ it (code ≡ errno_code it) (λ is e. is ∙ ap errno_code (some_is errno.NotDir it e))
        (is_or code 3 _ _ it (code ≡ errno_code it) (λ is e. is ∙ ap errno_code (some_is errno.IsDir it e))
        (is_or code 4 _ _ it (code ≡ errno_code it) (λ is e. is ∙ ap errno_code (some_is errno.Exists it e))
        (is_or code 5 _ _ it (code ≡ errno_code it) (λ is e. is ∙ ap errno_code (some_is errno.Denied it e))
        (is_or code 6 _ _ it (code ≡ errno_code it) (λ is e. is ∙ ap errno_code (some_is errno.Loops it e))
        (is_or code 7 _ _ it (code ≡ errno_code it) (λ is e. is ∙ ap errno_code (some_is errno.NotEmpty it e))
        (is_or code 8 _ _ it (code ≡ errno_code it) (λ is e. is ∙ ap errno_code (some_is errno.BadRef it e))
        (is_or code 9 _ _ it (code ≡ errno_code it) (λ is e. is ∙ ap errno_code (some_is errno.Invalid it e)) (λ e. absurd cc)))))))))
        h

    no_answer : AnswerArm 11 no_at
    unfolding no_at
    no_answer all bytes p front h =
        let a = bind_inv (byte_at bytes) _ p h in
        let b = bind_inv (errno_of a.0.0) _ p a.2 in
        let code = took_byte bytes a.0 front.left a.1 in
        let errno = subst (λ n. Took (byte n) bytes a.0.1) (errno_inv a.0.0 b.0 b.1) code.1 in
        subst (GoodAnswer all) (some_is (answer.No b.0, a.0.1) p b.2) (tt, took_then (byte 11) (byte (errno_code b.0)) all bytes a.0.1 front errno)

    -- a kind alone
    alone : (all rest : List ℕ) (it : Answer) (p : Answer × List ℕ) → FitsAnswer it → Took (answer_piece it) all rest → Some (it, rest) ≡ Some p → GoodAnswer all p
    alone all rest it p fits front last = subst (GoodAnswer all) (some_is (it, rest) p last) (fits, front)

    pub took_answer : Exact (answer_at blobs) answer_piece FitsAnswer
    unfolding answer_at
    took_answer bytes p small h =
        let a = bind_inv (byte_at bytes) _ p h in
        let kind = a.0.0 in
        let rest = a.0.1 in
        let code = took_byte bytes a.0 small a.1 in
        let front : (k : ℕ) → kind ≡ k → Took (byte k) bytes rest = λ k is. subst (λ n. Took (byte n) bytes rest) is code.1 in
        is_or kind 1 _ _ p (GoodAnswer bytes p) (λ is. alone bytes rest answer.Done p tt (front 1 is))
        (is_or kind 2 _ _ p (GoodAnswer bytes p) (λ is. alone bytes rest answer.Opened p tt (front 2 is))
        (is_or kind 3 _ _ p (GoodAnswer bytes p) (λ is. alone bytes rest answer.Piped p tt (front 3 is))
        (is_or kind 4 _ _ p (GoodAnswer bytes p) (λ is. text_answer 4 answer.Content (λ text. tt) (λ text. refl) bytes rest p (front 4 is))
        (is_or kind 5 _ _ p (GoodAnswer bytes p) (λ is. found_answer bytes rest p (front 5 is))
        (is_or kind 6 _ _ p (GoodAnswer bytes p) (λ is. names_answer bytes rest p (front 6 is))
        (is_or kind 7 _ _ p (GoodAnswer bytes p) (λ is. text_answer 7 answer.Text (λ text. tt) (λ text. refl) bytes rest p (front 7 is))
        (is_or kind 8 _ _ p (GoodAnswer bytes p) (λ is. place_answer bytes rest p (front 8 is))
        (is_or kind 9 _ _ p (GoodAnswer bytes p) (λ is. same_answer bytes rest p (front 9 is))
        (is_or kind 10 _ _ p (GoodAnswer bytes p) (λ is. joined_answer bytes rest p (front 10 is))
        (is_or kind 11 _ _ p (GoodAnswer bytes p) (λ is. no_answer bytes rest p (front 11 is)) (λ e. absurd cc)))))))))))
        a.2

    -- ---- steps and records

    took_step : Exact (step_at blobs) step_piece FitsStep
    unfolding step_at
    took_step bytes p small h =
        let a = bind_inv (number_at w32 bytes) _ p h in
        let b = bind_inv (call_at blobs a.0.1) _ p a.2 in
        let c = bind_inv (answer_at blobs b.0.1) _ p b.2 in
        let n = took_cost bytes a.0 small a.1 in
        let asked = took_call a.0.1 b.0 n.1.left b.1 in
        let told = took_answer b.0.1 c.0 asked.1.left c.1 in
        let step : Step = record { cost = a.0.0; call = b.0.0; answer = c.0.0 } in
        subst (λ (q : Step × List ℕ). FitsStep q.0 × Took (step_piece q.0) bytes q.1) (some_is (step, c.0.1) p c.2) (
          record { cost = n.0; call = asked.0; answer = told.0 },
          took_then (cost a.0.0) (call_piece b.0.0 ⊕ answer_piece c.0.0) bytes a.0.1 c.0.1 n.1 (took_then (call_piece b.0.0) (answer_piece c.0.0) a.0.1 b.0.1 c.0.1 asked.1 told.1),
        )

    took_record : (front : List Record) (bytes : List ℕ) (p : Record × List ℕ) → AreBytes bytes → record_at blobs front bytes ≡ Some p → (FitsRecord p.0 × (p.0.ordinal ≡ count_of p.0.key front)) × Took (record_piece p.0) bytes p.1
    unfolding record_at row_at
    took_record front bytes p small h =
        let row = bind_inv (row_at blobs bytes) _ p h in
        let a = bind_inv (key_at blobs bytes) _ row.0 row.1 in
        let b = bind_inv (counted_at (λ before. step_at blobs) a.0.1) _ row.0 a.2 in
        let c = bind_inv (byte_at b.0.1) _ row.0 b.2 in
        let d = bind_inv (number_at w32 c.0.1) _ row.0 c.2 in
        let key = took_key bytes a.0 small a.1 in
        let steps = took_all (step_at blobs) step_piece FitsStep took_step a.0.1 b.0 key.1.left b.1 in
        let exit = took_byte b.0.1 c.0 steps.1.left c.1 in
        let last = took_cost c.0.1 d.0 exit.1.left d.1 in
        let made : Row = record { key = a.0.0; steps = b.0.0; exit = c.0.0; exit_cost = d.0.0 } in
        let g = given_inv (nat_lt (paid b.0.0 d.0.0) (2 ^ 64)) (made, d.0.1) row.0 d.2 in
        let rec = next_rec front made in
        let is : (rec, d.0.1) ≡ p = ap (λ (q : Row × List ℕ). let r : Record × List ℕ = (next_rec front q.0, q.1) in r) g.1 ∙ some_is (next_rec front row.0.0, row.0.1) p row.2 in
        let ending = byte c.0.0 ⊕ cost d.0.0 in
        subst (λ (q : Record × List ℕ). (FitsRecord q.0 × (q.0.ordinal ≡ count_of q.0.key front)) × Took (record_piece q.0) bytes q.1) is (
          (
            record {
              key = key.0;
              steps = steps.0;
              exit = exit.0;
              exit_cost = last.0;
              paid = ltb-true (paid b.0.0 d.0.0) (2 ^ 64) g.0;
            },
            refl,
          ),
          took_then (key_piece a.0.0) (counted step_piece b.0.0 ⊕ ending) bytes a.0.1 d.0.1 key.1
              (took_then (counted step_piece b.0.0) ending a.0.1 b.0.1 d.0.1 steps.1 (took_then (byte c.0.0) (cost d.0.0) b.0.1 c.0.1 d.0.1 exit.1 last.1)),
        )

    one_more : (front : List Record) (bytes : List ℕ) (p : Record × List ℕ) → FitsOld front → AreBytes bytes → record_at blobs front bytes ≡ Some p → FitsOld (front ++ p.0 ∷ []) × Took (record_piece p.0) bytes p.1
    one_more front bytes p h small e =
        let r = took_record front bytes p small e in
        (record { records = all_push FitsRecord front p.0 h.records r.0.0; numbered = numbered_push front p.0 h.numbered r.0.1 }, r.1)

    pub took_records : (bytes : List ℕ) (p : List Record × List ℕ) → AreBytes bytes → counted_at (record_at blobs) bytes ≡ Some p → FitsOld p.0 × Took (table_piece p.0) bytes p.1
    took_records bytes p small h = took_counted (record_at blobs) record_piece FitsOld one_more bytes p (record { records = tt; numbered = λ i lt. absurd (omega arith) }) small h
