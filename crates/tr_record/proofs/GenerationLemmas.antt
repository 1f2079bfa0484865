-- Records and candidates of the tables that are kept.
use Rattle.std.proofs.Common.{◌≡◌, ℕ, zero, suc, ◌+◌, ◌-◌, ◌≤◌, ◌<◌, Bool, true, false, cond, ◌&&◌, ◌==◌, List, [], ◌∷◌, ◌++◌, length, take, drop, get_or, Some, slice_get, refl, sym, ◌∙◌, ap, arith, append_assoc, length-append}
use Rattle.std.specs.Prelude.{find}
use Rattle.std.proofs.Math.ListN.{get_or-append}
use Rattle.std.proofs.lemmas.Bool.{eq-eqb, ne_eqb}
use Rattle.std.proofs.lemmas.List.{drop_more, get_or-append_right, append-nil}
use Rattle.std.proofs.lemmas.List.Elements.{filter-append}
use Rattle.std.proofs.lemmas.List.Sums.{sum_by-cons, sum_by-append}
use Rattle.rk_calls.specs.Keys.{KeyValue, same_key}
use Rattle.tr_record.specs.declared.records.Record.{Record}
use Rattle.tr_record.specs.Rec.{rec_at, fresh_rec, no_key, count_of, found, AreNumbered}
use Rattle.tr_record.proofs.KeyLemmas.{same_key-Decides}
use Rattle.tr_record.specs.Generations.{records, of_key, candidates}

-- ---- records by their numbers

pub number-here : (table : List Record) (kept : List (List Record)) (i : ℕ) → i < length table → rec_at i (records (table ∷ kept)) ≡ rec_at i table
number-here table kept i h = get_or-append table (records kept) (fresh_rec no_key 0) i h

pub number-later : (table : List Record) (kept : List (List Record)) (i : ℕ) → length table ≤ i → rec_at i (records (table ∷ kept)) ≡ rec_at (i - length table) (records kept)
number-later table kept i h = get_or-append_right table (records kept) (length table) i (fresh_rec no_key 0) refl h

pub number-behind : (table : List Record) (kept : List (List Record)) (i : ℕ) → i < length (records (table ∷ kept)) → length table ≤ i → i - length table < length (records kept)
number-behind table kept i h k = let e = length-append table (records kept) in omega arith

-- ---- the records of a key

pub candidates-cons : (key : KeyValue) (table : List Record) (kept : List (List Record)) → candidates key (table ∷ kept) ≡ of_key key table ++ candidates key kept
candidates-cons key table kept = filter-append (λ rec. same_key rec.key key) table (records kept)

pub length-of_key : (key : KeyValue) (table : List Record) → length (of_key key table) ≡ count_of key table
length-of_key key [] = refl
length-of_key key (rec ∷ table) =
    (elim (same_key rec.key key) as (λ b. length (cond b (rec ∷ of_key key table) (of_key key table)) ≡ cond b 1 0 + count_of key table) [
      | true ↦ let ih = length-of_key key table in omega arith
      | false ↦ let ih = length-of_key key table in omega arith
    ])
    ∙ sym (sum_by-cons (λ (r : Record). cond (same_key r.key key) 1 0) rec table)

pub get-here : {X : Type 0} (xs ys : List X) (i : ℕ) → i < length xs → slice_get (xs ++ ys) i ≡ slice_get xs i
get-here [] ys i h = absurd (omega arith)
get-here (x ∷ xs) ys zero h = refl
get-here (x ∷ xs) ys (suc i) h = get-here xs ys i (omega arith)

pub get-later : {X : Type 0} (xs ys : List X) (i : ℕ) → length xs ≤ i → slice_get (xs ++ ys) i ≡ slice_get ys (i - length xs)
get-later [] ys i h = ap (slice_get ys) (let e : i ≡ i - 0 = omega arith in e)
get-later (x ∷ xs) ys zero h = absurd (omega arith)
get-later (x ∷ xs) ys (suc i) h = get-later xs ys i (omega arith) ∙ ap (slice_get ys) (let e : i - length xs ≡ suc i - suc (length xs) = omega arith in e)

-- the record of a key and an ordinal is the one behind so many of the key
abbrev test : KeyValue → ℕ → Record → Bool
test key n rec = same_key rec.key key && (rec.ordinal == n)

found_by : (key : KeyValue) (before : List Record) (rec : Record) (table : List Record) (n : ℕ) → ((m : ℕ) → n ≡ count_of key (before ++ rec ∷ []) + m → find (test key n) table ≡ slice_get (of_key key table) m) → (rec.key ≡ key → rec.ordinal ≡ count_of key before)
    → count_of key (before ++ rec ∷ []) ≡ count_of key before + cond (same_key rec.key key) 1 0
    → (b : Bool) → same_key rec.key key ≡ b → (o : ℕ) → n ≡ count_of key before + o → cond (b && (rec.ordinal == n)) (Some rec) (find (test key n) table) ≡ slice_get (cond b (rec ∷ of_key key table) (of_key key table)) o
found_by key before rec table n ih here counted true e zero en =
    let is : (rec.ordinal == n) ≡ true = eq-eqb rec.ordinal n (let z = here ((same_key-Decides rec.key key).0 e) in omega arith) in
    ap (λ t. cond t (Some rec) (find (test key n) table)) is
found_by key before rec table n ih here counted true e (suc o) en =
    let isnt : (rec.ordinal == n) ≡ false = ne_eqb rec.ordinal n (λ same. let z = here ((same_key-Decides rec.key key).0 e) in absurd (omega arith)) in
    let one : count_of key (before ++ rec ∷ []) ≡ count_of key before + 1 = counted ∙ ap (λ t. count_of key before + cond t 1 0) e in
    ap (λ t. cond t (Some rec) (find (test key n) table)) isnt ∙ ih o (omega arith)
found_by key before rec table n ih here counted false e o en =
    let none : count_of key (before ++ rec ∷ []) ≡ count_of key before + 0 = counted ∙ ap (λ t. count_of key before + cond t 1 0) e in
    ih o (omega arith)

counted : (key : KeyValue) (before : List Record) (rec : Record) → count_of key (before ++ rec ∷ []) ≡ count_of key before + cond (same_key rec.key key) 1 0
counted key before rec =
    let e = sum_by-append (λ (r : Record). cond (same_key r.key key) 1 0) before (rec ∷ []) in
    let z = sum_by-cons (λ (r : Record). cond (same_key r.key key) 1 0) rec [] in
    omega arith

found_from : (key : KeyValue) (before table : List Record) (n o : ℕ) → n ≡ count_of key before + o → ((i : ℕ) → i < length table → (rec_at i table).ordinal ≡ count_of (rec_at i table).key (before ++ take i table)) → find (test key n) table ≡ slice_get (of_key key table) o
found_from key before [] n o en h = refl
found_from key before (rec ∷ table) n o en h =
    found_by key before rec table n
    (λ m em. found_from key (before ++ rec ∷ []) table n m em (λ i lt. h (suc i) (omega arith) ∙ ap (count_of (rec_at i table).key) (sym (append_assoc before (rec ∷ []) (take i table)))))
    (λ e. h 0 (omega arith) ∙ ap (λ k. count_of k (before ++ [])) e ∙ ap (count_of key) (append-nil before))
    (counted key before rec)
    (same_key rec.key key) refl o en

pub numbered-found : (key : KeyValue) (table : List Record) (o : ℕ) → AreNumbered table → found table key o ≡ slice_get (of_key key table) o
unfolding found
numbered-found key table o h = found_from key [] table o o (let z : count_of key [] ≡ 0 = refl in omega arith) (λ i lt. h i lt)

-- ---- a candidate, table by table

drop-table : (tables : List (List Record)) (k : ℕ) (table d : List Record) → k < length tables → table ≡ get_or tables k d → drop k tables ≡ table ∷ drop (k + 1) tables
drop-table tables k table d h e = drop_more tables k d h ∙ ap (λ t. t ∷ drop (k + 1) tables) (sym e)

pub candidate-here : (key : KeyValue) (tables : List (List Record)) (k rest : ℕ) (table d : List Record) → k < length tables → table ≡ get_or tables k d → AreNumbered table → rest < count_of key table → found table key rest ≡ slice_get (candidates key (drop k tables)) rest
candidate-here key tables k rest table d h e n lt =
    numbered-found key table rest n
    ∙ sym (get-here (of_key key table) (candidates key (drop (k + 1) tables)) rest (let l = length-of_key key table in omega arith))
    ∙ ap (λ l. slice_get l rest) (sym (ap (candidates key) (drop-table tables k table d h e) ∙ candidates-cons key table (drop (k + 1) tables)))

pub candidate-later : (key : KeyValue) (tables : List (List Record)) (k rest count less : ℕ) (table d : List Record) → k < length tables → table ≡ get_or tables k d → count ≡ count_of key table → count ≤ rest → less ≡ rest - count → slice_get (candidates key (drop (k + 1) tables)) less ≡ slice_get (candidates key (drop k tables)) rest
candidate-later key tables k rest count less table d h e ec le el =
    let l = length-of_key key table in
    ap (slice_get (candidates key (drop (k + 1) tables))) (let z : less ≡ rest - length (of_key key table) = omega arith in z)
    ∙ sym (get-later (of_key key table) (candidates key (drop (k + 1) tables)) rest (omega arith))
    ∙ ap (λ l. slice_get l rest) (sym (ap (candidates key) (drop-table tables k table d h e) ∙ candidates-cons key table (drop (k + 1) tables)))
