-- Tables that are kept: the test of two of them tells equality, and no two of those that are read are equal.
use Rattle.std.proofs.Common.{◌≡◌, ◌≢◌, ◌∙◌, refl, sym, ap, ℕ, zero, suc, ◌<◌, ◌≤◌, false, ◌&&◌, ◌==◌, nat_lt, List, [], ◌∷◌, ◌++◌, Some, None, length, get_or, slice_get, append_assoc, arith}
use Rattle.std.specs.Bool.{Decides}
use Rattle.std.specs.List.{flat_map, AllByRecursion, position_or_len}
use Rattle.std.specs.Cmp.Lexicographic.{pointwise, pointwise_decides}
use Rattle.std.proofs.lemmas.Bool.{eq-eqb, eqb-true, ltb-true, ltb-false, and_from}
use Rattle.std.proofs.lemmas.Grind.{flat_map-append}
use Rattle.std.proofs.lemmas.List.{length-append}
use Rattle.rk_calls.specs.Keys.{KeyValue, same_key}
use Rattle.tr_nodes.specs.Tails.{Tail, IsApart}
use Rattle.tr_nodes.proofs.GetLemmas.{by_cases, get_below, get_front, get_last, get_read, apart_more, found, absent}
use Rattle.tr_record.proofs.KeyLemmas.{same_key-Decides}
use Rattle.tr_record.specs.Generations.{table_at, records, AreGenerations}
use Rattle.tr_record.specs.declared.records.Record.{Record}
use Rattle.tr_record.specs.declared.steps.Step.{Step}
use Rattle.tr_parts.specs.Piece.{plain, ◌⊕◌, each, counted}
use Rattle.tr_codec.specs.Fits.{FitsRecord, Fits}
use Rattle.tr_kept.specs.KeptReading.{same_record, same_table, has_table}
use Rattle.tr_kept.specs.KeptSpelling.{kept_with}
use Rattle.tr_codec.specs.Same.{same_step}
use Rattle.tr_codec.specs.Spelling.{node_piece, record_piece, spelt_with}
use Rattle.tr_codec.proofs.ExactLemmas.{both}
use Rattle.tr_codec.proofs.OldRowLemmas.{all_push}
use Rattle.tr_codec.proofs.SameLemmas.{step_decides}

-- ---- two tables

joined : (a b : Record) → a.key ≡ b.key → a.ordinal ≡ b.ordinal → a.steps ≡ b.steps → a.exit ≡ b.exit → a.exit_cost ≡ b.exit_cost → a ≡ b
joined a b key ordinal steps exit cost =
    ap (λ (k : KeyValue). record a { key = k }) key
    ∙ ap (λ n. let r : Record = record { key = b.key; ordinal = n; steps = a.steps; exit = a.exit; exit_cost = a.exit_cost } in r) ordinal
    ∙ ap (λ (s : List Step). let r : Record = record { key = b.key; ordinal = b.ordinal; steps = s; exit = a.exit; exit_cost = a.exit_cost } in r) steps
    ∙ ap (λ n. let r : Record = record { key = b.key; ordinal = b.ordinal; steps = b.steps; exit = n; exit_cost = a.exit_cost } in r) exit
    ∙ ap (λ n. let r : Record = record { key = b.key; ordinal = b.ordinal; steps = b.steps; exit = b.exit; exit_cost = n } in r) cost

pub record_decides : (a b : Record) → Decides (same_record a b) (a ≡ b)
record_decides a b =
    let keys = same_key-Decides a.key b.key in
    let steps = pointwise_decides step_decides a.steps b.steps in (
      λ e.
          let p = both (same_key a.key b.key) ((a.ordinal == b.ordinal) && (pointwise same_step a.steps b.steps && ((a.exit == b.exit) && (a.exit_cost == b.exit_cost)))) e in
          let q = both (a.ordinal == b.ordinal) (pointwise same_step a.steps b.steps && ((a.exit == b.exit) && (a.exit_cost == b.exit_cost))) p.1 in
          let r = both (pointwise same_step a.steps b.steps) ((a.exit == b.exit) && (a.exit_cost == b.exit_cost)) q.1 in
          let s = both (a.exit == b.exit) (a.exit_cost == b.exit_cost) r.1 in
          joined a b (keys.0 p.0) (eqb-true a.ordinal b.ordinal q.0) (steps.0 r.0) (eqb-true a.exit b.exit s.0) (eqb-true a.exit_cost b.exit_cost s.1),
      λ e.
          and_from (same_key a.key b.key) _ (keys.1 (ap (λ (r : Record). r.key) e))
          (and_from (a.ordinal == b.ordinal) _ (eq-eqb a.ordinal b.ordinal (ap (λ (r : Record). r.ordinal) e))
          (and_from (pointwise same_step a.steps b.steps) _ (steps.1 (ap (λ (r : Record). r.steps) e))
          (and_from (a.exit == b.exit) (a.exit_cost == b.exit_cost) (eq-eqb a.exit b.exit (ap (λ (r : Record). r.exit) e)) (eq-eqb a.exit_cost b.exit_cost (ap (λ (r : Record). r.exit_cost) e))))),
    )

pub table_decides : (a b : List Record) → Decides (same_table a b) (a ≡ b)
table_decides a b = pointwise_decides record_decides a b

-- ---- tables that are kept

abbrev pub IsFull : List Record → Type 0
IsFull table = 1 ≤ length table

-- each has a record, and no two are equal
pub record AreApart (kept : List (List Record)) : Type 0 where
  pub full : AllByRecursion IsFull kept
  pub apart : IsApart kept

pub apart_none : AreApart []
apart_none = record { full = tt; apart = λ i j table at bt. absurd (let h = get_below [] i table at in omega arith) }

-- one more, which is none of them
pub apart_push : (kept : List (List Record)) (table : List Record) → AreApart kept → 1 ≤ length table → has_table kept table ≡ false → AreApart (kept ++ table ∷ [])
apart_push kept table h some new = record {
  full = all_push IsFull kept table h.full some;
  apart = apart_more kept table h.apart (λ n at. absent same_table table_decides kept n table new at);
}

-- each is none of those in front of it
pub fresh_table : (all front rest : List (List Record)) (table : List Record) → all ≡ front ++ table ∷ rest → IsApart all → has_table front table ≡ false
fresh_table all front rest table e apart =
    let split : all ≡ (front ++ table ∷ []) ++ rest = e ∙ sym (append_assoc front (table ∷ []) rest) in
    let at : slice_get all (length front) ≡ Some table =
    ap (λ l. slice_get l (length front)) split ∙ get_front (front ++ table ∷ []) rest (length front) (omega (arith, length-append front (table ∷ []))) ∙ get_last front table
    in
    by_cases (has_table front table) (has_table front table ≡ false)
    (λ h.
    let p = position_or_len (same_table table) front in
    let there : slice_get front p ≡ Some table = found same_table table_decides front table h in
    let less = get_below front p table there in
    let is : p ≡ length front = apart p (length front) table (ap (λ l. slice_get l p) e ∙ get_front front (table ∷ rest) p less ∙ there) at in
    absurd (omega arith))
    (λ h. h)

-- ---- and as they are held

some_long : (table : List Record) → 1 ≤ length table → table ≢ []
some_long [] h e = absurd (omega arith)
some_long (rec ∷ table) h e = absurd cc

long_some : (table : List Record) → table ≢ [] → 1 ≤ length table
long_some [] h = absurd (h refl)
long_some (rec ∷ table) h = omega arith

full_at : (kept : List (List Record)) (i : ℕ) (d : List Record) → AllByRecursion IsFull kept → i < length kept → 1 ≤ length (get_or kept i d)
full_at [] i d h lt = absurd (omega arith)
full_at (x ∷ xs) zero d h lt = h.0
full_at (x ∷ xs) (suc i) d h lt = full_at xs i d h.1 (omega arith)

at_full : (kept : List (List Record)) (d : List Record) → ((i : ℕ) → i < length kept → get_or kept i d ≢ []) → AllByRecursion IsFull kept
at_full [] d h = tt
at_full (x ∷ xs) d h = (long_some x (h 0 (omega arith)), at_full xs d (λ i lt. h (suc i) (omega arith)))

pub are_generations : (kept : List (List Record)) → AreApart kept → length kept ≤ 8 → AreGenerations kept
are_generations kept h few = record {
  few = few;
  full = λ i lt. some_long (table_at i kept) (full_at kept i [] h.full lt);
  distinct = λ i j less lt e.
      let a = get_read kept i (table_at i kept) [] (omega arith) refl in
      let b = get_read kept j (table_at i kept) [] lt e in
      let same = h.apart i j (table_at i kept) a b in
      omega arith;
}

pub read_or : (kept : List (List Record)) (i : ℕ) (table : List Record) → slice_get kept i ≡ Some table → table_at i kept ≡ table
read_or [] i table at = absurd (let e : None ≡ Some table = at in cc)
read_or (x ∷ xs) zero table at = let e : x ≡ table = cc in e
read_or (x ∷ xs) (suc i) table at = read_or xs i table at

pub generations_apart : (kept : List (List Record)) → AreGenerations kept → AreApart kept
generations_apart kept h = record {
  full = at_full kept [] h.full;
  apart = λ i j table at bt.
      let less = get_below kept i table at in
      let low = get_below kept j table bt in
      let same : table_at i kept ≡ table_at j kept = read_or kept i table at ∙ sym (read_or kept j table bt) in
      by_cases (nat_lt i j) (i ≡ j) (λ h1. absurd (h.distinct i j (ltb-true i j h1) low same))
      (λ h1. by_cases (nat_lt j i) (i ≡ j) (λ h2. absurd (h.distinct j i (ltb-true j i h2) less (sym same))) (λ h2. omega (arith, ltb-false i j h1, ltb-false j i h2)));
}

-- ---- what their records use

each_uses : (tails : List (Tail Step)) (kept : List (List Record)) → (each (counted (record_piece tails)) kept).uses ≡ (each (record_piece tails) (records kept)).uses
unfolding each ◌⊕◌ plain
each_uses tails [] = refl
each_uses tails (table ∷ kept) =
    ap (λ l. flat_map (λ rec. (record_piece tails rec).uses) table ++ l) (each_uses tails kept) ∙ sym (flat_map-append (λ rec. (record_piece tails rec).uses) table (records kept))

pub kept_uses : (tails : List (Tail Step)) (kept : List (List Record)) → (kept_with tails kept).uses ≡ (spelt_with tails (records kept)).uses
unfolding ◌⊕◌ plain
kept_uses tails kept = ap (λ l. (counted (node_piece tails) tails).uses ++ l) (each_uses tails kept)

all_join : {X : Type 0} (P : X → Type 0) (xs ys : List X) → AllByRecursion P xs → AllByRecursion P ys → AllByRecursion P (xs ++ ys)
all_join P [] ys h k = k
all_join P (x ∷ xs) ys h k = (h.0, all_join P xs ys h.1 k)

pub all_split : {X : Type 0} (P : X → Type 0) (xs ys : List X) → AllByRecursion P (xs ++ ys) → AllByRecursion P xs × AllByRecursion P ys
all_split P [] ys h = (tt, h)
all_split P (x ∷ xs) ys h = let r = all_split P xs ys h.1 in ((h.0, r.0), r.1)

pub all_fit : (kept : List (List Record)) → AllByRecursion Fits kept → AllByRecursion FitsRecord (records kept)
all_fit [] h = tt
all_fit (table ∷ kept) h = all_join FitsRecord table (records kept) (let f = h.0 in f.records) (all_fit kept h.1)
