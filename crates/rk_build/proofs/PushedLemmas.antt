-- What is kept once a run's records are first among the tables.
use Rattle.std.proofs.Common.{◌≡◌, ◌≢◌, inl, inr, ℕ, zero, suc, ◌<◌, List, [], ◌∷◌, ◌++◌, length, take, Option, Some, None, Result, Ok, Err, refl, sym, ap, subst, ◌∙◌, arith}
use Rattle.std.specs.Prelude.{remove, IfOk, OnOk}
use Rattle.std.specs.List.{AllByRecursion}
use Rattle.rk_base.specs.Text.{Text}
use Rattle.rk_base.specs.declared.memory.NoMemory.{NoMemory}
use Rattle.rk_calls.specs.Keys.{KeyValue}
use Rattle.rk_calls.specs.Talk.{Says}
use Rattle.rk_traces.specs.Spoken.{AreSpoken, IsSpoken}
use Rattle.tr_record.specs.Generations.{AreGenerations, IsPushed, records, table_at}
use Rattle.tr_record.specs.declared.records.Record.{Record}
use Rattle.tr_codec.specs.Fits.{Fits}
use Rattle.tr_codec.specs.Sound.{IsSound}
use Rattle.tr_codec.specs.Spelt.{IsSpelling}
use Rattle.tr_codec.proofs.SoundLemmas.{old_fits}
use Rattle.tr_kept.specs.KeptSpelling.{FitsKept, IsKeptSpelling, kept_spelling, one_of}
use Rattle.rk_build.specs.Kept.{Spells}
use Rattle.rk_build.specs.Stages.{MayFit}

-- What is so of each of some tables.

module _ {X : Type 0} (P : X → Type 0) where
  all-join : (xs ys : List X) → AllByRecursion P xs → AllByRecursion P ys → AllByRecursion P (xs ++ ys)
  all-join [] ys h k = k
  all-join (x ∷ xs) ys h k = (h.0, all-join xs ys h.1 k)

  all-split : (xs ys : List X) → AllByRecursion P (xs ++ ys) → AllByRecursion P xs × AllByRecursion P ys
  all-split [] ys h = (tt, h)
  all-split (x ∷ xs) ys h = let r = all-split xs ys h.1 in ((h.0, r.0), r.1)

  all-remove : (xs : List X) (i : ℕ) → AllByRecursion P xs → AllByRecursion P (remove xs i)
  all-remove [] zero h = tt
  all-remove [] (suc i) h = tt
  all-remove (x ∷ xs) zero h = h.1
  all-remove (x ∷ xs) (suc i) h = (h.0, all-remove xs i h.1)

  all-take : (n : ℕ) (xs : List X) → AllByRecursion P xs → AllByRecursion P (take n xs)
  all-take zero xs h = tt
  all-take (suc n) [] h = tt
  all-take (suc n) (x ∷ xs) h = (h.0, all-take n xs h.1)

pushed-all : (Q : List Record → Type 0) (table : List Record) (old new : List (List Record)) → IsPushed table old new → Q table → AllByRecursion Q old → AllByRecursion Q new
pushed-all Q table old new (inl moved) here all = subst (AllByRecursion Q) (sym moved.3) (here, all-remove Q old moved.0 all)
pushed-all Q table old new (inr added) here all = subst (AllByRecursion Q) (sym added.1) (all-take Q 8 (table ∷ old) (here, all))

-- of each record of each table

tables-each : (P : Record → Type 0) (kept : List (List Record)) → AllByRecursion P (records kept) → AllByRecursion (AllByRecursion P) kept
tables-each P [] h = tt
tables-each P (table ∷ kept) h = let s = all-split P table (records kept) h in (s.0, tables-each P kept s.1)

each-tables : (P : Record → Type 0) (kept : List (List Record)) → AllByRecursion (AllByRecursion P) kept → AllByRecursion P (records kept)
each-tables P [] h = tt
each-tables P (table ∷ kept) h = all-join P table (records kept) h.0 (each-tables P kept h.1)

-- Spoken records.

spoken-each : (first : KeyValue → Says) (table : List Record) → AreSpoken first table → AllByRecursion (IsSpoken first) table
spoken-each first [] h = tt
spoken-each first (r ∷ rs) h = (h 0 (omega arith), spoken-each first rs (λ i l. h (suc i) (omega arith)))

each-spoken : (first : KeyValue → Says) (table : List Record) → AllByRecursion (IsSpoken first) table → AreSpoken first table
each-spoken first [] h i l = absurd (omega arith)
each-spoken first (r ∷ rs) h zero l = h.0
each-spoken first (r ∷ rs) h (suc i) l = each-spoken first rs h.1 i (omega arith)

spoken-tables : (first : KeyValue → Says) (old : List (List Record)) → AreSpoken first (records old) → AllByRecursion (AllByRecursion (IsSpoken first)) old
spoken-tables first old spoken = tables-each (IsSpoken first) old (spoken-each first (records old) spoken)

-- all that is kept is spoken still
pub pushed-spoken : (first : KeyValue → Says) (table : List Record) (old new : List (List Record)) → IsPushed table old new → AreSpoken first table → AreSpoken first (records old) → AreSpoken first (records new)
pushed-spoken first table old new is here all =
    each-spoken first (records new)
    (each-tables (IsSpoken first) new (pushed-all (AllByRecursion (IsSpoken first)) table old new is (spoken-each first table here) (spoken-tables first old all)))

-- Tables that have a spelling.

one-fits : (table : List Record) → Fits table → AllByRecursion Fits (one_of table)
one-fits [] fits = tt
one-fits (rec ∷ table) fits = (fits, tt)

spelling-fits : (bytes : Text) (table : List Record) → IsSpelling bytes table → Fits table
spelling-fits bytes table (inl now) = now.0
spelling-fits bytes table (inr old) = old_fits table old.0

kept-fits : (bytes : Text) (kept : List (List Record)) → IsKeptSpelling bytes kept → AllByRecursion Fits kept
kept-fits bytes kept (inl fits) = let f : FitsKept kept = fits.0 in f.tables
kept-fits bytes kept (inr one) = subst (AllByRecursion Fits) (sym one.1) (one-fits one.0 (spelling-fits bytes one.0 one.2))

-- those of a database
pub spelt-fits : (db : Option Text) (kept : List (List Record)) → Spells db kept → AllByRecursion Fits kept
spelt-fits None kept spells = subst (AllByRecursion Fits) (sym spells) tt
spelt-fits (Some bytes) kept spells = kept-fits bytes kept spells

one-alone : (table : List Record) → AreGenerations (one_of table)
one-alone [] = record { few = omega arith; full = λ i h. absurd (omega arith); distinct = λ i j less h. absurd (omega arith) }
one-alone (rec ∷ table) = record { few = omega arith; full = full; distinct = λ i j less h. absurd (omega arith) } where
  full : (i : ℕ) → i < 1 → table_at i ((rec ∷ table) ∷ []) ≢ []
  full zero h same = cc
  full (suc i) h same = absurd (omega arith)

-- and they may be kept
pub spelt-are : (db : Option Text) (kept : List (List Record)) → Spells db kept → AreGenerations kept
spelt-are None kept spells = subst AreGenerations (sym spells) (one-alone [])
spelt-are (Some bytes) kept (inl fits) = let f : FitsKept kept = fits.0 in f.are
spelt-are (Some bytes) kept (inr one) = subst AreGenerations (sym one.1) (one-alone one.0)

-- the table that was pushed is the first
pub pushed-first : (Q : List Record → Type 0) (table : List Record) (old new : List (List Record)) → IsPushed table old new → AllByRecursion Q new → Q table
pushed-first Q table old new (inl moved) all = let a = subst (AllByRecursion Q) moved.3 all in a.0
pushed-first Q table old new (inr added) all = let a = subst (AllByRecursion Q) added.1 all in a.0

-- so what is kept has a spelling where what was pushed is sound
pub pushed-fits : (db : Option Text) (table : List Record) (old new : List (List Record)) → Spells db old → IsPushed table old new → MayFit new → AllByRecursion IsSound table → FitsKept new
pushed-fits db table old new spells is fit sound = record {
  tables = pushed-all Fits table old new is (pushed-first (λ table. AllByRecursion IsSound table → Fits table) table old new is fit.fits sound) (spelt-fits db old spells);
  are = fit.are;
}

-- What is pushed comes to one list.

least : {X : Type 0} (i j : ℕ) → (i < j → X) → (j < i → X) → (i ≡ j → X) → X
least zero zero less more same = same refl
least zero (suc j) less more same = less (omega arith)
least (suc i) zero less more same = more (omega arith)
least (suc i) (suc j) less more same = least i j (λ h. less (omega arith)) (λ h. more (omega arith)) (λ e. same (ap suc e))

same-place : (table : List Record) (old : List (List Record)) (i j : ℕ) → AreGenerations old → i < length old → j < length old → table_at i old ≡ table → table_at j old ≡ table → i ≡ j
same-place table old i j are hi hj is also =
    least i j (λ less. absurd (are.distinct i j less hj (is ∙ sym also))) (λ more. absurd (are.distinct j i more hi (also ∙ sym is))) (λ same. same)

pub pushed-one : (table : List Record) (old a b : List (List Record)) → AreGenerations old → IsPushed table old a → IsPushed table old b → a ≡ b
pushed-one table old a b are (inl x) (inl y) = x.3 ∙ ap (λ (i : ℕ). table ∷ remove old i) (same-place table old x.0 y.0 are x.1 y.1 x.2 y.2) ∙ sym y.3
pushed-one table old a b are (inl x) (inr y) = absurd (y.0 x.0 x.1 x.2)
pushed-one table old a b are (inr x) (inl y) = absurd (x.0 y.0 y.1 y.2)
pushed-one table old a b are (inr x) (inr y) = x.1 ∙ sym y.1

-- What is as found.

-- a table that is the newest already is so still
pub found-pushed : (table : List Record) (old : List (List Record)) → 0 < length old → table_at 0 old ≡ table → IsPushed table old old
found-pushed table [] lt is = absurd (omega arith)
found-pushed table (it ∷ old) lt is = inl (0, lt, is, ap (λ (t : List Record). t ∷ old) is)

may-fit : (kept : List (List Record)) → AllByRecursion Fits kept → AllByRecursion (λ table. AllByRecursion IsSound table → Fits table) kept
may-fit [] h = tt
may-fit (table ∷ kept) h = (λ sound. h.0, may-fit kept h.1)

-- bytes of the present version that spell some tables are their spelling
pub latest-spelling : (slice was : Text) (kept : List (List Record)) → slice ≡ was → ((it : List (List Record)) → IsKeptSpelling slice it → FitsKept it × (slice ≡ kept_spelling it)) → IsKeptSpelling was kept → FitsKept kept × (was ≡ kept_spelling kept)
latest-spelling slice was kept same tells spells = let it = tells kept (subst (λ (t : Text). IsKeptSpelling t kept) (sym same) spells) in (it.0, sym same ∙ it.1)

pub copied-spelling : (copy : Result Text NoMemory) (was : Text) (kept : List (List Record)) → IfOk copy (λ bytes. bytes ≡ was) → was ≡ kept_spelling kept → IfOk copy (λ bytes. bytes ≡ kept_spelling kept)
copied-spelling (Ok bytes) was kept same spells = same ∙ spells
copied-spelling (Err want) was kept same spells = tt

pub copied-fit : (copy : Result Text NoMemory) (kept : List (List Record)) → FitsKept kept → OnOk copy (MayFit kept)
copied-fit (Ok bytes) kept fit = record { are = fit.are; fits = may-fit kept fit.tables }
copied-fit (Err want) kept fit = tt

-- what was written has one where its records are sound
pub written-fit : (written : Result Text NoMemory) (kept : List (List Record)) → OnOk written (AreGenerations kept) → OnOk written (AllByRecursion (λ table. AllByRecursion IsSound table → Fits table) kept) → OnOk written (MayFit kept)
written-fit (Ok bytes) kept are fits = record { are = are; fits = fits }
written-fit (Err want) kept are fits = tt
