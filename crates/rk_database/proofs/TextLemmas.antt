-- Why there is no text.
use Rattle.std.proofs.Common.{◌≡◌, ℕ, List, [], ◌∷◌, slice_get, Some, None, Err, refl, sym, subst, inl, inr}
use Rattle.std.specs.List.{AllByRecursion}
use Rattle.rk_base.specs.Text.{Text}
use Rattle.rk_calls.specs.Keys.{KeyValue}
use Rattle.rk_calls.specs.Talk.{Says}
use Rattle.rk_show.specs.Traces.{IsCounted}
use Rattle.tr_codec.specs.Fits.{Fits, FitsRecord}
use Rattle.tr_codec.specs.Spelt.{IsSpelling}
use Rattle.tr_codec.proofs.SoundLemmas.{old_fits}
use Rattle.tr_kept.specs.KeptSpelling.{FitsKept, IsKeptSpelling, one_of}
use Rattle.tr_parts.specs.Reads.{Finds, Tells}
use Rattle.tr_parts.specs.declared.fault.CodecErr.{CodecErr}
use Rattle.tr_parts.specs.declared.fault.CodecErr.TheVariants as fault
use Rattle.tr_parts.specs.declared.fault.Damage.{Damage}
use Rattle.tr_record.specs.Generations.{table_at}
use Rattle.tr_record.specs.declared.records.Record.{Record}
use Rattle.rk_database.specs.Texts.{IsDamaged, NoCheck, NoTrace, Spells, StartsRecords}
use Rattle.rk_database.specs.declared.stop.QueryErr.{QueryErr}
use Rattle.rk_database.specs.declared.stop.QueryErr.TheVariants as stop
use Rattle.rk_database.proofs.AnswerLemmas.{IsTextStop}

pub trace-stop : (db : Text) (e : QueryErr) → NoTrace db e → IsTextStop e
trace-stop db (stop.Special path) h = h
trace-stop db (stop.Damaged damage) h = tt
trace-stop db (stop.Forged rec step) h = tt
trace-stop db stop.ReadFault h = h
trace-stop db stop.WriteFault h = h
trace-stop db stop.NoMemory h = tt

pub check-stop : (first : KeyValue → Says) (db : Text) (e : QueryErr) → NoCheck first db e → IsTextStop e
check-stop first db (stop.Special path) h = h
check-stop first db (stop.Damaged damage) h = tt
check-stop first db (stop.Forged rec step) h = tt
check-stop first db stop.ReadFault h = h
check-stop first db stop.WriteFault h = h
check-stop first db stop.NoMemory h = tt

-- a check is refused for what a trace is refused for
pub trace-check : (first : KeyValue → Says) (db : Text) (e : QueryErr) → NoTrace db e → NoCheck first db e
trace-check first db (stop.Special path) h = h
trace-check first db (stop.Damaged damage) h = h
trace-check first db (stop.Forged rec step) h = absurd h
trace-check first db stop.ReadFault h = h
trace-check first db stop.WriteFault h = h
trace-check first db stop.NoMemory h = h

-- and then nothing was started
pub trace-unstarted : (db : Text) (n : ℕ) (e : QueryErr) → NoTrace db e → StartsRecords db n n (Err e)
trace-unstarted db n (stop.Special path) h = absurd h
trace-unstarted db n (stop.Damaged damage) h = refl
trace-unstarted db n (stop.Forged rec step) h = absurd h
trace-unstarted db n stop.ReadFault h = absurd h
trace-unstarted db n stop.WriteFault h = absurd h
trace-unstarted db n stop.NoMemory h = tt

counted : (table : List Record) → AllByRecursion FitsRecord table → AllByRecursion IsCounted table
counted [] h = tt
counted (rec ∷ table) h = (h.0.paid, counted table h.1)

table-counted : (table : List Record) → Fits table → AllByRecursion IsCounted table
table-counted table fits = counted table fits.records

newest-counted : (kept : List (List Record)) → AllByRecursion Fits kept → AllByRecursion IsCounted (table_at 0 kept)
newest-counted [] fits = tt
newest-counted (table ∷ kept) fits = table-counted table fits.0

one-counted : (table : List Record) → Fits table → AllByRecursion IsCounted (table_at 0 (one_of table))
one-counted [] fits = tt
one-counted (rec ∷ table) fits = table-counted (rec ∷ table) fits

old-counted : (db : Text) (table : List Record) → IsSpelling db table → AllByRecursion IsCounted (table_at 0 (one_of table))
old-counted db table (inl new) = one-counted table new.0
old-counted db table (inr old) = one-counted table (old_fits table old.0)

-- records that have a spelling paid numbers of 64 bits
pub spelt-counted : (db : Text) (kept : List (List Record)) → Spells db kept → AllByRecursion IsCounted (table_at 0 kept)
spelt-counted db kept (inl latest) = newest-counted kept (let f : FitsKept kept = latest.0 in f.tables)
spelt-counted db kept (inr one) = subst (λ (k : List (List Record)). AllByRecursion IsCounted (table_at 0 k)) (sym one.1) (old-counted db one.0 one.2)

-- bytes that aren't read spell no tables
pub told-damaged : (db : Text) (e : CodecErr) (damage : Damage) → e ≡ fault.Damaged damage → Tells {T = List (List Record)} 52 db (Err e) → ((kept : List (List Record)) → IsKeptSpelling db kept → Finds (Err e) kept) → IsDamaged db damage
told-damaged db e damage is tells only =
    (subst (λ (e : CodecErr). Tells {T = List (List Record)} 52 db (Err e)) is tells, λ kept spells. subst (λ (e : CodecErr). Finds (Err e) kept) is (only kept spells))

-- The newest table.

pub no-table : (kept : List (List Record)) → None ≡ slice_get kept 0 → table_at 0 kept ≡ []
no-table [] is = refl
no-table (table ∷ kept) is = absurd cc

pub newest : (kept : List (List Record)) (table : List Record) → Some table ≡ slice_get kept 0 → table ≡ table_at 0 kept
newest [] table is = absurd cc
newest (it ∷ kept) table is = cc
