-- How the answers come together.
use Rattle.std.proofs.Common.{◌≡◌, ℕ, List, [], length, Bool, true, false, Option, Some, None, is_some, Result, Ok, Err, refl, sym, subst, inl, inr, ◌∙◌}
use Rattle.rk_base.specs.Text.{Text}
use Rattle.rk_folder.specs.Sinks.{with_bytes}
use Rattle.rk_folder.specs.Told.{Held}
use Rattle.rk_traces.specs.Started.{started}
use Rattle.tr_record.specs.Generations.{records}
use Rattle.tr_record.specs.declared.records.Record.{Record}
use Rattle.rk_database.specs.Texts.{Spells, StartsRecords, TextOf, no_trace}
use Rattle.rk_database.specs.Answers.{Calls, Checks, FindsDb, FindsWhether, Forgets, Front, Halts, Holds, IsSomeOf, PutsNone, PutSo, SaysNone, Shows, db_in}
use Rattle.rk_database.specs.declared.stop.Said.{Said}
use Rattle.rk_database.specs.declared.stop.Said.TheVariants as said
use Rattle.rk_database.specs.declared.stop.QueryErr.{QueryErr}
use Rattle.rk_database.specs.declared.stop.QueryErr.TheVariants as stop

holds-more : (told : Option Held) (P Q : Option Text → Type 0) → ((it : Option Text) → P it → Q it) → Holds told P → Holds told Q
holds-more None P Q f h = tt
holds-more (Some held) P Q f h = (h.0, f (db_in held) h.1)

-- why a text isn't there
abbrev pub IsTextStop : QueryErr → Type 0
IsTextStop (stop.Special path) = ⊥
IsTextStop stop.ReadFault = ⊥
IsTextStop stop.WriteFault = ⊥
IsTextStop other = Unit {0}

module _ (Of : TextOf) (R : Text → QueryErr → Type 0) (told : Option Held) where
  -- the state files weren't read
  pub finds-stops : (x : Option Text) (e : QueryErr) → FindsDb told (Err e) → Shows Of R told x x (Err e)
  finds-stops x (stop.Special path) h = (h, refl)
  finds-stops x (stop.Damaged damage) h = absurd h
  finds-stops x (stop.Forged rec step) h = absurd h
  finds-stops x stop.ReadFault h = refl
  finds-stops x stop.WriteFault h = absurd h
  finds-stops x stop.NoMemory h = inl refl

  none-called : (old new : Option Text) → Holds told (λ it. None ≡ it) → Front no_trace old new → Halts Of told old new
  none-called old new h front = inr (holds-more told (λ it. None ≡ it) (λ it. (text : Text) × (Calls Of it text × Front text old new)) (λ it e. (no_trace, (subst (λ (o : Option Text). Calls Of o no_trace) e refl, front))) h)

  -- there is no database
  pub shows-none : (old new : Option Text) (r : Result Said QueryErr) → FindsDb told (Ok None) → PutsNone old new r → Shows Of R told old new r
  shows-none old new (Ok said.Done) h put = absurd put
  shows-none old new (Ok said.NoTrace) h put = (holds-more told (λ it. None ≡ it) (λ it. it ≡ None) (λ it e. sym e) h, put)
  shows-none old new (Err (stop.Special path)) h put = absurd put
  shows-none old new (Err (stop.Damaged damage)) h put = absurd put
  shows-none old new (Err (stop.Forged rec step)) h put = absurd put
  shows-none old new (Err stop.ReadFault) h put = absurd put
  shows-none old new (Err stop.WriteFault) h put = none-called old new h put
  shows-none old new (Err stop.NoMemory) h put = none-called old new h put

  at-db : (db : Text) (P : Text → Type 0) → FindsDb told (Ok (Some db)) → P db → Holds told (λ it. IsSomeOf it P)
  at-db db P h p = holds-more told (λ it. Some db ≡ it) (λ it. IsSomeOf it P) (λ it e. subst (λ (o : Option Text). IsSomeOf o P) e p) h

  -- there is no text for it
  pub shows-stops : (x : Option Text) (db : Text) (e : QueryErr) → FindsDb told (Ok (Some db)) → IsTextStop e → R db e → Shows Of R told x x (Err e)
  shows-stops x db (stop.Special path) h s r = absurd s
  shows-stops x db (stop.Damaged damage) h s r = (at-db db (λ db. R db (stop.Damaged damage)) h r, refl)
  shows-stops x db (stop.Forged rec step) h s r = (at-db db (λ db. R db (stop.Forged rec step)) h r, refl)
  shows-stops x db stop.ReadFault h s r = absurd s
  shows-stops x db stop.WriteFault h s r = absurd s
  shows-stops x db stop.NoMemory h s r = inl refl

  halts : (old new : Option Text) (db text : Text) → FindsDb told (Ok (Some db)) → Of db text → Front text old new → Halts Of told old new
  halts old new db text h of front = inr (holds-more told (λ it. Some db ≡ it) (λ it. (t : Text) × (Calls Of it t × Front t old new)) (λ it e. (text, (subst (λ (o : Option Text). Calls Of o text) e of, front))) h)

  -- the text wasn't put whole
  pub shows-cut : (old new : Option Text) (db text : Text) (e : QueryErr) → FindsDb told (Ok (Some db)) → Of db text → PutSo {T = Unit {0}} text old new (Err e) → Shows Of R told old new (Err e)
  shows-cut old new db text (stop.Special path) h of put = absurd put
  shows-cut old new db text (stop.Damaged damage) h of put = absurd put
  shows-cut old new db text (stop.Forged rec step) h of put = absurd put
  shows-cut old new db text stop.ReadFault h of put = absurd put
  shows-cut old new db text stop.WriteFault h of put = halts old new db text h of put
  shows-cut old new db text stop.NoMemory h of put = halts old new db text h of put

  -- it was
  pub shows-done : (old new : Option Text) (db text : Text) → FindsDb told (Ok (Some db)) → Of db text → new ≡ with_bytes text old → Shows Of R told old new (Ok said.Done)
  shows-done old new db text h of put = at-db db (λ db. (text : Text) × (Of db text × (new ≡ with_bytes text old))) h (text, (of, put))

-- The starts of a check.

pub finds-checks : (told : Option Held) (n : ℕ) (e : QueryErr) → FindsDb told (Err e) → Checks told n n (Err e)
finds-checks told n (stop.Special path) h = refl
finds-checks told n (stop.Damaged damage) h = absurd h
finds-checks told n (stop.Forged rec step) h = absurd h
finds-checks told n stop.ReadFault h = refl
finds-checks told n stop.WriteFault h = absurd h
finds-checks told n stop.NoMemory h = tt

pub checks-none : (told : Option Held) (n : ℕ) (old new : Option Text) (r : Result Said QueryErr) → PutsNone old new r → Checks told n n r
checks-none told n old new (Ok said.Done) put = absurd put
checks-none told n old new (Ok said.NoTrace) put = refl
checks-none told n old new (Err (stop.Special path)) put = absurd put
checks-none told n old new (Err (stop.Damaged damage)) put = absurd put
checks-none told n old new (Err (stop.Forged rec step)) put = absurd put
checks-none told n old new (Err stop.ReadFault) put = absurd put
checks-none told n old new (Err stop.WriteFault) put = tt
checks-none told n old new (Err stop.NoMemory) put = tt

pub checks-stops : (told : Option Held) (before now : ℕ) (db : Text) (e : QueryErr) → IsTextStop e → StartsRecords db before now (Err e) → Checks told before now (Err e)
checks-stops told before now db (stop.Special path) s h = absurd s
checks-stops told before now db (stop.Damaged damage) s h = h
checks-stops told before now db (stop.Forged rec step) s h = h
checks-stops told before now db stop.ReadFault s h = absurd s
checks-stops told before now db stop.WriteFault s h = absurd s
checks-stops told before now db stop.NoMemory s h = tt

pub checks-cut : (told : Option Held) (before now : ℕ) (text : Text) (old new : Option Text) (e : QueryErr) → PutSo {T = Unit {0}} text old new (Err e) → Checks told before now (Err e)
checks-cut told before now text old new (stop.Special path) put = absurd put
checks-cut told before now text old new (stop.Damaged damage) put = absurd put
checks-cut told before now text old new (stop.Forged rec step) put = absurd put
checks-cut told before now text old new stop.ReadFault put = absurd put
checks-cut told before now text old new stop.WriteFault put = tt
checks-cut told before now text old new stop.NoMemory put = tt

pub checks-done : (told : Option Held) (before now : ℕ) (db text : Text) → FindsDb told (Ok (Some db)) → StartsRecords db before now (Ok text) → Checks told before now (Ok said.Done)
checks-done told before now db text h so =
    holds-more told (λ it. Some db ≡ it) (λ it. IsSomeOf it (λ db. (kept : List (List Record)) × (Spells db kept × (now ≡ started (length (records kept)) before)))) (λ it e. subst (λ (o : Option Text). IsSomeOf o (λ db. (kept : List (List Record)) × (Spells db kept × (now ≡ started (length (records kept)) before)))) e so) h

-- Whether it stands.

pub stands-none : (told : Option Held) (b : Bool) → b ≡ false → FindsWhether told (Ok b) → FindsDb told (Ok None)
stands-none None b is h = tt
stands-none (Some held) b is h = (h.0, absent (db_in held) (sym h.1 ∙ is)) where
  absent : (it : Option Text) → is_some it ≡ false → None ≡ it
  absent None e = refl
  absent (Some db) e = cc

pub stands-some : (told : Option Held) (b : Bool) → b ≡ true → FindsWhether told (Ok b) → (db : Text) × FindsDb told (Ok (Some db))
stands-some None b is h = ([], tt)
stands-some (Some held) b is h = let e = there (db_in held) (sym h.1 ∙ is) in (e.0, (h.0, e.1)) where
  there : (it : Option Text) → is_some it ≡ true → (db : Text) × (Some db ≡ it)
  there None e = absurd cc
  there (Some db) e = (db, refl)

pub stands-stops : (told : Option Held) (e : QueryErr) → FindsWhether told (Err e) → FindsDb told (Err e)
stands-stops told (stop.Special path) h = h
stands-stops told (stop.Damaged damage) h = h
stands-stops told (stop.Forged rec step) h = h
stands-stops told stop.ReadFault h = h
stands-stops told stop.WriteFault h = h
stands-stops told stop.NoMemory h = h

-- The removal.

pub finds-forgets : (told now : Option Held) (e : QueryErr) → FindsDb told (Err e) → now ≡ told → Forgets told now (Err e)
finds-forgets told now (stop.Special path) h same = (h, same)
finds-forgets told now (stop.Damaged damage) h same = absurd h
finds-forgets told now (stop.Forged rec step) h same = absurd h
finds-forgets told now stop.ReadFault h same = same
finds-forgets told now stop.WriteFault h same = absurd h
finds-forgets told now stop.NoMemory h same = same

is-none : (told : Option Held) → FindsDb told (Ok None) → Holds told (λ it. it ≡ None)
is-none told h = holds-more told (λ it. None ≡ it) (λ it. it ≡ None) (λ it e. sym e) h

pub forgets-none : (told now : Option Held) (old new : Option Text) (r : Result Said QueryErr) → FindsDb told (Ok None) → PutsNone old new r → now ≡ told → Forgets told now r
forgets-none told now old new (Ok said.Done) h put same = absurd put
forgets-none told now old new (Ok said.NoTrace) h put same = (is-none told h, same)
forgets-none told now old new (Err (stop.Special path)) h put same = absurd put
forgets-none told now old new (Err (stop.Damaged damage)) h put same = absurd put
forgets-none told now old new (Err (stop.Forged rec step)) h put same = absurd put
forgets-none told now old new (Err stop.ReadFault) h put same = same
forgets-none told now old new (Err stop.WriteFault) h put same = same
forgets-none told now old new (Err stop.NoMemory) h put same = same

pub says-none : (told : Option Held) (old new : Option Text) (r : Result Said QueryErr) → FindsDb told (Ok None) → PutsNone old new r → SaysNone told old new r
says-none told old new (Ok said.Done) h put = absurd put
says-none told old new (Ok said.NoTrace) h put = (is-none told h, put)
says-none told old new (Err (stop.Special path)) h put = absurd put
says-none told old new (Err (stop.Damaged damage)) h put = absurd put
says-none told old new (Err (stop.Forged rec step)) h put = absurd put
says-none told old new (Err stop.ReadFault) h put = absurd put
says-none told old new (Err stop.WriteFault) h put = inr (is-none told h, put)
says-none told old new (Err stop.NoMemory) h put = inr (is-none told h, put)
