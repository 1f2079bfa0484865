-- What the calls below tell, as this crate tells it.
use Rattle.std.proofs.Common.{◌≡◌, ◌≤◌, ℕ, Bool, true, false, Option, Some, None, IsSome, option_map, MatchBool, Result, Ok, Err, refl, sym, ap, subst, ◌∙◌, inl, inr, arith}
use Rattle.std.proofs.lemmas.Bool.{false≢true}
use Rattle.rk_base.specs.Text.{Text}
use Rattle.rk_folder.specs.Calls.{Caused, IsNoFault as IsNoFolderFault, Steadily, allows}
use Rattle.rk_folder.specs.Counts.{Rose}
use Rattle.rk_folder.specs.Hidden.{db_file}
use Rattle.rk_folder.specs.Told.{Held, can_remove_file, standing, is_file, bytes_in, without}
use Rattle.rk_folder.specs.declared.folder.FolderErr.{FolderErr}
use Rattle.rk_folder.specs.declared.folder.FolderErr.TheVariants as folder
use Rattle.rk_folder.specs.declared.folder.Standing.{Standing}
use Rattle.rk_folder.specs.declared.folder.Standing.TheVariants.{File, Dir, Special}
use Rattle.rk_database.specs.Answers.{EitherCounted, FindsDb, Forgets, Holds, IsNoFault, PutSo, PutsNone, ReadsCounted, SaysNone, WritesCounted, db_in}
use Rattle.rk_database.specs.declared.stop.Said.{Said}
use Rattle.rk_database.specs.declared.stop.Said.TheVariants as said
use Rattle.rk_database.specs.declared.stop.QueryErr.{QueryErr}
use Rattle.rk_database.specs.declared.stop.QueryErr.TheVariants as stop
use Rattle.rk_database.proofs.AnswerLemmas.{IsTextStop}

-- The same of an answer of another type.

pub writes-again : (T U : Type 0) (before now : ℕ) (e : QueryErr) → WritesCounted {T = T} before now (Err e) → WritesCounted {T = U} before now (Err e)
writes-again T U before now (stop.Special path) h = h
writes-again T U before now (stop.Damaged damage) h = h
writes-again T U before now (stop.Forged rec step) h = h
writes-again T U before now stop.ReadFault h = h
writes-again T U before now stop.WriteFault h = h
writes-again T U before now stop.NoMemory h = h

pub reads-again : (T U : Type 0) (before now : ℕ) (e : QueryErr) → ReadsCounted {T = T} before now (Err e) → ReadsCounted {T = U} before now (Err e)
reads-again T U before now (stop.Special path) h = h
reads-again T U before now (stop.Damaged damage) h = h
reads-again T U before now (stop.Forged rec step) h = h
reads-again T U before now stop.ReadFault h = h
reads-again T U before now stop.WriteFault h = h
reads-again T U before now stop.NoMemory h = h

pub no-fault-again : (T U : Type 0) (e : QueryErr) → IsNoFault {T = T} (Err e) → IsNoFault {T = U} (Err e)
no-fault-again T U (stop.Special path) h = h
no-fault-again T U (stop.Damaged damage) h = h
no-fault-again T U (stop.Forged rec step) h = h
no-fault-again T U stop.ReadFault h = h
no-fault-again T U stop.WriteFault h = h
no-fault-again T U stop.NoMemory h = h

-- What isn't counted.

-- the state files weren't read: nothing was put or removed
pub unput : (told : Option Held) (n : ℕ) (e : QueryErr) → FindsDb told (Err e) → WritesCounted {T = Said} n n (Err e)
unput told n (stop.Special path) h = refl
unput told n (stop.Damaged damage) h = absurd h
unput told n (stop.Forged rec step) h = absurd h
unput told n stop.ReadFault h = refl
unput told n stop.WriteFault h = absurd h
unput told n stop.NoMemory h = refl

pub unsaid : (told : Option Held) (old : Option Text) (e : QueryErr) → FindsDb told (Err e) → SaysNone told old old (Err e)
unsaid told old (stop.Special path) h = refl
unsaid told old (stop.Damaged damage) h = absurd h
unsaid told old (stop.Forged rec step) h = absurd h
unsaid told old stop.ReadFault h = refl
unsaid told old stop.WriteFault h = absurd h
unsaid told old stop.NoMemory h = inl refl

pub unremoved : (told : Option Held) (m n k : ℕ) (e : QueryErr) → FindsDb told (Err e) → n ≡ m → EitherCounted {T = Said} m n k k (Err e)
unremoved told m n k (stop.Special path) h same = (same, refl)
unremoved told m n k (stop.Damaged damage) h same = absurd h
unremoved told m n k (stop.Forged rec step) h same = absurd h
unremoved told m n k stop.ReadFault h same = (same, refl)
unremoved told m n k stop.WriteFault h same = absurd h
unremoved told m n k stop.NoMemory h same = (same, refl)

-- that there is no database is no read fault
pub unread : (before now : ℕ) (old new : Option Text) (r : Result Said QueryErr) → PutsNone old new r → now ≡ before → ReadsCounted before now r
unread before now old new (Ok said.Done) h same = same
unread before now old new (Ok said.NoTrace) h same = same
unread before now old new (Err (stop.Special path)) h same = same
unread before now old new (Err (stop.Damaged damage)) h same = same
unread before now old new (Err (stop.Forged rec step)) h same = same
unread before now old new (Err stop.ReadFault) h same = absurd h
unread before now old new (Err stop.WriteFault) h same = same
unread before now old new (Err stop.NoMemory) h same = same

-- nor is that a text wasn't put whole
pub cut-reads : (before now : ℕ) (text : Text) (old new : Option Text) (e : QueryErr) → PutSo {T = Unit {0}} text old new (Err e) → now ≡ before → ReadsCounted {T = Said} before now (Err e)
cut-reads before now text old new (stop.Special path) h same = same
cut-reads before now text old new (stop.Damaged damage) h same = same
cut-reads before now text old new (stop.Forged rec step) h same = same
cut-reads before now text old new stop.ReadFault h same = absurd h
cut-reads before now text old new stop.WriteFault h same = same
cut-reads before now text old new stop.NoMemory h same = same

-- and why there is no text is no fault
pub text-reads : (before now : ℕ) (e : QueryErr) → IsTextStop e → now ≡ before → ReadsCounted {T = Said} before now (Err e)
text-reads before now (stop.Special path) h same = same
text-reads before now (stop.Damaged damage) h same = same
text-reads before now (stop.Forged rec step) h same = same
text-reads before now stop.ReadFault h same = absurd h
text-reads before now stop.WriteFault h same = same
text-reads before now stop.NoMemory h same = same

pub text-unput : (n : ℕ) (e : QueryErr) → IsTextStop e → WritesCounted {T = Said} n n (Err e)
text-unput n (stop.Special path) h = refl
text-unput n (stop.Damaged damage) h = refl
text-unput n (stop.Forged rec step) h = refl
text-unput n stop.ReadFault h = refl
text-unput n stop.WriteFault h = absurd h
text-unput n stop.NoMemory h = refl

pub text-no-fault : (e : QueryErr) → IsTextStop e → IsNoFault {T = Said} (Err e)
text-no-fault (stop.Special path) h = tt
text-no-fault (stop.Damaged damage) h = tt
text-no-fault (stop.Forged rec step) h = tt
text-no-fault stop.ReadFault h = absurd h
text-no-fault stop.WriteFault h = absurd h
text-no-fault stop.NoMemory h = tt

-- a put that failed is all that is counted of it
pub said-counted : (m n before now : ℕ) (r : Result Said QueryErr) → n ≡ m → WritesCounted before now r → EitherCounted m n before now r
said-counted m n before now (Ok said.Done) same h = (same, h)
said-counted m n before now (Ok said.NoTrace) same h = (same, h)
said-counted m n before now (Err (stop.Special path)) same h = (same, h)
said-counted m n before now (Err (stop.Damaged damage)) same h = (same, h)
said-counted m n before now (Err (stop.Forged rec step)) same h = (same, h)
said-counted m n before now (Err stop.ReadFault) same h = (same, h)
said-counted m n before now (Err stop.WriteFault) same h = (omega arith, h.0, inr h.1)
said-counted m n before now (Err stop.NoMemory) same h = (same, h)

-- The removal.

file-of : (it : Option Standing) (db : Text) → Some db ≡ bytes_in it → is_file it ≡ true
file-of None db h = absurd cc
file-of (Some (File bytes)) db h = refl
file-of (Some Dir) db h = absurd cc
file-of (Some Special) db h = absurd cc

some-is : (it : Option Text) (db : Text) → Some db ≡ it → IsSome it
some-is None db h = absurd cc
some-is (Some x) db h = refl

some-held : (told : Option Held) (db : Text) → FindsDb told (Ok (Some db)) → Holds told (λ it. IsSome it)
some-held None db h = tt
some-held (Some held) db h = (h.0, some-is (db_in held) db h.1)

-- where the database stands it may be removed
removable : (told : Option Held) (db : Text) → FindsDb told (Ok (Some db)) → allows told (can_remove_file db_file) ≡ true
removable None db h = refl
removable (Some held) db h = file-of (standing held db_file) db h.1

-- of a folder that tells the same, and of its path
pub removable-now : (told now : Option Held) (db file : Text) → FindsDb told (Ok (Some db)) → now ≡ told → file ≡ db_file → allows now (can_remove_file file) ≡ true
removable-now told now db file h same is =
    subst (λ (t : Option Held). allows t (can_remove_file file) ≡ true) (sym same) (subst (λ (f : Text). allows told (can_remove_file f) ≡ true) (sym is) (removable told db h))

removal-fault : (start before now n : ℕ) (allowed : Bool) → before ≡ start → allowed ≡ true → (before ≤ now) × MatchBool allowed (Rose before now) (now ≡ before) → EitherCounted {T = Said} start now n n (Err stop.WriteFault)
removal-fault start before now n true same is h = (omega (arith, h.0), omega arith, inl (subst (λ (k : ℕ). Rose k now) same h.1))
removal-fault start before now n false same is h = absurd (false≢true is)

-- so a removal of it that fails is a fault
pub removal-counted : (start before now n : ℕ) (allowed : Bool) (e : FolderErr) → e ≡ folder.Failed → before ≡ start → allowed ≡ true → Caused {T = Unit {0}} before now allowed (Err e) → EitherCounted {T = Said} start now n n (Err stop.WriteFault)
removal-counted start before now n allowed e is same may caused =
    removal-fault start before now n allowed same may (subst (λ (x : FolderErr). Caused {T = Unit {0}} before now allowed (Err x)) is caused)

-- which a steady folder doesn't have
pub removal-steady : (before now : Bool) (allowed : Bool) (e : FolderErr) → e ≡ folder.Failed → before ≡ true → allowed ≡ true → Steadily {T = Unit {0}} before now allowed (Err e) → ⊥
removal-steady before now allowed e is was may steady = subst (λ (x : FolderErr). IsNoFolderFault {T = Unit {0}} (Err x)) is (steady.1 was may)

-- and one that is done takes away the database alone
pub forgets-done : (told now new : Option Held) (db file : Text) → FindsDb told (Ok (Some db)) → now ≡ told → file ≡ db_file → new ≡ option_map (without file) now → Forgets told new (Ok said.Done)
forgets-done told now new db file h same is left =
    (some-held told db h, left ∙ ap (λ (f : Text). option_map (without f) now) is ∙ ap (λ (t : Option Held). option_map (without db_file) t) same)
