-- Reads of files.
use Rattle.std.proofs.Common.{◌≡◌, ◌≤◌, ℕ, [], ◌∷◌, Bool, true, false, cond, inl, inr, Option, Some, None, Result, Ok, Err, option_map, refl, ap, subst, arith, ◌∙◌}
use Rattle.std.specs.Prelude.{MatchBool}
use Rattle.std.specs.FinMap.{get}
use Rattle.rk_base.specs.Text.{Text, is_within}
use Rattle.rk_tree.specs.Fetched.{Gives, Has}
use Rattle.rk_tree.specs.Full.{IsThere}
use Rattle.rk_folder.specs.Calls.{Caused, MemoryCaused, Reads, Steadily, allows, got_of}
use Rattle.rk_folder.specs.Counts.{Rose}
use Rattle.rk_folder.specs.Fetching.{KeptFolder, Lasting, MakesReads}
use Rattle.rk_folder.specs.Hidden.{hidden_dir}
use Rattle.rk_folder.specs.Import.{told_of}
use Rattle.rk_folder.specs.Schedule.{IsMade, OnSchedule, Schedule, after_call, after_calls}
use Rattle.rk_folder.specs.Told.{Held, bytes_in, can_read, is_file_or_nothing, standing}
use Rattle.rk_folder.specs.declared.folder.FolderCall.TheVariants as asks
use Rattle.rk_folder.specs.declared.folder.FolderErr.{FolderErr}
use Rattle.rk_folder.specs.declared.folder.FolderErr.TheVariants.{Failed, NoMemory}
use Rattle.rk_folder.specs.declared.folder.Got.{Got}
use Rattle.rk_folder.specs.declared.folder.Got.TheVariants.{Content, Absent}
use Rattle.rk_folder.specs.declared.folder.Standing.{Standing}
use Rattle.rk_folder.specs.declared.folder.Standing.TheVariants.{File, Dir, Special}
use Rattle.rk_folder.proofs.CallsLemmas.{call-made}
use Rattle.rk_folder.proofs.ListedLemmas.{get-told_of}

-- What a read leaves.

one-made : (made : _) (schedule : Option Schedule) → option_map (after_call made) schedule ≡ option_map (after_calls (made ∷ [])) schedule
one-made made None = refl
one-made made (Some schedule) = refl

made-one : (told : Option Held) (file : Text) (kept : Bool) (before now : Option Schedule) → Has (option_map told_of told) file → now ≡ option_map (after_call (asks.Read file, kept)) before → MakesReads told before now
made-one told file kept before now has is = ((asks.Read file, kept) ∷ [], (has, tt), is ∙ one-made (asks.Read file, kept) before)

made-read : {T : Type 0} (told : Option Held) (file : Text) (before now : Option Schedule) (result : Result T FolderErr) → Has (option_map told_of told) file → IsMade (asks.Read file) before now result → MakesReads told before now
made-read told file before now (Ok it) has h = made-one told file true before now has h
made-read told file before now (Err Failed) has h = made-one told file true before now has h
made-read told file before now (Err NoMemory) has (inl h) = made-one told file true before now has h
made-read told file before now (Err NoMemory) has (inr h) = made-one told file false before now has h

few : {T : Type 0} (before now : ℕ) (result : Result T FolderErr) → MemoryCaused before now result → before ≤ now
few before now (Ok it) h = omega (arith, h)
few before now (Err Failed) h = omega (arith, h)
few before now (Err NoMemory) h = h.0

pub kept-read : {T : Type 0} (old new : Lasting) (file : Text) (k l : ℕ) (before now : Option Schedule) (allowed : Bool) (result : Result T FolderErr) → Has (option_map told_of old.told) file → new.told ≡ old.told → new.writes ≡ old.writes → new.reach ≡ old.reach → MemoryCaused k l result → OnSchedule (asks.Read file) before now allowed result → KeptFolder old new k l before now
kept-read old new file k l before now allowed result has told writes reach memory schedule = record {
  held = λ i. record { told = told i; writes = writes i; reach = reach i };
  memory = few k l result memory;
  reads = made-read old.told file before now result has (call-made (asks.Read file) before now allowed result schedule);
}

-- What it gives.

got-bytes : (o : Option Standing) (bytes : Text) → got_of o ≡ Some (Content bytes) → bytes_in o ≡ Some bytes
got-bytes None bytes is = cc
got-bytes (Some (File own)) bytes is = let q : own ≡ bytes = cc in ap (λ (t : Text). Some t) q
got-bytes (Some Dir) bytes is = cc
got-bytes (Some Special) bytes is = cc

-- of a file that is listed

unhidden : (b : Bool) (o : Option Text) → IsThere (cond b None o) → IsThere o
unhidden true o has = absurd has
unhidden false o has = has

seen : (b : Bool) (o : Option Text) (bytes : Text) → IsThere (cond b None o) → o ≡ Some bytes → cond b None o ≡ Some bytes
seen true o bytes has is = absurd has
seen false o bytes has is = is

listed : (held : Held) (path : Text) → IsThere (get (told_of held) path) → IsThere (cond (is_within hidden_dir path) None (bytes_in (standing held path)))
listed held path has = subst IsThere (get-told_of held path) has

there : (held : Held) (path : Text) → IsThere (get (told_of held) path) → IsThere (bytes_in (standing held path))
there held path has = unhidden (is_within hidden_dir path) (bytes_in (standing held path)) (listed held path has)

pub gives-content : (told : Option Held) (path bytes : Text) → Has (option_map told_of told) path → Reads told path (Content bytes) → Gives (option_map told_of told) path bytes
gives-content None path bytes has reads = tt
gives-content (Some held) path bytes has reads = get-told_of held path ∙ seen (is_within hidden_dir path) (bytes_in (standing held path)) bytes (listed held path has) (got-bytes (standing held path) bytes reads)

none-there : (o : Option Standing) → IsThere (bytes_in o) → got_of o ≡ Some Absent → ⊥
none-there None has is = has
none-there (Some (File bytes)) has is = cc
none-there (Some Dir) has is = has
none-there (Some Special) has is = has

pub gives-absent : (told : Option Held) (path bytes : Text) → Has (option_map told_of told) path → Reads told path Absent → Gives (option_map told_of told) path bytes
gives-absent None path bytes has reads = tt
gives-absent (Some held) path bytes has reads = absurd (none-there (standing held path) (there held path has) reads)

-- Where there are bytes a read is allowed, so it fails only by a fault.

file-there : (o : Option Standing) → IsThere (bytes_in o) → is_file_or_nothing o ≡ true
file-there None has = refl
file-there (Some (File bytes)) has = refl
file-there (Some Dir) has = absurd has
file-there (Some Special) has = absurd has

pub read-allowed : (told : Option Held) (path : Text) → Has (option_map told_of told) path → allows told (can_read path) ≡ true
read-allowed None path has = refl
read-allowed (Some held) path has = file-there (standing held path) (there held path has)

rose-allowed : (before now : ℕ) (allowed : Bool) → allowed ≡ true → (before ≤ now) × MatchBool allowed (Rose before now) (now ≡ before) → (before ≤ now) × Rose before now
rose-allowed before now true is h = h
rose-allowed before now false is h = cc

pub failed-counted : (before now : ℕ) (allowed : Bool) (e : FolderErr) → e ≡ Failed → allowed ≡ true → Caused {T = Got} before now allowed (Err e) → (before ≤ now) × Rose before now
failed-counted before now allowed Failed is ok h = rose-allowed before now allowed ok h
failed-counted before now allowed NoMemory is ok h = cc

pub failed-steady : (before now allowed : Bool) (e : FolderErr) → e ≡ Failed → allowed ≡ true → Steadily {T = Got} before now allowed (Err e) → (now ≡ before) × (before ≡ true → ⊥)
failed-steady before now allowed Failed is ok h = (h.0, λ steady. h.1 steady ok)
failed-steady before now allowed NoMemory is ok h = cc
