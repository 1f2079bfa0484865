-- Which calls of a folder are made.
use Rattle.std.proofs.Common.{◌≡◌, inl, inr, ◌++◌, ◌∷◌, [], List, Bool, true, false, Option, Some, None, Result, Ok, Err, option_map, refl, sym, ap, subst, ◌∙◌}
use Rattle.rk_base.specs.Text.{Text}
use Rattle.rk_folder.specs.Looks.{lists, reads, removes}
use Rattle.rk_folder.specs.Schedule.{AreSomeOf, IsMade, Made, MakesCalls, OnSchedule, Schedule, after_call, after_calls}
use Rattle.rk_folder.specs.declared.folder.FolderCall.{FolderCall}
use Rattle.rk_folder.specs.declared.folder.FolderErr.{FolderErr}
use Rattle.rk_folder.specs.declared.folder.FolderErr.TheVariants.{Failed, NoMemory}

-- Some of a list of calls.

pub some-none : (all : List FolderCall) → AreSomeOf all []
some-none [] = refl
some-none (call ∷ more) = inl (some-none more)

pub some-one : (call : FolderCall) (kept : Bool) → AreSomeOf (call ∷ []) ((call, kept) ∷ [])
some-one call kept = inr (kept, [], refl, refl)

some-then : (a b : List FolderCall) (x y : List Made) → AreSomeOf a x → AreSomeOf b y → AreSomeOf (a ++ b) (x ++ y)
some-then [] b x y p q = subst (λ (z : List Made). AreSomeOf b (z ++ y)) (sym p) q
some-then (call ∷ a) b x y (inl p) q = inl (some-then a b x y p q)
some-then (call ∷ a) b x y (inr p) q = inr (p.0, p.1 ++ y, ap (λ (z : List Made). z ++ y) p.2, some-then a b p.1 y p.3 q)

some-first : (a b : List FolderCall) (x : List Made) → AreSomeOf a x → AreSomeOf (a ++ b) x
some-first [] b x p = subst (AreSomeOf b) (sym p) (some-none b)
some-first (call ∷ a) b x (inl p) = inl (some-first a b x p)
some-first (call ∷ a) b x (inr p) = inr (p.0, p.1, p.2, some-first a b p.1 p.3)

some-last : (a b : List FolderCall) (x : List Made) → AreSomeOf b x → AreSomeOf (a ++ b) x
some-last [] b x p = p
some-last (call ∷ a) b x p = inl (some-last a b x p)

-- Calls, and then others.

after-both : (x y : List Made) (schedule : Schedule) → after_calls y (after_calls x schedule) ≡ after_calls (x ++ y) schedule
after-both [] y schedule = refl
after-both (made ∷ x) y schedule = after-both x y (after_call made schedule)

both-made : (x y : List Made) (schedule : Option Schedule) → option_map (after_calls y) (option_map (after_calls x) schedule) ≡ option_map (after_calls (x ++ y)) schedule
both-made x y None = refl
both-made x y (Some schedule) = ap (λ (s : Schedule). Some s) (after-both x y schedule)

none-made : (schedule : Option Schedule) → schedule ≡ option_map (after_calls []) schedule
none-made None = refl
none-made (Some schedule) = refl

one-made : (made : Made) (schedule : Option Schedule) → option_map (after_call made) schedule ≡ option_map (after_calls (made ∷ [])) schedule
one-made made None = refl
one-made made (Some schedule) = refl

pub makes-none : (all : List FolderCall) (before now : Option Schedule) → now ≡ before → MakesCalls all before now
makes-none all before now same = ([], some-none all, same ∙ none-made before)

-- what a call tells of itself
pub call-made : {T : Type 0} (call : FolderCall) (before now : Option Schedule) (allowed : Bool) (result : Result T FolderErr) → OnSchedule call before now allowed result → IsMade call before now result
call-made call None now allowed (Ok it) h = h
call-made call None now allowed (Err Failed) h = h
call-made call None now allowed (Err NoMemory) h = inl h
call-made call (Some schedule) now allowed result h = h.0

pub one-asked : (call : FolderCall) (kept : Bool) (before now : Option Schedule) → now ≡ option_map (after_call (call, kept)) before → MakesCalls (call ∷ []) before now
one-asked call kept before now h = ((call, kept) ∷ [], some-one call kept, h ∙ one-made (call, kept) before)

pub made-one : {T : Type 0} (call : FolderCall) (before now : Option Schedule) (result : Result T FolderErr) → IsMade call before now result → MakesCalls (call ∷ []) before now
made-one call before now (Ok it) h = one-asked call true before now h
made-one call before now (Err Failed) h = one-asked call true before now h
made-one call before now (Err NoMemory) (inl h) = one-asked call true before now h
made-one call before now (Err NoMemory) (inr h) = one-asked call false before now h

pub makes-one : {T : Type 0} (call : FolderCall) (before now : Option Schedule) (allowed : Bool) (result : Result T FolderErr) → OnSchedule call before now allowed result → MakesCalls (call ∷ []) before now
makes-one call before now allowed result h = made-one call before now result (call-made call before now allowed result h)

pub makes-then : (a b : List FolderCall) (before on now : Option Schedule) → MakesCalls a before on → MakesCalls b on now → MakesCalls (a ++ b) before now
makes-then a b before on now first next = (
  first.0 ++ next.0,
  some-then a b first.0 next.0 first.1 next.1,
  next.2 ∙ ap (option_map (after_calls next.0)) first.2 ∙ both-made first.0 next.0 before,
)

pub makes-first : (a b : List FolderCall) (before now : Option Schedule) → MakesCalls a before now → MakesCalls (a ++ b) before now
makes-first a b before now calls = (calls.0, some-first a b calls.0 calls.1, calls.2)

pub makes-last : (a b : List FolderCall) (before now : Option Schedule) → MakesCalls b before now → MakesCalls (a ++ b) before now
makes-last a b before now calls = (calls.0, some-last a b calls.0 calls.1, calls.2)

pub makes-same : (a b : List FolderCall) (before now : Option Schedule) → a ≡ b → MakesCalls a before now → MakesCalls b before now
makes-same a b before now same calls = subst (λ (all : List FolderCall). MakesCalls all before now) same calls

-- by another name of the path
pub lists-at : (dir at : Text) (before now : Option Schedule) → dir ≡ at → MakesCalls (lists dir) before now → MakesCalls (lists at) before now
lists-at dir at before now same calls = makes-same (lists dir) (lists at) before now (ap lists same) calls

pub reads-at : (file at : Text) (before now : Option Schedule) → file ≡ at → MakesCalls (reads file) before now → MakesCalls (reads at) before now
reads-at file at before now same calls = makes-same (reads file) (reads at) before now (ap reads same) calls

pub removes-at : (file at : Text) (before now : Option Schedule) → file ≡ at → MakesCalls (removes file) before now → MakesCalls (removes at) before now
removes-at file at before now same calls = makes-same (removes file) (removes at) before now (ap removes same) calls
