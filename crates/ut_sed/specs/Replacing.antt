-- Which matches `s` replaces (XCU sed, "Editing Commands in sed").
use Rattle.std.specs.Prelude.{◌≡◌, ℕ, zero, suc, ◌-◌, ◌<◌, ◌≤◌, drop, replicate, List, [], ◌∷◌, ◌++◌, Bool, true, false, Option, Some, None}
use Rattle.rk_base.specs.Text.{Text}
use Rattle.ut_bre.specs.declared.group.Found.{Found}
use Rattle.ut_bre.specs.Matching.{Matches, IsNoWorse}
use Rattle.ut_bre.specs.Picking.{PutsItems}
use Rattle.ut_bre.specs.Trees.{Expression}
use Rattle.ut_sed.specs.declared.command.Part.{Part}
use Rattle.ut_sed.specs.Commands.{SubstitutionValue}
use Rattle.ut_sed.specs.Substituting.{piece, parts_text, all_matches, substituted}

-- Whether a match may be taken: where one before it ended, it begins there or later, and takes more than nothing there.
abbrev pub MayBeTaken : Option ℕ → ℕ → ℕ → Type 0
MayBeTaken None i j = Unit {0}
MayBeTaken (Some end) i j = (end ≤ i) × (end < j)

-- the leftmost of the matches that may be taken, and the longest there, with what its groups took
pub record IsTaken (e : Expression) (text : Text) (before : Option ℕ) (f : Found) : Type 0 where
  pub may : MayBeTaken before f.start f.end
  pub matches : Matches e text f.start f.end
  pub best : (i j : ℕ) → MayBeTaken before i j → Matches e text i j → IsNoWorse (record { start = f.start; end = f.end }) i j
  pub groups : PutsItems text e.items f.start f.end (replicate e.groups None) f.groups

-- one match behind another, until none is left that may be taken
abbrev pub AreTaken : Expression → Text → Option ℕ → List Found → Type 0
AreTaken e text before [] = (i j : ℕ) → MayBeTaken before i j → Matches e text i j → ⊥
AreTaken e text before (f ∷ fs) = IsTaken e text before f × AreTaken e text (Some f.end) fs

-- the matches in a line are all non-overlapping ones, from left to right
abbrev pub EachMatchIsTaken : Type 0
EachMatchIsTaken = (e : Expression) (text : Text) → AreTaken e text None (all_matches e text)

-- the first of these, or with `g` all
abbrev pub first_or_all : Bool → List Found → List Found
first_or_all true fs = fs
first_or_all false [] = []
first_or_all false (f ∷ fs) = f ∷ []

-- those that are replaced, behind so many that are passed over
abbrev pub replaced : Bool → ℕ → List Found → List Found
replaced global zero fs = first_or_all global fs
replaced global (suc passed) [] = []
replaced global (suc passed) (f ∷ fs) = replaced global passed fs

-- a text from a place on, where what stands for each of these matches is put in its place, and the bytes between them stay
abbrev pub put_in : Text → List Part → ℕ → List Found → Text
put_in text parts at [] = drop at text
put_in text parts at (f ∷ fs) = piece text at f.start ++ (parts_text text f parts ++ put_in text parts f.end fs)

-- the match of the number that was given is replaced, the first where none was; with `g` each behind it too
abbrev pub EachIsReplaced : Type 0
EachIsReplaced = (s : SubstitutionValue) (text : Text) → substituted s text ≡ put_in text s.parts 0 (replaced s.global (s.first - 1) (all_matches s.expression text))
