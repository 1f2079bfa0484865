-- What `s` makes of a line (XCU sed, "Editing Commands in sed").
use Rattle.std.specs.Prelude.{ℕ, zero, suc, ◌+◌, ◌-◌, ◌==◌, ◌&&◌, ◌||◌, not, length, take, drop, List, [], ◌∷◌, ◌++◌, Bool, true, false, Option, Some, None, if◌then◌else◌}
use Rattle.std.specs.List.{list_any}
use Rattle.rk_base.specs.Text.{Text}
use Rattle.ut_bre.specs.declared.group.Found.{Found}
use Rattle.ut_bre.specs.declared.group.Span.{Span}
use Rattle.ut_bre.specs.Found.{found}
use Rattle.ut_bre.specs.Groups.{group_at}
use Rattle.ut_bre.specs.Trees.{Expression}
use Rattle.ut_sed.specs.declared.command.Part.{Part}
use Rattle.ut_sed.specs.declared.command.Part.TheVariants.{Byte, Whole, Group}
use Rattle.ut_sed.specs.Commands.{SubstitutionValue}

-- from one place of a text up to another
abbrev pub piece : Text → ℕ → ℕ → Text
piece text from to = take (to - from) (drop from text)

-- what a group took; nothing where it took none
abbrev pub group_text : Text → Option Span → Text
group_text text None = []
group_text text (Some span) = piece text span.start span.end

abbrev pub part_text : Text → Found → Part → Text
part_text text f (Byte b) = b ∷ []
part_text text f Whole = piece text f.start f.end
part_text text f (Group n) = group_text text (group_at f.groups n)

-- what stands for a match
abbrev pub parts_text : Text → Found → List Part → Text
parts_text text f [] = []
parts_text text f (part ∷ parts) = part_text text f part ++ parts_text text f parts

abbrev pub names_group : Part → Bool
names_group (Byte b) = false
names_group Whole = false
names_group (Group n) = true

-- whether a part asks for what a group took
abbrev pub name_groups : List Part → Bool
name_groups parts = list_any names_group parts

-- The match behind one that ends at a place: an empty match at that place isn't taken.

abbrev pub not_empty_at : Expression → Text → ℕ → Option Found → Option Found
not_empty_at e text at None = None
not_empty_at e text at (Some f) = if f.end == at then found e text (at + 1) else Some f

abbrev pub next_found : Expression → Text → ℕ → Option Found
next_found e text at = not_empty_at e text at (found e text at)

-- this match and those behind it, so many at most
abbrev pub matches_from : ℕ → Expression → Text → Option Found → List Found
matches_from zero e text first = []
matches_from (suc n) e text None = []
matches_from (suc n) e text (Some f) = f ∷ matches_from n e text (next_found e text f.end)

-- the matches in a line, of which there is at most one more than bytes
abbrev pub all_matches : Expression → Text → List Found
all_matches e text = matches_from (length text + 1) e text (found e text 0)

-- What stands before a match, and the match, which is replaced where none is to be passed over.
abbrev pub match_text : SubstitutionValue → Text → ℕ → ℕ → Found → Text
match_text s text at passed f = if passed == 0 then piece text at f.start ++ parts_text text f s.parts else piece text at f.end

-- whether no match behind it is replaced: only with `g` one is
abbrev pub is_final : SubstitutionValue → ℕ → Bool
is_final s passed = (passed == 0) && not s.global

-- a text from a place on, with its matches, of which so many are passed over before one is replaced
abbrev pub rewritten : SubstitutionValue → Text → ℕ → ℕ → List Found → Text
rewritten s text at passed [] = drop at text
rewritten s text at passed (f ∷ fs) = match_text s text at passed f ++ (if is_final s passed then drop f.end text else rewritten s text f.end (passed - 1) fs)

abbrev pub substituted : SubstitutionValue → Text → Text
substituted s text = rewritten s text 0 (s.first - 1) (all_matches s.expression text)

-- whether a match is replaced
abbrev pub is_replaced : ℕ → List Found → Bool
is_replaced passed [] = false
is_replaced passed (f ∷ fs) = (passed == 0) || is_replaced (passed - 1) fs

abbrev pub is_substituted : SubstitutionValue → Text → Bool
is_substituted s text = is_replaced (s.first - 1) (all_matches s.expression text)
