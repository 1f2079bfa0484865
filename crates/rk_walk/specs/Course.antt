-- Where the code stands on its way.
use Rattle.std.specs.Prelude.{◌≡◌, ℕ, zero, suc, ◌+◌, ◌*◌, ◌^◌, ◌<◌, ◌≤◌, List, [], ◌∷◌, ◌++◌, length, Bool, true, not, ◌&&◌, Option, Some, None, Ok, Err}
use Rattle.std.specs.List.{list_any, list_all}
use Rattle.rk_base.specs.Text.{Text, is_slash}
use Rattle.rk_base.specs.Canonical.{is_empty}
use Rattle.rk_base.specs.declared.errno.Errno.TheVariants.{Loops}
use Rattle.rk_tree.specs.Hierarchy.{Hierarchy}
use Rattle.rk_walk.specs.Walk.{Spot, Part, as_spot, walk, leads, parts}
use Rattle.rk_walk.specs.Way.{looks, walk_sees, leads_seeing}
use Rattle.rk_walk.specs.declared.place.Here.{Here}
use Rattle.rk_walk.specs.declared.seen.Seen.{Seen}
use Rattle.rk_walk.specs.declared.step.WalkStep.{WalkStep}
use Rattle.rk_walk.specs.declared.step.WalkStep.TheVariants.{On, Follow, Ends, Fails}

-- A text that is cut.

abbrev pub has_slash : Text → Bool
has_slash = list_any is_slash

-- what may stand after a component
abbrev pub is_after : Text → Bool
is_after [] = true
is_after (b ∷ bs) = is_slash b

-- a text begins with this component, and then the rest stands, whatever comes after it
pub record IsFirst (text name rest : Text) : Type 0 where
  pub parts_are : (more : Text) → is_after more ≡ true → parts (text ++ more) ≡ record { name = name; after = rest ++ more } ∷ parts (rest ++ more)
  pub goes_on : is_after rest ≡ true
  pub shorter : length rest < length text

-- the texts that are left, the last one first
abbrev pub following : List Text → Text
following [] = []
following (text ∷ texts) = following texts ++ text

abbrev pub only_slashes : Text → Bool
only_slashes = list_all is_slash

abbrev pub is_mark : Text → Bool
is_mark text = not (is_empty text) && is_after text

-- A step of the code.

-- what following a link means where `links` more may be followed
abbrev pub again_by : ℕ → Hierarchy → Bool → ℕ → Text → Text → Spot
again_by zero tree follow at text after = Err Loops
again_by (suc links) tree follow at text after = leads as_spot links tree follow at text after

-- what a step of the code means
abbrev pub step_means : (Text → Text → Spot) → (Here → Spot) → Text → WalkStep → Spot
step_means again on after (On here) = on here
step_means again on after (Follow text) = again text after
step_means again on after (Ends place) = Ok place
step_means again on after (Fails e) = Err e

-- what following a link looks at where `links` more may be followed
abbrev pub again_sees : ℕ → Hierarchy → Bool → ℕ → Text → Text → List Seen
again_sees zero tree follow at text after = []
again_sees (suc links) tree follow at text after = leads_seeing links tree follow at text after

-- what is looked at after a step of the code
abbrev pub step_sees : (Text → Text → List Seen) → (Here → List Seen) → Text → WalkStep → List Seen
step_sees again on after (On here) = on here
step_sees again on after (Follow text) = again text after
step_sees again on after (Ends place) = []
step_sees again on after (Fails e) = []

-- here, with this text ahead, then the marks, the last one first; `links` links more may be followed
pub record Course : Type 0 where
  pub here : Here
  pub ahead : Text
  pub marks : List Text
  pub links : ℕ

-- where what is left leads
abbrev pub course_leads : Hierarchy → Bool → Course → Spot
course_leads tree follow course = walk as_spot tree follow (again_by course.links tree follow) course.here (parts (course.ahead ++ following course.marks))

-- what is looked at on what is left
abbrev pub course_sees : Hierarchy → Bool → Course → List Seen
course_sees tree follow course = walk_sees tree follow (again_sees course.links tree follow) course.here (parts (course.ahead ++ following course.marks))

abbrev pub looks_first : Hierarchy → ℕ → List Part → List Seen
looks_first tree at [] = []
looks_first tree at (part ∷ later) = looks tree at part.name

-- what the next component of the text ahead looks at
abbrev pub looks_ahead : Hierarchy → Course → List Seen
looks_ahead tree course = looks_first tree course.here.node (parts course.ahead)

pub record IsCourse (course : Course) : Type 0 where
  pub marks_are : list_all is_mark course.marks ≡ true
  pub room : length course.marks + course.links ≤ 32

-- falls with each component and each link
abbrev pub left_of : Course → ℕ
left_of course = course.links * 2 ^ 64 + length course.ahead + length (following course.marks) + length course.marks

pub record Follows (tree : Hierarchy) (follow : Bool) (old new : Course) : Type 0 where
  pub kept : IsCourse new
  pub falls : left_of new < left_of old
  pub same : course_leads tree follow old ≡ course_leads tree follow new
  pub sees : course_sees tree follow old ≡ looks_ahead tree old ++ course_sees tree follow new

-- an end: the old course leads there, and the next component alone is looked at
pub record IsEnd (tree : Hierarchy) (follow : Bool) (old : Course) (spot : Spot) : Type 0 where
  pub leads : course_leads tree follow old ≡ spot
  pub sees : course_sees tree follow old ≡ looks_ahead tree old

-- a step of the walk: an end is where the old course leads, and else the new course leads there
abbrev pub Advances : Hierarchy → Bool → Course → Course → Option Spot → Type 0
Advances tree follow old new None = Follows tree follow old new
Advances tree follow old new (Some spot) = IsEnd tree follow old spot

abbrev pub marked : List Text → Text → List Text
marked marks [] = marks
marked marks (b ∷ bs) = marks ++ (b ∷ bs) ∷ []
