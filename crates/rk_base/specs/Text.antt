-- Texts of paths, in the order of their bytes.
use Rattle.std.specs.Prelude.{ℕ, ◌+◌, ◌-◌, List, [], ◌∷◌, ◌++◌, take, drop, replicate, length, nat_eq, count_by, not, ◌&&◌, ◌||◌, Bool, ◌==◌, if◌then◌else◌, Option, Some, None}
use Rattle.std.specs.List.{slice_split, join_with_byte}
use Rattle.std.specs.Ordering.{nat_cmp}
use Rattle.std.specs.declared.cmp.Ordering.{Ordering}
use Rattle.std.specs.Cmp.Lexicographic.{slice_cmp, pointwise}

abbrev pub Text : Type 0
Text = List ℕ

-- texts compare by their bytes
abbrev pub text_cmp : Text → Text → Ordering
text_cmp = slice_cmp nat_cmp

abbrev pub same_text : Text → Text → Bool
same_text = pointwise nat_eq

abbrev pub is_slash : ℕ → Bool
is_slash b = b == 47

abbrev pub root : Text
root = 47 ∷ []

abbrev pub is_root : Text → Bool
is_root path = same_text path root

abbrev pub or_root : Text → Text
or_root [] = root
or_root (b ∷ bs) = b ∷ bs

-- the texts between slashes
abbrev pub components : Text → List Text
components = slice_split is_slash

-- these texts but the last
abbrev pub but_last : List Text → List Text
but_last [] = []
but_last (t ∷ []) = []
but_last (t ∷ u ∷ ts) = t ∷ but_last (u ∷ ts)

-- the last of these texts
abbrev pub last_text : List Text → Text
last_text [] = []
last_text (t ∷ []) = t
last_text (t ∷ u ∷ ts) = last_text (u ∷ ts)

-- the directory that a path stands in: its components but the last; the root's is the root
unfoldable pub parent : Text → Text
parent path = or_root (join_with_byte 47 (but_last (components path)))

-- the last name of a path: its last component
abbrev pub name_of : Text → Text
name_of path = last_text (components path)

-- the last name of a path, where it isn't the root
abbrev pub last_of : Text → Option Text
last_of path = if is_root path then None else Some (name_of path)

-- a path as what a name is put after
abbrev pub stem : Text → Text
stem path = if is_root path then [] else path

-- the path of a name in a directory
unfoldable pub join : Text → Text → Text
join dir name = stem dir ++ 47 ∷ name

-- how many names a path has
unfoldable pub depth : Text → ℕ
depth path = if is_root path then 0 else count_by is_slash path

-- whether a path stands in this directory
unfoldable pub is_in : Text → Text → Bool
is_in dir path = not (is_root path) && same_text (parent path) dir

abbrev pub begins_with : Text → Text → Bool
begins_with text front = same_text (take (length front) text) front

-- whether a path is this one or stands anywhere below it
unfoldable pub is_within : Text → Text → Bool
is_within above path = same_text path above || begins_with path (stem above ++ 47 ∷ [])

-- the path that a path has after all within `from` has gone to `to`
unfoldable pub moved : Text → Text → Text → Text
moved from to path = if is_within from path then to ++ drop (length from) path else path

-- the name of the hidden directory at the root
abbrev pub hidden : Text
hidden = 46 ∷ 114 ∷ 107 ∷ 114 ∷ []

abbrev pub dot : Text
dot = 46 ∷ []

abbrev pub dot_dot : Text
dot_dot = 46 ∷ 46 ∷ []

-- bytes written over a text from a place on; a gap before it becomes zero bytes
unfoldable pub written : Text → ℕ → Text → Text
written old at bytes = take at (old ++ replicate (at - length old) 0) ++ bytes ++ drop (at + length bytes) old
