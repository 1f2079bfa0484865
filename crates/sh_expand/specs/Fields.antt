-- The fields of an expanded word: splitting and pathname expansion (XCU 2.6.5 and 2.6.6).
use Rattle.std.specs.Prelude.{ℕ, List, [], ◌∷◌, ◌++◌, Bool, true, false, ◌==◌, ◌&&◌, ◌||◌, not, Option, Some, None, if◌then◌else◌}
use Rattle.std.specs.List.{list_any}
use Rattle.rk_base.specs.Text.{Text}
use Rattle.rk_base.specs.Sorted.{sorted}
use Rattle.sh_vars.specs.declared.env.Env.{Env}
use Rattle.sh_vars.specs.Held.{value_at}
use Rattle.sh_split.specs.declared.mark.Mark.{Mark}
use Rattle.sh_split.specs.declared.mark.Mark.TheVariants as mark
use Rattle.sh_split.specs.Cutting.{Marks}
use Rattle.sh_pattern.specs.Special.{has_special, unquoted}
use Rattle.sh_split.specs.Marked.{text_of, pattern_of}
use Rattle.sh_expand.specs.declared.glob.Component.{Component}
use Rattle.sh_expand.specs.declared.glob.Component.TheVariants.{Literal, Pattern}
use Rattle.sh_expand.specs.Globbing.{globs}
use Rattle.sh_expand.specs.Values.{ifs_name}
use Rattle.sh_expand.specs.Expands.{Go_on}

-- the bytes at which results are split: those of IFS, or space, tab and newline where it is unset
abbrev pub or_blanks : Option Text → Text
or_blanks None = 32 ∷ 9 ∷ 10 ∷ []
or_blanks (Some bytes) = bytes

abbrev pub ifs : Env → Text
ifs e = or_blanks (value_at e.vars ifs_name)

-- a piece of a field: a pattern, or the text that it stands for
abbrev pub component_of : Text → Component
component_of pattern = if has_special pattern then Pattern pattern else Literal (unquoted pattern)

abbrev pub is_slash_mark : Mark → Bool
is_slash_mark (mark.Literal b) = b == 47
is_slash_mark (mark.Quoted b) = b == 47
is_slash_mark (mark.Given b) = b == 47
is_slash_mark mark.Quote = false
is_slash_mark mark.Break = false

-- a field is cut at each slash; the marks of the piece so far, and what is left
abbrev pub components_from : Marks → Marks → List Component
components_from piece [] = component_of (pattern_of piece) ∷ []
components_from piece (m ∷ ms) = if is_slash_mark m then component_of (pattern_of piece) ∷ components_from [] ms else components_from (piece ++ m ∷ []) ms

abbrev pub components : Marks → List Component
components field = components_from [] field

abbrev pub is_pattern : Component → Bool
is_pattern (Literal text) = false
is_pattern (Pattern text) = true

abbrev pub has_pattern : List Component → Bool
has_pattern cs = list_any is_pattern cs

-- no mark that makes a pattern, wherever it stands; so no component is one, whatever is quoted
abbrev pub is_plain_byte : ℕ → Bool
is_plain_byte b = not ((b == 42) || (b == 63) || (b == 91) || (b == 92))

abbrev pub is_plain : Mark → Bool
is_plain (mark.Literal b) = is_plain_byte b
is_plain (mark.Quoted b) = is_plain_byte b
is_plain (mark.Given b) = is_plain_byte b
is_plain mark.Quote = true
is_plain mark.Break = true

-- no result leaves the field as it was
abbrev pub or_as_was : Text → List Text → List Text
or_as_was text [] = text ∷ []
or_as_was text (t ∷ ts) = t ∷ ts

-- what comes after fields
abbrev pub With_fields : Type 0
With_fields = List Text → Go_on

-- a field's pathnames, where pathnames are expanded and a component is a pattern; else its text
abbrev pub named : Bool → Text → List Component → With_fields → Go_on
named true text cs k e = globs e.wd false cs ([] ∷ []) (λ found n. k (or_as_was text (sorted found)) (record e { next = n })) e.next
named false text cs k e = k (text ∷ []) e

abbrev pub names : Marks → With_fields → Go_on
names field k e = named (has_pattern (components field) && not e.noglob) (text_of field) (components field) k e

-- the fields from left to right, after those so far
abbrev pub all_names : List Marks → List Text → With_fields → Go_on
all_names [] done k e = k done e
all_names (field ∷ fields) done k e = names field (λ found e'. all_names fields (done ++ found) k e') e
