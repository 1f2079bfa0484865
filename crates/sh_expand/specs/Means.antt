-- What a word means, in the modes in which it is expanded (XCU 2.6).
use Rattle.std.specs.Prelude.{ℕ, List, [], ◌∷◌, ◌++◌, true, false, Bool}
use Rattle.rk_base.specs.Text.{Text}
use Rattle.rk_calls.specs.Talk.{pay}
use Rattle.rk_calls.specs.Turns.{turns}
use Rattle.sh_ast.specs.Words.{PartsTree}
use Rattle.sh_ast.specs.Commands.{WordTree, word_of}
use Rattle.sh_split.specs.Marks.{kind}
use Rattle.sh_split.specs.Cutting.{Marks}
use Rattle.sh_split.specs.Pass.{cut_fields}
use Rattle.sh_split.specs.Marked.{text_of, pattern_of}
use Rattle.sh_expand.specs.declared.mode.Mode.{Mode}
use Rattle.sh_expand.specs.declared.mode.Mode.TheVariants as mode
use Rattle.sh_expand.specs.declared.mode.Expanded.{Expanded}
use Rattle.sh_expand.specs.declared.mode.Expanded.TheVariants.{Fields, Value}
use Rattle.sh_expand.specs.Expands.{Go_on, Body, Failed, manner_of, expand}
use Rattle.sh_expand.specs.Fields.{ifs, all_names}

abbrev pub all_bytes : List Text → Text
all_bytes [] = []
all_bytes (word ∷ words) = word ++ all_bytes words

-- what comes after a word
abbrev pub With_expanded : Type 0
With_expanded = Expanded → Go_on

-- a turn for each 64 bytes of all fields together
abbrev pub pay_fields : With_expanded → List Text → Go_on
pay_fields k fields e = pay (turns (all_bytes fields)) (k (Fields fields) e)

-- The word pays a turn for each 64 bytes of its fields together, or of its value. In a pattern the backslashes before
-- quoted bytes are not paid for.
abbrev pub finished : Mode → Marks → With_expanded → Go_on
finished mode.Fields marks k e = all_names (cut_fields (kind (ifs e)) marks) [] (pay_fields k) e
finished mode.Value marks k e = pay (turns (text_of marks)) (k (Value (text_of marks)) e)
finished mode.Pattern marks k e = pay (turns (text_of marks)) (k (Value (pattern_of marks)) e)

-- only fields are split
abbrev pub splits : Mode → Bool
splits mode.Fields = true
splits mode.Value = false
splits mode.Pattern = false

-- A word: its parts from left to right; then its fields are cut by the IFS of that moment and pathnames are expanded. A
-- fault pays nothing for bytes.
abbrev pub expand_in : Mode → (ℕ → Body) → PartsTree → With_expanded → Failed → Go_on
expand_in m body parts k fail e = expand (manner_of body false (splits m)) parts [] (λ marks e'. finished m marks k e') fail e

-- the parts of a whole word
abbrev pub parts_of : WordTree → PartsTree
parts_of (word_of ps _) = ps
