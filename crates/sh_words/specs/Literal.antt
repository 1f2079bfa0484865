-- Words that are one field as they stand (XCU 2.6).
use Rattle.std.specs.Prelude.{◌≡◌, ℕ, [], ◌∷◌, Bool, ◌&&◌, not}
use Rattle.std.specs.List.{list_all}
use Rattle.rk_base.specs.Text.{Text}
use Rattle.rk_base.specs.Canonical.{is_empty}
use Rattle.rk_calls.specs.Talk.{pay}
use Rattle.rk_calls.specs.Turns.{turns}
use Rattle.sh_ast.specs.declared.word.Quoting.{Quoting}
use Rattle.sh_ast.specs.declared.word.Quoting.TheVariants.{Quoted, Unquoted}
use Rattle.sh_ast.specs.Words.{PartsTree, literal, no_parts, part_and}
use Rattle.sh_vars.specs.declared.env.Env.{Env}
use Rattle.sh_expand.specs.declared.mode.Mode.TheVariants as mode
use Rattle.sh_expand.specs.declared.mode.Expanded.TheVariants.{Fields, Value}
use Rattle.sh_expand.specs.Expands.{Body, Failed}
use Rattle.sh_expand.specs.Fields.{is_plain_byte}
use Rattle.sh_expand.specs.Means.{With_expanded, expand_in}

-- a literal whose text is one field: no byte of it may make a pattern, and an empty one is quoted
abbrev pub is_one_field : Quoting → Text → Bool
is_one_field Quoted text = list_all is_plain_byte text
is_one_field Unquoted text = list_all is_plain_byte text && not (is_empty text)

abbrev pub IsLiteral : Quoting → Text → PartsTree → Type 0
IsLiteral quoting text parts = parts ≡ part_and (literal quoting text) no_parts

-- a word of these parts is one field of this text, whatever the state is, at a turn for each 64 bytes
abbrev pub IsField : Text → PartsTree → Type 0
IsField text parts = (body : ℕ → Body) (k : With_expanded) (fail : Failed) (e : Env) (p : ℕ) → expand_in mode.Fields body parts k fail e p ≡ pay (turns text) (k (Fields (text ∷ [])) e) p

-- a word of these parts is this value, whatever the state is, at a turn for each 64 bytes
abbrev pub IsValue : Text → PartsTree → Type 0
IsValue text parts = (body : ℕ → Body) (k : With_expanded) (fail : Failed) (e : Env) (p : ℕ) → expand_in mode.Value body parts k fail e p ≡ pay (turns text) (k (Value text) e) p
