-- The parts of words, without where they lie in memory.
use Rattle.std.specs.Prelude.{ℕ, List, [], ◌∷◌, Option, Some, None}
use Rattle.std.specs.declared.rc.Rc.{Rc}
use Rattle.std.specs.declared.alloc.Global.{Global}
use Rattle.rk_base.specs.Text.{Text}
use Rattle.sh_ast.specs.declared.parameter.Parameter.{Parameter}
use Rattle.sh_ast.specs.declared.word.Quoting.{Quoting}
use Rattle.sh_ast.specs.declared.word.Condition.{Condition}
use Rattle.sh_ast.specs.declared.word.Substitute as by
use Rattle.sh_ast.specs.declared.word.Removal.{Removal}
use Rattle.sh_ast.specs.declared.word.Part.{Part}
use Rattle.sh_ast.specs.declared.word.Parts.{Parts}
use Rattle.sh_ast.specs.declared.word.Part.TheOpen.{Part-F, Literal, Value, Length, Substitute, Remove, Command, Arithmetic, Parts-F}
use Rattle.sh_ast.specs.declared.word.Part.TheFolds.{fold-Part, fold-Parts}

mutual
  -- a part of a word
  pub data PartTree : Type 0 where
    literal : (quoting : Quoting) (text : Text) → PartTree
    value_of : (quoting : Quoting) (parameter : Parameter) → PartTree
    length_of : (quoting : Quoting) (parameter : Parameter) → PartTree
    substitute : (quoting : Quoting) (parameter : Parameter) (condition : Condition) (by : by.Substitute) (word : OperatorWord) → PartTree
    without : (quoting : Quoting) (parameter : Parameter) (removal : Removal) (pattern : PartsTree) → PartTree
    output_of : (quoting : Quoting) (body : ℕ) → PartTree
    arithmetic : (quoting : Quoting) (expression : PartsTree) → PartTree

  -- the word of an operator, where one stands
  pub data OperatorWord : Type 0 where
    no_word : OperatorWord
    the_word : (parts : PartsTree) → OperatorWord

  -- the parts of a word, one after another
  pub data PartsTree : Type 0 where
    no_parts : PartsTree
    part_and : (first : PartTree) (rest : PartsTree) → PartsTree

abbrev pub parts_of : List PartTree → PartsTree
parts_of [] = no_parts
parts_of (p ∷ ps) = part_and p (parts_of ps)

abbrev pub operator_word : Option (Rc PartsTree Global) → OperatorWord
operator_word None = no_word
operator_word (Some parts) = the_word parts.value

abbrev pub part_step : Part-F PartTree PartsTree → PartTree
part_step (Literal quoting text) = literal quoting text
part_step (Value quoting parameter) = value_of quoting parameter
part_step (Length quoting parameter) = length_of quoting parameter
part_step (Substitute quoting parameter condition by word) = substitute quoting parameter condition by (operator_word word)
part_step (Remove quoting parameter removal pattern) = without quoting parameter removal pattern.value
part_step (Command quoting body) = output_of quoting body
part_step (Arithmetic quoting expression) = arithmetic quoting expression.value

abbrev pub parts_step : Parts-F PartTree PartsTree → PartsTree
parts_step parts = parts_of parts.items.items

abbrev pub part : Part → PartTree
part = fold-Part PartTree PartsTree part_step parts_step

abbrev pub parts : Parts → PartsTree
parts = fold-Parts PartTree PartsTree part_step parts_step
