-- The operators of a parameter, `:-` `-` `:=` `=` `:?` `?` `:+` `+`: the table of XCU 2.6.2.
use Rattle.std.specs.Prelude.{[], ◌∷◌, Option, Some, None}
use Rattle.rk_base.specs.Text.{Text}
use Rattle.sh_ast.specs.declared.word.Condition.{Condition}
use Rattle.sh_ast.specs.declared.word.Condition.TheVariants.{Unset, UnsetOrNull}
use Rattle.sh_ast.specs.declared.word.Substitute.{Substitute}
use Rattle.sh_ast.specs.declared.word.Substitute.TheVariants as by

-- What the table has: substitute the parameter's value, the word, or null; assign the word; or error.
pub data Outcome : Type 0 where
  Value : Outcome
  Word : Outcome
  Null : Outcome
  Assigns : Outcome
  Error : Outcome

-- a row: for a parameter that is set and not null, for one that is set but null, and for one that is unset
pub record TableRow : Type 0 where
  pub where_set : Outcome
  pub where_null : Outcome
  pub where_unset : Outcome

abbrev pub row : Outcome → Outcome → Outcome → TableRow
row a b c = record { where_set = a; where_null = b; where_unset = c }

-- The table. Where it has null for a parameter that is set but null, that is the parameter's value.
abbrev pub table : Substitute → Condition → TableRow
table by.Default UnsetOrNull = row Value Word Word  -- ${parameter:-word}
table by.Default Unset = row Value Value Word  -- ${parameter-word}
table by.Assign UnsetOrNull = row Value Assigns Assigns  -- ${parameter:=word}
table by.Assign Unset = row Value Value Assigns  -- ${parameter=word}
table by.Fault UnsetOrNull = row Value Error Error  -- ${parameter:?word}
table by.Fault Unset = row Value Value Error  -- ${parameter?word}
table by.Alternative UnsetOrNull = row Word Null Null  -- ${parameter:+word}
table by.Alternative Unset = row Word Word Null  -- ${parameter+word}

-- the cell for a parameter of this value, None where it is unset
abbrev pub cell : TableRow → Option Text → Outcome
cell r (Some (b ∷ bs)) = r.where_set
cell r (Some []) = r.where_null
cell r None = r.where_unset
