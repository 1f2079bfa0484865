-- What a text reads as (XCU 2.10): the script that it is, or its fault in words.
use Rattle.std.specs.Prelude.{ℕ, ◌+◌, ◌==◌, nat_lt, [], ◌∷◌, ◌++◌, length, take, codes, if◌then◌else◌}
use Rattle.std.specs.Fmt.{decimal}
use Rattle.rk_base.specs.Text.{Text}
use Rattle.sh_ast.specs.Commands.{CommandsTree}
use Rattle.sh_token.specs.declared.fault.ScriptFault.{ScriptFault}
use Rattle.sh_token.specs.declared.fault.Why.{Why}
use Rattle.sh_token.specs.declared.fault.Why.TheVariants.{Syntax, Unclosed, Deep, Long, NotInProfile}
use Rattle.sh_token.specs.Faults.{fault, fault_of}
use Rattle.sh_script.specs.Folds.{script_marked}
use Rattle.sh_script.specs.Predicting.{End, Read, Stuck, end_of}
use Rattle.sh_script.specs.Scripts.{longest}

-- What a text reads as: commands, or the words that tell its fault.
pub data Reading : Type 0 where
  Script : (commands : CommandsTree) → Reading
  Faulty : (words : Text) → Reading

abbrev pub newlines : Text → ℕ
newlines [] = 0
newlines (b ∷ bs) = if b == 10 then newlines bs + 1 else newlines bs

-- the line that a place is in, from 1
abbrev pub line_of : Text → ℕ → ℕ
line_of text at = newlines (take at text) + 1

abbrev pub why_words : Why → Text
why_words Syntax = codes "syntax error"
why_words Unclosed = codes "unclosed"
why_words Deep = codes "too deep"
why_words Long = codes "too long"
why_words (NotInProfile token) = token ++ codes " is not in this profile"

-- `line N: WHY`
abbrev pub fault_words : Text → ScriptFault → Text
fault_words text f = ((codes "line " ++ decimal (line_of text f.at)) ++ codes ": ") ++ why_words f.why

-- what reading comes to, in words
abbrev pub reading_of : Text → End → Reading
reading_of text (Read marks) = Script (script_marked marks)
reading_of text (Stuck at halt) = Faulty (fault_words text (fault_of at halt))

-- WHAT A TEXT READS AS: one that is too long is faulty; else it is read, symbol by symbol.
unfoldable pub reads : Text → Reading
reads text = if nat_lt longest (length text) then Faulty (fault_words text (fault longest Long)) else reading_of text (end_of text)
