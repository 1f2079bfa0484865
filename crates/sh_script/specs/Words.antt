-- Words, and their parts (XCU 2.2, 2.6).
use Rattle.std.specs.Prelude.{◌-◌, ◌==◌, List, [], ◌∷◌, ◌++◌, length, take, drop, if◌then◌else◌}
use Rattle.rk_base.specs.Text.{Text}
use Rattle.sh_ast.specs.declared.word.Quoting.{Quoting}
use Rattle.sh_ast.specs.declared.word.Quoting.TheVariants.{Quoted, Unquoted}
use Rattle.sh_ast.specs.Words as w
use Rattle.sh_ast.specs.Words.{PartTree, OperatorWord, parts_of}
use Rattle.sh_ast.specs.Commands.{CommandsTree, WordTree, word_of, bodies_of}
use Rattle.sh_script.specs.Texts.{operand, operator, condition_of, substitute_of, removal_of}

abbrev pub literal : Quoting → Text → PartTree
literal quoting text = w.literal quoting text

-- an expansion in double quotes
abbrev pub quoted : PartTree → PartTree
quoted (w.literal q t) = w.literal Quoted t
quoted (w.value_of q p) = w.value_of Quoted p
quoted (w.length_of q p) = w.length_of Quoted p
quoted (w.substitute q p c s x) = w.substitute Quoted p c s x
quoted (w.without q p r x) = w.without Quoted p r x
quoted (w.output_of q n) = w.output_of Quoted n
quoted (w.arithmetic q x) = w.arithmetic Quoted x

-- a backslash and a byte; at the text's end the backslash alone, which is itself (XCU 2.2.1)
abbrev pub escaped : Text → Text
escaped text = if length text == 1 then text else drop 1 text

-- what single quotes hold (XCU 2.2.2)
abbrev pub between : Text → Text
between text = drop 1 (take (length text - 1) text)

-- what double quotes hold (XCU 2.2.3): an empty pair of them is one quoted literal of no bytes
abbrev pub in_quotes : List PartTree → List PartTree
in_quotes [] = literal Quoted [] ∷ []
in_quotes (p ∷ ps) = p ∷ ps

-- the word of an operator, where one stands (XCU 2.6.2)
abbrev pub operator_word : List PartTree → OperatorWord
operator_word [] = w.no_word
operator_word (p ∷ ps) = w.the_word (parts_of (p ∷ ps))

abbrev pub substitution : Quoting → Text → List PartTree → PartTree
substitution quoting text ps = w.substitute quoting (operand text) (condition_of (operator text)) (substitute_of (operator text)) (operator_word ps)

-- SUBSTITUTIONS BY NUMBER. A part names the body of its substitution by a number: how many substitutions of its word stand
-- behind it. So what a part is hangs on what stands behind it in its word.

-- some parts, and the bodies of the word's substitutions from the last one to the first: of these parts, and of those behind
pub record Numbered : Type 0 where
  pub parts : List PartTree
  pub bodies : List CommandsTree

-- the same for one part
pub record NumberedPart : Type 0 where
  pub part : PartTree
  pub bodies : List CommandsTree

-- parts, and an expansion, by the bodies behind them
abbrev pub Pieces : Type 0
Pieces = List CommandsTree → Numbered

abbrev pub Expansion : Type 0
Expansion = List CommandsTree → NumberedPart

-- no parts; and a part in which no substitution stands, in front of others
abbrev pub no_pieces : Pieces
no_pieces = λ behind. record { parts = []; bodies = behind }

abbrev pub part_and : PartTree → Pieces → Pieces
part_and part rest = λ behind. let y = rest behind in record { parts = part ∷ y.parts; bodies = y.bodies }

-- an expansion, and parts, in front of others
abbrev pub expansion_and : Expansion → Pieces → Pieces
expansion_and expansion rest = λ behind. let y = rest behind in let x = expansion y.bodies in record { parts = x.part ∷ y.parts; bodies = x.bodies }

abbrev pub pieces_and : Pieces → Pieces → Pieces
pieces_and front rest = λ behind. let y = rest behind in let x = front y.bodies in record { parts = x.parts ++ y.parts; bodies = x.bodies }

-- double quotes around parts; and around an expansion
abbrev pub double_quoted : Pieces → Pieces
double_quoted pieces = λ behind. let x = pieces behind in record { parts = in_quotes x.parts; bodies = x.bodies }

abbrev pub quoted_expansion : Expansion → Expansion
quoted_expansion expansion = λ behind. let x = expansion behind in record { part = quoted x.part; bodies = x.bodies }

-- an expansion in which no substitution stands
abbrev pub plain : PartTree → Expansion
plain part = λ behind. record { part = part; bodies = behind }

-- ${x:-word} and its like, ${x%pattern} and its like (XCU 2.6.2)
abbrev pub braces : Quoting → Text → Pieces → Expansion
braces quoting text pieces = λ behind. let x = pieces behind in record { part = substitution quoting text x.parts; bodies = x.bodies }

abbrev pub pattern_braces : Text → Pieces → Expansion
pattern_braces text pieces = λ behind. let x = pieces behind in record { part = w.without Unquoted (operand text) (removal_of (operator text)) (parts_of x.parts); bodies = x.bodies }

-- $(list): the next number (XCU 2.6.3)
abbrev pub output : CommandsTree → Expansion
output body = λ behind. record { part = w.output_of Unquoted (length behind); bodies = behind ++ body ∷ [] }

-- $((expression)) (XCU 2.6.4)
abbrev pub arithmetic : Pieces → Expansion
arithmetic pieces = λ behind. let x = pieces behind in record { part = w.arithmetic Unquoted (parts_of x.parts); bodies = x.bodies }

-- A WORD: nothing stands behind its parts
abbrev pub word : Pieces → WordTree
word pieces = let x = pieces [] in word_of (parts_of x.parts) (bodies_of x.bodies)
