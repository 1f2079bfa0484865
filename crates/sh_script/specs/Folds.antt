-- The script of marks: what the code keeps of a parse tree, taken from the last to the first (proofs/FoldLemmas.antt: it is the script of the tree).
use Rattle.std.specs.Prelude.{List, [], ◌∷◌}
use Rattle.sh_ast.specs.Commands.{CommandsTree, commands_of}
use Rattle.sh_grammar.specs.Marks.{Mark, node, leaf}
use Rattle.sh_script.specs.Values.{token, commands_in}
use Rattle.sh_script.specs.States.{State, start, top, with}
use Rattle.sh_script.specs.Acts.{acted}

unfoldable pub marked : Mark → State → State
marked (node r) s = acted r s
marked (leaf text) s = with (token text) s

unfoldable pub marked_all : List Mark → State → State
marked_all [] s = s
marked_all (m ∷ ms) s = marked m (marked_all ms s)

unfoldable pub script_marked : List Mark → CommandsTree
script_marked ms = commands_of (commands_in (top (marked_all ms start)))
