-- Nodes of a syntax tree without addresses, and those that are shared.
use Rattle.std.specs.Prelude.{List, map}
use Rattle.std.specs.declared.rc.Rc.{Rc}
use Rattle.std.specs.declared.alloc.Global.{Global}
use Rattle.rk_base.specs.Text.{Text}
use Rattle.sh_ast.specs.declared.word.Quoting.{Quoting}
use Rattle.sh_ast.specs.declared.command.CommandList.{CommandList}
use Rattle.sh_ast.specs.declared.command.Word.{Word}
use Rattle.sh_ast.specs.Words as w
use Rattle.sh_ast.specs.Commands as c
use Rattle.sh_ast.specs.declared.parameter.Parameter.TheVariants.{Variable, Positional, At, Asterisk, Count, Status, Zero}
use Rattle.sh_nodes.specs.declared.singles.Single.{Single}
use Rattle.sh_nodes.specs.declared.singles.SingleKind.{SingleKind}
use Rattle.sh_nodes.specs.declared.singles.SingleKind.TheVariants as kind
use Rattle.sh_nodes.specs.declared.words.NewWord.{NewWord}
use Rattle.sh_nodes.specs.declared.words.NewWord.TheVariants as new

-- what pointers lead to
abbrev pub words_seen : List (Rc Word Global) → List c.WordTree
words_seen ws = map (λ r. c.word r.value) ws

abbrev pub bodies_seen : List (Rc CommandList Global) → List c.CommandsTree
bodies_seen rs = map (λ r. c.commands r.value) rs

-- the part of a kind, a quoting and a text
abbrev pub part_of : SingleKind → Quoting → Text → w.PartTree
part_of kind.Literal quoting bytes = w.literal quoting bytes
part_of kind.Variable quoting name = w.value_of quoting (Variable name)
part_of kind.Positional quoting digits = w.value_of quoting (Positional digits)
part_of kind.At quoting sign = w.value_of quoting At
part_of kind.Asterisk quoting sign = w.value_of quoting Asterisk
part_of kind.Count quoting sign = w.value_of quoting Count
part_of kind.Status quoting sign = w.value_of quoting Status
part_of kind.Zero quoting sign = w.value_of quoting Zero

-- the word that is one part
abbrev pub single_word : Single → c.WordTree
single_word s = c.word_of (w.part_and (part_of s.kind s.quoting s.text) w.no_parts) c.no_bodies

-- the word that is nothing
abbrev pub empty_word : c.WordTree
empty_word = c.word_of w.no_parts c.no_bodies

abbrev pub word_told : NewWord → c.WordTree
word_told new.Nothing = empty_word
word_told (new.Single s) = single_word s
word_told (new.Made r) = c.word r.value

-- the simple command that is a word alone
abbrev pub word_alone : c.WordTree → c.SimpleTree
word_alone word = c.simply c.no_assignments (c.word_and word c.no_words) c.no_redirects
