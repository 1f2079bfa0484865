-- Trees, by what they are made of.
use Rattle.std.proofs.Common.{rules, ◌≡◌, map, ◌∙◌}
use Rattle.std.specs.declared.rc.Rc.{Rc}
use Rattle.std.specs.declared.vec.Vec.{Vec}
use Rattle.std.specs.declared.alloc.Global.{Global}
use Rattle.sh_ast.specs.declared.word.Part.{Part}
use Rattle.sh_ast.specs.declared.word.Part.TheFolds as part_folds
use Rattle.sh_ast.specs.declared.word.Parts.{Parts, roll-Parts}
use Rattle.sh_ast.specs.declared.command.Command.TheFolds.{the_lemmas}
use Rattle.sh_ast.specs.declared.command.CommandList.{CommandList}
use Rattle.sh_ast.specs.declared.command.Word.{Word, roll-Word}
use Rattle.sh_ast.specs.declared.command.Words.{roll-Words}
use Rattle.sh_ast.proofs.Folding.{word_is, words_is}
use Rattle.sh_ast.specs.Words as w
use Rattle.sh_ast.specs.Commands as c
use Rattle.sh_nodes.specs.Nodes.{words_seen, bodies_seen}

pub parts_made : (ps : Vec Part Global) → w.parts (roll-Parts record { items = ps }) ≡ w.parts_of (map w.part ps.items)
parts_made ps = search (rules, part_folds.the_lemmas)

pub word_made : (ps : Rc Parts Global) (bs : Vec (Rc CommandList Global) Global) → c.word (roll-Word record { parts = ps; bodies = bs }) ≡ c.word_of (w.parts ps.value) (c.bodies_of (bodies_seen bs.items))
word_made ps bs = word_is (roll-Word record { parts = ps; bodies = bs }) ∙ search (rules, the_lemmas)

pub words_made : (ws : Vec (Rc Word Global) Global) → c.words (roll-Words record { items = ws }) ≡ c.words_of (words_seen ws.items)
words_made ws = words_is (roll-Words record { items = ws }) ∙ search (rules, the_lemmas)
