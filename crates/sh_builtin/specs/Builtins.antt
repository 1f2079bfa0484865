-- What each builtin does.
use Rattle.std.specs.Prelude.{List, [], ◌∷◌, codes}
use Rattle.rk_base.specs.Text.{Text}
use Rattle.sh_builtin.specs.declared.name.Name.{Name}
use Rattle.sh_builtin.specs.declared.name.Name.TheVariants.{Cd, Read, Echo, Printf, Pwd, Test, Bracket, True, False, Unknown}
use Rattle.sh_builtin.specs.Cds.{cds}
use Rattle.sh_builtin.specs.Action.{Action, ends}
use Rattle.sh_builtin.specs.Echoes.{echoes, pwds}
use Rattle.sh_builtin.specs.Names.{name_of}
use Rattle.sh_builtin.specs.Options.{operands_of}
use Rattle.sh_builtin.specs.Prints.{prints}
use Rattle.sh_builtin.specs.Reads.{reads}
use Rattle.sh_builtin.specs.Telling.{complains}
use Rattle.sh_builtin.specs.Tests.{tests, brackets}

-- a word that names none
abbrev pub is_unknown : Text → Action
is_unknown word = complains Unknown word (codes "not found") 127

-- the builtin of this name, from its operands
abbrev pub named_does : Name → Text → List Text → Action
named_does Cd word words = cds (operands_of words)
named_does Read word operands = reads operands
named_does Echo word operands = echoes operands
named_does Printf word operands = prints operands
named_does Pwd word words = pwds (operands_of words)
named_does Test word operands = tests operands
named_does Bracket word operands = brackets operands
named_does True word operands = ends 0
named_does False word operands = ends 1
named_does Unknown word operands = is_unknown word

-- a builtin with these words, its name first
abbrev pub does : List Text → Action
does [] = ends 0
does (word ∷ operands) = named_does (name_of word) word operands
