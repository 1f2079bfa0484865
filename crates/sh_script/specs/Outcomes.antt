-- What reading of a script comes to, from its start: its marks, or where it stops.
use Rattle.std.specs.Prelude.{◌≡◌, List}
use Rattle.sh_rules.specs.Grammar.{Parses, Halt}
use Rattle.sh_rules.specs.Reading.{ReadsAll, Stops, At, StuckAll}
use Rattle.sh_rules.specs.Rules.{Rule, Token, shell, script}
use Rattle.sh_grammar.specs.Marks.{Mark, flat_all}
use Rattle.sh_token.specs.Places.{Place}
use Rattle.sh_script.specs.TextReader.{text_reader}

-- THE WHOLE: the marks are those of the tree that is read, or it stops
unfoldable pub IsRead : Place → Place → List Mark → Type 0
IsRead start q marks = (qs : Parses Rule Token) × ReadsAll shell text_reader qs script start q × (flat_all qs ≡ marks)

unfoldable pub IsStuck : Place → Place → Halt Token → Type 0
IsStuck start q h = (y : Stops Rule Token) × StuckAll shell text_reader y script start (At q h)
