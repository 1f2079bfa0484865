-- What one turn of reading comes to.
use Rattle.std.specs.Prelude.{◌≡◌, List, ◌∷◌, Result, Ok, Err}
use Rattle.sh_rules.specs.Grammar.{Symbol, Blocked, Over}
use Rattle.sh_rules.specs.declared.token_kind.TokenKind.{TokenKind}
use Rattle.sh_rules.specs.Parts.{Part}
use Rattle.sh_rules.specs.Rules.{Token}
use Rattle.sh_grammar.specs.Marks.{Mark}
use Rattle.sh_token.specs.Places.{Place}
use Rattle.sh_script.specs.TextReader.{HaltsAt}
use Rattle.sh_script.specs.Owing.{Keeps, Fewer}
use Rattle.sh_script.specs.Outcomes.{IsStuck}
use Rattle.sh_parse.specs.declared.source.ParseErr.{ParseErr}
use Rattle.sh_parse.specs.declared.source.ParseErr.TheVariants as stop

-- reading halts at a symbol
abbrev pub Halted : Symbol TokenKind Part → Place → Place → ParseErr → Type 0
Halted s p q stop.Memory = Unit {0}
Halted s p q stop.Blocked = (q ≡ p) × HaltsAt s p Blocked
Halted s p q stop.Deep = (q ≡ p) × ((t : Token) × HaltsAt s p (Over t))

-- how far reading has come: the symbols that are still to be read, the marks that were left, and the place
pub record Reached : Type 0 where
  pub todo : List (Symbol TokenKind Part)
  pub marks : List Mark
  pub place : Place

abbrev pub reached : List (Symbol TokenKind Part) → List Mark → Place → Reached
reached todo marks place = record { todo = todo; marks = marks; place = place }

-- ONE TURN, at a symbol with what is behind it: reading goes on from what is left, of which there is less; or it halts at the symbol
abbrev pub Turns : {X : Type 0} → Symbol TokenKind Part → Reached → Reached → Result X ParseErr → Type 0
Turns s old new (Ok x) = Keeps (s ∷ old.todo) old.marks old.place new.todo new.marks new.place × Fewer (s ∷ old.todo) old.place new.todo new.place
Turns s old new (Err e) = Halted s old.place new.place e

-- THE WHOLE: it stops
abbrev pub StopsBy : Place → Place → ParseErr → Type 0
StopsBy start q stop.Memory = Unit {0}
StopsBy start q stop.Blocked = IsStuck start q Blocked
StopsBy start q stop.Deep = (t : Token) × IsStuck start q (Over t)
