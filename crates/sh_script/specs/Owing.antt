-- What is still to be read, and what reading of it comes to.
use Rattle.std.specs.Prelude.{◌≡◌, ◌<◌, ℕ, ◌+◌, ◌*◌, List, [], ◌∷◌, ◌++◌, Bool, true, false}
use Rattle.sh_rules.specs.Grammar.{Symbol, Want, Do, Parses, Halt}
use Rattle.sh_rules.specs.Reading.{Reader, ReadsAll, Stops, At, StuckAll}
use Rattle.sh_rules.specs.declared.token_kind.TokenKind.{TokenKind}
use Rattle.sh_rules.specs.declared.token_kind.Mode.{Mode}
use Rattle.sh_rules.specs.Parts as p
use Rattle.sh_rules.specs.Parts.{Part}
use Rattle.sh_rules.specs.Rules.{Rule, Token, shell, script}
use Rattle.sh_grammar.specs.Marks.{Mark, flat_all}
use Rattle.sh_token.specs.Places.{Place, size}
use Rattle.sh_token.proofs.Sizes.{may_be_empty}
use Rattle.sh_script.specs.TextReader.{text_reader}

-- Whatever reading of the symbols from here comes to, reading of a script from its start comes to: the marks that were left,
-- and those that are still to come, are of one tree; and where it stops, reading of the script stops.
unfoldable pub Owes : {P : Type 0} → Reader TokenKind Part Rule Token Mode P → P → List (Symbol TokenKind Part) → List Mark → P → Type 0
Owes {P = P} l start todo marks here =
    ((xs : Parses Rule Token) (q : P) → ReadsAll shell l xs todo here q → (qs : Parses Rule Token) × ReadsAll shell l qs script start q × (flat_all qs ≡ marks ++ flat_all xs)) ×
    ((x : Stops Rule Token) (m : P) (h : Halt Token) → StuckAll shell l x todo here (At m h) → (y : Stops Rule Token) × StuckAll shell l y script start (At m h))

-- what was owed is owed
unfoldable pub Keeps : List (Symbol TokenKind Part) → List Mark → Place → List (Symbol TokenKind Part) → List Mark → Place → Type 0
Keeps todo marks p todo' marks' p' = (start : Place) → Owes text_reader start todo marks p → Owes text_reader start todo' marks' p'

-- How many turns are left at most. A part that may stand first in a rule has a rank, higher than those that stand first in its own;
-- the others, and tokens without bytes, have the highest.
abbrev pub rank : Part → ℕ
rank p.newline = 1
rank p.expansion = 1
rank p.redirect = 1
rank p.compound = 1
rank p.quoted = 2
rank p.word = 3
rank p.command = 3
rank p.pipeline = 4
rank p.and_or = 5
rank other = 6

abbrev pub token_rank : Bool → ℕ
token_rank true = 6
token_rank false = 0

abbrev pub symbol_rank : Symbol TokenKind Part → ℕ
symbol_rank (Want kind) = token_rank (may_be_empty kind)
symbol_rank (Do part) = rank part

abbrev pub first_rank : List (Symbol TokenKind Part) → ℕ
first_rank [] = 0
first_rank (s ∷ ss) = symbol_rank s

abbrev pub weight : Symbol TokenKind Part → ℕ
weight (Want _) = 2
weight (Do _) = 4

abbrev pub weights : List (Symbol TokenKind Part) → ℕ
weights [] = 0
weights (s ∷ ss) = weight s + weights ss

unfoldable pub turns_left : ℕ → List (Symbol TokenKind Part) → ℕ
turns_left size todo = 256 * size + weights todo + 32 * first_rank todo

abbrev pub Fewer : List (Symbol TokenKind Part) → Place → List (Symbol TokenKind Part) → Place → Type 0
Fewer todo p todo' p' = turns_left (size p') todo' < turns_left (size p) todo
