-- A text, read symbol by symbol from its start (XCU 2.10): a part goes on by the rule that the token there chooses, a token
-- is taken where it is the one that is wanted.
use Rattle.std.specs.Prelude.{ℕ, zero, suc, List, [], ◌∷◌, ◌++◌, if◌then◌else◌, Option, Some, None}
use Rattle.rk_base.specs.Text.{Text}
use Rattle.sh_rules.specs.Grammar.{Symbol, Want, Do, Halt, Blocked, Over}
use Rattle.sh_rules.specs.declared.token_kind.TokenKind.{TokenKind}
use Rattle.sh_rules.specs.Parts.{Part}
use Rattle.sh_rules.specs.Rules.{Rule, Token, script, spelling}
use Rattle.sh_rules.specs.Kinds.{same}
use Rattle.sh_rules.specs.Modes.{mode_of, mode}
use Rattle.sh_rules.specs.Choosing.{choose}
use Rattle.sh_grammar.specs.Marks.{Mark, node, leaf}
use Rattle.sh_token.specs.Places.{Place, begin, size}
use Rattle.sh_token.specs.Lexemes.{look}
use Rattle.sh_token.specs.Tokens.{Look}
use Rattle.sh_token.specs.Effects.{effect_of}
use Rattle.sh_token.specs.Steps.{over, after, token_of}
use Rattle.sh_script.specs.Owing.{turns_left}

-- what it comes to: the marks of a parse tree, or the place where it goes no further, and why
pub data End : Type 0 where
  Read : (marks : List Mark) → End
  Stuck : (at : Place) (halt : Halt Token) → End

-- how it goes on, from the symbols that are left, the marks so far and a place
abbrev pub GoesOn : Type 0
GoesOn = List (Symbol TokenKind Part) → List Mark → Place → End

-- a token of the kind is taken, unless it opens a level too many
abbrev pub taken : GoesOn → TokenKind → List (Symbol TokenKind Part) → List Mark → Place → ℕ → End
taken on kind todo marks here length =
    if over (token_of kind length here) here then Stuck here (Over (token_of kind length here))
    else on todo (marks ++ (leaf (token_of kind length here).text ∷ [])) (after (effect_of kind) length here)

-- a token is wanted
abbrev pub wanted : GoesOn → TokenKind → List (Symbol TokenKind Part) → List Mark → Place → Look → End
wanted on kind todo marks here None = Stuck here Blocked
wanted on kind todo marks here (Some there) =
    if same there.0 kind then taken on kind todo marks here there.1
    else Stuck here Blocked

-- the rule's symbols stand in the part's place
abbrev pub replaced : GoesOn → List (Symbol TokenKind Part) → List Mark → Place → Option Rule → End
replaced on todo marks here None = Stuck here Blocked
replaced on todo marks here (Some rule) = on (spelling rule ++ todo) (marks ++ (node rule ∷ [])) here

-- a part goes on by the token there
abbrev pub chosen : GoesOn → Part → List (Symbol TokenKind Part) → List Mark → Place → Look → End
chosen on it todo marks here None = Stuck here Blocked
chosen on it todo marks here (Some there) = replaced on todo marks here (choose it there.0)

-- within so many turns
unfoldable pub predicted : ℕ → List (Symbol TokenKind Part) → List Mark → Place → End
predicted zero todo marks here = Stuck here Blocked
predicted (suc turns) [] marks here = Read marks
predicted (suc turns) (Want kind ∷ todo) marks here = wanted (predicted turns) kind todo marks here (look (mode_of kind) here)
predicted (suc turns) (Do it ∷ todo) marks here = chosen (predicted turns) it todo marks here (look (mode it) here)

-- a whole text, within the turns that are left at most at its start
abbrev pub end_of : Text → End
end_of text = predicted (suc (turns_left (size (begin text)) script)) script [] (begin text)
