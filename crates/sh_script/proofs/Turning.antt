-- A turn by a token, and a turn by a rule.
use Rattle.std.proofs.Common.{◌≡◌, ℕ, List, [], ◌∷◌, ◌++◌, Some, None, Option, true, false, refl, sym, ap, ◌∙◌, subst, ◌⊎◌, inl, inr}
use Rattle.sh_rules.specs.Reading.{Stops, At, StuckAll}
use Rattle.sh_rules.specs.Grammar.{Symbol, Want, Do, Halt, Blocked, Over}
use Rattle.sh_rules.specs.declared.token_kind.TokenKind.{TokenKind}
use Rattle.sh_rules.specs.declared.token_kind.Mode.{Mode}
use Rattle.sh_rules.specs.Parts.{Part}
use Rattle.sh_rules.specs.Rules.{Rule, Token, shell, script, spelling, part_of}
use Rattle.sh_rules.specs.Modes.{mode_of, mode}
use Rattle.sh_rules.specs.Choosing.{choose}
use Rattle.sh_grammar.specs.Marks.{Mark, node, leaf}
use Rattle.sh_token.specs.Places.{Place, size}
use Rattle.sh_token.specs.Lexemes.{look}
use Rattle.sh_token.specs.Tokens.{Look}
use Rattle.sh_token.specs.Effects.{effect_of}
use Rattle.sh_token.specs.Steps.{lex, lexed, over, after, token_of}
use Rattle.sh_token.proofs.ByRules.{lex_looks}
use Rattle.sh_token.proofs.Sizes.{may_be_empty, Shrinks}
use Rattle.sh_script.specs.TextReader.{text_reader, StandsThere, NotOf, HaltsAt}
use Rattle.sh_script.specs.Owing.{Owes, Keeps, Fewer}
use Rattle.sh_script.specs.Outcomes.{IsRead, IsStuck}
use Rattle.sh_script.proofs.Owed.{owed_taken, owed_chosen, owed_stops, owed_nothing}
use Rattle.sh_script.proofs.Fewer.{taken_fewer}

-- what is looked at is the token there
pub lexed_there : (m : Mode) (kind : TokenKind) (n : ℕ) (p : Place) → look m p ≡ Some (kind, n) → lex m p ≡ Some (token_of kind n p, after (effect_of kind) n p)
lexed_there m kind n p h = lex_looks m p ∙ ap (lexed p) h

-- a token is taken
pub keeps_taken : (kind : TokenKind) (n : ℕ) (ss : List (Symbol TokenKind Part)) (marks : List Mark) (p : Place) → StandsThere kind n p → over (token_of kind n p) p ≡ false → Keeps (Want kind ∷ ss) marks p ss (marks ++ (leaf (token_of kind n p).text ∷ [])) (after (effect_of kind) n p)
unfolding Keeps
keeps_taken kind n ss marks p h o = λ start w. owed_taken text_reader start kind ss marks p (after (effect_of kind) n p) (token_of kind n p) w (lexed_there (mode_of kind) kind n p h) o refl

pub fewer_taken : (kind : TokenKind) (ss : List (Symbol TokenKind Part)) (p q : Place) → Shrinks (may_be_empty kind) (size p) (size q) → Fewer (Want kind ∷ ss) p ss q
fewer_taken kind ss p q h = taken_fewer kind ss (size p) (size q) h

-- it opens a level too many
pub halts_deep : (kind : TokenKind) (n : ℕ) (p : Place) → StandsThere kind n p → over (token_of kind n p) p ≡ true → HaltsAt (Want kind) p (Over (token_of kind n p))
unfolding HaltsAt
halts_deep kind n p h o = (after (effect_of kind) n p, lexed_there (mode_of kind) kind n p h, refl, o)

-- no token of the kind stands there
pub halts_want : (kind : TokenKind) (p : Place) → NotOf kind (look (mode_of kind) p) → HaltsAt (Want kind) p Blocked
unfolding HaltsAt
halts_want kind p h = subst Missed (sym (lex_looks (mode_of kind) p)) (misses (look (mode_of kind) p) h)
  where
    Missed : Option (Token × Place) → Type 0
    Missed found = (found ≡ None) ⊎ ((t : Token) × (q : Place) × (found ≡ Some (t, q)) × (t.kind ≡ kind → ⊥))

    misses : (o : Look) → NotOf kind o → Missed (lexed p o)
    misses None k = inl refl
    misses (Some x) k = inr (token_of x.0 x.1 p, after (effect_of x.0) x.1 p, refl, k)

-- a rule is chosen
pub keeps_chosen : (r : Rule) (kind : TokenKind) (n : ℕ) (ss : List (Symbol TokenKind Part)) (marks : List Mark) (p : Place) (s : Part) → part_of r ≡ s → look (mode s) p ≡ Some (kind, n) → choose s kind ≡ Some r → Keeps (Do s ∷ ss) marks p (spelling r ++ ss) (marks ++ (node r ∷ [])) p
unfolding Keeps
keeps_chosen r kind n ss marks p s e h c =
    subst (λ s. look (mode s) p ≡ Some (kind, n) → choose s kind ≡ Some r → (start : Place) → Owes text_reader start (Do s ∷ ss) marks p → Owes text_reader start (spelling r ++ ss) (marks ++ (node r ∷ [])) p) e
    (λ h c start w. owed_chosen text_reader start (part_of r) r ss marks p w (token_of kind n p, after (effect_of kind) n p, lexed_there (mode (part_of r)) kind n p h, c) refl) h c

-- nothing there chooses a rule
pub halts_none : (n : Part) (p : Place) → None ≡ look (mode n) p → HaltsAt (Do n) p Blocked
unfolding HaltsAt
halts_none n p h = inl (lex_looks (mode n) p ∙ ap (lexed p) (sym h))

pub halts_unwanted : (n : Part) (kind : TokenKind) (length : ℕ) (p : Place) → Some (kind, length) ≡ look (mode n) p → None ≡ choose n kind → HaltsAt (Do n) p Blocked
unfolding HaltsAt
halts_unwanted n kind length p h c = inr (token_of kind length p, after (effect_of kind) length p, lexed_there (mode n) kind length p (sym h), λ w. w (sym c))

-- the whole
pub whole_read : (start : Place) (marks : List Mark) (q : Place) → Owes text_reader start [] marks q → IsRead start q marks
unfolding IsRead
whole_read start marks q w = owed_nothing text_reader start marks q w

pub whole_stuck : (start : Place) (s : Symbol TokenKind Part) (ss : List (Symbol TokenKind Part)) (marks : List Mark) (p q : Place) (h : Halt Token) → Owes text_reader start (s ∷ ss) marks p → q ≡ p → HaltsAt s p h → IsStuck start q h
unfolding IsStuck HaltsAt
whole_stuck start s ss marks p q h w e k = subst (λ q. (y : Stops Rule Token) × StuckAll shell text_reader y script start (At q h)) (sym e) (owed_stops text_reader start s ss marks p h w k)
