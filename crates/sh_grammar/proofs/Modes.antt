-- A mode's number tells the mode.
use Rattle.std.proofs.Common.{◌≡◌, ℕ, zero, suc, List, [], ◌∷◌, Option, Some, None, refl, sym, ap, ◌∙◌}
use Rattle.sh_rules.specs.declared.token_kind.Mode.{Mode}
use Rattle.sh_rules.specs.declared.token_kind.Mode.TheVariants as m
use Rattle.sh_grammar.specs.Modes.{mode_number}

nth : ℕ → List Mode → Option Mode
nth n [] = None
nth zero (m ∷ ms) = Some m
nth (suc n) (m ∷ ms) = nth n ms

all_modes : List Mode
all_modes =
    m.CommandStart ∷ m.Prefix ∷ m.Argument ∷ m.PatternStart ∷ m.CaseIn ∷ m.PatternRest ∷ m.Bodies ∷ m.BodyText ∷ m.Value ∷ m.InWord ∷ m.InQuotes ∷ m.BraceStart ∷ m.InBraces ∷ m.InQuotedBraces ∷ m.InArithmetic ∷ m.ForName ∷ m.FunctionOpen ∷ m.FunctionClose ∷ m.HereDelimiter ∷ []

numbered : (mode : Mode) → nth (mode_number mode) all_modes ≡ Some mode
unfolding nth all_modes
numbered m.CommandStart = refl
numbered m.Prefix = refl
numbered m.Argument = refl
numbered m.PatternStart = refl
numbered m.CaseIn = refl
numbered m.PatternRest = refl
numbered m.Bodies = refl
numbered m.BodyText = refl
numbered m.Value = refl
numbered m.InWord = refl
numbered m.InQuotes = refl
numbered m.BraceStart = refl
numbered m.InBraces = refl
numbered m.InQuotedBraces = refl
numbered m.InArithmetic = refl
numbered m.ForName = refl
numbered m.FunctionOpen = refl
numbered m.FunctionClose = refl
numbered m.HereDelimiter = refl

some_same : (a b : Mode) → Some a ≡ Some b → a ≡ b
some_same a b h = cc

pub same_mode_number : (a b : Mode) → mode_number a ≡ mode_number b → a ≡ b
same_mode_number a b h = some_same a b (sym (numbered a) ∙ ap (λ n. nth n all_modes) h ∙ numbered b)
