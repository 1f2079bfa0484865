-- A kind's number tells the kind.
use Rattle.std.proofs.Common.{◌≡◌, ℕ, zero, suc, List, [], ◌∷◌, Option, Some, None, refl, sym, ap, ◌∙◌}
use Rattle.sh_rules.specs.declared.token_kind.TokenKind.{TokenKind}
use Rattle.sh_rules.specs.declared.token_kind.TokenKind.TheVariants as k
use Rattle.sh_rules.specs.Kinds.{number}
use Rattle.sh_rules.proofs.Enumerated.{all_kinds}

nth : ℕ → List TokenKind → Option TokenKind
nth n [] = None
nth zero (k ∷ ks) = Some k
nth (suc n) (k ∷ ks) = nth n ks

numbered : (kind : TokenKind) → nth (number kind) all_kinds ≡ Some kind
unfolding nth
numbered k.Semi = refl
numbered k.Newline = refl
numbered k.NoBody = refl
numbered k.LiteralBody = refl
numbered k.BodyOpen = refl
numbered k.BodyClose = refl
numbered k.BodyText = refl
numbered k.BodyEscape = refl
numbered k.QuotedBrace = refl
numbered k.AndIf = refl
numbered k.OrIf = refl
numbered k.Bang = refl
numbered k.Pipe = refl
numbered k.FunctionName = refl
numbered k.FunctionOpen = refl
numbered k.FunctionClose = refl
numbered k.Assignment = refl
numbered k.CommandText = refl
numbered k.LeftBrace = refl
numbered k.RightBrace = refl
numbered k.LeftParen = refl
numbered k.RightParen = refl
numbered k.If = refl
numbered k.Then = refl
numbered k.While = refl
numbered k.Do = refl
numbered k.Done = refl
numbered k.Until = refl
numbered k.For = refl
numbered k.Name = refl
numbered k.Case = refl
numbered k.Fi = refl
numbered k.Else = refl
numbered k.Elif = refl
numbered k.In = refl
numbered k.CaseIn = refl
numbered k.Esac = refl
numbered k.PatternOpen = refl
numbered k.PatternText = refl
numbered k.PatternClose = refl
numbered k.PatternBar = refl
numbered k.DoubleSemi = refl
numbered k.Redirect = refl
numbered k.Here = refl
numbered k.Delimiter = refl
numbered k.PrefixText = refl
numbered k.WordText = refl
numbered k.WordEnd = refl
numbered k.ValueText = refl
numbered k.Text = refl
numbered k.Escape = refl
numbered k.Single = refl
numbered k.QuoteOpen = refl
numbered k.Brace = refl
numbered k.Parameter = refl
numbered k.Braced = refl
numbered k.Substitution = refl
numbered k.Dollar = refl
numbered k.PatternBrace = refl
numbered k.QuoteClose = refl
numbered k.QuotedText = refl
numbered k.QuotedEscape = refl
numbered k.BraceClose = refl
numbered k.BraceStartText = refl
numbered k.BraceText = refl
numbered k.QuotedBraceText = refl
numbered k.QuotedBraceEscape = refl
numbered k.Arithmetic = refl
numbered k.ArithmeticText = refl
numbered k.ArithmeticEscape = refl
numbered k.ParenthesisOpen = refl
numbered k.ParenthesisClose = refl
numbered k.ArithmeticClose = refl
numbered k.End = refl

some_same : (a b : TokenKind) → Some a ≡ Some b → a ≡ b
some_same a b h = cc

pub same_number : (a b : TokenKind) → number a ≡ number b → a ≡ b
same_number a b h = some_same a b (sym (numbered a) ∙ ap (λ n. nth n all_kinds) h ∙ numbered b)
