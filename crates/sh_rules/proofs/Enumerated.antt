-- All kinds of token, and sets of them by their numbers.
use Rattle.std.specs.Prelude.{ℕ, nat_eq, List, [], ◌∷◌, Bool, true, false}
use Rattle.sh_rules.specs.declared.token_kind.TokenKind.{TokenKind}
use Rattle.sh_rules.specs.declared.token_kind.TokenKind.TheVariants as k

abbrev pub all_kinds : List TokenKind
all_kinds = k.Semi ∷ k.Newline ∷ k.NoBody ∷ k.LiteralBody ∷ k.BodyOpen ∷ k.BodyClose ∷ k.BodyText ∷ k.BodyEscape ∷ k.QuotedBrace ∷ k.AndIf ∷ k.OrIf ∷ k.Bang ∷ k.Pipe ∷ k.FunctionName ∷ k.FunctionOpen ∷ k.FunctionClose ∷ k.Assignment ∷ k.CommandText ∷ k.LeftBrace ∷ k.RightBrace ∷ k.LeftParen ∷ k.RightParen ∷ k.If ∷ k.Then ∷ k.While ∷ k.Do ∷ k.Done ∷ k.Until ∷ k.For ∷ k.Name ∷ k.Case ∷ k.Fi ∷ k.Else ∷ k.Elif ∷ k.In ∷ k.CaseIn ∷ k.Esac ∷ k.PatternOpen ∷ k.PatternText ∷ k.PatternClose ∷ k.PatternBar ∷ k.DoubleSemi ∷ k.Redirect ∷ k.Here ∷ k.Delimiter ∷ k.PrefixText ∷ k.WordText ∷ k.WordEnd ∷ k.ValueText ∷ k.Text ∷ k.Escape ∷ k.Single ∷ k.QuoteOpen ∷ k.Brace ∷ k.Parameter ∷ k.Braced ∷ k.Substitution ∷ k.Dollar ∷ k.PatternBrace ∷ k.QuoteClose ∷ k.QuotedText ∷ k.QuotedEscape ∷ k.BraceClose ∷ k.BraceStartText ∷ k.BraceText ∷ k.QuotedBraceText ∷ k.QuotedBraceEscape ∷ k.Arithmetic ∷ k.ArithmeticText ∷ k.ArithmeticEscape ∷ k.ParenthesisOpen ∷ k.ParenthesisClose ∷ k.ArithmeticClose ∷ k.End ∷ []

abbrev pub either : Bool → Bool → Bool
either true b = true
either false b = b

abbrev pub member : ℕ → List ℕ → Bool
member n [] = false
member n (m ∷ ms) = either (nat_eq n m) (member n ms)
