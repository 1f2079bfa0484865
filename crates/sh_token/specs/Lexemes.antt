-- Which token stands at a place, by the table of what is tried there. It is the one that Recognition.antt has.
use Rattle.std.specs.Prelude.{ℕ, List, Bool, slice_index, None}
use Rattle.sh_rules.specs.declared.token_kind.Mode.{Mode}
use Rattle.sh_rules.specs.declared.token_kind.TokenKind.TheVariants as k
use Rattle.sh_token.specs.declared.recognizer.Recognizer.{Recognizer}
use Rattle.sh_token.specs.declared.recognizer.Recognizer.TheVariants as r
use Rattle.sh_token.specs.declared.place.Words.{Words}
use Rattle.sh_token.specs.Bytes.{is_quoted_text, is_brace_text, is_quoted_brace_text, is_body_text, is_arithmetic_text}
use Rattle.sh_token.specs.Folded.{folded, run_on}
use Rattle.sh_token.specs.Tokens.{Look, token}
pub use Rattle.sh_token.specs.Tokens.{token_if, is_raw, extent, measured}
use Rattle.sh_token.specs.Reserved.{closer}
use Rattle.sh_token.specs.Expansions.{dollar}
use Rattle.sh_token.specs.Brackets.{text_look}
use Rattle.sh_token.specs.Quoting.{escape, single}
use Rattle.sh_token.specs.Commands.{command_word, prefix_word, argument_word, text_of, name_look, case_in, redirection, assignment}
use Rattle.sh_token.specs.Words.{is_quotable, is_quotable_in_braces, is_quotable_in_body, backslash}
use Rattle.sh_token.specs.HereDocuments.{Awaited}
pub use Rattle.sh_token.specs.Recognition.{operator_look, pattern_bar, closing, delimiter_look, body_found, body_look, bodies_look}
use Rattle.sh_token.specs.Fronts.{front_of}
use Rattle.sh_token.specs.Recognizers.{recognizer}
use Rattle.sh_token.specs.Places.{Place, is_closed, is_nested, is_whole}

-- What a place is besides its text, for a recognizer: whether the whole text may end there, or what is read by itself; whether parentheses
-- are open in an arithmetic expansion; which words are reserved; and the here-documents to come.
pub record Surroundings : Type 0 where
  pub whole : Bool
  pub closed : Bool
  pub nested : Bool
  pub words : Words
  pub awaited : List Awaited

abbrev pub surrounded : Bool → Bool → Bool → Words → List Awaited → Surroundings
surrounded whole closed nested words awaited = record { whole = whole; closed = closed; nested = nested; words = words; awaited = awaited }

abbrev pub surroundings : Place → Surroundings
surroundings p = surrounded (is_whole p) (is_closed p) (is_nested p) p.words p.awaited

-- what a recognizer finds, and how many bytes it has: as the text is read, or as it stands (is_raw)
unfoldable pub recognized : Recognizer → Surroundings → List ℕ → Look
recognized r.Nothing s text = None
recognized r.AtEnd s text = token_if s.whole k.End 0
recognized r.Newline s text = token k.Newline 1
recognized r.Operator s text = operator_look (folded text)
recognized r.Redirects s text = redirection (folded text)
recognized r.LeftParen s text = token k.LeftParen 1
recognized r.Escape s text = escape text
recognized r.Single s text = single text
recognized r.QuoteOpen s text = token k.QuoteOpen 1
recognized r.Expands s text = dollar k.Brace (folded text)
recognized r.ExpandsQuoted s text = dollar k.QuotedBrace (folded text)
recognized r.Closer s text = closer (folded text)
recognized r.Esac s text = token k.Esac 4
recognized r.Assignment s text = assignment (folded text)
recognized r.CommandWord s text = command_word s.words (folded text)
recognized r.PrefixWord s text = prefix_word (folded text)
recognized r.ArgumentWord s text = argument_word s.words (folded text)
recognized r.PatternOpen s text = token k.PatternOpen 1
recognized r.PatternText s text = text_of k.PatternText (folded text)
recognized r.CaseIn s text = case_in (folded text)
recognized r.PatternClose s text = token k.PatternClose 1
recognized r.PatternBar s text = pattern_bar (folded text)
recognized r.Bodies s text = bodies_look s.awaited text
recognized r.BodyClose s text = token_if s.closed k.BodyClose 0
recognized r.BodyBackslash s text = backslash (is_quotable_in_body (slice_index text 1)) k.BodyEscape k.BodyText
recognized r.BodyText s text = token k.BodyText (run_on is_body_text (folded text))
recognized r.WordEnd s text = token k.WordEnd 0
recognized r.ValueText s text = text_of k.ValueText (folded text)
recognized r.Text s text = text_of k.Text (folded text)
recognized r.QuoteClose s text = token k.QuoteClose 1
recognized r.QuotedBackslash s text = backslash (is_quotable (slice_index text 1)) k.QuotedEscape k.QuotedText
recognized r.QuotedText s text = token k.QuotedText (run_on is_quoted_text (folded text))
recognized r.BraceClose s text = token k.BraceClose 1
recognized r.BraceStartText s text = text_look is_brace_text k.BraceStartText (folded text)
recognized r.BraceText s text = text_look is_brace_text k.BraceText (folded text)
recognized r.QuotedBraceBackslash s text = backslash (is_quotable_in_braces (slice_index text 1)) k.QuotedBraceEscape k.QuotedBraceText
recognized r.QuotedBraceText s text = token k.QuotedBraceText (run_on is_quoted_brace_text (folded text))
recognized r.ArithmeticBackslash s text = backslash (is_quotable_in_body (slice_index text 1)) k.ArithmeticEscape k.ArithmeticText
recognized r.ArithmeticText s text = token k.ArithmeticText (run_on is_arithmetic_text (folded text))
recognized r.ParenthesisOpen s text = token k.ParenthesisOpen 1
recognized r.ParenthesisClose s text = closing s.nested (slice_index (folded text) 1)
recognized r.Name s text = name_look (folded text)
recognized r.FunctionOpen s text = token k.FunctionOpen 1
recognized r.FunctionClose s text = token k.FunctionClose 1
recognized r.Delimiter s text = delimiter_look text

-- THE TOKEN that stands at a place in a mode, and how many bytes of the text it has
unfoldable pub look : Mode → Place → Look
look mode p = measured p.text (recognized (recognizer mode (front_of p.words (folded p.text))) (surroundings p) p.text)
