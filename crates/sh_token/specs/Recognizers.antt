-- What is tried at a place, by where a token is looked for and by what the place begins with.
use Rattle.sh_rules.specs.declared.token_kind.Mode.{Mode}
use Rattle.sh_rules.specs.declared.token_kind.Mode.TheVariants as m
use Rattle.sh_token.specs.declared.front.Front.{Front}
use Rattle.sh_token.specs.declared.front.Front.TheVariants as f
use Rattle.sh_token.specs.declared.front.Break as b
use Rattle.sh_token.specs.declared.front.Break.TheVariants as br
use Rattle.sh_token.specs.declared.front.Quote as q
use Rattle.sh_token.specs.declared.front.Quote.TheVariants as qu
use Rattle.sh_token.specs.declared.front.Plain as p
use Rattle.sh_token.specs.declared.front.Plain.TheVariants as pl
use Rattle.sh_token.specs.declared.recognizer.Recognizer.{Recognizer}
use Rattle.sh_token.specs.declared.recognizer.Recognizer.TheVariants as r

-- what quotes or expands in a word (XCU 2.2)
abbrev pub unquoted : q.Quote → Recognizer
unquoted qu.Backslash = r.Escape
unquoted qu.Single = r.Single
unquoted qu.Double = r.QuoteOpen
unquoted qu.Backquote = r.Nothing
unquoted qu.Dollar = r.Expands

-- in double quotes (XCU 2.2.3)
abbrev pub quoted : q.Quote → Recognizer
quoted qu.Backslash = r.QuotedBackslash
quoted qu.Single = r.QuotedText
quoted qu.Double = r.QuoteClose
quoted qu.Backquote = r.Nothing
quoted qu.Dollar = r.ExpandsQuoted

-- in the word of a parameter in double quotes
abbrev pub quoted_in_braces : q.Quote → Recognizer
quoted_in_braces qu.Backslash = r.QuotedBraceBackslash
quoted_in_braces qu.Single = r.QuotedBraceText
quoted_in_braces qu.Double = r.QuoteOpen
quoted_in_braces qu.Backquote = r.Nothing
quoted_in_braces qu.Dollar = r.ExpandsQuoted

-- in a here-document (XCU 2.7.4)
abbrev pub quoted_in_body : q.Quote → Recognizer
quoted_in_body qu.Backslash = r.BodyBackslash
quoted_in_body qu.Single = r.BodyText
quoted_in_body qu.Double = r.BodyText
quoted_in_body qu.Backquote = r.Nothing
quoted_in_body qu.Dollar = r.ExpandsQuoted

-- in an arithmetic expansion (XCU 2.6.4)
abbrev pub quoted_in_arithmetic : q.Quote → Recognizer
quoted_in_arithmetic qu.Backslash = r.ArithmeticBackslash
quoted_in_arithmetic qu.Single = r.ArithmeticText
quoted_in_arithmetic qu.Double = r.ArithmeticText
quoted_in_arithmetic qu.Backquote = r.Nothing
quoted_in_arithmetic qu.Dollar = r.ExpandsQuoted

-- among commands (XCU 2.10.1), by what an opening parenthesis is
abbrev pub break_among : Recognizer → b.Break → Recognizer
break_among paren br.Blank = r.Nothing
break_among paren br.Newline = r.Newline
break_among paren br.Semi = r.Operator
break_among paren br.And = r.Operator
break_among paren br.Bar = r.Operator
break_among paren br.Angle = r.Redirects
break_among paren br.OpenParen = paren
break_among paren br.CloseParen = r.Operator

-- and by what a word and an assignment are
abbrev pub plain_among : Recognizer → Recognizer → p.Plain → Recognizer
plain_among word where_named pl.RightBrace = r.Closer
plain_among word where_named pl.CloseBrace = word
plain_among word where_named pl.Esac = r.Esac
plain_among word where_named pl.Closer = r.Closer
plain_among word where_named pl.Assignment = where_named
plain_among word where_named pl.Numbered = r.Redirects
plain_among word where_named pl.Text = word

abbrev pub among : Recognizer → Recognizer → Recognizer → Front → Recognizer
among paren word where_named f.End = r.AtEnd
among paren word where_named f.Nul = r.Nothing
among paren word where_named (f.Break x) = break_among paren x
among paren word where_named (f.Quote x) = unquoted x
among paren word where_named f.Tilde = r.Nothing
among paren word where_named (f.Plain x) = plain_among word where_named x

-- where an item of a case begins (XCU 2.9.4)
abbrev pub break_of_item : b.Break → Recognizer
break_of_item br.Blank = r.Nothing
break_of_item br.Newline = r.Newline
break_of_item br.Semi = r.Nothing
break_of_item br.And = r.Nothing
break_of_item br.Bar = r.Nothing
break_of_item br.Angle = r.Nothing
break_of_item br.OpenParen = r.PatternOpen
break_of_item br.CloseParen = r.Nothing

abbrev pub plain_of_item : p.Plain → Recognizer
plain_of_item pl.RightBrace = r.PatternText
plain_of_item pl.CloseBrace = r.PatternText
plain_of_item pl.Esac = r.Esac
plain_of_item pl.Closer = r.PatternText
plain_of_item pl.Assignment = r.PatternText
plain_of_item pl.Numbered = r.PatternText
plain_of_item pl.Text = r.PatternText

abbrev pub of_item : Front → Recognizer
of_item f.End = r.Nothing
of_item f.Nul = r.Nothing
of_item (f.Break x) = break_of_item x
of_item (f.Quote x) = unquoted x
of_item f.Tilde = r.Nothing
of_item (f.Plain x) = plain_of_item x

-- behind the word of a case
abbrev pub break_before_in : b.Break → Recognizer
break_before_in br.Blank = r.Nothing
break_before_in br.Newline = r.Newline
break_before_in br.Semi = r.Nothing
break_before_in br.And = r.Nothing
break_before_in br.Bar = r.Nothing
break_before_in br.Angle = r.Nothing
break_before_in br.OpenParen = r.Nothing
break_before_in br.CloseParen = r.Nothing

abbrev pub before_in : Front → Recognizer
before_in f.End = r.Nothing
before_in f.Nul = r.Nothing
before_in (f.Break x) = break_before_in x
before_in (f.Quote x) = r.Nothing
before_in f.Tilde = r.Nothing
before_in (f.Plain x) = r.CaseIn

-- behind a pattern
abbrev pub break_behind_pattern : b.Break → Recognizer
break_behind_pattern br.Blank = r.Nothing
break_behind_pattern br.Newline = r.Nothing
break_behind_pattern br.Semi = r.Nothing
break_behind_pattern br.And = r.Nothing
break_behind_pattern br.Bar = r.PatternBar
break_behind_pattern br.Angle = r.Nothing
break_behind_pattern br.OpenParen = r.Nothing
break_behind_pattern br.CloseParen = r.PatternClose

-- one kind of break alone
abbrev pub parenthesis : Recognizer → Recognizer → b.Break → Recognizer
parenthesis left right br.Blank = r.Nothing
parenthesis left right br.Newline = r.Nothing
parenthesis left right br.Semi = r.Nothing
parenthesis left right br.And = r.Nothing
parenthesis left right br.Bar = r.Nothing
parenthesis left right br.Angle = r.Nothing
parenthesis left right br.OpenParen = left
parenthesis left right br.CloseParen = right

abbrev pub at_break : (b.Break → Recognizer) → Front → Recognizer
at_break g f.End = r.Nothing
at_break g f.Nul = r.Nothing
at_break g (f.Break x) = g x
at_break g (f.Quote x) = r.Nothing
at_break g f.Tilde = r.Nothing
at_break g (f.Plain x) = r.Nothing

-- the variable of a for
abbrev pub of_name : Front → Recognizer
of_name f.End = r.Nothing
of_name f.Nul = r.Nothing
of_name (f.Break x) = r.Nothing
of_name (f.Quote x) = r.Nothing
of_name f.Tilde = r.Nothing
of_name (f.Plain x) = r.Name

-- within a word, by what a tilde and text are
abbrev pub within_word : Recognizer → Recognizer → Front → Recognizer
within_word tilde other f.End = r.WordEnd
within_word tilde other f.Nul = r.Nothing
within_word tilde other (f.Break x) = r.WordEnd
within_word tilde other (f.Quote x) = unquoted x
within_word tilde other f.Tilde = tilde
within_word tilde other (f.Plain x) = other

-- within double quotes
abbrev pub within_quotes : Front → Recognizer
within_quotes f.End = r.Nothing
within_quotes f.Nul = r.Nothing
within_quotes (f.Break x) = r.QuotedText
within_quotes (f.Quote x) = quoted x
within_quotes f.Tilde = r.QuotedText
within_quotes (f.Plain x) = r.QuotedText

-- within the word of a parameter (XCU 2.6.2)
abbrev pub closes_braces : Recognizer → p.Plain → Recognizer
closes_braces other pl.RightBrace = r.BraceClose
closes_braces other pl.CloseBrace = r.BraceClose
closes_braces other pl.Esac = other
closes_braces other pl.Closer = other
closes_braces other pl.Assignment = other
closes_braces other pl.Numbered = other
closes_braces other pl.Text = other

abbrev pub within_braces : Recognizer → Recognizer → Front → Recognizer
within_braces tilde other f.End = r.Nothing
within_braces tilde other f.Nul = r.Nothing
within_braces tilde other (f.Break x) = other
within_braces tilde other (f.Quote x) = unquoted x
within_braces tilde other f.Tilde = tilde
within_braces tilde other (f.Plain x) = closes_braces other x

abbrev pub within_quoted_braces : Front → Recognizer
within_quoted_braces f.End = r.Nothing
within_quoted_braces f.Nul = r.Nothing
within_quoted_braces (f.Break x) = r.QuotedBraceText
within_quoted_braces (f.Quote x) = quoted_in_braces x
within_quoted_braces f.Tilde = r.QuotedBraceText
within_quoted_braces (f.Plain x) = closes_braces r.QuotedBraceText x

-- within a here-document
abbrev pub within_body : Front → Recognizer
within_body f.End = r.BodyClose
within_body f.Nul = r.Nothing
within_body (f.Break x) = r.BodyText
within_body (f.Quote x) = quoted_in_body x
within_body f.Tilde = r.BodyText
within_body (f.Plain x) = r.BodyText

-- within an arithmetic expansion
abbrev pub break_in_arithmetic : b.Break → Recognizer
break_in_arithmetic br.Blank = r.ArithmeticText
break_in_arithmetic br.Newline = r.ArithmeticText
break_in_arithmetic br.Semi = r.ArithmeticText
break_in_arithmetic br.And = r.ArithmeticText
break_in_arithmetic br.Bar = r.ArithmeticText
break_in_arithmetic br.Angle = r.ArithmeticText
break_in_arithmetic br.OpenParen = r.ParenthesisOpen
break_in_arithmetic br.CloseParen = r.ParenthesisClose

abbrev pub within_arithmetic : Front → Recognizer
within_arithmetic f.End = r.Nothing
within_arithmetic f.Nul = r.Nothing
within_arithmetic (f.Break x) = break_in_arithmetic x
within_arithmetic (f.Quote x) = quoted_in_arithmetic x
within_arithmetic f.Tilde = r.ArithmeticText
within_arithmetic (f.Plain x) = r.ArithmeticText

-- THE TABLE: what is tried, by the mode and the front
unfoldable pub recognizer : Mode → Front → Recognizer
recognizer m.CommandStart x = among r.LeftParen r.CommandWord r.Assignment x
recognizer m.Prefix x = among r.Nothing r.PrefixWord r.Assignment x
recognizer m.Argument x = among r.Nothing r.ArgumentWord r.ArgumentWord x
recognizer m.PatternStart x = of_item x
recognizer m.CaseIn x = before_in x
recognizer m.PatternRest x = at_break break_behind_pattern x
recognizer m.Bodies x = r.Bodies
recognizer m.BodyText x = within_body x
recognizer m.Value x = within_word r.Nothing r.ValueText x
recognizer m.InWord x = within_word r.Text r.Text x
recognizer m.InQuotes x = within_quotes x
recognizer m.BraceStart x = within_braces r.Nothing r.BraceStartText x
recognizer m.InBraces x = within_braces r.BraceText r.BraceText x
recognizer m.InQuotedBraces x = within_quoted_braces x
recognizer m.InArithmetic x = within_arithmetic x
recognizer m.ForName x = of_name x
recognizer m.FunctionOpen x = at_break (parenthesis r.FunctionOpen r.Nothing) x
recognizer m.FunctionClose x = at_break (parenthesis r.Nothing r.FunctionClose) x
recognizer m.HereDelimiter x = r.Delimiter
