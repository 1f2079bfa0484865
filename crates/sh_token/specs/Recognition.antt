-- Which token stands at a place: the rules of XCU 2.3, over the text as it is read, without its joined lines (XCU 2.2.1).
-- A word isn't one token here: its parts are, what quotes, what expands and the texts between these, and its end.
--
-- Where a token is looked for, by what the grammar has come to (XCU 2.10):
--   CommandStart    where a command may begin, or a list of commands end
--   Prefix          behind an assignment or a redirection, in front of a command's name
--   Argument        behind a word, a command, or an operator that takes a word
--   PatternStart    where an item of a case begins; PatternRest behind a pattern
--   CaseIn          behind the word of a case; ForName behind `for`
--   FunctionOpen    behind a function's name; FunctionClose behind its opening parenthesis
--   Value           behind an assignment's equals sign; InWord behind a part of a word
--   InQuotes        within double quotes
--   BraceStart      where the word of a parameter begins; InBraces behind a part of it; InQuotedBraces in either place within double quotes
--   InArithmetic    within an arithmetic expansion
--   HereDelimiter   behind << and <<-; Bodies behind a newline; BodyText within a here-document that is expanded
use Rattle.std.specs.Prelude.{ℕ, ◌==◌, nat_lt, List, [], ◌∷◌, codes, Bool, true, false, if◌then◌else◌, slice_index, Option, Some, None}
use Rattle.sh_rules.specs.declared.token_kind.TokenKind.{TokenKind}
use Rattle.sh_rules.specs.declared.token_kind.TokenKind.TheVariants as k
use Rattle.sh_rules.specs.declared.token_kind.Mode.{Mode}
use Rattle.sh_rules.specs.declared.token_kind.Mode.TheVariants as m
use Rattle.sh_token.specs.declared.delimiter.Within.TheVariants as w
use Rattle.sh_token.specs.declared.place.Words.{Words}
use Rattle.sh_token.specs.Bytes.{◌or◌, ◌also◌, is_blank, is_quoted_text, is_brace_text, is_quoted_brace_text, is_body_text, is_arithmetic_text}
use Rattle.sh_token.specs.Folded.{folded, run_on}
use Rattle.sh_token.specs.Tokens.{Look, token, token_if, measured}
use Rattle.sh_token.specs.Operators.{operator}
use Rattle.sh_token.specs.Reserved.{is_word, reserves, closer}
use Rattle.sh_token.specs.Expansions.{dollar, or_else}
use Rattle.sh_token.specs.Brackets.{text_look}
use Rattle.sh_token.specs.Quoting.{escape, single}
use Rattle.sh_token.specs.Commands.{command_word, prefix_word, argument_word, text_of, name_look, case_in, redirection, is_assignment, assignment, is_numbered}
use Rattle.sh_token.specs.Words.{is_quotable, is_quotable_in_braces, is_quotable_in_body, backslash}
use Rattle.sh_token.specs.HereDocuments.{Awaited, walk, body}
use Rattle.sh_token.specs.Places.{Place, is_none, is_closed, is_nested, is_whole}

-- QUOTING (XCU 2.2)

-- What quotes the bytes of a place: nothing, as in a word, and in the word of a parameter outside of double quotes;
-- double quotes (XCU 2.2.3), also around a parameter whose word is read (XCU 2.6.2);
-- and as they do, a here-document (XCU 2.7.4) and an arithmetic expansion (XCU 2.6.4).
-- Or no part of a word can stand there, but an operator, a name or `in`.
pub data Quoting : Type 0 where
  Unquoted : Quoting
  Double_quotes : Quoting
  Quoted_braces : Quoting
  Document : Quoting
  Arithmetic : Quoting
  No_part : Quoting

abbrev pub quoted_by : Mode → Quoting
quoted_by m.CommandStart = Unquoted
quoted_by m.Prefix = Unquoted
quoted_by m.Argument = Unquoted
quoted_by m.PatternStart = Unquoted
quoted_by m.Value = Unquoted
quoted_by m.InWord = Unquoted
quoted_by m.BraceStart = Unquoted
quoted_by m.InBraces = Unquoted
quoted_by m.InQuotes = Double_quotes
quoted_by m.InQuotedBraces = Quoted_braces
quoted_by m.BodyText = Document
quoted_by m.InArithmetic = Arithmetic
quoted_by other = No_part

-- what is quoted stands for itself, up to a byte that doesn't
abbrev pub quoted_text : Quoting → List ℕ → Look
quoted_text Double_quotes text = token k.QuotedText (run_on is_quoted_text text)
quoted_text Quoted_braces text = token k.QuotedBraceText (run_on is_quoted_brace_text text)
quoted_text Document text = token k.BodyText (run_on is_body_text text)
quoted_text Arithmetic text = token k.ArithmeticText (run_on is_arithmetic_text text)
quoted_text Unquoted text = None
quoted_text No_part text = None

-- Rule 4, a backslash: it quotes the byte behind it, of the text as it stands; where something quotes already, only some bytes.
abbrev pub at_backslash : Quoting → List ℕ → Look
at_backslash Unquoted text = escape text
at_backslash Double_quotes text = backslash (is_quotable (slice_index text 1)) k.QuotedEscape k.QuotedText
at_backslash Quoted_braces text = backslash (is_quotable_in_braces (slice_index text 1)) k.QuotedBraceEscape k.QuotedBraceText
at_backslash Document text = backslash (is_quotable_in_body (slice_index text 1)) k.BodyEscape k.BodyText
at_backslash Arithmetic text = backslash (is_quotable_in_body (slice_index text 1)) k.ArithmeticEscape k.ArithmeticText
at_backslash No_part text = None

-- Rule 4, a single quote: all up to the next one, of the text as it stands; where something quotes already, it stands for itself.
abbrev pub at_single_quote : Quoting → List ℕ → Look
at_single_quote Unquoted text = single text
at_single_quote quoting text = quoted_text quoting (folded text)

-- Rule 4, a double quote: quotes begin, or end where they are open; in a here-document and an arithmetic expansion it stands for itself.
abbrev pub at_double_quote : Quoting → List ℕ → Look
at_double_quote Unquoted text = token k.QuoteOpen 1
at_double_quote Double_quotes text = token k.QuoteClose 1
at_double_quote Quoted_braces text = token k.QuoteOpen 1
at_double_quote quoting text = quoted_text quoting (folded text)

-- in an arithmetic expansion a closing parenthesis closes those that are open there; where none are, two of them end the expansion, and one stands for itself
abbrev pub closing : Bool → ℕ → Look
closing true next = token k.ParenthesisClose 1
closing false next = if next == 41 then token k.ArithmeticClose 2 else token k.ArithmeticText 1

-- any other byte where something quotes: it stands for itself, but `}` ends braces, and an arithmetic expansion has parentheses and an end
abbrev pub at_quoted : Quoting → ℕ → Place → Look
at_quoted Quoted_braces c p = if c == 125 then token k.BraceClose 1 else quoted_text Quoted_braces (folded p.text)
at_quoted Arithmetic c p =
    if c == 40 then token k.ParenthesisOpen 1
    else if c == 41 then closing (is_nested p) (slice_index (folded p.text) 1)
    else quoted_text Arithmetic (folded p.text)
at_quoted quoting c p = quoted_text quoting (folded p.text)

-- OPERATORS (rules 2, 3 and 6; XCU 2.10.1): the longest one that stands there

-- the first bytes of operators, a newline among them: ; & | < > ( )
abbrev pub begins_operator : ℕ → Bool
begins_operator c = c == 10 or c == 59 or c == 38 or c == 124 or c == 60 or c == 62 or c == 40 or c == 41

-- one bar alone
abbrev pub pattern_bar : List ℕ → Look
pattern_bar text = if slice_index text 1 == 124 then None else token k.PatternBar 1

-- what controls, but a newline and an opening parenthesis
abbrev pub operator_look : List ℕ → Look
operator_look text = operator (slice_index text 0) (slice_index text 1)

-- among commands, where a subshell may begin or not
abbrev pub operator_among : Bool → ℕ → List ℕ → Look
operator_among subshell c text =
    if c == 10 then token k.Newline 1
    else if c == 40 then token_if subshell k.LeftParen 1
    else if (c == 60 or c == 62) then redirection text
    else operator_look text

-- In an item of a case only the operators of patterns stand, behind the word of a case only newlines, and behind a function's name
-- its parentheses. Within a word an operator ends it, and within braces it is text.
abbrev pub at_operator : Mode → ℕ → Place → Look
at_operator m.CommandStart c p = operator_among true c (folded p.text)
at_operator m.Prefix c p = operator_among false c (folded p.text)
at_operator m.Argument c p = operator_among false c (folded p.text)
at_operator m.PatternStart c p = if c == 10 then token k.Newline 1 else token_if (c == 40) k.PatternOpen 1
at_operator m.PatternRest c p = if c == 124 then pattern_bar (folded p.text) else token_if (c == 41) k.PatternClose 1
at_operator m.CaseIn c p = token_if (c == 10) k.Newline 1
at_operator m.FunctionOpen c p = token_if (c == 40) k.FunctionOpen 1
at_operator m.FunctionClose c p = token_if (c == 41) k.FunctionClose 1
at_operator m.Value c p = token k.WordEnd 0
at_operator m.InWord c p = token k.WordEnd 0
at_operator m.BraceStart c p = text_look is_brace_text k.BraceStartText (folded p.text)
at_operator m.InBraces c p = text_look is_brace_text k.BraceText (folded p.text)
at_operator other c p = None

-- EXPANSIONS (rule 5): by a dollar sign; a backquote begins none in this profile
abbrev pub at_dollar : Quoting → List ℕ → Look
at_dollar Unquoted text = dollar k.Brace text
at_dollar No_part text = None
at_dollar quoting text = dollar k.QuotedBrace text

-- BLANKS AND COMMENTS (rules 7 and 9): in front of a token they are passed over (`past_blanks` of Places.antt), and a `#` begins a
-- comment nowhere else. So a blank stands at a place only within a word, which it ends, and within braces, where it is text.
abbrev pub at_blank : Mode → Place → Look
at_blank m.Value p = token k.WordEnd 0
at_blank m.InWord p = token k.WordEnd 0
at_blank m.BraceStart p = text_look is_brace_text k.BraceStartText (folded p.text)
at_blank m.InBraces p = text_look is_brace_text k.BraceText (folded p.text)
at_blank other p = None

-- A tilde is text in the middle of a word; where it could be expanded (XCU 2.6.1), this profile leaves it out.
abbrev pub at_tilde : Mode → Place → Look
at_tilde m.InWord p = text_of k.Text (folded p.text)
at_tilde m.InBraces p = text_look is_brace_text k.BraceText (folded p.text)
at_tilde other p = None

-- RESERVED WORDS (XCU 2.4): where they are recognized, those that close a compound command or go on with it. Those that begin one
-- are recognized where a command begins (`command_word`), and `in` behind the name of a `for` (`argument_word`) or the word of a case.
abbrev pub is_esac : Words → List ℕ → Bool
is_esac words text = reserves words also is_word (codes "esac") text

abbrev pub reserved : Words → List ℕ → Look
reserved words text = if is_esac words text then token k.Esac 4 else if reserves words then closer text else None

-- WORDS (rules 8 and 10; XCU 2.10.2)

-- among commands: an assignment, or the first part of a word
abbrev pub first_part : Mode → Words → List ℕ → Look
first_part m.CommandStart words text = if is_assignment text then assignment text else command_word words text
first_part m.Prefix words text = if is_assignment text then assignment text else prefix_word text
first_part m.Argument words text = argument_word words text
first_part other words text = None

-- a reserved word, a redirection with its descriptor's number, or a word
abbrev pub word_among : Mode → Words → List ℕ → Look
word_among mode words text = or_else (reserved words text) (if is_numbered text then redirection text else first_part mode words text)

-- in braces: the one that closes them, or a part of the word (XCU 2.6.2)
abbrev pub brace_part : TokenKind → ℕ → List ℕ → Look
brace_part kind c text = if c == 125 then token k.BraceClose 1 else text_look is_brace_text kind text

-- Where an item of a case begins, `esac` may end the case (XCU 2.9.4). Within a word, and behind the equals sign of an assignment, what isn't
-- quoted goes on with the word (rule 8).
abbrev pub at_word : Mode → ℕ → Place → Look
at_word m.CommandStart c p = word_among m.CommandStart p.words (folded p.text)
at_word m.Prefix c p = word_among m.Prefix p.words (folded p.text)
at_word m.Argument c p = word_among m.Argument p.words (folded p.text)
at_word m.PatternStart c p = if is_esac p.words (folded p.text) then token k.Esac 4 else text_of k.PatternText (folded p.text)
at_word m.CaseIn c p = case_in (folded p.text)
at_word m.ForName c p = name_look (folded p.text)
at_word m.Value c p = text_of k.ValueText (folded p.text)
at_word m.InWord c p = text_of k.Text (folded p.text)
at_word m.BraceStart c p = brace_part k.BraceStartText c (folded p.text)
at_word m.InBraces c p = brace_part k.BraceText c (folded p.text)
at_word other c p = None

-- HERE-DOCUMENTS (XCU 2.7.4)

-- a delimiter, of a byte at least, where one is due
abbrev pub delimiter_look : List ℕ → Look
delimiter_look text = let x = walk w.Bare text in if (x.ends also nat_lt 0 x.count) then token k.Delimiter x.count else None

-- behind a newline the bodies that are awaited, of which one is literal where its delimiter is quoted
abbrev pub body_found : Bool → Option ℕ → Look
body_found literal None = None
body_found true (Some n) = token k.LiteralBody n
body_found false (Some n) = token k.BodyOpen n

abbrev pub body_look : Awaited → List ℕ → Look
body_look d text = body_found d.quoted (body d true text)

abbrev pub bodies_look : List Awaited → List ℕ → Look
bodies_look [] text = token k.NoBody 0
bodies_look (d ∷ ds) text = body_look d text

-- THE END OF INPUT (rule 1): of a script that has nothing open, of a word, or of a here-document
abbrev pub at_end : Mode → Place → Look
at_end m.CommandStart p = token_if (is_whole p) k.End 0
at_end m.Prefix p = token_if (is_whole p) k.End 0
at_end m.Argument p = token_if (is_whole p) k.End 0
at_end m.Value p = token k.WordEnd 0
at_end m.InWord p = token k.WordEnd 0
at_end m.BodyText p = token_if (is_closed p) k.BodyClose 0
at_end other p = None

-- THE RULES, in their order, by the first byte of the text

-- rules 6 to 10, where nothing quotes
abbrev pub at_unquoted : Mode → ℕ → Place → Look
at_unquoted mode c p =
    if begins_operator c then at_operator mode c p
    else if is_blank c then at_blank mode p
    else if c == 126 then at_tilde mode p  -- ~
    else at_word mode c p

-- any byte that neither quotes nor expands, nor is the end
abbrev pub at_other : Quoting → Mode → ℕ → Place → Look
at_other Unquoted mode c p = at_unquoted mode c p
at_other No_part mode c p = at_unquoted mode c p
at_other quoting mode c p = at_quoted quoting c p

-- rules 1, 4 and 5, and the others behind them
abbrev pub at_byte : Mode → ℕ → Place → Look
at_byte mode c p =
    if c == 0 then (if is_none (folded p.text) then at_end mode p else None)  -- nothing is left, or a NUL
    else if c == 92 then at_backslash (quoted_by mode) p.text  -- \
    else if c == 39 then at_single_quote (quoted_by mode) p.text  -- '
    else if c == 34 then at_double_quote (quoted_by mode) p.text  -- "
    else if c == 96 then None  -- `
    else if c == 36 then at_dollar (quoted_by mode) (folded p.text)  -- $
    else at_other (quoted_by mode) mode c p

-- here-documents are looked for before any rule
abbrev pub recognition : Mode → Place → Look
recognition m.Bodies p = bodies_look p.awaited p.text
recognition m.HereDelimiter p = delimiter_look p.text
recognition mode p = at_byte mode (slice_index (folded p.text) 0) p

-- THE TOKEN that stands at a place, and how many bytes of the text it has
unfoldable pub token_at : Mode → Place → Look
token_at mode p = measured p.text (recognition mode p)
