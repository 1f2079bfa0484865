-- Which kinds a recognizer finds, and that their tokens have a byte.
use Rattle.std.proofs.Common.{◌≡◌, ◌≤◌, ℕ, suc, ◌+◌, List, [], ◌∷◌, Bool, true, false, Option, Some, None, refl, sym, subst, arith, drop}
use Rattle.std.specs.Prelude.{if◌then◌else◌, ◌==◌, nat_lt, slice_index, length, codes}
use Rattle.std.proofs.lemmas.Bool.{ltb-true}
use Rattle.sh_rules.specs.declared.token_kind.TokenKind.{TokenKind}
use Rattle.sh_rules.specs.declared.token_kind.TokenKind.TheVariants as k
use Rattle.sh_rules.specs.Kinds.{number}
use Rattle.sh_rules.proofs.Enumerated.{member}
use Rattle.sh_token.specs.declared.recognizer.Recognizer.{Recognizer}
use Rattle.sh_token.specs.declared.recognizer.Recognizer.TheVariants as r
use Rattle.sh_token.specs.declared.delimiter.Within.TheVariants as w
use Rattle.sh_token.specs.declared.place.Words.{Words}
use Rattle.sh_token.specs.declared.place.Words.TheVariants.{All, Closers, Ordinary}
use Rattle.sh_token.specs.Bytes.{◌or◌, ◌also◌, is_letter, is_digit, is_name, is_end, is_plain, is_brace_text}
use Rattle.sh_token.specs.Folded.{folded, run, run_on}
use Rattle.sh_token.specs.Tokens.{Look, token}
use Rattle.sh_token.specs.Operators.{operator, redirect, numbered, more_by}
use Rattle.sh_token.specs.Reserved.{is_word, opener, closer}
use Rattle.sh_token.specs.Expansions.{dollar, braced, operation, operated, length_of, length_look, parameter, parameter_in_braces, or_else, is_special, substitutes}
use Rattle.sh_token.specs.Brackets.{bracket, bracket_on, text_run, text_from, text_look}
use Rattle.sh_token.specs.Quoting.{escape, single, not_quote}
use Rattle.sh_token.specs.Commands.{command_word, prefix_word, argument_word, text_of, name_look, redirection, opening, is_in, name_or_text, function_name, long_number, opens_parenthesis}
use Rattle.sh_token.specs.Words.{backslash}
use Rattle.sh_token.specs.HereDocuments.{Awaited, walk, body}
use Rattle.sh_token.specs.Lexemes.{Surroundings, recognized, token_if, body_found, bodies_look, delimiter_look, closing}

-- tokens that may have no byte
abbrev pub may_have_none : TokenKind → Bool
may_have_none k.NoBody = true
may_have_none k.LiteralBody = true
may_have_none k.BodyOpen = true
may_have_none k.BodyClose = true
may_have_none k.WordEnd = true
may_have_none k.End = true
may_have_none other = false

abbrev pub Wide : Bool → ℕ → Type 0
Wide true n = Unit {0}
Wide false n = 1 ≤ n

-- what is found is of some kinds, and has a byte
abbrev pub Of : List ℕ → Look → Type 0
Of ks None = Unit {0}
Of ks (Some x) = (member (number x.0) ks ≡ true) × Wide (may_have_none x.0) x.1

of_if : (ks : List ℕ) (b : Bool) (x y : Look) → Of ks x → Of ks y → Of ks (if b then x else y)
of_if ks true x y p q = p
of_if ks false x y p q = q

of_or : (ks : List ℕ) (x y : Look) → Of ks x → Of ks y → Of ks (or_else x y)
of_or ks None y p q = q
of_or ks (Some x) y p q = p

wider : (b : Bool) (n : ℕ) → Wide b n → Wide b (1 + n)
wider true n h = h
wider false n h = omega (arith, h)

of_more : (ks : List ℕ) (x : Look) → Of ks x → Of ks (more_by 1 x)
of_more ks None p = p
of_more ks (Some x) p = (p.0, wider (may_have_none x.0) x.1 p.1)

-- a kind that is found, with a byte
abbrev pub Finds : List ℕ → TokenKind → Type 0
Finds ks kind = (member (number kind) ks ≡ true) × (may_have_none kind ≡ false)

abbrev rd : List ℕ
rd = 42 ∷ 43 ∷ []

one : 1 ≤ 1
one = omega arith

some_bytes : (n : ℕ) → 1 ≤ suc n
some_bytes n = omega arith

of_redirect : (c d e : ℕ) → Of rd (redirect c d e)
of_redirect c d e =
    of_if rd (c == 60) _ _
    (of_if rd (d == 60) _ _ (of_if rd (e == 45) _ _ (refl, some_bytes _) (refl, some_bytes _))
    (of_if rd (d == 38) _ _ (refl, some_bytes _) (of_if rd (d == 62) _ _ tt (refl, some_bytes _))))
    (of_if rd (c == 62) _ _ (of_if rd (d == 62 or d == 38 or d == 124) _ _ (refl, some_bytes _) (refl, some_bytes _)) tt)

of_numbered : (c d e : ℕ) → Of rd (numbered c d e)
of_numbered c d e = of_if rd (c == 60 also d == 62) _ _ (refl, some_bytes _) (of_more rd (redirect c d e) (of_redirect c d e))

of_redirection : (text : List ℕ) → Of rd (redirection text)
of_redirection text =
    of_if rd (slice_index text 0 == 60 or slice_index text 0 == 62) _ _
    (of_redirect (slice_index text 0) (slice_index text 1) (slice_index text 2))
    (of_numbered (slice_index text 1) (slice_index text 2) (slice_index text 3))

abbrev op : List ℕ
op = 0 ∷ 9 ∷ 10 ∷ 12 ∷ 21 ∷ 41 ∷ []

of_operator : (c d : ℕ) → Of op (operator c d)
of_operator c d =
    of_if op (c == 59) _ _ (of_if op (d == 59) _ _ (refl, some_bytes _) (refl, some_bytes _))
    (of_if op (c == 38) _ _ (of_if op (d == 38) _ _ (refl, some_bytes _) tt)
    (of_if op (c == 124) _ _ (of_if op (d == 124) _ _ (refl, some_bytes _) (refl, some_bytes _))
    (of_if op (c == 41) _ _ (refl, some_bytes _) tt)))

abbrev esc : List ℕ
esc = 50 ∷ []

of_escape : (text : List ℕ) → Of esc (escape text)
of_escape text = of_if esc (length text == 1) _ _ (refl, some_bytes _) (of_if esc (slice_index text 1 == 0) _ _ tt (refl, some_bytes _))

of_single : (text : List ℕ) → Of (51 ∷ []) (single text)
of_single text = of_if (51 ∷ []) (slice_index text (run not_quote (drop 1 text) + 1) == 39) _ _ (refl, omega arith) tt

of_text : (ks : List ℕ) (f : ℕ → Bool) (kind : TokenKind) (text : List ℕ) → Finds ks kind → Of ks (text_look f kind text)
of_text ks f kind text h = by (bracket f text)
  where
    by : (x : Option ℕ) → Of ks (text_from f kind x (drop 1 text))
    by None = tt
    by (Some n) = (h.0, subst (λ b. Wide b (suc (text_run f (bracket_on f n (drop 1 text)) (drop 1 text)))) (sym h.1) (some_bytes _))

-- of the words that begin or close a command
abbrev opens : List ℕ
opens = 11 ∷ 18 ∷ 22 ∷ 28 ∷ 30 ∷ 24 ∷ 27 ∷ 13 ∷ 17 ∷ []

of_opener : (text : List ℕ) → Of opens (opener text)
unfolding opener
of_opener text =
    of_if opens (is_word (33 ∷ []) text) _ _ (refl, some_bytes _)
    (of_if opens (is_word (123 ∷ []) text) _ _ (refl, some_bytes _)
    (of_if opens (is_word (codes "if") text) _ _ (refl, some_bytes _)
    (of_if opens (is_word (codes "for") text) _ _ (refl, some_bytes _)
    (of_if opens (is_word (codes "case") text) _ _ (refl, some_bytes _)
    (of_if opens (is_word (codes "while") text) _ _ (refl, some_bytes _)
    (of_if opens (is_word (codes "until") text) _ _ (refl, some_bytes _) tt))))))

abbrev closers : List ℕ
closers = 19 ∷ 23 ∷ 32 ∷ 33 ∷ 31 ∷ 25 ∷ 26 ∷ []

of_closer : (text : List ℕ) → Of closers (closer text)
unfolding closer
of_closer text =
    of_if closers (is_word (125 ∷ []) text) _ _ (refl, some_bytes _)
    (of_if closers (is_word (codes "then") text) _ _ (refl, some_bytes _)
    (of_if closers (is_word (codes "else") text) _ _ (refl, some_bytes _)
    (of_if closers (is_word (codes "elif") text) _ _ (refl, some_bytes _)
    (of_if closers (is_word (codes "fi") text) _ _ (refl, some_bytes _)
    (of_if closers (is_word (codes "do") text) _ _ (refl, some_bytes _)
    (of_if closers (is_word (codes "done") text) _ _ (refl, some_bytes _) tt))))))

of_opening : (words : Words) (text : List ℕ) → Of opens (opening words text)
of_opening All text = of_opener text
of_opening Closers text = tt
of_opening Ordinary text = tt

of_function : (text : List ℕ) → Of opens (function_name text)
of_function text = of_if opens (is_letter (slice_index text 0) also opens_parenthesis (drop (run_on is_name text) text)) _ _ (refl, some_bytes _) tt

of_name_or_text : (b : Bool) (text : List ℕ) → Of opens (name_or_text b text)
of_name_or_text true text = tt
of_name_or_text false text = of_or opens (function_name text) (text_of k.CommandText text) (of_function text) (of_text opens is_plain k.CommandText text (refl, refl))

of_command_word : (words : Words) (text : List ℕ) → Of opens (command_word words text)
unfolding command_word
of_command_word words text =
    of_if opens (long_number text) _ _ tt
    (of_or opens (opening words text) (name_or_text (is_in words text) text) (of_opening words text) (of_name_or_text (is_in words text) text))

of_prefix_word : (text : List ℕ) → Of (45 ∷ []) (prefix_word text)
unfolding prefix_word
of_prefix_word text = of_if (45 ∷ []) (long_number text) _ _ tt (of_text (45 ∷ []) is_plain k.PrefixText text (refl, refl))

of_argument_word : (words : Words) (text : List ℕ) → Of (34 ∷ 46 ∷ []) (argument_word words text)
unfolding argument_word
of_argument_word words text =
    of_if (34 ∷ 46 ∷ []) (long_number text) _ _ tt (of_if (34 ∷ 46 ∷ []) (is_in words text) _ _ (refl, some_bytes _) (of_text (34 ∷ 46 ∷ []) is_plain k.WordText text (refl, refl)))

-- what expands: the kind of braces that is given, and the others
abbrev dollars : TokenKind → List ℕ
dollars brace = 54 ∷ 55 ∷ 56 ∷ 57 ∷ 58 ∷ 67 ∷ number brace ∷ []

of_brace : (brace : TokenKind) (n : ℕ) → Finds (dollars brace) brace → 1 ≤ n → Of (dollars brace) (token brace n)
of_brace _ n h one = (h.0, subst (λ b. Wide b n) (sym h.1) one)

of_operation : (brace : TokenKind) (n c d : ℕ) → Finds (dollars brace) brace → Of (dollars brace) (operation brace n c d)
of_operation brace n c d h =
    of_if (dollars brace) (c == 125) _ _ (refl, omega arith)
    (of_if (dollars brace) (c == 58) _ _ (of_if (dollars brace) (substitutes d) _ _ (of_brace brace (n + 2) h (omega arith)) tt)
    (of_if (dollars brace) (substitutes c) _ _ (of_brace brace (n + 1) h (omega arith))
    (of_if (dollars brace) (c == 37) _ _ (of_if (dollars brace) (d == 37) _ _ (refl, omega arith) (refl, omega arith))
    (of_if (dollars brace) (c == 35) _ _ (of_if (dollars brace) (d == 35) _ _ (refl, omega arith) (refl, omega arith)) tt))))

of_operated : (brace : TokenKind) (n : ℕ) (text : List ℕ) → Finds (dollars brace) brace → Of (dollars brace) (operated brace n text)
of_operated brace n text h = of_if (dollars brace) (n == 0) _ _ tt (of_operation brace (n + 2) (slice_index text (n + 2)) (slice_index text (n + 3)) h)

of_length : (brace : TokenKind) (n : ℕ) (text : List ℕ) → Of (dollars brace) (length_of n text)
of_length brace n text = of_if (dollars brace) (n == 0) _ _ tt (of_if (dollars brace) (slice_index text (n + 3) == 125) _ _ (refl, omega arith) tt)

of_length_look : (brace : TokenKind) (text : List ℕ) → Of (dollars brace) (length_look text)
of_length_look brace text = of_if (dollars brace) (slice_index text 2 == 35) _ _ (of_length brace (parameter (drop 3 text)) text) tt

of_braced : (brace : TokenKind) (text : List ℕ) → Finds (dollars brace) brace → Of (dollars brace) (braced brace text)
unfolding braced
of_braced brace text h =
    of_or (dollars brace) (length_look text) (operated brace (parameter_in_braces text) text) (of_length_look brace text) (of_operated brace (parameter_in_braces text) text h)

pub of_dollar : (brace : TokenKind) (text : List ℕ) → Finds (dollars brace) brace → Of (dollars brace) (dollar brace text)
unfolding dollar
of_dollar brace text h =
    of_if (dollars brace) (is_letter (slice_index text 1)) _ _ (refl, omega arith)
    (of_if (dollars brace) (is_digit (slice_index text 1) or is_special (slice_index text 1)) _ _ (refl, some_bytes _)
    (of_if (dollars brace) (slice_index text 1 == 36 or slice_index text 1 == 33 or slice_index text 1 == 45) _ _ tt
    (of_if (dollars brace) (slice_index text 1 == 40) _ _ (of_if (dollars brace) (slice_index text 2 == 40) _ _ (refl, some_bytes _) (refl, some_bytes _))
    (of_if (dollars brace) (slice_index text 1 == 123) _ _ (of_braced brace text h) (refl, some_bytes _)))))

of_backslash : (ks : List ℕ) (b : Bool) (quoted alone : TokenKind) → Finds ks quoted → Finds ks alone → Of ks (backslash b quoted alone)
of_backslash ks true quoted alone h i = (h.0, subst (λ b. Wide b 2) (sym h.1) (some_bytes _))
of_backslash ks false quoted alone h i = (i.0, subst (λ b. Wide b 1) (sym i.1) (some_bytes _))

of_token_if : (ks : List ℕ) (b : Bool) (kind : TokenKind) (n : ℕ) → member (number kind) ks ≡ true → Wide (may_have_none kind) n → Of ks (token_if b kind n)
of_token_if ks true kind n h i = (h, i)
of_token_if ks false kind n h i = tt

abbrev documents : List ℕ
documents = 2 ∷ 3 ∷ 4 ∷ []

of_body : (literal : Bool) (found : Option ℕ) → Of documents (body_found literal found)
of_body true None = tt
of_body false None = tt
of_body true (Some n) = (refl, tt)
of_body false (Some n) = (refl, tt)

of_bodies : (awaited : List Awaited) (text : List ℕ) → Of documents (bodies_look awaited text)
of_bodies [] text = (refl, tt)
of_bodies (d ∷ ds) text = of_body d.quoted (body d true text)

some_count : (ends : Bool) (n : ℕ) → (ends also nat_lt 0 n) ≡ true → 1 ≤ n
some_count false n h = cc
some_count true n h = omega (arith, ltb-true 0 n h)

of_some : (b : Bool) (n : ℕ) → (b ≡ true → 1 ≤ n) → Of (44 ∷ []) (if b then token k.Delimiter n else None)
of_some false n h = tt
of_some true n h = (refl, h refl)

of_count : (ends : Bool) (n : ℕ) → Of (44 ∷ []) (if (ends also nat_lt 0 n) then token k.Delimiter n else None)
of_count ends n = of_some (ends also nat_lt 0 n) n (some_count ends n)

of_delimiter : (text : List ℕ) → Of (44 ∷ []) (delimiter_look text)
of_delimiter text = of_count (walk w.Bare text).ends (walk w.Bare text).count

of_name : (text : List ℕ) → Of (29 ∷ []) (name_look text)
of_name text = of_if (29 ∷ []) (is_letter (slice_index text 0) also is_end (slice_index text (run_on is_name text))) _ _ (refl, some_bytes _) tt

-- what a closing parenthesis is in an arithmetic expansion
abbrev closings : List ℕ
closings = 68 ∷ 71 ∷ 72 ∷ []

of_closing : (nested : Bool) (next : ℕ) → Of closings (closing nested next)
of_closing true next = (refl, some_bytes _)
of_closing false next = of_if closings (next == 41) _ _ (refl, some_bytes _) (refl, some_bytes _)

-- the kinds that each finds
abbrev pub kinds_by : Recognizer → List ℕ
kinds_by r.Nothing = []
kinds_by r.AtEnd = 73 ∷ []
kinds_by r.Newline = 1 ∷ []
kinds_by r.Operator = op
kinds_by r.Redirects = rd
kinds_by r.LeftParen = 20 ∷ []
kinds_by r.Escape = esc
kinds_by r.Single = 51 ∷ []
kinds_by r.QuoteOpen = 52 ∷ []
kinds_by r.Expands = dollars k.Brace
kinds_by r.ExpandsQuoted = dollars k.QuotedBrace
kinds_by r.Closer = closers
kinds_by r.Esac = 36 ∷ []
kinds_by r.Assignment = 16 ∷ []
kinds_by r.CommandWord = opens
kinds_by r.PrefixWord = 45 ∷ []
kinds_by r.ArgumentWord = 34 ∷ 46 ∷ []
kinds_by r.PatternOpen = 37 ∷ []
kinds_by r.PatternText = 38 ∷ []
kinds_by r.CaseIn = 35 ∷ []
kinds_by r.PatternClose = 39 ∷ []
kinds_by r.PatternBar = 40 ∷ []
kinds_by r.Bodies = documents
kinds_by r.BodyClose = 5 ∷ []
kinds_by r.BodyBackslash = 6 ∷ 7 ∷ []
kinds_by r.BodyText = 6 ∷ []
kinds_by r.WordEnd = 47 ∷ []
kinds_by r.ValueText = 48 ∷ []
kinds_by r.Text = 49 ∷ []
kinds_by r.QuoteClose = 59 ∷ []
kinds_by r.QuotedBackslash = 60 ∷ 61 ∷ []
kinds_by r.QuotedText = 60 ∷ []
kinds_by r.BraceClose = 62 ∷ []
kinds_by r.BraceStartText = 63 ∷ []
kinds_by r.BraceText = 64 ∷ []
kinds_by r.QuotedBraceBackslash = 65 ∷ 66 ∷ []
kinds_by r.QuotedBraceText = 65 ∷ []
kinds_by r.ArithmeticBackslash = 68 ∷ 69 ∷ []
kinds_by r.ArithmeticText = 68 ∷ []
kinds_by r.ParenthesisOpen = 70 ∷ []
kinds_by r.ParenthesisClose = closings
kinds_by r.Name = 29 ∷ []
kinds_by r.FunctionOpen = 14 ∷ []
kinds_by r.FunctionClose = 15 ∷ []
kinds_by r.Delimiter = 44 ∷ []

pub of_recognized : (x : Recognizer) (s : Surroundings) (text : List ℕ) → Of (kinds_by x) (recognized x s text)
unfolding recognized
of_recognized r.Nothing s text = tt
of_recognized r.AtEnd s text = of_token_if (73 ∷ []) s.whole k.End 0 refl tt
of_recognized r.Newline s text = (refl, some_bytes _)
of_recognized r.Operator s text = of_operator (slice_index (folded text) 0) (slice_index (folded text) 1)
of_recognized r.Redirects s text = of_redirection (folded text)
of_recognized r.LeftParen s text = (refl, some_bytes _)
of_recognized r.Escape s text = of_escape text
of_recognized r.Single s text = of_single text
of_recognized r.QuoteOpen s text = (refl, some_bytes _)
of_recognized r.Expands s text = of_dollar k.Brace (folded text) (refl, refl)
of_recognized r.ExpandsQuoted s text = of_dollar k.QuotedBrace (folded text) (refl, refl)
of_recognized r.Closer s text = of_closer (folded text)
of_recognized r.Esac s text = (refl, some_bytes _)
of_recognized r.Assignment s text = (refl, some_bytes _)
of_recognized r.CommandWord s text = of_command_word s.words (folded text)
of_recognized r.PrefixWord s text = of_prefix_word (folded text)
of_recognized r.ArgumentWord s text = of_argument_word s.words (folded text)
of_recognized r.PatternOpen s text = (refl, some_bytes _)
of_recognized r.PatternText s text = of_text (38 ∷ []) is_plain k.PatternText (folded text) (refl, refl)
of_recognized r.CaseIn s text = of_if (35 ∷ []) (is_word (codes "in") (folded text)) _ _ (refl, some_bytes _) tt
of_recognized r.PatternClose s text = (refl, some_bytes _)
of_recognized r.PatternBar s text = of_if (40 ∷ []) (slice_index (folded text) 1 == 124) _ _ tt (refl, some_bytes _)
of_recognized r.Bodies s text = of_bodies s.awaited text
of_recognized r.BodyClose s text = of_token_if (5 ∷ []) s.closed k.BodyClose 0 refl tt
of_recognized r.BodyBackslash s text = of_backslash (6 ∷ 7 ∷ []) _ k.BodyEscape k.BodyText (refl, refl) (refl, refl)
of_recognized r.BodyText s text = (refl, some_bytes _)
of_recognized r.WordEnd s text = (refl, tt)
of_recognized r.ValueText s text = of_text (48 ∷ []) is_plain k.ValueText (folded text) (refl, refl)
of_recognized r.Text s text = of_text (49 ∷ []) is_plain k.Text (folded text) (refl, refl)
of_recognized r.QuoteClose s text = (refl, some_bytes _)
of_recognized r.QuotedBackslash s text = of_backslash (60 ∷ 61 ∷ []) _ k.QuotedEscape k.QuotedText (refl, refl) (refl, refl)
of_recognized r.QuotedText s text = (refl, some_bytes _)
of_recognized r.BraceClose s text = (refl, some_bytes _)
of_recognized r.BraceStartText s text = of_text (63 ∷ []) is_brace_text k.BraceStartText (folded text) (refl, refl)
of_recognized r.BraceText s text = of_text (64 ∷ []) is_brace_text k.BraceText (folded text) (refl, refl)
of_recognized r.QuotedBraceBackslash s text = of_backslash (65 ∷ 66 ∷ []) _ k.QuotedBraceEscape k.QuotedBraceText (refl, refl) (refl, refl)
of_recognized r.QuotedBraceText s text = (refl, some_bytes _)
of_recognized r.ArithmeticBackslash s text = of_backslash (68 ∷ 69 ∷ []) _ k.ArithmeticEscape k.ArithmeticText (refl, refl) (refl, refl)
of_recognized r.ArithmeticText s text = (refl, some_bytes _)
of_recognized r.ParenthesisOpen s text = (refl, some_bytes _)
of_recognized r.ParenthesisClose s text = of_closing s.nested (slice_index (folded text) 1)
of_recognized r.Name s text = of_name (folded text)
of_recognized r.FunctionOpen s text = (refl, some_bytes _)
of_recognized r.FunctionClose s text = (refl, some_bytes _)
of_recognized r.Delimiter s text = of_delimiter text
