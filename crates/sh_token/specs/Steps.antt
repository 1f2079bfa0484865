-- From a place to the next one, by what a token leaves open.
use Rattle.std.specs.Prelude.{ℕ, suc, ◌-◌, ◌==◌, nat_lt, List, [], ◌∷◌, ◌++◌, Bool, true, false, if◌then◌else◌, Option, Some, None, take, drop}
use Rattle.sh_rules.specs.declared.token_kind.TokenKind.{TokenKind}
use Rattle.sh_rules.specs.declared.token_kind.Mode.{Mode}
use Rattle.sh_rules.specs.Rules.{Token}
use Rattle.sh_token.specs.declared.place.Words.TheVariants.{All, Closers, Ordinary}
use Rattle.sh_token.specs.declared.effect.Effect.{Effect}
use Rattle.sh_token.specs.declared.effect.Effect.TheVariants as e
use Rattle.sh_token.specs.declared.delimiter.Within.TheVariants as w
use Rattle.sh_token.specs.Effects.{effect_of}
use Rattle.sh_token.specs.Bytes.{◌or◌, ◌also◌, not_so, is_tab}
use Rattle.sh_token.specs.Folded.{folded, run}
use Rattle.sh_token.specs.HereDocuments.{Awaited, delimiter_of, is_quoted, lines, line}
use Rattle.sh_token.specs.Tokens.{Look, is_raw, extent}
use Rattle.sh_token.specs.Recognition.{token_at}
use Rattle.sh_token.specs.Places.{Place, OuterText, last_paren, moved, past_joins, past_blanks}

-- but the last; and the last, where there is one
abbrev pub popped : {A : Type 0} → List A → List A
popped [] = []
popped (x ∷ []) = []
popped (x ∷ (y ∷ xs)) = x ∷ popped (y ∷ xs)

abbrev pub or_false : Option Bool → Bool
or_false None = false
or_false (Some b) = b

abbrev pub last_around : List OuterText → Option OuterText
last_around [] = None
last_around (x ∷ []) = Some x
last_around (x ∷ (y ∷ xs)) = last_around (y ∷ xs)

-- a closing parenthesis ends a substitution within a word, or a subshell
abbrev pub substitution_closed : Place → Place
substitution_closed p = past_joins (record p { opened = popped p.opened; levels = p.levels - 1; words = Ordinary })

abbrev pub subshell_closed : Place → Place
subshell_closed p = past_blanks (record p { levels = p.levels - 1; words = Closers })

abbrev pub paren_closed : Bool → Place → Place
paren_closed true p = substitution_closed p
paren_closed false p = subshell_closed p

-- an operator ends with the sign that drops tabs
abbrev pub ends_with_dash : Bool → List ℕ → Bool
ends_with_dash last [] = last
ends_with_dash last (c ∷ cs) = ends_with_dash (c == 45) cs

-- a here-document is awaited, by its operator and its delimiter's word
abbrev pub delimited : List ℕ → Place → Place
delimited word p =
    past_blanks (record p {
      words = Ordinary;
      due = false;
      awaited = p.awaited ++ record { at = p.operator; levels = p.levels; delimiter = delimiter_of w.Bare word; quoted = is_quoted word; tabs = p.dashed or p.tabs } ∷ [];
    })

-- past the line that ends a body
abbrev pub past_line : Bool → Place → Place
past_line literal p = moved (line literal p.text) p

-- the next here-document: whether it is literal, how many levels are open at its operator, and whether tabs are dropped
abbrev pub next : List Awaited → Option (Bool × ℕ × Bool)
next [] = None
next (d ∷ ds) = Some (d.quoted, d.levels, d.tabs)

-- past a body of so many bytes and the line that ends it
abbrev pub body_passed : Bool → ℕ → Place → Place
body_passed literal n p = record (past_line literal (moved n p)) { awaited = drop 1 p.awaited }

abbrev pub body_taken : Option (Bool × ℕ × Bool) → ℕ → Place → Place
body_taken None n p = moved n p
body_taken (Some d) n p = body_passed d.0 n p

-- past the tabs with which a line begins, where they are dropped
abbrev pub past_tabs_if : Bool → Place → Place
past_tabs_if true p = past_joins (moved (extent false (run is_tab (folded p.text)) p.text) p)
past_tabs_if false p = past_joins p

-- what stands around a body is put aside
abbrev pub aside : Place → OuterText
aside p = record { text = p.text; at = p.at; levels = p.levels; opened = p.opened; parens = p.parens; awaited = p.awaited; tabs = p.tabs }

abbrev pub put_aside : Place → Place
put_aside p = record p { opened = []; parens = []; awaited = []; around = p.around ++ aside p ∷ [] }

-- a body that is expanded is a text by itself, and its levels are counted from its operator's place
abbrev pub body_begun : Bool → ℕ → Bool → ℕ → Place → Place
body_begun literal levels tabs n p =
    past_tabs_if tabs (record (put_aside (body_passed literal n p)) {
      text = take n p.text;
      at = p.at;
      words = Ordinary;
      levels = levels;
      in_bodies = false;
      tabs = tabs;
    })

abbrev pub body_opened : Option (Bool × ℕ × Bool) → ℕ → Place → Place
body_opened None n p = moved n p
body_opened (Some d) n p = body_begun d.0 d.1 d.2 n p

-- back to what stands around it
abbrev pub gone_back : OuterText → Place → Place
gone_back a p =
    record p {
      text = a.text;
      at = a.at;
      levels = a.levels;
      opened = a.opened;
      parens = a.parens;
      awaited = a.awaited;
      in_bodies = true;
      tabs = a.tabs;
    }

abbrev pub body_closed : Option OuterText → Place → Place
body_closed None p = p
body_closed (Some a) p = gone_back a p

-- the place behind a token of so many bytes
unfoldable pub after : Effect → ℕ → Place → Place
after e.Inside n p = past_joins (moved n p)
after e.Separates n p = past_blanks (record (moved n p) { words = All; in_bodies = false })
after e.Opens n p = past_blanks (record (moved n p) { words = All; levels = suc p.levels })
after e.OpensWord n p = past_blanks (record (moved n p) { words = Ordinary; levels = suc p.levels })
after e.OpensParen n p = past_blanks (record (moved n p) { words = All; levels = suc p.levels; parens = p.parens ++ false ∷ [] })
after e.Closes n p = past_blanks (record (moved n p) { words = Closers; levels = p.levels - 1 })
after e.ClosesParen n p = paren_closed (last_paren p.parens) (moved n (record p { parens = popped p.parens }))
after e.Substitutes n p = past_blanks (record (moved n p) { words = All; levels = suc p.levels; parens = p.parens ++ true ∷ []; opened = p.opened ++ p.at ∷ [] })
after e.Quotes n p = past_joins (record (moved n p) { opened = p.opened ++ p.at ∷ [] })
after e.Unquotes n p = past_joins (record (moved n p) { opened = popped p.opened })
after e.OpensBraces n p = past_joins (record (moved n p) { levels = suc p.levels; opened = p.opened ++ p.at ∷ [] })
after e.ClosesBraces n p = past_joins (record (moved n p) { levels = p.levels - 1; opened = popped p.opened })
after e.OpensArithmetic n p = past_joins (record (moved n p) { levels = suc p.levels; parens = p.parens ++ true ∷ []; opened = p.opened ++ p.at ∷ [] })
after e.ClosesArithmetic n p = past_joins (record (moved n p) { levels = p.levels - 1; parens = popped p.parens; opened = popped p.opened })
after e.OpensParenthesis n p = past_joins (record (moved n p) { parens = p.parens ++ false ∷ [] })
after e.ClosesParenthesis n p = past_joins (record (moved n p) { parens = popped p.parens })
after e.EndsWord n p = past_blanks (record (moved n p) { words = Ordinary })
after e.EndsName n p = past_blanks (record (moved n p) { words = Closers })
after e.Awaits n p = past_blanks (record (moved n p) { words = Ordinary; due = true; operator = p.at; dashed = ends_with_dash false (folded (take n p.text)) })
after e.Delimits n p = delimited (take n p.text) (moved n p)
after e.EndsLine n p = record (moved n p) { in_bodies = true }
after e.TakesBody n p = body_taken (next p.awaited) n p
after e.OpensBody n p = body_opened (next p.awaited) n p
after e.ClosesBody n p = body_closed (last_around p.around) (record p { around = popped p.around })
after e.Encloses n p = past_joins (moved n p)

-- The bytes of a token as they are read: without joined lines but in quotes, and without the tabs at the beginning of lines
-- where they are dropped.
abbrev pub untabbed : Bool → Bool → List ℕ → List ℕ
untabbed dropped begins [] = []
untabbed dropped begins (c ∷ cs) =
    if ((dropped also begins) also is_tab c) then untabbed dropped true cs else c ∷ untabbed dropped (c == 10) cs

abbrev pub as_read : Bool → Bool → Bool → List ℕ → List ℕ
as_read raw dropped begins text = untabbed dropped begins (lines raw text)

-- a literal body begins with a line, and no token else does
abbrev pub takes_body : Effect → Bool
takes_body e.TakesBody = true
takes_body other = false

abbrev pub next_drops : Option (Bool × ℕ × Bool) → Bool
next_drops None = false
next_drops (Some d) = d.2

abbrev pub drops : Effect → Place → Bool
drops effect p = if takes_body effect then next_drops (next p.awaited) else p.tabs

abbrev pub token_of : TokenKind → ℕ → Place → Token
token_of kind n p =
    record { kind = kind; text = as_read (is_raw kind) (drops (effect_of kind) p) (takes_body (effect_of kind)) (take n p.text) }

abbrev pub lexed : Place → Look → Option (Token × Place)
lexed p None = None
lexed p (Some x) = Some (token_of x.0 x.1 p, after (effect_of x.0) x.1 p)

-- THE TOKEN at a place, which is that of Recognition.antt, and the place behind it
unfoldable pub lex : Mode → Place → Option (Token × Place)
lex mode p = lexed p (token_at mode p)

abbrev pub opens_level : Effect → Bool
opens_level e.Opens = true
opens_level e.OpensWord = true
opens_level e.OpensParen = true
opens_level e.Substitutes = true
opens_level e.OpensBraces = true
opens_level e.OpensArithmetic = true
opens_level e.Encloses = true
opens_level other = false

-- a token that opens a level beyond the 64th
unfoldable pub over : Token → Place → Bool
over t p = opens_level (effect_of t.kind) also not_so (nat_lt p.levels 64)
