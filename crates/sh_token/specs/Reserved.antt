-- Reserved words (XCU 2.4).
use Rattle.std.specs.Prelude.{ℕ, ◌==◌, List, [], ◌∷◌, drop, slice_index, codes, Bool, true, false, if◌then◌else◌, None}
use Rattle.sh_rules.specs.declared.token_kind.TokenKind.TheVariants as k
use Rattle.sh_token.specs.declared.place.Words.{Words}
use Rattle.sh_token.specs.declared.place.Words.TheVariants.{All, Closers, Ordinary}
use Rattle.sh_token.specs.Bytes.{◌or◌, ◌also◌, is_end}
use Rattle.sh_token.specs.Tokens.{Look, token}

-- a word is what a text begins with, and ends there
abbrev pub is_word : List ℕ → List ℕ → Bool
is_word [] text = is_end (slice_index text 0)
is_word (w ∷ ws) text = (slice_index text 0 == w) also is_word ws (drop 1 text)

-- where they are recognized: all where a command may begin, those that close or go on behind a compound command, none among arguments
abbrev pub reserves : Words → Bool
reserves All = true
reserves Closers = true
reserves Ordinary = false

-- the first bytes of those that begin a command
abbrev pub may_open : ℕ → Bool
may_open c = c == 33 or (c == 123 or (c == 105 or (c == 102 or (c == 99 or (c == 119 or c == 117)))))

-- those that begin a command
unfoldable pub opener : List ℕ → Look
opener text =
    if is_word (33 ∷ []) text then token k.Bang 1
    else if is_word (123 ∷ []) text then token k.LeftBrace 1
    else if is_word (codes "if") text then token k.If 2
    else if is_word (codes "for") text then token k.For 3
    else if is_word (codes "case") text then token k.Case 4
    else if is_word (codes "while") text then token k.While 5
    else if is_word (codes "until") text then token k.Until 5
    else None

-- the first bytes of those that close a compound command, or go on with it
abbrev pub may_close : ℕ → Bool
may_close c = c == 125 or (c == 116 or (c == 101 or (c == 102 or c == 100)))

-- those that close a compound command, or go on with it, but esac
unfoldable pub closer : List ℕ → Look
closer text =
    if is_word (125 ∷ []) text then token k.RightBrace 1
    else if is_word (codes "then") text then token k.Then 4
    else if is_word (codes "else") text then token k.Else 4
    else if is_word (codes "elif") text then token k.Elif 4
    else if is_word (codes "fi") text then token k.Fi 2
    else if is_word (codes "do") text then token k.Do 2
    else if is_word (codes "done") text then token k.Done 4
    else None
