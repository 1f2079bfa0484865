-- What a place begins with, whatever is looked for there.
use Rattle.std.specs.Prelude.{ℕ, ◌==◌, List, [], ◌∷◌, slice_index, codes, Bool, true, false, if◌then◌else◌, Some, None}
use Rattle.sh_token.specs.declared.place.Words.{Words}
use Rattle.sh_token.specs.declared.front.Front.{Front}
use Rattle.sh_token.specs.declared.front.Front.TheVariants as f
use Rattle.sh_token.specs.declared.front.Break as b
use Rattle.sh_token.specs.declared.front.Break.TheVariants as br
use Rattle.sh_token.specs.declared.front.Quote as q
use Rattle.sh_token.specs.declared.front.Quote.TheVariants as qu
use Rattle.sh_token.specs.declared.front.Plain as p
use Rattle.sh_token.specs.declared.front.Plain.TheVariants as pl
use Rattle.sh_token.specs.Bytes.{◌or◌, ◌also◌, is_end, is_quoting}
use Rattle.sh_token.specs.Reserved.{is_word, closer}
pub use Rattle.sh_token.specs.Reserved.{reserves}
use Rattle.sh_token.specs.Tokens.{Look}
pub use Rattle.sh_token.specs.Commands.{is_assignment, is_numbered}

abbrev pub is_found : Look → Bool
is_found None = false
is_found (Some x) = true

unfoldable pub plain_of : Words → List ℕ → p.Plain
plain_of words text =
    if (reserves words also is_word (125 ∷ []) text) then pl.RightBrace
    else if slice_index text 0 == 125 then pl.CloseBrace
    else if (reserves words also is_word (codes "esac") text) then pl.Esac
    else if (reserves words also is_found (closer text)) then pl.Closer
    else if is_assignment text then pl.Assignment
    else if is_numbered text then pl.Numbered else pl.Text

abbrev pub break_of : ℕ → b.Break
break_of c =
    if c == 10 then br.Newline
    else if c == 59 then br.Semi
    else if c == 38 then br.And
    else if c == 124 then br.Bar
    else if (c == 60 or c == 62) then br.Angle
    else if c == 40 then br.OpenParen
    else if c == 41 then br.CloseParen else br.Blank

abbrev pub quote_of : ℕ → q.Quote
quote_of c =
    if c == 92 then qu.Backslash
    else if c == 39 then qu.Single
    else if c == 34 then qu.Double
    else if c == 96 then qu.Backquote else qu.Dollar

-- nothing is left, or a NUL stands there
abbrev pub end_of : List ℕ → Front
end_of [] = f.End
end_of (c ∷ cs) = f.Nul

-- of a text as it is read
unfoldable pub front_of : Words → List ℕ → Front
front_of words text =
    let c = slice_index text 0 in
    if c == 0 then end_of text
    else if is_end c then f.Break (break_of c)
    else if is_quoting c then f.Quote (quote_of c)
    else if c == 126 then f.Tilde
    else f.Plain (plain_of words text)
