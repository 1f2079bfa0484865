-- Here-documents: their delimiters, and where their bodies end (XCU 2.7.4).
use Rattle.std.specs.Prelude.{ℕ, suc, ◌+◌, ◌==◌, List, [], ◌∷◌, ◌++◌, Option, Some, None, Bool, true, false, if◌then◌else◌, drop, slice_index}
use Rattle.sh_token.specs.declared.delimiter.Within.{Within}
use Rattle.sh_token.specs.declared.delimiter.Within.TheVariants as w
use Rattle.sh_token.specs.declared.delimiter.DelimiterStep.{DelimiterStep}
use Rattle.sh_token.specs.declared.delimiter.DelimiterStep.TheVariants as s
use Rattle.sh_token.specs.declared.body.Piece.{Piece}
use Rattle.sh_token.specs.declared.body.Piece.TheVariants as pc
use Rattle.sh_token.specs.Bytes.{◌or◌, ◌also◌, not_so, is_end, is_tab, is_unquoted}
use Rattle.sh_token.specs.Folded.{folded, run}
use Rattle.sh_token.specs.Words.{is_quotable}

-- A delimiter is a word without expansions: a dollar sign stands for itself in it.

-- how a delimiter goes on, by its next two bytes, or the last one
abbrev pub step : Within → ℕ → ℕ → Bool → DelimiterStep
step w.Bare c d more =
    if (is_end c or c == 96) then s.Ends
    else if c == 39 then s.One w.Single
    else if c == 34 then s.One w.Double
    else if (c == 92 also more) then (if d == 0 then s.Fails else s.Two w.Bare)
    else s.One w.Bare
step w.Single c d more = if c == 39 then s.One w.Bare else if c == 0 then s.Fails else s.One w.Single
step w.Double c d more =
    if c == 34 then s.One w.Bare
    else if (c == 0 or c == 96) then s.Fails
    else if (c == 92 also more) then (if d == 0 then s.Fails else s.Two w.Double)
    else s.One w.Double

-- so many bytes go on a delimiter, and behind them it ends or fails
pub record Walk : Type 0 where
  pub count : ℕ
  pub ends : Bool

abbrev pub further : ℕ → Walk → Walk
further n x = record x { count = n + x.count }

abbrev pub stopped : Bool → Walk
stopped ends = record { count = 0; ends = ends }

abbrev pub walked : DelimiterStep → (Within → Walk) → (Within → Walk) → Walk
walked s.Ends one two = stopped true
walked s.Fails one two = stopped false
walked (s.One x) one two = further 1 (one x)
walked (s.Two x) one two = further 2 (two x)

-- with the text it ends where all quotes are closed
abbrev pub at_end : Within → DelimiterStep
at_end w.Bare = s.Ends
at_end w.Single = s.Fails
at_end w.Double = s.Fails

abbrev pub step_at : Within → List ℕ → DelimiterStep
step_at x [] = at_end x
step_at x (c ∷ []) = step x c 0 false
step_at x (c ∷ (d ∷ cs)) = step x c d true

abbrev pub nowhere : Within → Walk
nowhere x = stopped false

-- the rest of a delimiter
abbrev pub walk : Within → List ℕ → Walk
walk x [] = walked (at_end x) nowhere nowhere
walk x (c ∷ []) = walked (step_at x (c ∷ [])) (λ y. walked (at_end y) nowhere nowhere) nowhere
walk x (c ∷ (d ∷ cs)) = walked (step_at x (c ∷ (d ∷ cs))) (λ y. walk y (d ∷ cs)) (λ y. walk y cs)

-- quote removal (XCU 2.6.7): what stands for a byte, and for a backslash and a byte
abbrev pub one_left : Within → ℕ → List ℕ
one_left w.Bare c = if (c == 39 or c == 34) then [] else c ∷ []
one_left w.Single c = if c == 39 then [] else c ∷ []
one_left w.Double c = if c == 34 then [] else c ∷ []

abbrev pub two_left : Within → ℕ → List ℕ
two_left w.Bare d = if d == 10 then [] else d ∷ []
two_left w.Single d = d ∷ []
two_left w.Double d = if d == 10 then [] else if is_quotable d then d ∷ [] else 92 ∷ (d ∷ [])

abbrev pub left : DelimiterStep → List ℕ → List ℕ → (Within → List ℕ) → (Within → List ℕ) → List ℕ
left s.Ends c d one two = []
left s.Fails c d one two = []
left (s.One x) c d one two = c ++ one x
left (s.Two x) c d one two = d ++ two x

abbrev pub nothing : Within → List ℕ
nothing x = []

-- the delimiter that a word is
abbrev pub delimiter_of : Within → List ℕ → List ℕ
delimiter_of x [] = []
delimiter_of x (c ∷ []) = left (step_at x (c ∷ [])) (one_left x c) [] nothing nothing
delimiter_of x (c ∷ (d ∷ cs)) = left (step_at x (c ∷ (d ∷ cs))) (one_left x c) (two_left x d) (λ y. delimiter_of y (d ∷ cs)) (λ y. delimiter_of y cs)

-- a part of the word is quoted, so the body is literal
abbrev pub is_quoted : List ℕ → Bool
is_quoted word = let c = slice_index (folded word) (run is_unquoted (folded word)) in c == 92 or c == 39 or c == 34

-- A here-document whose body is still to come: where its operator stands and how many levels are open there, its delimiter,
-- whether that is quoted, and whether leading tabs are dropped.
pub record Awaited : Type 0 where
  pub at : ℕ
  pub levels : ℕ
  pub delimiter : List ℕ
  pub quoted : Bool
  pub tabs : Bool

-- the lines of a body: joined where it isn't literal
abbrev pub lines : Bool → List ℕ → List ℕ
lines true text = text
lines false text = folded text

-- past their tabs, where they are dropped
abbrev pub past_tabs : Bool → Bool → List ℕ → List ℕ
past_tabs true literal text = drop (run is_tab (lines literal text)) (lines literal text)
past_tabs false literal text = lines literal text

-- some bytes are the line in front
abbrev pub begins : ℕ → List ℕ → Bool
begins b [] = false
begins b (c ∷ cs) = c == b

abbrev pub ends : List ℕ → Bool
ends [] = true
ends (c ∷ cs) = c == 10

abbrev pub is_line : List ℕ → List ℕ → Bool
is_line [] text = ends text
is_line (b ∷ bs) text = begins b text also is_line bs (drop 1 text)

-- the line in front, of some bytes, is the delimiter
abbrev pub has_bytes : {A : Type 0} → List A → Bool
has_bytes [] = false
has_bytes (x ∷ xs) = true

unfoldable pub closes : Awaited → List ℕ → Bool
closes d text = has_bytes text also is_line d.delimiter (past_tabs d.tabs d.quoted text)

-- what a line goes on with: a backslash goes with the byte behind it where the body isn't literal
abbrev pub one_piece : Bool → ℕ → Piece
one_piece literal c = if c == 10 then pc.Newline else if (literal also c == 0) then pc.Nul else pc.Byte

abbrev pub piece : Bool → List ℕ → Piece
piece literal [] = pc.End
piece literal (c ∷ []) = one_piece literal c
piece literal (c ∷ (d ∷ cs)) = if (not_so literal also c == 92) then pc.Pair else one_piece literal c

abbrev pub counted_line : Piece → ℕ → ℕ → ℕ
counted_line pc.End one two = 0
counted_line pc.Newline one two = 1
counted_line pc.Nul one two = suc one
counted_line pc.Byte one two = suc one
counted_line pc.Pair one two = suc (suc two)

-- how many bytes the line in front has, with its newline
abbrev pub line : Bool → List ℕ → ℕ
line literal [] = 0
line literal (c ∷ []) = 1
line literal (c ∷ (d ∷ cs)) = counted_line (piece literal (c ∷ (d ∷ cs))) (line literal (d ∷ cs)) (line literal cs)

abbrev pub more_by : ℕ → Option ℕ → Option ℕ
more_by n None = None
more_by n (Some m) = Some (n + m)

-- a body ends in front of its delimiter; no NUL stands in a literal one
abbrev pub counted_body : Bool → Piece → Option ℕ → Option ℕ → Option ℕ → Option ℕ
counted_body true x next one two = Some 0
counted_body false pc.End next one two = None
counted_body false pc.Newline next one two = more_by 1 next
counted_body false pc.Nul next one two = None
counted_body false pc.Byte next one two = more_by 1 one
counted_body false pc.Pair next one two = more_by 2 two

-- how many bytes stand before the line that is the delimiter, where there is one: at a line's beginning or within a line
abbrev pub body : Awaited → Bool → List ℕ → Option ℕ
body d begins [] = None
body d begins (c ∷ []) = counted_body (begins also closes d (c ∷ [])) (piece d.quoted (c ∷ [])) None None None
body d begins (c ∷ (e ∷ cs)) =
    counted_body (begins also closes d (c ∷ (e ∷ cs))) (piece d.quoted (c ∷ (e ∷ cs))) (body d true (e ∷ cs)) (body d false (e ∷ cs)) (body d false cs)
