-- Places of a text: what is left of it, and what the tokens before have left open.
use Rattle.std.specs.Prelude.{ℕ, ◌+◌, List, [], ◌∷◌, Bool, true, false, drop, length}
use Rattle.sh_token.specs.declared.place.Words.{Words}
use Rattle.sh_token.specs.declared.place.Words.TheVariants.{All}
use Rattle.sh_token.specs.Bytes.{◌also◌, not_so}
use Rattle.sh_token.specs.Blanks.{joins, blanks}
use Rattle.sh_token.specs.HereDocuments.{Awaited}

-- The text around a here-document's body, while the body is read as a text by itself: what is left behind it, and what is open there.
pub record OuterText : Type 0 where
  pub text : List ℕ
  pub at : ℕ
  pub levels : ℕ
  pub opened : List ℕ
  pub parens : List Bool
  pub awaited : List Awaited
  pub tabs : Bool

-- A place: what is left of the text, or of the body that is read, and how many bytes of the whole stand before it;
-- which words are reserved there; how many levels are open; where the open quotes, substitutions and braces were opened, the outermost first;
-- which of the open parentheses begin an expansion; the here-documents to come, and whether their bodies stand there;
-- whether a word goes on there;
-- whether a here-document's delimiter is due, where its operator stands, and whether it drops tabs;
-- whether the tabs at the beginning of lines are dropped here;
-- and what stands around the body.
pub record Place : Type 0 where
  pub text : List ℕ
  pub at : ℕ
  pub words : Words
  pub levels : ℕ
  pub opened : List ℕ
  pub parens : List Bool
  pub awaited : List Awaited
  pub in_bodies : Bool
  pub in_word : Bool
  pub due : Bool
  pub operator : ℕ
  pub dashed : Bool
  pub tabs : Bool
  pub around : List OuterText

abbrev pub is_none : {A : Type 0} → List A → Bool
is_none [] = true
is_none (x ∷ xs) = false

-- nothing is open and nothing awaited, in what is read by itself and in the whole
abbrev pub is_closed : Place → Bool
is_closed p = is_none p.opened also is_none p.awaited

abbrev pub is_whole : Place → Bool
is_whole p = is_closed p also is_none p.around

-- the parentheses that were opened last begin an expansion
abbrev pub last_paren : List Bool → Bool
last_paren [] = false
last_paren (x ∷ []) = x
last_paren (x ∷ (y ∷ xs)) = last_paren (y ∷ xs)

-- in an arithmetic expansion, parentheses of its own are open
abbrev pub is_nested : Place → Bool
is_nested p = not_so (last_paren p.parens)

-- so many bytes further
abbrev pub moved : ℕ → Place → Place
moved n p = record p { text = drop n p.text; at = p.at + n }

-- past joined lines, where a word goes on; past blanks and a comment too, where none does
abbrev pub past_joins : Place → Place
past_joins p = record (moved (joins p.text) p) { in_word = true }

abbrev pub past_blanks : Place → Place
past_blanks p = record (moved (blanks false p.text) p) { in_word = false }

-- where the text begins from a byte on
abbrev pub begin_at : ℕ → List ℕ → Place
begin_at n text =
    past_blanks (record {
      text = drop n text;
      at = n;
      words = All;
      levels = 0;
      opened = [];
      parens = [];
      awaited = [];
      in_bodies = false;
      in_word = false;
      due = false;
      operator = 0;
      dashed = false;
      tabs = false;
      around = [];
    })

-- where a script begins
abbrev pub begin : List ℕ → Place
begin text = begin_at 0 text

-- how much is left, of the body that is read and of what stands around it
abbrev pub left_around : List OuterText → ℕ
left_around [] = 0
left_around (a ∷ more) = length a.text + left_around more

unfoldable pub size : Place → ℕ
size p = length p.text + left_around p.around
