-- A text, scanned byte by byte for the line at its front.
use Rattle.std.specs.Prelude.{ℕ, ◌==◌, List, [], ◌∷◌, ◌++◌, Bool, not, ◌&&◌, Option, Some, None, if◌then◌else◌}
use Rattle.rk_base.specs.Text.{Text}
use Rattle.sh_builtin.specs.declared.marks.Marked.{Marked}
use Rattle.sh_builtin.specs.declared.line.Scan.{Scan}
use Rattle.sh_builtin.specs.declared.line.Scan.TheVariants.{Plain, Escaped, Joined}
use Rattle.sh_builtin.specs.declared.line.End.{End}
use Rattle.sh_builtin.specs.declared.line.End.TheVariants.{Whole, Short, Continued}
use Rattle.sh_builtin.specs.ReadLines.{Line, plain, quoted}

-- what a byte adds to the line, and how the next one is read; None where it ends the line
pub record Step : Type 0 where
  pub adds : List Marked
  pub next : Option Scan

-- a newline ends the line, and a backslash, but for `-r`, quotes what follows
abbrev pub unquoted : Bool → ℕ → Step
unquoted raw b =
    if b == 10
    then record { adds = []; next = None }
    else (if (b == 92) && not raw then record { adds = []; next = Some Escaped } else record { adds = plain b ∷ []; next = Some Plain })

-- a backslash and a newline join two lines
abbrev pub escaped : ℕ → Step
escaped b = if b == 10 then record { adds = []; next = Some Joined } else record { adds = quoted b ∷ []; next = Some Plain }

abbrev pub step : Bool → Scan → ℕ → Step
step raw Plain b = unquoted raw b
step raw Escaped b = escaped b
step raw Joined b = unquoted raw b

-- where the input ends after a joined line, more is asked for; a last backslash that quotes nothing goes
abbrev pub end_of : Scan → End
end_of Plain = Short
end_of Escaped = Short
end_of Joined = Continued

abbrev pub behind : Step → (Scan → Line) → Line
behind s rest = elim s.next [ None ↦ record { marks = s.adds; end = Whole } | Some scan ↦ record { marks = s.adds ++ (rest scan).marks; end = (rest scan).end } ]

-- the bytes of a line, with those that are quoted marked
abbrev pub scanned : Bool → Scan → Text → Line
scanned raw scan [] = record { marks = []; end = end_of scan }
scanned raw scan (b ∷ bs) = behind (step raw scan b) (λ next. scanned raw next bs)

abbrev pub line_of : Bool → Text → Line
line_of raw text = scanned raw Plain text
