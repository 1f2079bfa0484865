-- Files, sources and their lines.
use Rattle.std.specs.Prelude.{ℕ, ◌+◌, List, [], ◌∷◌, ◌++◌, codes}
use Rattle.std.specs.Fmt.{decimal}
use Rattle.std.specs.List.{flat_map}
use Rattle.rk_base.specs.Text.{Text}
use Rattle.rk_gen.specs.Draws.{Drawn, draw, next, drawn_all}
use Rattle.rk_gen.specs.declared.files.File.{File}

-- a line and its newline
abbrev pub ended : Text → Text
ended line = line ++ 10 ∷ []

-- lines as one text
unfoldable pub text_of : List Text → Text
text_of lines = flat_map ended lines

-- a line of a source: `x` or `y`, and a number below 1,000
unfoldable pub source_line : ℕ → Drawn Text
source_line x = record { made = (120 + draw 2 x) ∷ decimal (draw 1000 (next x)); after = next (next x) }

-- a source: up to seven such lines
unfoldable pub source : ℕ → Drawn (List Text)
source x = drawn_all (λ number. source_line) (draw 8 x) (next x)

-- `sK` in the root
unfoldable pub source_path : ℕ → Text
source_path k = codes "/s" ++ decimal k

-- the file of a source
unfoldable pub source_file : ℕ → ℕ → Drawn File
source_file k x = record { made = record { path = source_path k; bytes = text_of (source x).made }; after = (source x).after }
