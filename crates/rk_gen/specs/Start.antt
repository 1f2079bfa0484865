-- What a seed makes before the first build.
use Rattle.std.specs.Prelude.{ℕ, ◌+◌, List, [], ◌∷◌, ◌++◌, map}
use Rattle.rk_gen.specs.Draws.{Drawn, draw, next, drawn_all}
use Rattle.rk_gen.specs.Lines.{source_file}
use Rattle.rk_gen.specs.Scripts.{script, script_file, rikerfile}
use Rattle.rk_gen.specs.declared.files.File.{File}
use Rattle.rk_gen.specs.declared.scripts.Script.{Script}

-- What the edits go on from: where x stands, how many sources were made so far, those that are gone as well, and the scripts.
pub record Made : Type 0 where
  pub x : ℕ
  pub sources : ℕ
  pub scripts : List Script

-- how many sources there are at first: 8 to 32
unfoldable pub source_count : ℕ → ℕ
source_count x = 8 + draw 25 x

-- these sources, one after another
unfoldable pub sources : ℕ → Drawn (List File)
sources x = drawn_all source_file (source_count x) (next x)

-- four to fifteen scripts over so many sources, one after another
unfoldable pub scripts : ℕ → ℕ → Drawn (List Script)
scripts count x = drawn_all (script count) (4 + draw 12 x) (next x)

-- the scripts of a seed, which are made after the sources
abbrev pub scripts_of : ℕ → Drawn (List Script)
scripts_of seed = scripts (source_count seed) (sources seed).after

-- the files of scripts, and the one that runs them
abbrev pub script_files : List Script → List File
script_files all = map script_file all ++ rikerfile all ∷ []

-- the files of a seed's folder
unfoldable pub files_of : ℕ → List File
files_of seed = (sources seed).made ++ script_files (scripts_of seed).made

-- and what the edits go on from
unfoldable pub made_of : ℕ → Made
made_of seed = record { x = (scripts_of seed).after; sources = source_count seed; scripts = (scripts_of seed).made }
