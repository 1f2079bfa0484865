-- Scripts, and the script that runs them all.
use Rattle.std.specs.Prelude.{ℕ, ◌+◌, List, [], ◌∷◌, ◌++◌, codes, nat_eq, if◌then◌else◌}
use Rattle.std.specs.Fmt.{decimal}
use Rattle.std.specs.List.{flat_map}
use Rattle.rk_base.specs.Text.{Text}
use Rattle.rk_gen.specs.Draws.{Drawn, draw, next, drawn_all}
use Rattle.rk_gen.specs.Lines.{text_of}
use Rattle.rk_gen.specs.declared.files.File.{File}
use Rattle.rk_gen.specs.declared.scripts.Script.{Script}

-- ` > oJ_I`: where the line I of the script J puts its output
unfoldable pub to_output : ℕ → ℕ → Text
to_output j i = codes " > o" ++ (decimal j ++ (codes "_" ++ decimal i))

-- `cat sA`
unfoldable pub cat_line : ℕ → Text → Text
cat_line a output = codes "cat s" ++ (decimal a ++ output)

-- `grep -F x sA | sort`
unfoldable pub grep_line : ℕ → Text → Text
grep_line a output = codes "grep -F x s" ++ (decimal a ++ (codes " | sort" ++ output))

-- `cat sA sB`
unfoldable pub cat_both_line : ℕ → ℕ → Text → Text
cat_both_line a b output = codes "cat s" ++ (decimal a ++ (codes " s" ++ (decimal b ++ output)))

-- `wc -l < sA`
unfoldable pub wc_line : ℕ → Text → Text
wc_line a output = codes "wc -l < s" ++ (decimal a ++ output)

-- a line of this kind, over the source A of so many; only one of two sources draws again
unfoldable pub line_of_kind : ℕ → ℕ → ℕ → Text → ℕ → Drawn Text
line_of_kind kind sources a output x =
    if nat_eq kind 0 then record { made = cat_line a output; after = x }
    else if nat_eq kind 1 then record { made = grep_line a output; after = x }
    else if nat_eq kind 2 then record { made = cat_both_line a (draw sources x) output; after = next x }
    else record { made = wc_line a output; after = x }

-- the line I of the script J, over so many sources: its kind is drawn, and then A
unfoldable pub script_line : ℕ → ℕ → ℕ → ℕ → Drawn Text
script_line sources j i x = line_of_kind (draw 4 x) sources (draw sources (next x)) (to_output j i) (next (next x))

-- the lines of the script J: two to eleven
unfoldable pub script_lines : ℕ → ℕ → ℕ → Drawn (List Text)
script_lines sources j x = drawn_all (script_line sources j) (2 + draw 10 x) (next x)

-- the script J
unfoldable pub script : ℕ → ℕ → ℕ → Drawn Script
script sources j x = record { made = record { number = j; lines = (script_lines sources j x).made }; after = (script_lines sources j x).after }

-- `gJ.sh` in the root
unfoldable pub script_path : ℕ → Text
script_path j = codes "/g" ++ (decimal j ++ codes ".sh")

-- the file of a script
unfoldable pub script_file : Script → File
script_file it = record { path = script_path it.number; bytes = text_of it.lines }

-- `sh gJ.sh`
unfoldable pub run_line : Script → Text
run_line it = codes "sh g" ++ (decimal it.number ++ codes ".sh\n")

-- `Rikerfile` runs each script, and then puts all sources in one file
unfoldable pub rikerfile : List Script → File
rikerfile scripts = record { path = codes "/Rikerfile"; bytes = flat_map run_line scripts ++ codes "cat s* > all\n" }
