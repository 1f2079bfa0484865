-- What is changed before each later build.
use Rattle.std.specs.Prelude.{ℕ, ◌+◌, List, [], ◌∷◌, ◌++◌, length, nat_eq, if◌then◌else◌, slice_set, slice_index_or}
use Rattle.rk_base.specs.Text.{Text}
use Rattle.rk_gen.specs.Draws.{Drawn, draw, next}
use Rattle.rk_gen.specs.Lines.{source_file, source_path}
use Rattle.rk_gen.specs.Scripts.{script_line, script_file}
use Rattle.rk_gen.specs.Start.{Made}
use Rattle.rk_gen.specs.declared.edits.Edit.{Edit}
use Rattle.rk_gen.specs.declared.edits.Edit.TheVariants as edit
use Rattle.rk_gen.specs.declared.files.File.{File}
use Rattle.rk_gen.specs.declared.scripts.Script.{Script}

-- what is changed, and what the next edit goes on from
pub record Edited : Type 0 where
  pub edit : Edit
  pub after : Made

-- the source K is written
abbrev pub with_source : Made → ℕ → Drawn File → Edited
with_source made count file = record { edit = edit.Write file.made; after = record made { x = file.after; sources = count } }

-- the source that is drawn is made anew, and stands again if it was gone
unfoldable pub source_anew : Made → Edited
source_anew made = with_source made made.sources (source_file (draw made.sources made.x) (next made.x))

-- a new source is added
unfoldable pub source_more : Made → Edited
source_more made = with_source made (made.sources + 1) (source_file made.sources made.x)

abbrev pub no_script : Script
no_script = record { number = 0; lines = [] }

abbrev pub script_at : ℕ → List Script → Script
script_at j scripts = slice_index_or scripts j no_script

-- a script and one line more, the next in its number
unfoldable pub longer : ℕ → Script → ℕ → Drawn Script
longer sources it x = record {
  made = record it { lines = it.lines ++ (script_line sources it.number (length it.lines) x).made ∷ [] };
  after = (script_line sources it.number (length it.lines) x).after;
}

abbrev pub with_script : Made → ℕ → Drawn Script → Edited
with_script made j it = record { edit = edit.Write (script_file it.made); after = record made { x = it.after; scripts = slice_set made.scripts j it.made } }

-- the script that is drawn gets one line more
unfoldable pub line_more : Made → Edited
line_more made =
    with_script made (draw (length made.scripts) made.x) (longer made.sources (script_at (draw (length made.scripts) made.x) made.scripts) (next made.x))

abbrev pub unchanged : Made → Edited
unchanged made = record { edit = edit.Nothing; after = made }

-- the source that is drawn is removed if it stands
unfoldable pub source_gone : Made → Edited
source_gone made = record { edit = edit.Remove (source_path (draw made.sources made.x)); after = record made { x = next made.x } }

-- an edit of this kind
unfoldable pub edit_of_kind : ℕ → Made → Edited
edit_of_kind kind made =
    if nat_eq kind 0 then source_anew made
    else if nat_eq kind 1 then source_more made
    else if nat_eq kind 2 then line_more made
    else if nat_eq kind 3 then unchanged made
    else source_gone made

-- the next edit: its kind is drawn first
unfoldable pub edited : Made → Edited
edited made = edit_of_kind (draw 5 made.x) (record made { x = next made.x })
