-- The paths of made files and of edits are outside `.rkr`.
use Rattle.std.proofs.Common.{◌≡◌, ℕ, zero, suc, List, [], ◌∷◌, ◌++◌, map, Bool, true, false, cond, refl}
use Rattle.std.specs.Prelude.{nat_eq}
use Rattle.std.specs.List.{AllByRecursion}
use Rattle.rk_base.specs.Text.{Text, is_within, join}
use Rattle.rk_folder.specs.Hidden.{hidden_dir}
use Rattle.rk_gen.specs.Draws.{draw, drawn_all, next}
use Rattle.rk_gen.specs.Lines.{source_file, source_path}
use Rattle.rk_gen.specs.Scripts.{rikerfile, script_file, script_path}
use Rattle.rk_gen.specs.Edits.{Edited, edit_of_kind, edited, line_more, source_anew, source_gone, source_more, unchanged}
use Rattle.rk_gen.specs.Start.{Made, files_of, script_files, scripts_of, sources}
use Rattle.rk_gen.specs.declared.edits.Edit.{Edit}
use Rattle.rk_gen.specs.declared.edits.Edit.TheVariants.{Write, Remove, Nothing}
use Rattle.rk_gen.specs.declared.files.File.{File}
use Rattle.rk_gen.specs.declared.scripts.Script.{Script}

abbrev pub IsVisible : Text → Type 0
IsVisible path = is_within hidden_dir path ≡ false

abbrev pub IsVisibleFile : File → Type 0
IsVisibleFile file = IsVisible file.path

abbrev pub IsVisibleEdit : Edit → Type 0
IsVisibleEdit (Write file) = IsVisibleFile file
IsVisibleEdit (Remove path) = IsVisible path
IsVisibleEdit Nothing = Unit {0}

source_path-visible : (k : ℕ) → IsVisible (source_path k)
unfolding source_path is_within join
source_path-visible k = refl

script_path-visible : (j : ℕ) → IsVisible (script_path j)
unfolding script_path is_within join
script_path-visible j = refl

source_file-visible : (k x : ℕ) → IsVisibleFile (source_file k x).made
unfolding source_file
source_file-visible k x = source_path-visible k

script_file-visible : (it : Script) → IsVisibleFile (script_file it)
unfolding script_file
script_file-visible it = script_path-visible it.number

rikerfile-visible : (all : List Script) → IsVisibleFile (rikerfile all)
unfolding rikerfile is_within join
rikerfile-visible all = refl

-- Edits.

by_test : (b : Bool) (x y : Edited) → IsVisibleEdit x.edit → IsVisibleEdit y.edit → IsVisibleEdit (cond b x y).edit
by_test true x y p q = p
by_test false x y p q = q

anew : (made : Made) → IsVisibleEdit (source_anew made).edit
unfolding source_anew
anew made = source_file-visible (draw made.sources made.x) (next made.x)

more : (made : Made) → IsVisibleEdit (source_more made).edit
unfolding source_more
more made = source_file-visible made.sources made.x

line : (made : Made) → IsVisibleEdit (line_more made).edit
unfolding line_more
line made = script_file-visible _

gone : (made : Made) → IsVisibleEdit (source_gone made).edit
unfolding source_gone
gone made = source_path-visible (draw made.sources made.x)

of_kind : (kind : ℕ) (made : Made) → IsVisibleEdit (edit_of_kind kind made).edit
unfolding edit_of_kind
of_kind kind made =
    by_test (nat_eq kind 0) _ _ (anew made)
    (by_test (nat_eq kind 1) _ _ (more made)
    (by_test (nat_eq kind 2) _ _ (line made)
    (by_test (nat_eq kind 3) (unchanged made) (source_gone made) tt (gone made))))

pub edited-visible : (made : Made) → IsVisibleEdit (edited made).edit
unfolding edited
edited-visible made = of_kind (draw 5 made.x) (record made { x = next made.x })

-- Files.

both-visible : (xs ys : List File) → AllByRecursion IsVisibleFile xs → AllByRecursion IsVisibleFile ys → AllByRecursion IsVisibleFile (xs ++ ys)
both-visible [] ys all more = more
both-visible (x ∷ xs) ys all more = (all.0, both-visible xs ys all.1 more)

sources-visible : (n x : ℕ) → AllByRecursion IsVisibleFile (drawn_all source_file n x).made
unfolding drawn_all
sources-visible zero x = tt
sources-visible (suc n) x = both-visible (drawn_all source_file n x).made _ (sources-visible n x) (source_file-visible n (drawn_all source_file n x).after, tt)

scripts-visible : (all : List Script) → AllByRecursion IsVisibleFile (map script_file all)
scripts-visible [] = tt
scripts-visible (it ∷ all) = (script_file-visible it, scripts-visible all)

script_files-visible : (all : List Script) → AllByRecursion IsVisibleFile (script_files all)
script_files-visible all = both-visible (map script_file all) (rikerfile all ∷ []) (scripts-visible all) (rikerfile-visible all, tt)

pub files-visible : (seed : ℕ) → AllByRecursion IsVisibleFile (files_of seed)
unfolding files_of sources
files-visible seed = both-visible (sources seed).made (script_files (scripts_of seed).made) (sources-visible _ _) (script_files-visible (scripts_of seed).made)
