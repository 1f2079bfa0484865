-- The command line, by the words of `clap`.
use Rattle.std.specs.Prelude.{Some, true, codes}
use Rattle.clap.specs.Words.{App, Rule, Text, new_app, new_rule, with_rule, with_subcommand}
use Rattle.clap.specs.declared.builder.ArgAction.TheVariants.{Set, SetTrue}

-- `--NAME VALUE`
abbrev pub valued : Text → Rule
valued name = record (new_rule name) { long = Some name; action = Some Set }

-- `--NAME`
abbrev pub flag : Text → Rule
flag name = record (new_rule name) { long = Some name; action = Some SetTrue }

-- `NAME`, a word that has to stand in its place
abbrev pub placed : Text → Rule
placed name = record (new_rule name) { action = Some Set; required = true }

-- `build [--steps N] [--explain] [--fresh] [--check]`
unfoldable pub build_app : App
build_app =
    with_rule (with_rule (with_rule (with_rule (new_app (codes "build")) (valued (codes "steps"))) (flag (codes "explain"))) (flag (codes "fresh"))) (flag (codes "check"))

-- `trace [--json]`
unfoldable pub trace_app : App
trace_app = with_rule (new_app (codes "trace")) (flag (codes "json"))

-- `gen SEED`
unfoldable pub gen_app : App
gen_app = with_rule (new_app (codes "gen")) (placed (codes "seed"))

-- no help words, and a subcommand has to be named
abbrev pub bare : Text → App
bare name = let a = new_app name in record a {
  top = record a.top { disable_help_flag = true; disable_help_subcommand = true; subcommand_required = true };
}

-- what asks something of a folder; `check` and `forget` take no further words
unfoldable pub folder_line : App
folder_line =
    with_subcommand (with_subcommand (with_subcommand (with_subcommand (bare (codes "rkr")) build_app.top) (new_app (codes "check")).top) trace_app.top) (new_app (codes "forget")).top

-- and what asks nothing of it
unfoldable pub command_line : App
command_line = with_subcommand folder_line gen_app.top
