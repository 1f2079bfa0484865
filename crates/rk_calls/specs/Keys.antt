-- Keys of commands: words, working directory and exported variables.
use Rattle.std.specs.Prelude.{List, [], ◌∷◌, Bool, false, not, ◌&&◌, ◌||◌, if◌then◌else◌}
use Rattle.std.specs.List.{list_any}
use Rattle.std.specs.Cmp.Lexicographic.{pointwise}
use Rattle.rk_base.specs.Canonical.{is_empty}
use Rattle.rk_base.specs.Text.{Text, same_text, is_slash}
use Rattle.rk_base.specs.declared.vars.Var.{Var}

pub record KeyValue : Type 0 where
  pub argv : List Text
  pub wd : Text
  pub vars : List Var

-- the word for the shell
abbrev pub shell : Text
shell = 115 ∷ 104 ∷ []

-- the variables count where the first word is `sh` or has a slash
abbrev pub takes_variables : List Text → Bool
takes_variables [] = false
takes_variables (word ∷ words) = same_text word shell || list_any is_slash word

abbrev pub kept_variables : List Text → List Var → List Var
kept_variables argv vars = if takes_variables argv then vars else []

-- the key of a command with these words, in this directory, with these exported variables
abbrev pub key_of : List Text → Text → List Var → KeyValue
key_of argv wd exported = record { argv = argv; wd = wd; vars = kept_variables argv exported }

abbrev pub same_var : Var → Var → Bool
same_var v w = same_text v.name w.name && same_text v.value w.value

abbrev pub same_key : KeyValue → KeyValue → Bool
same_key a b = pointwise same_text a.argv b.argv && (same_text a.wd b.wd && pointwise same_var a.vars b.vars)

-- what is a key: at least one word, and variables only where they count
abbrev pub is_key : List Text → List Var → Bool
is_key argv vars = not (is_empty argv) && (takes_variables argv || is_empty vars)
