-- What the command of a key says.
use Rattle.std.specs.Prelude.{List, [], ◌∷◌, if◌then◌else◌, Option, Some, None}
use Rattle.rk_base.specs.Text.{Text}
use Rattle.rk_calls.specs.Keys.{KeyValue, takes_variables}
use Rattle.rk_calls.specs.Talk.{Says, pay}
use Rattle.rk_top.specs.UnknownTalk.{is_unknown}
use Rattle.sh_builtin.specs.Commands.{builtin_command}
use Rattle.sh_script.specs.Reads.{reads}
use Rattle.sh_means.specs.Starts.{shell_says}
use Rattle.ut_copy.specs.Utilities.{copy_utility}
use Rattle.ut_files.specs.Utilities.{file_utility}
use Rattle.ut_find.specs.Starts.{find_utility}
use Rattle.ut_grep.specs.Starts.{grep_utility}
use Rattle.ut_plain.specs.Starts.{plain_utility}
use Rattle.ut_sed.specs.Starts.{sed_utility}
use Rattle.ut_select.specs.Starts.{select_utility}
use Rattle.ut_sort.specs.Starts.{sort_utility}
use Rattle.ut_text.specs.Starts.{text_utility}

-- what each builtin and utility says of these words, where it knows the first of them
abbrev pub known_by : Text → List Text → List (Option Says)
known_by wd argv =
    builtin_command wd argv
    ∷ text_utility wd argv
    ∷ plain_utility wd argv
    ∷ select_utility wd argv
    ∷ sort_utility wd argv
    ∷ sed_utility wd argv
    ∷ grep_utility wd argv
    ∷ file_utility wd argv
    ∷ copy_utility wd argv
    ∷ find_utility wd argv
    ∷ []

-- the first that is there
abbrev pub first_of : List (Option Says) → Option Says
first_of [] = None
first_of (Some says ∷ more) = Some says
first_of (None ∷ more) = first_of more

-- what is there, or else this
abbrev pub says_or : Option Says → Says → Says
says_or (Some says) other = says
says_or None other = other

-- by the first word
abbrev pub named_of : Text → List Text → Says
named_of wd [] = is_unknown []
named_of wd (name ∷ words) = says_or (first_of (known_by wd (name ∷ words))) (is_unknown name)

-- a shell where the first word is `sh` or has a slash
abbrev pub says_of : KeyValue → Says
says_of key = if takes_variables key.argv then shell_says reads key else named_of key.wd key.argv

-- it pays for its start
unfoldable pub first_talk : KeyValue → Says
first_talk key = pay 1 (says_of key)
