-- A command may say what these commands say: fewer turns only cut it, and no call of theirs has a mode.
use Rattle.std.specs.Prelude.{List, [], ◌∷◌, Option, Some, None, IfSome}
use Rattle.rk_base.specs.Text.{Text}
use Rattle.rk_calls.specs.Keys.{KeyValue, takes_variables}
use Rattle.rk_calls.specs.Talk.{Says}
use Rattle.rk_calls.specs.Views.{IsCommandTalk, talk-pay, talk-if}
use Rattle.rk_top.specs.First.{first_of, first_talk, known_by, named_of, says_of, says_or}
use Rattle.rk_top.specs.UnknownTalk.{is_unknown}
use Rattle.sh_builtin.specs.Commands.{builtin_command}
use Rattle.ut_find.specs.Starts.{find_utility}
use Rattle.ut_grep.specs.Starts.{grep_utility}
use Rattle.ut_plain.specs.Starts.{plain_utility}
use Rattle.ut_sed.specs.Starts.{sed_utility}
use Rattle.ut_select.specs.Starts.{select_utility}
use Rattle.ut_sort.specs.Starts.{sort_utility}
use Rattle.ut_text.specs.Starts.{text_utility}
use Rattle.sh_builtin.proofs.LawLemmas.{talk-builtin_command}
use Rattle.sh_script.specs.Reads.{reads}
use Rattle.sh_means.proofs.StartLemmas.{shell-talk}
use Rattle.ut_args.specs.Usage.{talk-complains}
use Rattle.ut_copy.specs.Utilities.{copy_utility, talk-copy_utility}
use Rattle.ut_files.specs.Utilities.{file_utility, talk-file_utility}
use Rattle.ut_find.specs.Laws.{talk-find_utility}
use Rattle.ut_grep.specs.Laws.{talk-grep_utility}
use Rattle.ut_sed.specs.Laws.{talk-sed_utility}
use Rattle.ut_select.specs.Laws.{talk-select_utility}
use Rattle.ut_sort.specs.Laws.{talk-sort_utility}
use Rattle.ut_plain.specs.Laws.{talk-plain_utility}
use Rattle.ut_text.specs.Laws.{talk-text_utility}

talk-is_unknown : (name : Text) → IsCommandTalk (is_unknown name)
talk-is_unknown name = talk-complains _ 127

talk-says_or : (o : Option Says) (other : Says) → IfSome o IsCommandTalk → IsCommandTalk other → IsCommandTalk (says_or o other)
talk-says_or (Some says) other is_talk other_is = is_talk
talk-says_or None other is_talk other_is = other_is

talk-first_of : (o : Option Says) (more : List (Option Says)) → IfSome o IsCommandTalk → IfSome (first_of more) IsCommandTalk → IfSome (first_of (o ∷ more)) IsCommandTalk
talk-first_of (Some says) more is_talk then = is_talk
talk-first_of None more is_talk then = then

talk-known_by : (wd : Text) (argv : List Text) → IfSome (first_of (known_by wd argv)) IsCommandTalk
talk-known_by wd argv =
    talk-first_of (builtin_command wd argv) _ (talk-builtin_command wd argv)
    (talk-first_of (text_utility wd argv) _ (talk-text_utility wd argv)
    (talk-first_of (plain_utility wd argv) _ (talk-plain_utility wd argv)
    (talk-first_of (select_utility wd argv) _ (talk-select_utility wd argv)
    (talk-first_of (sort_utility wd argv) _ (talk-sort_utility wd argv)
    (talk-first_of (sed_utility wd argv) _ (talk-sed_utility wd argv)
    (talk-first_of (grep_utility wd argv) _ (talk-grep_utility wd argv)
    (talk-first_of (file_utility wd argv) _ (talk-file_utility wd argv)
    (talk-first_of (copy_utility wd argv) _ (talk-copy_utility wd argv)
    (talk-first_of (find_utility wd argv) _ (talk-find_utility wd argv) tt)))))))))

talk-named_of : (wd : Text) (argv : List Text) → IsCommandTalk (named_of wd argv)
talk-named_of wd [] = talk-is_unknown []
talk-named_of wd (name ∷ words) = talk-says_or (first_of (known_by wd (name ∷ words))) (is_unknown name) (talk-known_by wd (name ∷ words)) (talk-is_unknown name)

talk-says_of : (key : KeyValue) → IsCommandTalk (says_of key)
talk-says_of key = talk-if (takes_variables key.argv) _ _ (shell-talk reads key) (talk-named_of key.wd key.argv)

pub talk-first_talk : (key : KeyValue) → IsCommandTalk (first_talk key)
unfolding first_talk
talk-first_talk key = talk-pay 1 (says_of key) (talk-says_of key)
