-- Commands as lines name them.
use Rattle.std.specs.Prelude.{ℕ, List, [], ◌∷◌, ◌++◌, codes}
use Rattle.std.specs.List.{flat_map}
use Rattle.std.specs.Fmt.{decimal}
use Rattle.rk_base.specs.Text.{Text}
use Rattle.rk_calls.specs.Keys.{KeyValue}
use Rattle.rk_show.specs.Shown.{shown}

-- a blank and a word
abbrev pub blank_word : Text → Text
blank_word word = 32 ∷ shown word

-- words with a blank between each two
abbrev pub shown_words : List Text → Text
shown_words [] = []
shown_words (word ∷ words) = shown word ++ flat_map blank_word words

-- `WORDS in WD #ORDINAL`
unfoldable pub command_name : KeyValue → ℕ → Text
command_name key ordinal = shown_words key.argv ++ (codes " in " ++ (shown key.wd ++ (codes " #" ++ decimal ordinal)))
