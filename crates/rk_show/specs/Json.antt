-- A trace as JSON.
use Rattle.std.specs.Prelude.{ℕ, List, ◌++◌, length, map, codes}
use Rattle.serde_json.specs.Data.{Data, array, number, object, string, unsigned, Items, Members, member, no_members}
use Rattle.serde_json.specs.View.{items_of}
use Rattle.serde_json.specs.Written.{compact_text}
use Rattle.rk_base.specs.Text.{Text}
use Rattle.tr_record.specs.declared.records.Record.{Record}
use Rattle.rk_show.specs.Shown.{shown}
use Rattle.rk_traces.specs.Own.{own}

-- a word or a path, as lines show it
abbrev pub text_data : Text → Data
text_data text = string (shown text)

abbrev pub words_data : List Text → Items
words_data words = items_of (map text_data words)

abbrev pub number_data : ℕ → Data
number_data n = number (unsigned n)

-- the members of a record, by name, with its words and its directory
abbrev pub record_members : Data → Record → Data → Members
record_members argv rec wd =
    member (codes "argv") argv (member (codes "exit") (number_data rec.exit) (member (codes "ordinal") (number_data rec.ordinal) (member (codes "steps") (number_data (length rec.steps)) (member (codes "turns") (number_data (own rec)) (member (codes "wd") wd no_members)))))

abbrev pub record_data : Record → Data
record_data rec = object (record_members (array (words_data rec.key.argv)) rec (text_data rec.key.wd))

abbrev pub records_data : List Record → Items
records_data table = items_of (map record_data table)

-- one array without blanks, an object for each record in launch order, and a newline
unfoldable pub json_text : List Record → Text
json_text table = compact_text (array (records_data table)) ++ codes "\n"
