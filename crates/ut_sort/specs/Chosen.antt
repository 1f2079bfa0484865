-- What the options of `sort` choose.
use Rattle.std.specs.Prelude.{ℕ, List, [], ◌∷◌, map, codes, Option, Some, None, Bool, ◌==◌}
use Rattle.std.specs.List.{list_any}
use Rattle.rk_base.specs.Text.{Text}
use Rattle.ut_args.specs.Numbers.{number}
use Rattle.ut_args.specs.Opts.{ArgsValue, gives, argument, arguments}
use Rattle.ut_sort.specs.declared.key.Key.{Key}
use Rattle.ut_sort.specs.declared.runs.ByteClass.TheVariants.{Unlettered, Other}
use Rattle.ut_sort.specs.Runs.{front, rest}
use Rattle.ut_sort.specs.Orders.{SortValue}

-- the number of the last field, after a comma
abbrev pub last_of : Text → Option ℕ
last_of [] = None
last_of (comma ∷ digits) = Some (number digits)

abbrev pub key_by : Text → Bool → Bool → Key
key_by fields numeric reversed =
    record { from = number (front (Other 44) fields); last = last_of (rest (Other 44) fields); numeric = numeric; reversed = reversed }

abbrev pub has_letter : ℕ → Text → Bool
has_letter letter letters = list_any (λ b. b == letter) letters

-- its letters are those of the options where it has none
abbrev pub lettered : Bool → Bool → Text → Text → Key
lettered numeric reversed fields [] = key_by fields numeric reversed
lettered numeric reversed fields (b ∷ bs) = key_by fields (has_letter 110 (b ∷ bs)) (has_letter 114 (b ∷ bs))

-- `F[,L][nr]`
abbrev pub key_of : Bool → Bool → Text → Key
key_of numeric reversed text = lettered numeric reversed (front Unlettered text) (rest Unlettered text)

-- the whole line
abbrev pub whole : Bool → Bool → Key
whole numeric reversed = record { from = 1; last = None; numeric = numeric; reversed = reversed }

abbrev pub first_key : Bool → Bool → List Text → Key
first_key numeric reversed [] = whole numeric reversed
first_key numeric reversed (text ∷ more) = key_of numeric reversed text

abbrev pub more_keys : Bool → Bool → List Text → List Key
more_keys numeric reversed [] = []
more_keys numeric reversed (text ∷ more) = map (key_of numeric reversed) more

abbrev pub first_byte : Text → Option ℕ
first_byte [] = None
first_byte (b ∷ bs) = Some b

abbrev pub delimiter_of : Option Text → Option ℕ
delimiter_of None = None
delimiter_of (Some text) = first_byte text

abbrev pub sort_of : ArgsValue → SortValue
sort_of args =
    record {
      delimiter = delimiter_of (argument args (codes "t"));
      first = first_key (gives args (codes "n")) (gives args (codes "r")) (arguments args (codes "k"));
      more = more_keys (gives args (codes "n")) (gives args (codes "r")) (arguments args (codes "k"));
      reversed = gives args (codes "r");
      unique = gives args (codes "u");
      out = argument args (codes "o");
    }
