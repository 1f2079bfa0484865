-- The order of lines.
use Rattle.std.specs.Prelude.{ℕ, List, [], ◌∷◌, Option, Bool, true, false}
use Rattle.std.specs.Ordering.{then_cmp, on, flip_args, is_lt, is_eq}
use Rattle.std.specs.declared.cmp.Ordering.{Ordering}
use Rattle.std.specs.declared.cmp.Ordering.TheVariants.{Equal}
use Rattle.rk_base.specs.Text.{Text, text_cmp}
use Rattle.ut_sort.specs.declared.key.Key.{Key}
use Rattle.ut_sort.specs.Fields.{key_text}
use Rattle.ut_sort.specs.Numbers.{value_cmp}

-- How lines are sorted: what delimits fields, the keys, of which there is one at least, whether lines of equal keys go
-- by their bytes in reverse, whether one line of equal keys is shown, and the file that the lines go to.
pub record SortValue : Type 0 where
  pub delimiter : Option ℕ
  pub first : Key
  pub more : List Key
  pub reversed : Bool
  pub unique : Bool
  pub out : Option Text

-- as texts or as numbers
abbrev pub valued : Bool → Text → Text → Ordering
valued false = text_cmp
valued true = value_cmp

abbrev pub turned : Bool → (Text → Text → Ordering) → Text → Text → Ordering
turned false order = order
turned true order = flip_args order

-- texts of one key
abbrev pub key_cmp : Key → Text → Text → Ordering
key_cmp k = turned k.reversed (valued k.numeric)

-- lines by one key after another
abbrev pub keys_cmp : Option ℕ → List Key → Text → Text → Ordering
keys_cmp delimiter [] = λ a b. Equal
keys_cmp delimiter (k ∷ ks) = then_cmp (on (key_text delimiter k) (key_cmp k)) (keys_cmp delimiter ks)

-- lines of equal keys by all their bytes, but where one of them is shown
abbrev pub last_cmp : Bool → Bool → Text → Text → Ordering
last_cmp true reversed = λ a b. Equal
last_cmp false reversed = turned reversed text_cmp

abbrev pub line_cmp : SortValue → Text → Text → Ordering
line_cmp s =
    then_cmp (on (key_text s.delimiter s.first) (key_cmp s.first)) (then_cmp (keys_cmp s.delimiter s.more) (last_cmp s.unique s.reversed))

-- whether a line comes before another
abbrev pub is_before : SortValue → Text → Text → Bool
is_before s a b = is_lt (line_cmp s a b)

-- whether neither comes before the other
abbrev pub is_same : SortValue → Text → Text → Bool
is_same s a b = is_eq (line_cmp s a b)

-- A line and its first key, which is found once.

pub record LineValue : Type 0 where
  pub text : Text
  pub key : Text

abbrev pub line_of : SortValue → Text → LineValue
line_of s line = record { text = line; key = key_text s.delimiter s.first line }

abbrev pub found_cmp : SortValue → LineValue → LineValue → Ordering
found_cmp s =
    then_cmp (on (λ (l : LineValue). l.key) (key_cmp s.first)) (on (λ (l : LineValue). l.text) (then_cmp (keys_cmp s.delimiter s.more) (last_cmp s.unique s.reversed)))
