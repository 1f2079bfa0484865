-- How an expression is spelt (XBD 9.3): one text of each that has one.
use Rattle.std.specs.Prelude.{◌≡◌, ℕ, ◌+◌, ◌/◌, ◌%◌, ◌<◌, ◌≤◌, ◌==◌, ◌&&◌, ◌||◌, nat_lt, codes, List, [], ◌∷◌, ◌++◌, Bool, true, false, Option, Some, None, if◌then◌else◌}
use Rattle.rk_base.specs.Text.{Text}
use Rattle.sh_pattern.specs.declared.class.Class.{Class}
use Rattle.sh_pattern.specs.declared.class.Class.TheVariants.{Alpha, Digit, Alnum, Upper, Lower, Space, Blank, Punct, Print, Graph, Cntrl, Xdigit}
use Rattle.ut_bre.specs.declared.set.Listed.{Listed}
use Rattle.ut_bre.specs.declared.set.Listed.TheVariants.{Named, Range}
use Rattle.ut_bre.specs.declared.set.One.{One}
use Rattle.ut_bre.specs.declared.set.One.TheVariants.{Byte, Letter, Any, Bracket}
use Rattle.ut_bre.specs.declared.tree.Times.{Times}
use Rattle.ut_bre.specs.Brackets.{Listing}
use Rattle.ut_bre.specs.Reading.{is_anchored, is_quotable, reads, read}
use Rattle.ut_bre.specs.Sets.{begins, starts_range, closes}
use Rattle.ut_bre.specs.Trees.{ItemTree, one, group, ItemsTree, no_items, item_and, Expression}

-- a number up to 255 in decimal digits
abbrev pub digits : ℕ → Text
digits n = if nat_lt n 10 then (48 + n) ∷ [] else (if nat_lt n 100 then (48 + n / 10) ∷ (48 + n % 10) ∷ [] else (48 + n / 100) ∷ (48 + (n / 10) % 10) ∷ (48 + n % 10) ∷ [])

abbrev pub spell_most : ℕ → Option ℕ → Text
spell_most least None = []
spell_most least (Some more) = digits (least + more)

-- `\{m,\}` or `\{m,n\}` (9.3.6)
abbrev pub spell_interval : ℕ → Option ℕ → Text
spell_interval least beyond = 92 ∷ 123 ∷ (digits least ++ 44 ∷ (spell_most least beyond ++ 92 ∷ 125 ∷ []))

abbrev pub is_zero : Option ℕ → Bool
is_zero None = false
is_zero (Some more) = more == 0

abbrev pub is_once : Times → Bool
is_once times = (times.least == 1) && is_zero times.beyond

-- one turn needs no spelling
abbrev pub spell_times : Times → Text
spell_times times = if is_once times then [] else spell_interval times.least times.beyond

-- a byte, behind a backslash where it would be something else by itself (9.3.2)
abbrev pub spell_byte : ℕ → Text
spell_byte b = if is_quotable b then 92 ∷ b ∷ [] else b ∷ []

-- Bracket expressions (9.3.5).

abbrev pub spell_class : Class → Text
spell_class Alpha = codes ":alpha:]"
spell_class Digit = codes ":digit:]"
spell_class Alnum = codes ":alnum:]"
spell_class Upper = codes ":upper:]"
spell_class Lower = codes ":lower:]"
spell_class Space = codes ":space:]"
spell_class Blank = codes ":blank:]"
spell_class Punct = codes ":punct:]"
spell_class Print = codes ":print:]"
spell_class Graph = codes ":graph:]"
spell_class Cntrl = codes ":cntrl:]"
spell_class Xdigit = codes ":xdigit:]"

-- a range of one byte is that byte
abbrev pub spell_range : Bool → ℕ → ℕ → Text
spell_range true low high = low ∷ []
spell_range false low high = low ∷ 45 ∷ high ∷ []

abbrev pub spell_listed : Listed → Text
spell_listed (Named class) = 91 ∷ spell_class class
spell_listed (Range low high) = spell_range (low == high) low high

abbrev pub spell_list : List Listed → Text
spell_list [] = []
spell_list (l ∷ ls) = spell_listed l ++ spell_list ls

abbrev pub spell_negation : Bool → Text
spell_negation true = 94 ∷ []
spell_negation false = []

abbrev pub spell_bracket : Listing → Text
spell_bracket bracket = 91 ∷ (spell_negation bracket.negated ++ (spell_list bracket.listed ++ 93 ∷ []))

abbrev pub spell_one : One → Text
spell_one (Byte b) = spell_byte b
spell_one (Letter b) = []
spell_one Any = 46 ∷ []
spell_one (Bracket listing) = spell_bracket listing

abbrev mutual
  pub spell_item : ItemTree → Text
  spell_item (one times what) = spell_one what ++ spell_times times
  spell_item (group times number body) = 92 ∷ 40 ∷ (spell_items body ++ 92 ∷ 41 ∷ spell_times times)

  pub spell_items : ItemsTree → Text
  spell_items no_items = []
  spell_items (item_and x xs) = spell_item x ++ spell_items xs

abbrev mutual
  pub groups_of : ItemTree → ℕ
  groups_of (one times what) = 0
  groups_of (group times number body) = groups_in body + 1

  -- how many groups there are
  pub groups_in : ItemsTree → ℕ
  groups_in no_items = 0
  groups_in (item_and x xs) = groups_of x + groups_in xs

-- an interval goes up to 255
abbrev pub FitsMost : ℕ → Option ℕ → Type 0
FitsMost least None = Unit {0}
FitsMost least (Some more) = least + more ≤ 255

pub record Fits (times : Times) : Type 0 where
  pub least : times.least ≤ 255
  pub most : FitsMost times.least times.beyond

-- whether a byte and what stands behind it begin with `[.`, `[=` or `[:`
abbrev pub opens_more : ℕ → Text → Bool
opens_more b after = (begins 91 46 (b ∷ after) || begins 91 61 (b ∷ after)) || begins 91 58 (b ∷ after)

-- what stands behind a byte makes neither a range nor anything else of it; a high end isn't `]`
abbrev pub StandsFor : Bool → ℕ → ℕ → Text → Type 0
StandsFor true low high after = (opens_more low after ≡ false) × (starts_range after ≡ false)
StandsFor false low high after = (low < high) × ((high == 93) ≡ false) × (opens_more high after ≡ false)

-- behind what was listed before, a `]` would be the end
abbrev pub CanStand : List Listed → Listed → Text → Type 0
CanStand before (Named class) after = starts_range after ≡ false
CanStand before (Range low high) after = (closes low before ≡ false) × StandsFor (low == high) low high after

abbrev pub CanBeListed : List Listed → List Listed → Type 0
CanBeListed before [] = Unit {0}
CanBeListed before (l ∷ ls) = CanStand before l (spell_list ls ++ 93 ∷ []) × CanBeListed (before ++ l ∷ []) ls

abbrev pub IsSome : List Listed → Type 0
IsSome [] = ⊥
IsSome (l ∷ ls) = Unit {0}

-- a `^` that isn't to negate isn't first
abbrev pub BeginsWell : Bool → Text → Type 0
BeginsWell true text = Unit {0}
BeginsWell false text = is_anchored text ≡ false

-- a bracket expression lists something, each thing as itself; letters count in either case by `-i` alone
pub record CanBeBracket (bracket : Listing) : Type 0 where
  pub folded : bracket.folded ≡ false
  pub some : IsSome bracket.listed
  pub first : BeginsWell bracket.negated (spell_list bracket.listed ++ 93 ∷ [])
  pub listed : CanBeListed [] bracket.listed

-- a letter in either case comes of `-i` alone
abbrev pub HasSpelling : One → Type 0
HasSpelling (Byte b) = Unit {0}
HasSpelling (Letter b) = ⊥
HasSpelling Any = Unit {0}
HasSpelling (Bracket listing) = CanBeBracket listing

abbrev mutual
  -- on this level of groups, of which there are 64, and behind so many groups: they are numbered in the order of their `\(`
  pub IsSpelt : ℕ → ℕ → ItemTree → Type 0
  IsSpelt level before (one times what) = HasSpelling what × Fits times
  IsSpelt level before (group times number body) = (level < 64) × (number ≡ before) × Fits times × AreSpelt (level + 1) (before + 1) body

  pub AreSpelt : ℕ → ℕ → ItemsTree → Type 0
  AreSpelt level before no_items = Unit {0}
  AreSpelt level before (item_and x xs) = IsSpelt level before x × AreSpelt level (before + groups_of x) xs

pub record CanBeSpelt (e : Expression) : Type 0 where
  pub items : AreSpelt 0 0 e.items
  pub groups : e.groups ≡ groups_in e.items

abbrev pub anchor : Bool → ℕ → Text
anchor true b = b ∷ []
anchor false b = []

abbrev pub spell : Expression → Text
spell e = anchor e.at_start 94 ++ (spell_items e.items ++ anchor e.at_end 36)

-- each expression that can be spelt is read back from its spelling as itself
abbrev pub EachIsReadBack : Type 0
EachIsReadBack = (e : Expression) → CanBeSpelt e → read (spell e) ≡ reads e
