-- The sets of patterns: what stands between `[` and `]`.
use Rattle.std.specs.Prelude.{◌≡◌, ℕ, zero, suc, ◌+◌, ◌-◌, ◌==◌, List, [], ◌∷◌, ◌++◌, drop, Option, Some, None, Bool, not, ◌&&◌, if◌then◌else◌}
use Rattle.std.specs.List.{list_any}
use Rattle.rk_base.specs.Text.{Text}
use Rattle.sh_pattern.specs.declared.class.Class.{Class}
use Rattle.sh_pattern.specs.declared.set.Item.{Item}
use Rattle.sh_pattern.specs.declared.set.Item.TheVariants.{Named, Range}
use Rattle.sh_pattern.specs.Classes.{between, in_class, class_at}

-- A byte, which a backslash before it quotes: its value, and how many bytes stand after the first.
abbrev pub value : ℕ → Text → ℕ
value b [] = b
value b (c ∷ cs) = if b == 92 then c else b

abbrev pub extra : ℕ → Text → ℕ
extra b [] = 0
extra b (c ∷ cs) = if b == 92 then 1 else 0

abbrev pub after_first : ℕ → Text → Text
after_first b [] = []
after_first b (c ∷ cs) = if b == 92 then cs else c ∷ cs

abbrev pub in_item : Item → ℕ → Bool
in_item (Named class) b = in_class class b
in_item (Range low high) b = between low high b

abbrev pub one : ℕ → Item
one b = Range b b

-- a byte alone, where what comes after it makes no range of it
abbrev pub ranged : ℕ → ℕ → Text → Item × ℕ
ranged low size [] = (one low, size)
ranged low size (d ∷ []) = (one low, size)
ranged low size (d ∷ c ∷ cs) = if (d == 45) && not (c == 93) then (Range low (value c cs), size + 1 + (extra c cs + 1)) else (one low, size)

abbrev pub classed : ℕ → Text → Option (Class × ℕ) → Item × ℕ
classed b text (Some class) = (Named class.0, class.1 + 1)
classed b text None = ranged (value b text) (extra b text + 1) (after_first b text)

-- the item of a set that begins with this byte and this text, and how many bytes it takes
unfoldable pub item_at : ℕ → Text → Item × ℕ
item_at b text = classed b text (if b == 91 then class_at text else None)

-- the items of a set, and at what place its `]` stands
pub record Set : Type 0 where
  pub items : List Item
  pub close : ℕ

-- a `]` that comes first is an item
abbrev pub closes : ℕ → ℕ → Bool
closes at b = (b == 93) && not (at == 0)

-- The items from a place on, after those so far, where some bytes belong to the last one. Where no `]` closes
-- it, it is no set.
abbrev pub set_from : List Item → ℕ → ℕ → Text → Option Set
set_from items at skip [] = None
set_from items at (suc skip) (b ∷ bs) = set_from items (at + 1) skip bs
set_from items at zero (b ∷ bs) = if closes at b then Some (record { items = items; close = at }) else set_from (items ++ (item_at b bs).0 ∷ []) (at + 1) ((item_at b bs).1 - 1) bs

abbrev pub set_of : Text → Option Set
set_of = set_from [] 0 0

-- whether a text has a byte that may close a set
abbrev pub has_close : Text → Bool
has_close text = list_any (λ b. b == 93) text

abbrev pub in_items : List Item → ℕ → Bool
in_items items b = list_any (λ item. in_item item b) items

-- what is told of a set and a byte
abbrev pub ScansTo : ℕ → Option Set → Option (Bool × ℕ) → Type 0
ScansTo b None r = r ≡ None
ScansTo b (Some set) r = r ≡ Some (in_items set.items b, set.close)

-- so far, before a place
abbrev pub Scanned : Text → ℕ → Bool → ℕ → Type 0
Scanned text b held at = (items : List Item) × (set_of text ≡ set_from items at 0 (drop at text)) × (held ≡ in_items items b)
