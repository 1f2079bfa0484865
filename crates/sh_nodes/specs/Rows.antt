-- Lists that grow at their fronts.
use Rattle.std.specs.Prelude.{List, [], ◌∷◌, reverse}
use Rattle.sh_nodes.specs.declared.row.Items.{Items}
use Rattle.sh_nodes.specs.declared.row.Items.TheVariants.{Empty, One, Many}

-- from the first item to the last
abbrev pub listed : {A : Type 0} → Items A → List A
listed Empty = []
listed (One item) = item ∷ []
listed (Many items) = reverse items.items
