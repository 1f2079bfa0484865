-- Entries that are put one after another.
use Rattle.std.proofs.Common.{◌≡◌, List, [], sym, ap, ◌∙◌}
use Rattle.std.specs.FinMap.{empty, entries, entries_sorted, get-entries}
use Rattle.rk_base.specs.Text.{Text}
use Rattle.rk_tree.specs.Entries.{Entries}
use Rattle.rk_tree.specs.Node.{Node}
use Rattle.rk_tree.specs.Rows.{map_of}
use Rattle.rk_tree.proofs.RowsLemmas.{get-found, puts, puts-map_of, same_maps}

-- what is put in turn is the whole
pub copied : (copy it : Entries) (left : List (Text × Node)) → puts copy left ≡ puts empty (entries it) → left ≡ [] → copy ≡ it
copied copy it left so_far done =
    sym (ap (λ (rows : List (Text × Node)). puts copy rows) done) ∙ so_far ∙ puts-map_of (entries it) (entries_sorted it)
    ∙ same_maps (map_of (entries it)) it (λ q. get-found (entries it) q ∙ sym (get-entries it q))
