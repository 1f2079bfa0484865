-- What listings tell of a folder is, in full, what stands there.
use Rattle.std.proofs.Common.{◌≡◌, Bool, true, false, cond, Option, Some, None, refl, sym, ap, subst, ◌∙◌}
use Rattle.std.specs.Option.{option_and_then}
use Rattle.std.specs.FinMap.{get}
use Rattle.rk_base.specs.Text.{Text, is_within}
use Rattle.rk_tree.specs.Full.{Told, From, IsThere, full_entries, in_full}
use Rattle.rk_tree.specs.Hierarchy.{held_in}
use Rattle.rk_tree.specs.Node.{Node as Entry}
use Rattle.rk_tree.proofs.EntriesLemmas.{get-full}
use Rattle.rk_tree.proofs.RowsLemmas.{same_maps}
use Rattle.rk_folder.specs.Hidden.{hidden_dir}
use Rattle.rk_folder.specs.Import.{ListedInFull, entry_of, listed_entry, listed_of, snapshot_of, told_of}
use Rattle.rk_folder.specs.Told.{Held, bytes_in, standing}
use Rattle.rk_folder.specs.declared.folder.Standing.{Standing}
use Rattle.rk_folder.specs.declared.folder.Standing.TheVariants.{File, Dir, Special}
use Rattle.rk_folder.proofs.SnapshotLemmas.{get-listed_of, get-made}

pub get-snapshot_of : (held : Held) (q : Text) → get (snapshot_of held) q ≡ cond (is_within hidden_dir q) None (option_and_then entry_of (standing held q))
get-snapshot_of held q = get-made (is_within hidden_dir) (λ path. entry_of) held q

bytes-of : (o : Option Standing) → option_and_then (λ it. bytes_in (Some it)) o ≡ bytes_in o
bytes-of None = refl
bytes-of (Some it) = refl

-- the bytes that are told at a path
pub get-told_of : (held : Held) (q : Text) → get (told_of held) q ≡ cond (is_within hidden_dir q) None (bytes_in (standing held q))
unfolding told_of
get-told_of held q = get-made (is_within hidden_dir) (λ path it. bytes_in (Some it)) held q ∙ ap (λ (o : Option Text). cond (is_within hidden_dir q) None o) (bytes-of (standing held q))

full-at : (told : Told) (q : Text) (b : Bool) (o : Option Standing) → get told q ≡ cond b None (bytes_in o) → in_full told (cond b None (option_and_then (listed_entry q) o)) ≡ cond b None (option_and_then entry_of o)
full-at told q true o is = refl
full-at told q false None is = refl
full-at told q false (Some (File bytes)) is = ap (λ (it : Option Text). Some (Rattle.rk_tree.specs.Node.File 420 (Rattle.rk_tree.specs.declared.content.Content.TheVariants.Own (Rattle.rk_tree.specs.Full.bytes_at it)))) is
full-at told q false (Some Dir) is = refl
full-at told q false (Some Special) is = refl

from-at : (told : Told) (q : Text) (b : Bool) (o : Option Standing) → get told q ≡ cond b None (bytes_in o) → From told (held_in (cond b None (option_and_then (listed_entry q) o)))
from-at told q true o is = tt
from-at told q false None is = tt
from-at told q false (Some (File bytes)) is = subst IsThere (sym is) tt
from-at told q false (Some Dir) is = tt
from-at told q false (Some Special) is = tt

pub listed-full : ListedInFull
listed-full held = (
  same_maps (full_entries (told_of held) (listed_of held)) (snapshot_of held) (λ q.
      get-full (told_of held) (listed_of held) q
      ∙ ap (in_full (told_of held)) (get-listed_of held q)
      ∙ full-at (told_of held) q (is_within hidden_dir q) (standing held q) (get-told_of held q)
      ∙ sym (get-snapshot_of held q)),
  λ q. subst (λ (o : Option Entry). From (told_of held) (held_in o)) (sym (get-listed_of held q)) (from-at (told_of held) q (is_within hidden_dir q) (standing held q) (get-told_of held q)),
)
