-- What is made of the place that a path leads to.
use Rattle.std.proofs.Common.{◌≡◌, ℕ, Bool, true, false, Option, Some, None, Ok, Err, IfOk, refl, ap}
use Rattle.rk_base.specs.Text.{Text}
use Rattle.rk_base.specs.declared.errno.Errno.{Errno}
use Rattle.rk_calls.specs.Given.{Given}
use Rattle.rk_tree.specs.Hierarchy.{node as node_at, mode_of, file_bytes}
use Rattle.rk_tree.specs.Node.{Node as TreeNode}
use Rattle.rk_tree.specs.Refusals.{is_there}
use Rattle.rk_walk.specs.Places.{IsFound, IsFreeName, IsPlaceOf}
use Rattle.rk_walk.specs.Walk.{Spot}
use Rattle.rk_walk.specs.Walk as tree
use Rattle.rk_walk.specs.declared.place.Here.{Here as TreeHere}
use Rattle.rk_walk.specs.declared.place.Place.TheVariants as place
use Rattle.rk_walk.proofs.PlaceLemmas.{resolve-place}
use Rattle.rk_kernel.specs.World as kernel
use Rattle.rk_kernel.specs.Questions.{is_link}
use Rattle.rk_waves.specs.Programs.{One}
use Rattle.rk_feet.specs.Named.{ModeOf, BytesOf, Mode, Bytes, Does}
use Rattle.rk_feet.specs.NamingLemmas.{clash}
use Rattle.rk_feet.specs.Checks.{no, row}
use Rattle.rk_feet.specs.Ways.{Place, Found, Absent, Row, resolve}
use Rattle.rk_feet.specs.Course.{here_named}
use Rattle.rk_feet.specs.World.{World, at, mode_in, bytes_in}
use Rattle.rk_feet.specs.Simulates.{Simulates, ends_in}
use Rattle.rk_feet.proofs.LeadingLemmas.{Standing, IsNear}
use Rattle.rk_feet.proofs.WayLemmas.{IsReached, path-holds}
use Rattle.rk_feet.proofs.ReadLemmas.{node-below}
use Rattle.rk_feet.proofs.ShowsLemmas.{shows, whole}

-- a path, by cases on where it leads

module _ (w : World) (row : Row) (given : Spot → Given kernel.World) (path : Text) (follow : Bool) where
  pub by-reach :
      ((e : Errno) → Simulates w (given (Err e)) (ends_in w (row.refused e)))
      → ((passed : ℕ) (here : TreeHere) → IsFound w.held.tree here.node here.up → IsReached w.held.tree follow passed here
      → Simulates w (given (Ok (place.Found here))) (ends_in w (row.at passed (Found (here_named w.held.tree (at w) w.nodes.name_of here)))))
      → ((passed dir : ℕ) (name : Text) (slash : Bool) → IsFreeName w.held.tree dir name → IsNear w.held.tree passed dir
      → Simulates w (given (Ok (place.Absent dir name slash))) (ends_in w (row.at passed (Absent (w.nodes.name_of dir) name slash))))
      → Simulates w (given (tree.resolve w.held.tree path follow)) (ends_in w (resolve row follow path))
  by-reach refused found absent =
      path-holds w.held.tree (at w) w.nodes.name_of (shows w) (whole w) row follow
      (λ end spot. IfOk spot (IsPlaceOf w.held.tree) → Simulates w (given spot) end)
      (λ passed here reached is. found passed here is reached) (λ passed dir name slash near is. absent passed dir name slash is near) (λ e is. refused e)
      path (resolve-place w.held.tree (whole w) path follow)

module _ (w : World) (make : Place → Does) (given : Spot → Given kernel.World) (path : Text) (follow : Bool) where
  pub by-path :
      ((e : Errno) → Simulates w (given (Err e)) (ends_in w (no e)))
      → ((here : TreeHere) → IsFound w.held.tree here.node here.up → (follow ≡ true → is_link (node_at w.held.tree here.node) ≡ false)
      → Simulates w (given (Ok (place.Found here))) (ends_in w (make (Found (here_named w.held.tree (at w) w.nodes.name_of here)))))
      → ((dir : ℕ) (name : Text) (slash : Bool) → IsFreeName w.held.tree dir name → Standing w.held.tree dir
      → Simulates w (given (Ok (place.Absent dir name slash))) (ends_in w (make (Absent (w.nodes.name_of dir) name slash))))
      → Simulates w (given (tree.resolve w.held.tree path follow)) (ends_in w (resolve (row make) follow path))
  by-path refused found absent =
      by-reach w (row make) given path follow refused (λ passed here is reached. found here is reached.plain)
      (λ passed dir name slash is near. absent dir name slash is near.stands)

-- a node that was found, as one that is there
pub found-node : (o : Option TreeNode) → is_there o ≡ true → (it : TreeNode) × (o ≡ Some it)
found-node None h = absurd (clash false h refl)
found-node (Some it) h = (it, refl)

pub node-back : (w : World) (n : ℕ) → is_there (node_at w.held.tree n) ≡ true → w.nodes.number_of (w.nodes.name_of n) ≡ Some n
node-back w n h = let it = found-node (node_at w.held.tree n) h in w.nodes_named.back n (node-below w n it.0 it.1)

pub mode-read : (w : World) (n : ℕ) → is_there (node_at w.held.tree n) ≡ true → at w (One (ModeOf (w.nodes.name_of n))) ≡ Mode (mode_of (node_at w.held.tree n))
mode-read w n h = ap (λ o. Mode (mode_in w (w.nodes.name_of n) o)) (node-back w n h)

pub bytes-read : (w : World) (n : ℕ) → is_there (node_at w.held.tree n) ≡ true
    → at w (One (BytesOf (w.nodes.name_of n))) ≡ Bytes (file_bytes (node_at w.held.tree n))
bytes-read w n h = ap (λ o. Bytes (bytes_in w o)) (node-back w n h)
