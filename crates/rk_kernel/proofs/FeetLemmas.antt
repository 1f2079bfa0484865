-- A foot asks for no bytes: a world and its Full have one foot for a call.
use Rattle.std.proofs.Common.{◌≡◌, ℕ, zero, suc, [], ◌∷◌, ◌++◌, map, Bool, true, false, not, ◌&&◌, ◌||◌, Option, Some, None, refl, ap, ◌∙◌}
use Rattle.std.specs.Prelude.{nat_lt, if◌then◌else◌}
use Rattle.rk_base.specs.Text.{Text}
use Rattle.rk_base.specs.Canonical.{has_nul, is_empty}
use Rattle.rk_base.specs.declared.errno.Errno.TheVariants.{NoEntry, NotDir, IsDir, Exists, Denied, NotEmpty, Invalid}
use Rattle.rk_calls.specs.Refs.{RefsHeld, ref_at}
use Rattle.rk_calls.specs.declared.call.Call.{Call}
use Rattle.rk_calls.specs.declared.call.Call.TheVariants as call
use Rattle.rk_calls.specs.declared.call.How.{How}
use Rattle.rk_tree.specs.Full.{Told, full, in_full}
use Rattle.rk_tree.specs.Hierarchy.{Hierarchy, node, has_r, has_x}
use Rattle.rk_tree.specs.Node.{Node, File, Dir, Link}
use Rattle.rk_tree.proofs.FullLemmas.{node-full, dir-full, mode-full, path-full, parent-full, lacks-full, long-full}
use Rattle.rk_walk.specs.Walk.{Spot, resolve}
use Rattle.rk_walk.specs.declared.place.Place.{Place}
use Rattle.rk_walk.specs.declared.place.Place.TheVariants.{Found, Absent}
use Rattle.rk_kernel.specs.Do.{followed, itself}
use Rattle.rk_kernel.specs.Feet.{next_node, next_open, emptied_cells, open_foot, read_foot, write_foot, stat_cells, stat_foot, list_foot, way_foot, walk_upwards, walk_foot}
use Rattle.rk_kernel.specs.Feet.{mkdir_foot, symlink_foot, link_foot, unlink_foot, rmdir_foot, moved_foot, rename_foot, chmod_foot, pipe_foot, foot_by, FootAsksNoBytes}
use Rattle.rk_kernel.specs.Foot.{nothing, reading, writing, checked, cell_seen, at_spot, along, both, mode_cells, names_cells, above_cells, dir_mode, entry_cells}
use Rattle.rk_kernel.specs.Foot.{levels_of, higher, upwards_by, upwards, upwards_from}
use Rattle.rk_kernel.specs.Full.{full_world}
use Rattle.rk_kernel.specs.Opening.{is_read, lacks}
use Rattle.rk_kernel.specs.Rows.{is_absent, is_nameless, name_at, same_node, has_slash}
use Rattle.rk_kernel.specs.World.{World}
use Rattle.rk_kernel.specs.declared.cell.Cell.TheVariants.{Entry, Names, Above, Mode, Opened}
use Rattle.rk_kernel.specs.declared.foot.Foot.{Foot}
use Rattle.rk_kernel.proofs.FoundLemmas.{way-found}
use Rattle.rk_kernel.proofs.FullLemmas.{dir_at-full, mode_at-full, names_stand-full, lacks_w-full, followed-full, itself-full, resolve-full, into-full}

stat-of : (told : Told) (n : ℕ) (o : Option Node) → stat_cells n (in_full told o) ≡ stat_cells n o
stat-of told n None = refl
stat-of told n (Some (File mode content)) = refl
stat-of told n (Some (Dir mode)) = refl
stat-of told n (Some (Link text)) = refl

module _ (told : Told) (tree : Hierarchy) where
  upwards-by : (levels dir : ℕ) → upwards_by levels (full told tree) dir ≡ upwards_by levels tree dir
  upwards-by zero dir = refl
  upwards-by (suc levels) dir = λ i. Above dir ∷ higher (parent-full told tree dir i) (λ up. upwards-by levels up i)

  pub upwards-full : (dir : ℕ) → upwards (full told tree) dir ≡ upwards tree dir
  upwards-full dir = ap (λ path. upwards_by (levels_of path) (full told tree) dir) (path-full told tree dir) ∙ upwards-by (levels_of _) dir

  upwards_from-full : (up : Option (ℕ × Text)) → upwards_from (full told tree) up ≡ upwards_from tree up
  upwards_from-full None = refl
  upwards_from-full (Some up) = upwards-full up.0

module _ (told : Told) (w : World) (refs : RefsHeld) where
  tree-full : (full_world told w).tree ≡ full told w.tree
  unfolding full_world
  tree-full = refl

  next-full : next_node (full_world told w) ≡ next_node w
  unfolding full_world full
  next-full = long-full told w.tree.nodes

  -- along a path, where the row is the same
  along-full :
      (path : Text) (follow : Bool) (spot full_spot : Spot) (row full_row : Place → Foot) → full_spot ≡ spot → ((place : Place) → full_row place ≡ row place)
      → along (full_world told w) path follow full_spot full_row ≡ along w path follow spot row
  unfolding full_world
  along-full path follow spot full_spot row full_row is same =
      λ i. both (reading (map cell_seen (way-found told w.tree path follow i))) (at_spot (is i) (λ place. same place i))

  above-full : (place : Place) → above_cells (full_world told w) place ≡ above_cells w place
  unfolding full_world
  above-full (Found at) = λ i. if dir-full told w.tree at.node i then Above at.node ∷ [] else []
  above-full (Absent dir name slash) = refl

  open-full : (how : How) (place : Place) → open_foot (full_world told w) how place ≡ open_foot w how place
  unfolding full_world
  open-full how (Absent dir name slash) = λ i.
      checked ((is_read how, NoEntry) ∷ (lacks-full told w.tree dir i, Denied) ∷ []) ([] ∷ (Mode dir ∷ []) ∷ [])
      (writing (Opened (next_open w) ∷ Entry dir name ∷ Names dir ∷ []))
  open-full how (Found at) = λ i.
      checked ((dir-full told w.tree at.node i, IsDir) ∷ (lacks how (mode-full told w.tree at.node i), Denied) ∷ []) ([] ∷ (Mode at.node ∷ []) ∷ [])
      (writing (Opened (next_open w) ∷ emptied_cells how at.node))

  stat-full : (place : Place) → stat_foot (full_world told w) place ≡ stat_foot w place
  unfolding full_world
  stat-full (Found at) = ap (λ o. reading (stat_cells at.node o)) (node-full told w.tree at.node) ∙ ap reading (stat-of told at.node (node w.tree at.node))
  stat-full (Absent dir name slash) = refl

  list-full : (place : Place) → list_foot (full_world told w) place ≡ list_foot w place
  list-full place = λ i.
      checked ((is_absent place, NoEntry) ∷ (not (dir_at-full told w refs place i), NotDir) ∷ (not (has_r (mode_at-full told w refs place i)), Denied) ∷ [])
      ([] ∷ [] ∷ mode_cells place ∷ []) (reading (names_cells place))

  walk_upwards-full : (place : Place) → walk_upwards (full_world told w) place ≡ walk_upwards w place
  unfolding full_world
  walk_upwards-full (Found at) = upwards-full told w.tree at.node
  walk_upwards-full (Absent dir name slash) = refl

  walk-full : (place : Place) → walk_foot (full_world told w) place ≡ walk_foot w place
  walk-full place = λ i.
      checked ((is_absent place, NoEntry) ∷ (not (dir_at-full told w refs place i), NotDir) ∷ (not (has_x (mode_at-full told w refs place i)), Denied) ∷ [])
      ([] ∷ [] ∷ mode_cells place ∷ []) (reading (walk_upwards-full place i))

  mkdir-full : (mode : ℕ) (place : Place) → mkdir_foot (full_world told w) mode place ≡ mkdir_foot w mode place
  mkdir-full mode place = λ i.
      checked ((nat_lt 511 mode, Invalid) ∷ (not (is_absent place), Exists) ∷ (lacks_w-full told w refs place i, Denied) ∷ [])
      ([] ∷ [] ∷ dir_mode (name_at place) ∷ []) (writing (entry_cells (name_at place) ++ Above (next-full i) ∷ []))

  symlink-full : (text : Text) (place : Place) → symlink_foot (full_world told w) text place ≡ symlink_foot w text place
  symlink-full text place = λ i.
      checked ((is_empty text, NoEntry) ∷ (has_nul text, Invalid) ∷ (not (is_absent place), Exists) ∷ (lacks_w-full told w refs place i, Denied) ∷ [])
      ([] ∷ [] ∷ [] ∷ dir_mode (name_at place) ∷ []) (writing (entry_cells (name_at place)))

  link-full : (from to : Place) → link_foot (full_world told w) from to ≡ link_foot w from to
  link-full from to = λ i.
      checked ((is_absent from, NoEntry) ∷ (dir_at-full told w refs from i, Denied) ∷ (not (is_absent to), Exists) ∷ (lacks_w-full told w refs to i, Denied) ∷ [])
      ([] ∷ [] ∷ [] ∷ dir_mode (name_at to) ∷ []) (writing (entry_cells (name_at to)))

  unlink-full : (place : Place) → unlink_foot (full_world told w) place ≡ unlink_foot w place
  unlink-full place = λ i.
      checked ((is_absent place, NoEntry) ∷ (dir_at-full told w refs place i, IsDir) ∷ (lacks_w-full told w refs place i, Denied) ∷ [])
      ([] ∷ [] ∷ dir_mode (name_at place) ∷ []) (writing (entry_cells (name_at place)))

  rmdir-full : (place : Place) → rmdir_foot (full_world told w) place ≡ rmdir_foot w place
  rmdir-full place = λ i.
      checked ((is_absent place, NoEntry) ∷ (is_nameless place, Invalid) ∷ (not (dir_at-full told w refs place i), NotDir)
      ∷ (names_stand-full told w refs place i, NotEmpty) ∷ (lacks_w-full told w refs place i, Denied) ∷ [])
      ([] ∷ [] ∷ [] ∷ names_cells place ∷ dir_mode (name_at place) ∷ []) (writing (entry_cells (name_at place) ++ above-full place i))

  from-full : (up : Option (ℕ × Text)) → upwards_from (full_world told w).tree up ≡ upwards_from w.tree up
  unfolding full_world
  from-full up = upwards_from-full told w.tree up

  moved-full : (from to : Place) → moved_foot (full_world told w) from to ≡ moved_foot w from to
  moved-full from to = λ i.
      checked ((lacks_w-full told w refs from i, Denied) ∷ (lacks_w-full told w refs to i, Denied)
      ∷ (dir_at-full told w refs from i && (not (is_absent to) && not (dir_at-full told w refs to i)), NotDir)
      ∷ (not (dir_at-full told w refs from i) && has_slash to, NotDir) ∷ (not (dir_at-full told w refs from i) && dir_at-full told w refs to i, IsDir)
      ∷ (into-full told w refs from (name_at to) i, Invalid) ∷ (names_stand-full told w refs to i, NotEmpty) ∷ [])
      (dir_mode (name_at from) ∷ dir_mode (name_at to) ∷ [] ∷ [] ∷ [] ∷ from-full (name_at to) i
      ∷ (if dir_at-full told w refs to i then names_cells to else []) ∷ [])
      (writing (entry_cells (name_at from) ++ (entry_cells (name_at to) ++ (above-full from i ++ above-full to i))))

  rename-full : (from to : Place) → rename_foot (full_world told w) from to ≡ rename_foot w from to
  rename-full from to = λ i.
      checked ((is_absent from, NoEntry) ∷ (is_nameless from || is_nameless to, Invalid) ∷ []) []
      (if same_node from to then nothing else moved-full from to i)

  read-full : (o : Option ℕ) → read_foot (full_world told w) o ≡ read_foot w o
  unfolding full_world
  read-full None = refl
  read-full (Some k) = refl

  write-full : (o : Option ℕ) → write_foot (full_world told w) o ≡ write_foot w o
  unfolding full_world
  write-full None = refl
  write-full (Some k) = refl

  pipe-full : pipe_foot (full_world told w) ≡ pipe_foot w
  unfolding full_world
  pipe-full = refl

  followed-by : (path : Text) (row full_row : Place → Foot) → ((place : Place) → full_row place ≡ row place)
      → along (full_world told w) path true (followed (full_world told w) path) full_row ≡ along w path true (followed w path) row
  followed-by path row full_row same = along-full path true (followed w path) (followed (full_world told w) path) row full_row (followed-full told w refs path) same

  itself-by : (path : Text) (row full_row : Place → Foot) → ((place : Place) → full_row place ≡ row place)
      → along (full_world told w) path false (itself (full_world told w) path) full_row ≡ along w path false (itself w path) row
  itself-by path row full_row same = along-full path false (itself w path) (itself (full_world told w) path) row full_row (itself-full told w refs path) same

  resolved-by : (path : Text) (follow : Bool) (row full_row : Place → Foot) → ((place : Place) → full_row place ≡ row place)
      → along (full_world told w) path follow (resolve (full_world told w).tree path follow) full_row ≡ along w path follow (resolve w.tree path follow) row
  resolved-by path follow row full_row same =
      along-full path follow (resolve w.tree path follow) (resolve (full_world told w).tree path follow) row full_row (resolve-full told w refs path follow) same

  all : (c : Call) → foot_by (full_world told w) refs c ≡ foot_by w refs c
  all (call.Open path how) = followed-by path (open_foot w how) (open_foot (full_world told w) how) (open-full how)
  all (call.Read r) = read-full (ref_at refs r)
  all (call.ReadLine r) = read-full (ref_at refs r)
  all (call.Write r bytes) = write-full (ref_at refs r)
  all (call.Stat path follow) = resolved-by path follow (stat_foot w) (stat_foot (full_world told w)) stat-full
  all (call.List path) = followed-by path (list_foot w) (list_foot (full_world told w)) list-full
  all (call.ReadLink path) = itself-by path way_foot way_foot (λ place. refl)
  all (call.Walk path) = followed-by path (walk_foot w) (walk_foot (full_world told w)) walk-full
  all (call.Same a b) = followed-by a (λ first. along w b true (followed w b) way_foot) (λ first. along (full_world told w) b true (followed (full_world told w) b) way_foot)
      (λ first. followed-by b way_foot way_foot (λ place. refl))
  all (call.Mkdir path mode) = resolved-by path false (mkdir_foot w mode) (mkdir_foot (full_world told w) mode) (mkdir-full mode)
  all (call.Rmdir path) = itself-by path (rmdir_foot w) (rmdir_foot (full_world told w)) rmdir-full
  all (call.Unlink path) = itself-by path (unlink_foot w) (unlink_foot (full_world told w)) unlink-full
  all (call.Rename a b) = itself-by a (λ from. along w b false (resolve w.tree b false) (rename_foot w from)) (λ from. along (full_world told w) b false (resolve (full_world told w).tree b false) (rename_foot (full_world told w) from))
      (λ from. resolved-by b false (rename_foot w from) (rename_foot (full_world told w) from) (rename-full from))
  all (call.Symlink text path) = itself-by path (symlink_foot w text) (symlink_foot (full_world told w) text) (symlink-full text)
  all (call.Link a b) = itself-by a (λ from. along w b false (itself w b) (link_foot w from)) (λ from. along (full_world told w) b false (itself (full_world told w) b) (link_foot (full_world told w) from))
      (λ from. itself-by b (link_foot w from) (link_foot (full_world told w) from) (link-full from))
  all (call.Chmod path mode) = followed-by path (chmod_foot mode) (chmod_foot mode) (λ place. refl)
  all call.Pipe = pipe-full
  all (call.Launch key map) = refl

pub asks-no-bytes : FootAsksNoBytes
asks-no-bytes told w refs c = all told w refs c
