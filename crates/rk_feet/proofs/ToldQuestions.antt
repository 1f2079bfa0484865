-- What is told of the calls that change nothing tells their programs.
use Rattle.std.proofs.Common.{◌≡◌, ℕ, [], ◌∷◌, true, false, not, Option, Some, refl, sym, ◌∙◌, ap, subst, append-nil}
use Rattle.std.specs.Prelude.{if◌then◌else◌}
use Rattle.rk_base.specs.Text.{Text}
use Rattle.rk_base.specs.declared.errno.Errno.TheVariants.{NoEntry, NotDir, Denied}
use Rattle.rk_tree.specs.Entries.{is_dir}
use Rattle.rk_tree.specs.Hierarchy.{node as node_at, mode_of, has_r, has_x}
use Rattle.rk_tree.specs.Node.{Node as TreeNode, File as AFile, Dir as ADir, Link as ALink}
use Rattle.rk_tree.specs.Refusals.{is_there}
use Rattle.rk_kernel.specs.Do.{followed}
use Rattle.rk_kernel.specs.Feet.{stat_cells, stat_foot, list_foot, way_foot, walk_foot}
use Rattle.rk_kernel.specs.Foot.{nothing, reading, checked, along, at_spot, upwards}
use Rattle.rk_kernel.specs.Rows.{strict as kernel_strict}
use Rattle.rk_kernel.specs.declared.cell.Cell.TheVariants as told
use Rattle.rk_kernel.specs.declared.foot.Foot.{Foot}
use Rattle.rk_waves.specs.Programs.{One, All}
use Rattle.rk_feet.specs.Asking.{stat_what, stat_file, stat_bytes, stat_dir, stat_at, list_what, list_mode, list_names, list_at, read_link_what, read_link_at}
use Rattle.rk_feet.specs.Asking.{same_at, same_from, walk_what, walk_mode, walk_at, walked}
use Rattle.rk_feet.specs.Checks.{row, climbing, strict}
use Rattle.rk_feet.specs.Climbing.{climb}
use Rattle.rk_feet.specs.Course.{what_of, here_named}
use Rattle.rk_feet.specs.Named.{What, File, Dir, Link, ModeOf, BytesOf, Mode}
use Rattle.rk_feet.specs.Told.{By, Later, TellsQuestions, Tells}
use Rattle.rk_feet.specs.Ways.{Place, Found, Absent}
use Rattle.rk_feet.specs.World.{World, at}
use Rattle.rk_feet.proofs.LeadingLemmas.{IsNear}
use Rattle.rk_feet.proofs.PlaceLemmas.{found-node, mode-read}
use Rattle.rk_feet.proofs.ToldLemmas.{node-number, tells-no, tells-unless, tells-reads, by-way, strict-absent-told}
use Rattle.rk_feet.proofs.ToldUpward.{tells-climb}

module _ (w : World) (l : Later w) where
  module _ (n : ℕ) (there : is_there (node_at w.held.tree n) ≡ true) where
    -- Stat

    stat-node : (it : TreeNode) → Tells w l (reading (stat_cells n (Some it))) (stat_what (w.nodes.name_of n) (what_of (Some it)))
    stat-node (AFile mode content) =
        tells-reads w l (One (ModeOf (w.nodes.name_of n))) (told.Mode n) (at w (One (ModeOf (w.nodes.name_of n)))) (stat_file (w.nodes.name_of n))
        (reading (told.Bytes n ∷ [])) (ap (λ m. By (told.Mode m)) (node-number w l n there)) refl
        (tells-reads w l (One (BytesOf (w.nodes.name_of n))) (told.Bytes n) (at w (One (BytesOf (w.nodes.name_of n))))
        (stat_bytes (at w (One (ModeOf (w.nodes.name_of n))))) nothing (ap (λ m. By (told.Bytes m)) (node-number w l n there)) refl
        (record { reads = tt; writes = tt }))
    stat-node (ADir mode) =
        tells-reads w l (One (ModeOf (w.nodes.name_of n))) (told.Mode n) (at w (One (ModeOf (w.nodes.name_of n)))) stat_dir
        nothing (ap (λ m. By (told.Mode m)) (node-number w l n there)) refl (record { reads = tt; writes = tt })
    stat-node (ALink text) = record { reads = tt; writes = tt }

    -- List

    abbrev list_told : Option TreeNode → Foot
    list_told o = checked ((false, NoEntry) ∷ (not (is_dir o), NotDir) ∷ (not (has_r (mode_of o)), Denied) ∷ []) ([] ∷ [] ∷ (told.Mode n ∷ []) ∷ [])
        (reading (told.Names n ∷ []))

    list-node : (it : TreeNode) → node_at w.held.tree n ≡ Some it → Tells w l (list_told (Some it)) (list_what (w.nodes.name_of n) (what_of (Some it)))
    list-node (AFile mode content) is = tells-no w l (list_told (Some (AFile mode content))) NotDir
    list-node (ADir mode) is =
        tells-reads w l (One (ModeOf (w.nodes.name_of n))) (told.Mode n) (Mode mode) (list_mode (w.nodes.name_of n))
        (if not (has_r mode) then nothing else reading (told.Names n ∷ []))
        (ap (λ m. By (told.Mode m)) (node-number w l n there)) (mode-read w n there ∙ ap (λ o. Mode (mode_of o)) is)
        (tells-unless w l (not (has_r mode)) Denied (reading (told.Names n ∷ [])) _
        (tells-reads w l (All (w.nodes.name_of n)) (told.Names n) (at w (All (w.nodes.name_of n))) list_names nothing
        (ap (λ m. By (told.Names m)) (node-number w l n there)) refl (record { reads = tt; writes = tt })))
    list-node (ALink text) is = tells-no w l (list_told (Some (ALink text))) NotDir

    -- Walk

    abbrev walk_told : Option TreeNode → Foot
    walk_told o = checked ((false, NoEntry) ∷ (not (is_dir o), NotDir) ∷ (not (has_x (mode_of o)), Denied) ∷ []) ([] ∷ [] ∷ (told.Mode n ∷ []) ∷ [])
        (reading (upwards w.held.tree n))

    walk-node : (passed : ℕ) (it : TreeNode) → node_at w.held.tree n ≡ Some it → (is_dir (Some it) ≡ true → IsNear w.held.tree passed n)
        → Tells w l (walk_told (Some it)) (walk_what passed (w.nodes.name_of n) (what_of (Some it)))
    walk-node passed (AFile mode content) is near = tells-no w l (walk_told (Some (AFile mode content))) NotDir
    walk-node passed (ADir mode) is near =
        tells-reads w l (One (ModeOf (w.nodes.name_of n))) (told.Mode n) (Mode mode) (walk_mode passed (w.nodes.name_of n))
        (if not (has_x mode) then nothing else reading (upwards w.held.tree n))
        (ap (λ m. By (told.Mode m)) (node-number w l n there)) (mode-read w n there ∙ ap (λ o. Mode (mode_of o)) is)
        (tells-unless w l (not (has_x mode)) Denied (reading (upwards w.held.tree n)) (climb passed walked (w.nodes.name_of n))
        (subst (λ up. Tells w l (reading up) (climb passed walked (w.nodes.name_of n))) (append-nil (upwards w.held.tree n))
        (tells-climb w l passed walked nothing n (near refl) (λ way is. record { reads = tt; writes = tt }))))
    walk-node passed (ALink text) is near = tells-no w l (walk_told (Some (ALink text))) NotDir

  -- ReadLink

  link-what : (what : What) → Tells w l nothing (read_link_what what)
  link-what File = record { reads = tt; writes = tt }
  link-what Dir = record { reads = tt; writes = tt }
  link-what (Link text) = record { reads = tt; writes = tt }

  -- Same, at both places

  same-places : (a b : Place) → Tells w l nothing (same_at a b)
  same-places (Found a) (Found b) = record { reads = tt; writes = tt }
  same-places (Found a) (Absent dir name slash) = record { reads = tt; writes = tt }
  same-places (Absent d n s) (Found b) = record { reads = tt; writes = tt }
  same-places (Absent d n s) (Absent dir name slash) = record { reads = tt; writes = tt }

  same-second : (first : Place) (b : Text) → Tells w l (along w.held b true (followed w.held b) way_foot) (same_from b first)
  same-second first b =
      by-way w l (row (strict (same_at first))) (λ spot. at_spot (kernel_strict spot) way_foot) true (λ e. tells-no w l nothing e)
      (λ passed here is reached. same-places first _)
      (λ passed dir name slash is near. strict-absent-told w l way_foot (same_at first) dir name slash (same-places first _)) b

pub questions : TellsQuestions
questions = record {
  stats = λ w l refs path follow. by-way w l (row stat_at) (λ spot. at_spot spot (stat_foot w.held)) follow (λ e. tells-no w l nothing e)
      (λ passed here is reached. let it = found-node (node_at w.held.tree here.node) is.there in
      subst (λ o. Tells w l (reading (stat_cells here.node o)) (stat_what (w.nodes.name_of here.node) (what_of o))) (sym it.1)
      (stat-node w l here.node is.there it.0))
      (λ passed dir name slash is near. tells-no w l nothing NoEntry) path;
  lists = λ w l refs path. by-way w l (row (strict list_at)) (λ spot. at_spot (kernel_strict spot) (list_foot w.held)) true (λ e. tells-no w l nothing e)
      (λ passed here is reached. let it = found-node (node_at w.held.tree here.node) is.there in
      subst (λ o. Tells w l (list_told w l here.node is.there o) (list_what (w.nodes.name_of here.node) (what_of o))) (sym it.1)
      (list-node w l here.node is.there it.0 it.1))
      (λ passed dir name slash is near. strict-absent-told w l (list_foot w.held) list_at dir name slash (tells-no w l _ NoEntry)) path;
  links = λ w l refs path. by-way w l (row (strict read_link_at)) (λ spot. at_spot (kernel_strict spot) way_foot) false (λ e. tells-no w l nothing e)
      (λ passed here is reached. link-what w l (what_of (node_at w.held.tree here.node)))
      (λ passed dir name slash is near. strict-absent-told w l way_foot read_link_at dir name slash (tells-no w l nothing NoEntry)) path;
  walks = λ w l refs path. by-way w l (climbing (λ passed. strict (walk_at passed))) (λ spot. at_spot (kernel_strict spot) (walk_foot w.held)) true
      (λ e. tells-no w l nothing e)
      (λ passed here is reached. let it = found-node (node_at w.held.tree here.node) is.there in
      subst (λ o. Tells w l (walk_told w l here.node is.there o) (walk_what passed (w.nodes.name_of here.node) (what_of o))) (sym it.1)
      (walk-node w l here.node is.there passed it.0 it.1 (λ d. reached.here_near (ap is_dir it.1 ∙ d))))
      (λ passed dir name slash is near. strict-absent-told w l (walk_foot w.held) (walk_at passed) dir name slash (tells-no w l _ NoEntry)) path;
  compares = λ w l refs a b. by-way w l (row (strict (same_from b)))
      (λ spot. at_spot (kernel_strict spot) (λ first. along w.held b true (followed w.held b) way_foot)) true (λ e. tells-no w l nothing e)
      (λ passed here is reached. same-second w l (Found (here_named w.held.tree (at w) w.nodes.name_of here)) b)
      (λ passed dir name slash is near. strict-absent-told w l (λ first. along w.held b true (followed w.held b) way_foot) (same_from b) dir name slash
      (same-second w l (Absent (w.nodes.name_of dir) name slash) b)) a;
}
