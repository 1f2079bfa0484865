-- Chmod.
use Rattle.std.proofs.Common.{◌≡◌, ℕ, ◌≤◌, List, [], ◌∷◌, Bool, true, false, Option, Some, None, refl, sym, ◌∙◌, ap, arith}
use Rattle.std.specs.Prelude.{nat_lt, if◌then◌else◌}
use Rattle.std.specs.Option.{option_map}
use Rattle.rk_base.specs.declared.errno.Errno.TheVariants.{NoEntry, Invalid}
use Rattle.rk_calls.specs.Refs.{RefsHeld}
use Rattle.rk_tree.specs.Entries.{is_dir, IsFit}
use Rattle.rk_tree.specs.Hierarchy.{node as node_at, mode_of, file_bytes, with_mode, set_mode}
use Rattle.rk_tree.specs.Node.{Node as TreeNode, File as AFile, Dir as ADir, Link as ALink}
use Rattle.rk_tree.specs.Refusals.{is_there}
use Rattle.rk_kernel.specs.Rows.{done, at_place}
use Rattle.rk_kernel.specs.Rows.{strict as kernel_strict}
use Rattle.rk_kernel.specs.Changes as change
use Rattle.rk_waves.specs.Programs.{One, Sets, written}
use Rattle.rk_feet.specs.Named.{Name, Plain, EntryOf, AboveOf, ModeOf, BytesOf, OpenOf, PipeOf, OutputText, ErrorText, Used, Mode}
use Rattle.rk_feet.specs.Naming.{same_name}
use Rattle.rk_feet.specs.NamingLemmas.{clash, name-is}
use Rattle.rk_feet.specs.CellLemmas.{cells}
use Rattle.rk_feet.specs.Ways.{Found}
use Rattle.rk_feet.specs.Course.{what_of, here_named}
use Rattle.rk_feet.specs.Checks.{strict, no}
use Rattle.rk_feet.specs.Changing.{chmod_what, chmod_found, chmod_at}
use Rattle.rk_feet.specs.World.{World, at, mode_in}
use Rattle.rk_feet.specs.Simulates.{Becomes, Simulates, ends_in}
use Rattle.rk_feet.specs.Laws as law
use Rattle.rk_feet.proofs.SimulationLemmas.{simulates-no, simulates-unless, becomes-as}
use Rattle.rk_feet.proofs.NodeChangeLemmas.{KeepsKind, set-mode}
use Rattle.rk_feet.proofs.PlaceLemmas.{by-path, node-back}
use Rattle.rk_feet.proofs.QuestionLemmas.{strict-absent}

keeps-mode : (m : ℕ) → m ≤ 511 → KeepsKind (with_mode m)
keeps-mode m few = record { dir = dir; fit = fit; what = what }
  where
    dir : (it : TreeNode) → is_dir (Some (with_mode m it)) ≡ is_dir (Some it)
    dir (AFile mode content) = refl
    dir (ADir mode) = refl
    dir (ALink text) = refl

    fit : (it : TreeNode) → IsFit it → IsFit (with_mode m it)
    fit (AFile mode content) h = few
    fit (ADir mode) h = few
    fit (ALink text) h = h

    what : (it : TreeNode) → what_of (Some (with_mode m it)) ≡ what_of (Some it)
    what (AFile mode content) = refl
    what (ADir mode) = refl
    what (ALink text) = refl

mode-bytes : (m : ℕ) (it : TreeNode) → file_bytes (Some (with_mode m it)) ≡ file_bytes (Some it)
mode-bytes m (AFile mode content) = refl
mode-bytes m (ADir mode) = refl
mode-bytes m (ALink text) = refl

pub few-is : (m : ℕ) → nat_lt 511 m ≡ false → m ≤ 511
few-is m h = grind arith

module _ (w : World) (refs : RefsHeld) (m : ℕ) (few : m ≤ 511) (n : ℕ) (there : is_there (node_at w.held.tree n) ≡ true) where
  sets : (mode : ℕ) → mode_of (option_map (with_mode m) (node_at w.held.tree n)) ≡ mode
      → Becomes w (record w.held { tree = set_mode w.held.tree n m }) ((ModeOf (w.nodes.name_of n), Sets (Mode mode)) ∷ [])
  sets mode is = set-mode w (w.nodes.name_of n) n (node-back w n there) (with_mode m) (keeps-mode m few) (mode-bytes m) (Sets (Mode mode)) (ap Mode is)

  -- a link keeps its mode
  keeps : (text : List ℕ) → node_at w.held.tree n ≡ Some (ALink text) → Becomes w (record w.held { tree = set_mode w.held.tree n m }) []
  keeps text is = becomes-as w _ ((ModeOf (w.nodes.name_of n), Sets (Mode 511)) ∷ []) [] (sets 511 (ap (λ o. mode_of (option_map (with_mode m) o)) is)) same
    where
      choose : (q : Name) (b : Bool) → same_name (w.nodes.name_of n) q ≡ b → (if b then Mode 511 else at w (One (ModeOf q))) ≡ at w (One (ModeOf q))
      choose q true e = ap (λ o. Mode (mode_of o)) (sym is)
          ∙ ap (λ o. Mode (mode_in w q o)) (sym (node-back w n there) ∙ ap w.nodes.number_of (name-is (w.nodes.name_of n) q e))
      choose q false e = refl

      same : (p : Plain) → written cells ((ModeOf (w.nodes.name_of n), Sets (Mode 511)) ∷ []) p (at w (One p)) ≡ at w (One p)
      same (EntryOf x y) = refl
      same (AboveOf x) = refl
      same (ModeOf x) = choose x (same_name (w.nodes.name_of n) x) refl
      same (BytesOf x) = refl
      same (OpenOf x) = refl
      same (PipeOf x) = refl
      same OutputText = refl
      same ErrorText = refl
      same (Used r s) = refl

  chmod-node : (o : Option TreeNode) → node_at w.held.tree n ≡ o → is_there o ≡ true
      → Simulates w (done w.held refs (set_mode w.held.tree n m)) (ends_in w (chmod_what m (w.nodes.name_of n) (what_of o)))
  chmod-node None is h = absurd (clash false h refl)
  chmod-node (Some (AFile mode content)) is h = record { answer = refl; after = sets m (ap (λ o. mode_of (option_map (with_mode m) o)) is) }
  chmod-node (Some (ADir mode)) is h = record { answer = refl; after = sets m (ap (λ o. mode_of (option_map (with_mode m) o)) is) }
  chmod-node (Some (ALink text)) is h = record { answer = refl; after = keeps text is }

pub changes-modes : law.ChangesModes
changes-modes w refs path m =
    by-path w (strict (chmod_at m)) (λ spot. at_place w.held refs (kernel_strict spot) (change.chmod_at w.held refs m)) path true (λ e. simulates-no w refs e)
    (λ here is plain.
    simulates-unless w refs (nat_lt 511 m) (nat_lt 511 m) Invalid ((false, NoEntry) ∷ []) (done w.held refs (set_mode w.held.tree here.node m))
    (chmod_found m (Found (here_named w.held.tree (at w) w.nodes.name_of here))) refl
    (λ few. chmod-node w refs m (few-is m few) here.node is.there (node_at w.held.tree here.node) refl is.there))
    (λ dir name slash is stands. strict-absent w refs (change.chmod_at w.held refs m) (chmod_at m) dir name slash
    (simulates-unless w refs (nat_lt 511 m) (nat_lt 511 m) Invalid ((true, NoEntry) ∷ []) (done w.held refs w.held.tree) (no NoEntry) refl
    (λ few. simulates-no w refs NoEntry)))
