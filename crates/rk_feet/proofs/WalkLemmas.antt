-- Walk.
use Rattle.std.proofs.Common.{◌≡◌, ℕ, [], ◌∷◌, true, false, not, Option, Some, None, refl, sym, ◌∙◌, ap, subst}
use Rattle.rk_base.specs.declared.errno.Errno.TheVariants.{NoEntry, NotDir, Denied}
use Rattle.rk_calls.specs.Refs.{RefsHeld}
use Rattle.rk_tree.specs.Entries.{is_dir}
use Rattle.rk_tree.specs.Hierarchy.{node as node_at, mode_of, has_x, path_of}
use Rattle.rk_tree.specs.Node.{Node as TreeNode, File as AFile, Dir as ADir, Link as ALink}
use Rattle.rk_tree.specs.Refusals.{is_there}
use Rattle.rk_kernel.specs.Rows.{giving, unless, at_place}
use Rattle.rk_kernel.specs.Rows.{strict as kernel_strict}
use Rattle.rk_kernel.specs.Questions as ask
use Rattle.rk_waves.specs.Programs.{One}
use Rattle.rk_feet.specs.Asking.{walked, walk_mode, walk_what, walk_at}
use Rattle.rk_feet.specs.Checks.{climbing, strict}
use Rattle.rk_feet.specs.Climbing.{climb}
use Rattle.rk_feet.specs.Course.{what_of}
use Rattle.rk_feet.specs.Laws as law
use Rattle.rk_feet.specs.Named.{ModeOf, Mode}
use Rattle.rk_feet.specs.NamingLemmas.{clash}
use Rattle.rk_feet.specs.Simulates.{Simulates, ends_in}
use Rattle.rk_feet.specs.World.{World}
use Rattle.rk_feet.proofs.LeadingLemmas.{IsNear}
use Rattle.rk_feet.proofs.PlaceLemmas.{by-reach, mode-read}
use Rattle.rk_feet.proofs.QuestionLemmas.{strict-absent}
use Rattle.rk_feet.proofs.SimulationLemmas.{stays, simulates-no, simulates-unless, simulates-reads}
use Rattle.rk_feet.proofs.UpwardLemmas.{climbs, way-path}

-- the names on the way up are the path
walk-up :
    (w : World) (refs : RefsHeld) (passed n : ℕ) → IsNear w.held.tree passed n
    → Simulates w (giving w.held refs (ask.place_of (path_of w.held.tree n))) (ends_in w (climb passed walked (w.nodes.name_of n)))
walk-up w refs passed n near =
    let way = climbs w passed walked n near in
    subst (Simulates w (giving w.held refs (ask.place_of (path_of w.held.tree n)))) (sym way.2)
    (record { answer = ap ask.place_of (way-path w n way.0 way.1); after = stays w })

walk-node :
    (w : World) (refs : RefsHeld) (passed n : ℕ) (o : Option TreeNode) → node_at w.held.tree n ≡ o → is_there o ≡ true
    → (is_dir o ≡ true → IsNear w.held.tree passed n)
    → Simulates w (unless w.held refs ((not (is_dir o), NotDir) ∷ (not (has_x (mode_of o)), Denied) ∷ [])
    (giving w.held refs (ask.place_of (path_of w.held.tree n))))
    (ends_in w (walk_what passed (w.nodes.name_of n) (what_of o)))
walk-node w refs passed n None is h near = absurd (clash false h refl)
walk-node w refs passed n (Some (AFile mode content)) is h near = simulates-no w refs NotDir
walk-node w refs passed n (Some (ADir mode)) is h near =
    simulates-reads w _ (One (ModeOf (w.nodes.name_of n))) (Mode mode) (walk_mode passed (w.nodes.name_of n))
    (mode-read w n (ap is_there is) ∙ ap (λ o. Mode (mode_of o)) is)
    (simulates-unless w refs (not (has_x mode)) (not (has_x mode)) Denied [] (giving w.held refs (ask.place_of (path_of w.held.tree n)))
    (climb passed walked (w.nodes.name_of n)) refl (λ x. walk-up w refs passed n (near refl)))
walk-node w refs passed n (Some (ALink text)) is h near = simulates-no w refs NotDir

pub walks : law.Walks
walks w refs path =
    by-reach w (climbing (λ passed. strict (walk_at passed))) (λ spot. at_place w.held refs (kernel_strict spot) (ask.walk_at w.held refs)) path true
    (λ e. simulates-no w refs e)
    (λ passed here is reached. walk-node w refs passed here.node (node_at w.held.tree here.node) refl is.there reached.here_near)
    (λ passed dir name slash is near. strict-absent w refs (ask.walk_at w.held refs) (walk_at passed) dir name slash (simulates-no w refs NoEntry))
