-- From a directory up to the root.
use Rattle.std.proofs.Common.{◌≡◌, ℕ, zero, suc, ◌≤◌, ◌<◌, [], ◌∷◌, Bool, true, false, ◌||◌, Some, None, refl, sym, ◌∙◌, ap, ap₂, subst}
use Rattle.std.proofs.Common.{arith}
use Rattle.std.specs.Prelude.{◌==◌, if◌then◌else◌, slice_get}
use Rattle.std.proofs.lemmas.Bool.{eqb-true, eq-eqb}
use Rattle.rk_base.specs.Text.{Text, root, join}
use Rattle.rk_tree.specs.Entries.{is_dir}
use Rattle.rk_tree.specs.Hierarchy.{Hierarchy, node as node_at, top as top_at, path_of, stands_within, within}
use Rattle.rk_tree.specs.Inodes.{place_in}
use Rattle.rk_tree.specs.Names.{path_by}
use Rattle.rk_tree.specs.Refusals.{is_there}
use Rattle.rk_tree.proofs.ClimbingLemmas.{StandsIn, depth_at, placed_in, root_path, there_by_place, within_up, within_there, within_root, up_higher}
use Rattle.rk_tree.proofs.TreeLemmas.{over}
use Rattle.rk_waves.specs.Programs.{One, Reads}
use Rattle.rk_feet.specs.Climbing.{Way, names_of, passes, climb, climb_from}
use Rattle.rk_feet.specs.Named.{AboveOf, Above, above, top, Does}
use Rattle.rk_feet.specs.Naming.{same_name}
use Rattle.rk_feet.specs.NamingLemmas.{clash}
use Rattle.rk_feet.specs.Ways.{is_top}
use Rattle.rk_feet.specs.World.{World, at, above_in, up_named}
use Rattle.rk_feet.specs.Simulates.{ends_in}
use Rattle.rk_feet.proofs.LeadingLemmas.{IsNear}
use Rattle.rk_feet.proofs.MakingCallLemmas.{there-dir}
use Rattle.rk_feet.proofs.OptionLemmas.{some-of}
use Rattle.rk_feet.proofs.QuestionLemmas.{same-number}
use Rattle.rk_feet.proofs.ShowsLemmas.{shows, whole, dir-back}

within-is : (tree : Hierarchy) (n k : ℕ) → stands_within tree n k ≡ within (path_of tree n) (path_of tree k)
unfolding stands_within
within-is tree n k = refl

-- a directory below the root that stands somewhere has its place
pub stands-in :
    (w : World) (k : ℕ) → (k ≡ top_at → ⊥) → is_dir (node_at w.held.tree k) ≡ true → is_there (path_of w.held.tree k) ≡ true
    → (up : ℕ × Text) × (place_in (slice_get w.inodes k) ≡ Some up) × StandsIn w.held.tree k up.0 up.1
stands-in w k below d stands =
    let place : is_there (place_in (slice_get w.inodes k)) ≡ true =
    over w.inodes w.held.tree w.tree (λ h. is_dir (node_at h k) ≡ true → is_there (place_in (slice_get w.inodes k)) ≡ is_there (path_of h k))
    (λ d. there_by_place w.tree.paths w.inodes w.tree.kept.0 w.tree.kept.1 k below d) d ∙ stands in
    let it = some-of (place_in (slice_get w.inodes k)) place in (
      it.0,
      it.1,
      over w.inodes w.held.tree w.tree (λ h. is_dir (node_at h k) ≡ true → StandsIn h k it.0.0 it.0.1)
          (λ d. placed_in w.tree.paths w.inodes w.tree.kept.0 w.tree.kept.1 k below d it.0.0 it.0.1 it.1) d,
    )

-- and the cell says so
pub above-read :
    (w : World) (k : ℕ) → (k == top_at) ≡ false → is_dir (node_at w.held.tree k) ≡ true → (up : ℕ × Text) → place_in (slice_get w.inodes k) ≡ Some up
    → at w (One (AboveOf (w.nodes.name_of k))) ≡ Above (Some (w.nodes.name_of up.0, up.1))
above-read w k below d up is =
    ap (λ o. Above (above_in w o)) (dir-back w k d)
    ∙ ap₂ (λ a b. Above (if a then Some (top, []) else if b then up_named w (place_in (slice_get w.inodes k)) else None)) below d
    ∙ ap (λ o. Above (up_named w o)) is

module _ (w : World) where
  -- the way from a directory up to the root
  abbrev pub IsWay : ℕ → Way → Type 0
  IsWay k [] = k ≡ top_at
  IsWay k (step ∷ steps) = (step.0 ≡ w.nodes.name_of k) × (is_dir (node_at w.held.tree k) ≡ true) × (up : ℕ) × StandsIn w.held.tree k up step.1 × IsWay up steps

  -- its names are the path of the directory
  pub way-path : (k : ℕ) (way : Way) → IsWay k way → path_of w.held.tree k ≡ Some (path_by root (names_of way))
  way-path k [] is = ap (path_of w.held.tree) is ∙ root_path w.held.tree (whole w)
  way-path k (step ∷ steps) is =
      is.3.at ∙ ap (λ p. Some (join p step.1)) (same is.3.path (path_by root (names_of steps)) (sym is.3.up_at ∙ way-path is.2 steps is.4))
    where
      same : (a b : Text) → Some a ≡ Some b → a ≡ b
      same a b e = cc

  -- a directory is on it where it is this one or one above it, but for the root
  pub way-passes :
      (n : ℕ) → is_dir (node_at w.held.tree n) ≡ true → (n ≡ top_at → ⊥) → (k : ℕ) (way : Way) → IsWay k way
      → passes way (w.nodes.name_of n) ≡ stands_within w.held.tree n k
  way-passes n d below k [] is =
      sym (within-is w.held.tree n k ∙ ap (λ j. within (path_of w.held.tree n) (path_of w.held.tree j)) is
      ∙ within_root w.held.tree n (whole w) (λ same. below (sym same)))
  way-passes n d below k (step ∷ steps) is =
      ap₂ (λ a b. a || b) (ap (same_name (w.nodes.name_of n)) is.0
      ∙ sym (same-number w n k (there-dir (node_at w.held.tree n) d) (there-dir (node_at w.held.tree k) is.1)))
      (way-passes n d below is.2 steps is.4)
      ∙ go (n == k) refl
    where
      go : (b : Bool) → (n == k) ≡ b → (b || stands_within w.held.tree n is.2) ≡ stands_within w.held.tree n k
      go true e =
          let same : n ≡ k = eqb-true n k e in
          sym (within-is w.held.tree n k ∙ within_there w.held.tree n (path_of w.held.tree k)
          (ap (λ j. is_there (path_of w.held.tree j)) same ∙ ap is_there is.3.at) (ap (path_of w.held.tree) (sym same)))
      go false e =
          within-is w.held.tree n is.2
          ∙ within_up w.held.tree n k is.2 step.1 (whole w) d (λ same. clash (n == k) (eq-eqb n k (sym same)) e) is.3
          ∙ sym (within-is w.held.tree n k)

  pub higher : (a b l : ℕ) → a < b → b ≤ suc l → a ≤ l
  higher a b l h k = omega arith

  pub lowest : (path : ℕ) → path ≤ 0 → (a : ℕ) → a < path → ⊥
  lowest path h a k = omega arith

  -- where a directory stands no deeper than so many levels, what is made is made of its way
  pub climbs :
      (levels : ℕ) (make : Way → Does) (k : ℕ) → IsNear w.held.tree levels k
      → (way : Way) × IsWay k way × (ends_in w (climb levels make (w.nodes.name_of k)) ≡ ends_in w (make way))
  climbs zero make k near = go (k == top_at) refl
    where
      go : (b : Bool) → (k == top_at) ≡ b → (way : Way) × IsWay k way × (ends_in w (climb zero make (w.nodes.name_of k)) ≡ ends_in w (make way))
      go true e = ([], eqb-true k top_at e, refl)
      go false e =
          let s = stands-in w k (λ same. clash (k == top_at) (eq-eqb k top_at same) e) near.stands.0 near.stands.1 in
          absurd (lowest (depth_at (path_of w.held.tree k)) near.near (depth_at (path_of w.held.tree s.0.0)) (up_higher w.held.tree k s.0.0 s.0.1 s.2))
  climbs (suc levels) make k near =
      go (λ make j near. climbs levels make j near) (k == top_at) refl
    where
      Climbed : Bool → Type 0
      Climbed b = (way : Way) × IsWay k way
          × (ends_in w (if b then make [] else Reads (One (AboveOf (w.nodes.name_of k)))
          (λ u. climb_from (λ up. climb levels (λ way. make ((w.nodes.name_of k, up.1) ∷ way)) up.0) (above u))) ≡ ends_in w (make way))

      go : ((make : Way → Does) (j : ℕ) → IsNear w.held.tree levels j
          → (way : Way) × IsWay j way × (ends_in w (climb levels make (w.nodes.name_of j)) ≡ ends_in w (make way)))
          → (b : Bool) → (k == top_at) ≡ b → Climbed (is_top (w.nodes.name_of k))
      go again true e = subst Climbed (sym ((shows w).tops k near.stands.0 ∙ e)) ([], eqb-true k top_at e, refl)
      go again false e =
          let s = stands-in w k (λ same. clash (k == top_at) (eq-eqb k top_at same) e) near.stands.0 near.stands.1 in
          let up_near : IsNear w.held.tree levels s.0.0 = record {
            stands = (s.2.in_dir, ap is_there s.2.up_at);
            near = higher (depth_at (path_of w.held.tree s.0.0)) (depth_at (path_of w.held.tree k)) levels (up_higher w.held.tree k s.0.0 s.0.1 s.2) near.near;
          } in
          let rest = again (λ way. make ((w.nodes.name_of k, s.0.1) ∷ way)) s.0.0 up_near in
          subst Climbed (sym ((shows w).tops k near.stands.0 ∙ e)) (
            (w.nodes.name_of k, s.0.1) ∷ rest.0,
            (refl, near.stands.0, s.0.0, s.2, rest.1),
            ap (λ v. ends_in w (climb_from (λ up. climb levels (λ way. make ((w.nodes.name_of k, up.1) ∷ way)) up.0) (above v)))
                (above-read w k e near.stands.0 s.0 s.1)
                ∙ rest.2,
          )
