-- What is told of where a directory and all above it stand tells a way up.
use Rattle.std.proofs.Common.{◌≡◌, ℕ, zero, suc, ◌+◌, [], ◌∷◌, Bool, true, false, Some, refl, sym, ◌∙◌, ap, subst, arith}
use Rattle.std.specs.Prelude.{◌==◌, if◌then◌else◌}
use Rattle.std.specs.Option.{option_and_then}
use Rattle.std.proofs.lemmas.Bool.{eqb-true, eq-eqb}
use Rattle.rk_base.specs.Text.{Text, parent, depth}
use Rattle.rk_base.proofs.PathLemmas.{depth-join, parent-join}
use Rattle.rk_tree.specs.Hierarchy.{Hierarchy, top as top_at, parent_of, path_of, number_at}
use Rattle.rk_tree.specs.Refusals.{is_there}
use Rattle.rk_tree.specs.Whole.{IsWhole}
use Rattle.rk_tree.proofs.ClimbingLemmas.{StandsIn, depth_at, up_higher}
use Rattle.rk_tree.proofs.HierarchyLemmas.{path_stands}
use Rattle.rk_kernel.specs.Foot.{reading, both, levels_of, higher, upwards_by, upwards}
use Rattle.rk_kernel.specs.declared.cell.Cell.TheVariants as told
use Rattle.rk_kernel.specs.declared.foot.Foot.{Foot}
use Rattle.rk_waves.specs.Programs.{One, Reads}
use Rattle.rk_feet.specs.Climbing.{Way, climb, climb_from}
use Rattle.rk_feet.specs.Named.{AboveOf, Above, above, Does}
use Rattle.rk_feet.specs.NamingLemmas.{clash}
use Rattle.rk_feet.specs.Told.{By, Later, Tells}
use Rattle.rk_feet.specs.Ways.{is_top}
use Rattle.rk_feet.specs.World.{World}
use Rattle.rk_feet.proofs.LeadingLemmas.{IsNear}
use Rattle.rk_feet.proofs.ShowsLemmas.{shows, whole}
use Rattle.rk_feet.proofs.ToldLemmas.{dir-number, tells-more, tells-reads}
use Rattle.rk_feet.proofs.UpwardLemmas.{stands-in, above-read, IsWay, higher as lower, lowest}

-- the way up from a directory is its own place, and then the way up from what it stands in
upwards-step : (tree : Hierarchy) (n up : ℕ) (name : Text) → IsWhole tree → StandsIn tree n up name → upwards tree n ≡ told.Above n ∷ upwards tree up
unfolding parent_of
upwards-step tree n up name whole s =
    let up_stands : number_at tree s.path ≡ Some up = path_stands tree up s.path s.up_at in
    let is_up : parent_of tree n ≡ Some up =
    ap (λ o. option_and_then (λ path. number_at tree (parent path)) o) s.at
    ∙ ap (number_at tree) (parent-join s.path name (whole.canonical s.path up up_stands) s.named) ∙ up_stands in
    ap (λ o. upwards_by (levels_of o) tree n) s.at
    ∙ ap (λ k. upwards_by k tree n) (depth-join s.path name s.named ∙ one_more (depth s.path))
    ∙ ap (λ o. told.Above n ∷ higher o (upwards_by (depth s.path) tree)) is_up
    ∙ ap (λ o. told.Above n ∷ upwards_by (levels_of o) tree up) (sym s.up_at)
  where
    one_more : (k : ℕ) → k + 1 ≡ suc k
    one_more k = omega arith

module _ (w : World) (l : Later w) where
  -- where a directory stands no deeper than so many levels, and what is made of its way is told
  pub tells-climb :
      (levels : ℕ) (make : Way → Does) (foot : Foot) (k : ℕ) → IsNear w.held.tree levels k
      → ((way : Way) → IsWay w k way → Tells w l foot (make way))
      → Tells w l (both (reading (upwards w.held.tree k)) foot) (climb levels make (w.nodes.name_of k))
  tells-climb zero make foot k near h = go (k == top_at) refl
    where
      go : (b : Bool) → (k == top_at) ≡ b → Tells w l (both (reading (upwards w.held.tree k)) foot) (climb zero make (w.nodes.name_of k))
      go true e = tells-more w l (upwards w.held.tree k) foot (make []) (h [] (eqb-true k top_at e))
      go false e =
          let s = stands-in w k (λ same. clash (k == top_at) (eq-eqb k top_at same) e) near.stands.0 near.stands.1 in
          absurd (lowest w (depth_at (path_of w.held.tree k)) near.near (depth_at (path_of w.held.tree s.0.0)) (up_higher w.held.tree k s.0.0 s.0.1 s.2))
  tells-climb (suc levels) make foot k near h = go (λ make j near h. tells-climb levels make foot j near h) (k == top_at) refl
    where
      go : ((make : Way → Does) (j : ℕ) → IsNear w.held.tree levels j → ((way : Way) → IsWay w j way → Tells w l foot (make way))
          → Tells w l (both (reading (upwards w.held.tree j)) foot) (climb levels make (w.nodes.name_of j)))
          → (b : Bool) → (k == top_at) ≡ b
          → Tells w l (both (reading (upwards w.held.tree k)) foot) (if is_top (w.nodes.name_of k) then make [] else Reads (One (AboveOf (w.nodes.name_of k)))
          (λ u. climb_from (λ up. climb levels (λ way. make ((w.nodes.name_of k, up.1) ∷ way)) up.0) (above u)))
      go again true e =
          subst (λ b. Tells w l (both (reading (upwards w.held.tree k)) foot) (if b then make [] else Reads (One (AboveOf (w.nodes.name_of k)))
          (λ u. climb_from (λ up. climb levels (λ way. make ((w.nodes.name_of k, up.1) ∷ way)) up.0) (above u))))
          (sym ((shows w).tops k near.stands.0 ∙ e))
          (tells-more w l (upwards w.held.tree k) foot (make []) (h [] (eqb-true k top_at e)))
      go again false e =
          let s = stands-in w k (λ same. clash (k == top_at) (eq-eqb k top_at same) e) near.stands.0 near.stands.1 in
          let up_near : IsNear w.held.tree levels s.0.0 = record {
            stands = (s.2.in_dir, ap is_there s.2.up_at);
            near = lower w (depth_at (path_of w.held.tree s.0.0)) (depth_at (path_of w.held.tree k)) levels (up_higher w.held.tree k s.0.0 s.0.1 s.2) near.near;
          } in
          subst (λ b. Tells w l (both (reading (upwards w.held.tree k)) foot) (if b then make [] else Reads (One (AboveOf (w.nodes.name_of k)))
          (λ u. climb_from (λ up. climb levels (λ way. make ((w.nodes.name_of k, up.1) ∷ way)) up.0) (above u))))
          (sym ((shows w).tops k near.stands.0 ∙ e))
          (subst (λ cells. Tells w l (both (reading cells) foot) (Reads (One (AboveOf (w.nodes.name_of k)))
          (λ u. climb_from (λ up. climb levels (λ way. make ((w.nodes.name_of k, up.1) ∷ way)) up.0) (above u))))
          (sym (upwards-step w.held.tree k s.0.0 s.0.1 (whole w) s.2))
          (tells-reads w l (One (AboveOf (w.nodes.name_of k))) (told.Above k) (Above (Some (w.nodes.name_of s.0.0, s.0.1)))
          (λ u. climb_from (λ up. climb levels (λ way. make ((w.nodes.name_of k, up.1) ∷ way)) up.0) (above u))
          (both (reading (upwards w.held.tree s.0.0)) foot)
          (ap (λ m. By (told.Above m)) (dir-number w l k near.stands.0)) (above-read w k e near.stands.0 s.0 s.1)
          (again (λ way. make ((w.nodes.name_of k, s.0.1) ∷ way)) s.0.0 up_near
          (λ way is. h ((w.nodes.name_of k, s.0.1) ∷ way) (refl, near.stands.0, s.0.0, s.2, is)))))
