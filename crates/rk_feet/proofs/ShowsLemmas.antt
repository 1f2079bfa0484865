-- The cells of a named world show its tree.
use Rattle.std.proofs.Common.{◌≡◌, ℕ, ◌<◌, [], length, Bool, true, false, Option, Some, None, refl, sym, ◌∙◌, ap, subst}
use Rattle.std.specs.Prelude.{◌==◌, if◌then◌else◌, slice_get}
use Rattle.std.specs.Option.{option_map}
use Rattle.std.proofs.lemmas.Bool.{eqb-true, eq-eqb}
use Rattle.rk_base.specs.Text.{Text}
use Rattle.rk_base.proofs.WithinLemmas.{is_the_root}
use Rattle.rk_tree.specs.Entries.{is_dir}
use Rattle.rk_tree.specs.Hierarchy.{node as node_at, top as top_at, child, parent_of}
use Rattle.rk_tree.specs.Inodes.{under, place_in}
use Rattle.rk_tree.specs.Whole.{IsWhole}
use Rattle.rk_tree.proofs.BelowLemmas.{child_stands}
use Rattle.rk_tree.proofs.ShownLemmas.{steps}
use Rattle.rk_tree.proofs.TreeLemmas.{over}
use Rattle.rk_tree.proofs.UnderLemmas.{child-under, parent-by, parent-root_is}
use Rattle.rk_tree.proofs.WholeLemmas.{dir_node}
use Rattle.rk_feet.specs.Named.{Name, Start, Given, Made, Entry, Above, Mode, top}
use Rattle.rk_feet.specs.NamingLemmas.{clash}
use Rattle.rk_feet.specs.Ways.{is_top}
use Rattle.rk_feet.specs.Course.{Shows, IsUp, entry}
use Rattle.rk_feet.specs.World.{World, at, entry_in, entry_named, above_in, up_named, mode_in}
use Rattle.rk_feet.proofs.LeadingLemmas.{parent-is}
use Rattle.rk_feet.proofs.ReadLemmas.{node-below}

pub whole : (w : World) → IsWhole w.held.tree
whole w = subst IsWhole w.tree.is w.tree.kept.0

-- under a name of a directory stands its child
pub under-child : (w : World) (d : ℕ) (name : Text) → is_dir (node_at w.held.tree d) ≡ true → under w.inodes d name ≡ child w.held.tree d name
under-child w d name = over w.inodes w.held.tree w.tree (λ h. is_dir (node_at h d) ≡ true → under w.inodes d name ≡ child h d name)
    (child-under w.tree.paths w.inodes w.tree.kept.0 (steps w.inodes w.tree.paths w.tree.leads) w.tree.kept.2 d name)

pub dir-below : (w : World) (n : ℕ) → is_dir (node_at w.held.tree n) ≡ true → n < length w.inodes
dir-below w n d = let it = dir_node (node_at w.held.tree n) d in node-below w n it.0 it.1

-- the number of a directory by its name
pub dir-back : (w : World) (n : ℕ) → is_dir (node_at w.held.tree n) ≡ true → w.nodes.number_of (w.nodes.name_of n) ≡ Some n
dir-back w n d = w.nodes_named.back n (dir-below w n d)

top-name : (w : World) (n : ℕ) (x : Name) → w.nodes.number_of x ≡ Some n → w.nodes.name_of n ≡ x → is_top x ≡ (n == top_at)
top-name w n x at_x is = go (is_top x) refl (n == top_at) refl
  where
    one : (a b : ℕ) → Some a ≡ Some b → a ≡ b
    one a b e = cc

    the-top : (y : Name) → is_top y ≡ true → y ≡ top
    the-top (Start path) e = ap Start (is_the_root path e)
    the-top (Given number) e = absurd (clash false e refl)
    the-top (Made r s p m) e = absurd (clash false e refl)

    number-top : w.nodes.number_of top ≡ Some top_at
    number-top = ap w.nodes.number_of (sym w.top_is) ∙ dir-back w top_at (whole w).root_dir

    go : (a : Bool) → is_top x ≡ a → (b : Bool) → (n == top_at) ≡ b → a ≡ b
    go true e true f = refl
    go false e false f = refl
    go true e false f = absurd (clash (n == top_at) (eq-eqb n top_at (one n top_at (sym at_x ∙ ap w.nodes.number_of (the-top x e) ∙ number-top))) f)
    go false e true f = absurd (clash (is_top x) (ap is_top (sym is ∙ ap w.nodes.name_of (eqb-true n top_at f) ∙ w.top_is)) e)

pub shows : (w : World) → Shows w.held.tree (at w) w.nodes.name_of
shows w = record {
  top_is = w.top_is;
  top_dir = (whole w).root_dir;
  tops = λ n d. top-name w n (w.nodes.name_of n) (dir-back w n d) refl;
  modes = λ n d. ap (λ o. Mode (mode_in w (w.nodes.name_of n) o)) (dir-back w n d);
  entries = λ n name d. ap (λ o. Entry (entry_in w name o)) (dir-back w n d) ∙ ap (λ o. Entry (entry_named w o)) (under-child w n name d)
      ∙ same (child w.held.tree n name);
  stand = λ n m name is. let up = child_stands w.held.tree n name m is in (whole w).known _ m up.2;
  ups = λ n d. subst (λ v. IsUp w.held.tree (at w) w.nodes.name_of (parent_of w.held.tree n) v) (sym (ap (λ o. Above (above_in w o)) (dir-back w n d)))
      (up n d (n == top_at) refl);
} where
  same : (o : Option ℕ) → Entry (entry_named w o) ≡ Entry (entry w.held.tree (at w) w.nodes.name_of o)
  same None = refl
  same (Some m) = refl

  parent : (n : ℕ) → (n ≡ top_at → ⊥) → is_dir (node_at w.held.tree n) ≡ true
      → option_map (λ p. p.0) (place_in (slice_get w.inodes n)) ≡ parent_of w.held.tree n
  parent n apart = over w.inodes w.held.tree w.tree (λ h. is_dir (node_at h n) ≡ true → option_map (λ p. p.0) (place_in (slice_get w.inodes n)) ≡ parent_of h n)
      (λ d. parent-by w.tree.paths w.inodes w.tree.kept.0 w.tree.kept.1 n apart d (place_in (slice_get w.inodes n)) refl)

  by-place : (n : ℕ) (place : Option (ℕ × Text)) → option_map (λ p. p.0) place ≡ parent_of w.held.tree n
      → IsUp w.held.tree (at w) w.nodes.name_of (parent_of w.held.tree n) (Above (up_named w place))
  by-place n None e = subst (λ o. IsUp w.held.tree (at w) w.nodes.name_of o (Above None)) e refl
  by-place n (Some p) e = subst (λ o. IsUp w.held.tree (at w) w.nodes.name_of o (Above (Some (w.nodes.name_of p.0, p.1)))) e
      (parent-is w.held.tree (whole w) n p.0 (sym e), p.1, refl)

  up : (n : ℕ) → is_dir (node_at w.held.tree n) ≡ true → (b : Bool) → (n == top_at) ≡ b
      → IsUp w.held.tree (at w) w.nodes.name_of (parent_of w.held.tree n)
      (Above (if b then Some (top, []) else if is_dir (node_at w.held.tree n) then up_named w (place_in (slice_get w.inodes n)) else None))
  up n d true e =
      subst (λ o. IsUp w.held.tree (at w) w.nodes.name_of o (Above (Some (top, [])))) (parent-root_is w.held.tree n (whole w) (eqb-true n top_at e))
      ((whole w).root_dir, [], ap (λ x. Some (x, [])) (sym w.top_is))
  up n d false e =
      subst (λ b. IsUp w.held.tree (at w) w.nodes.name_of (parent_of w.held.tree n)
      (Above (if b then up_named w (place_in (slice_get w.inodes n)) else None))) (sym d)
      (by-place n (place_in (slice_get w.inodes n)) (parent n (λ s. clash (n == top_at) (eq-eqb n top_at s) e) d))
