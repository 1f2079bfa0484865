-- A path leads to the same place in a tree and in its Full.
use Rattle.std.proofs.Common.{◌≡◌, ℕ, zero, suc, List, [], ◌∷◌, ◌++◌, Bool, not, ◌&&◌, ◌||◌, cond, Option, Some, None, refl, ap, ◌∙◌}
use Rattle.std.specs.Prelude.{◌==◌, if◌then◌else◌}
use Rattle.rk_base.specs.Text.{Text, is_slash, hidden, dot, dot_dot, same_text}
use Rattle.rk_base.specs.Canonical.{has_nul, is_name, is_empty}
use Rattle.rk_base.specs.declared.errno.Errno.TheVariants.{NotDir, Denied, Invalid}
use Rattle.rk_tree.specs.Full.{Told, full, in_full}
use Rattle.rk_tree.specs.Hierarchy.{Hierarchy, node, has_x, child, top}
use Rattle.rk_tree.specs.Node.{Node, File, Dir, Link}
use Rattle.rk_tree.proofs.FullLemmas.{node-full, dir-full, mode-full, child-full, parent-full}
use Rattle.rk_walk.specs.Walk.{Outcome, Part, at_node, at_child, at_parent, at_part, walk, leads, resolve, resolve_as, as_spot, parts, start, ends_slash}
use Rattle.rk_walk.specs.Way.{looks, looks_up, ends_seeing, walk_sees, leads_seeing, way}
use Rattle.rk_walk.specs.declared.place.Here.{Here}
use Rattle.rk_walk.specs.declared.seen.Seen.{Seen}
use Rattle.rk_walk.specs.declared.seen.Seen.TheVariants.{Mode}

module _ (told : Told) (tree : Hierarchy) where
  module _ {R : Type 0} (outcome : Outcome R) (follow : Bool) where
    at_node-full : (again : Text → Text → R) (on : Here → R) (at : ℕ) (part : Part) (n : ℕ) (o : Option Node) → at_node outcome follow again on at part n (in_full told o) ≡ at_node outcome follow again on at part n o
    at_node-full again on at part n None = refl
    at_node-full again on at part n (Some (File mode content)) = refl
    at_node-full again on at part n (Some (Dir mode)) = refl
    at_node-full again on at part n (Some (Link text)) = refl

    at_child-full : (again : Text → Text → R) (on : Here → R) (at : ℕ) (part : Part) (last : Bool) (o : Option ℕ) → at_child outcome (full told tree) follow again on at part last o ≡ at_child outcome tree follow again on at part last o
    at_child-full again on at part last None = refl
    at_child-full again on at part last (Some n) = ap (at_node outcome follow again on at part n) (node-full told tree n) ∙ at_node-full again on at part n (node tree n)

    at_part-full : (again : Text → Text → R) (on : Here → R) (at : ℕ) (part : Part) (last : Bool) → at_part outcome (full told tree) follow again on at part last ≡ at_part outcome tree follow again on at part last
    at_part-full again on at part last =
        let step : at_child outcome (full told tree) follow again on at part last (child (full told tree) at part.name) ≡ at_child outcome tree follow again on at part last (child tree at part.name) =
        ap (at_child outcome (full told tree) follow again on at part last) (child-full told tree at part.name) ∙ at_child-full again on at part last (child tree at part.name) in
        λ i. if not (dir-full told tree at i) then outcome.refused NotDir
        else if not (has_x (mode-full told tree at i)) then outcome.refused Denied
        else if same_text part.name dot then on (record { node = at; up = None; slash = ends_slash part })
        else if same_text part.name dot_dot then at_parent outcome on part (parent-full told tree at i)
        else if not (is_name part.name) then outcome.refused Invalid
        else if (at == top) && same_text part.name hidden then outcome.refused Denied
        else step i

    walk-full : (again more : ℕ → Text → Text → R) → again ≡ more → (here : Here) (later : List Part) → walk outcome (full told tree) follow again here later ≡ walk outcome tree follow more here later
    walk-full again more same here [] = refl
    walk-full again more same here (part ∷ later) =
        at_part-full (again here.node) (λ on. walk outcome (full told tree) follow again on later) here.node part (is_empty later)
        ∙ (λ i. at_part outcome tree follow (same i here.node) (λ on. walk-full again more same on later i) here.node part (is_empty later))

    leads-full : (links at : ℕ) (text after : Text) → leads outcome links (full told tree) follow at text after ≡ leads outcome links tree follow at text after
    unfolding leads
    leads-full zero at text after = walk-full _ _ refl (start at text) (parts (text ++ after))
    leads-full (suc links) at text after = walk-full (leads outcome links (full told tree) follow) (leads outcome links tree follow) (λ i a t l. leads-full links a t l i) (start at text) (parts (text ++ after))

    resolve-full : (path : Text) → resolve_as outcome (full told tree) path follow ≡ resolve_as outcome tree path follow
    resolve-full [] = refl
    resolve-full (b ∷ bs) = ap (cond _ (outcome.refused Invalid)) (leads-full 32 top (b ∷ bs) [])

  pub place-found : (path : Text) (follow : Bool) → resolve (full told tree) path follow ≡ resolve tree path follow
  place-found path follow = resolve-full as_spot follow path

  -- and what is looked at on the way is the same

  looks-full : (at : ℕ) (name : Text) → looks (full told tree) at name ≡ looks tree at name
  looks-full at name = λ i.
      if not (dir-full told tree at i) then []
      else if not (has_x (mode-full told tree at i)) then Mode at ∷ []
      else Mode at ∷ looks_up at name

  module _ (follow : Bool) where
    sees-full : (again more : ℕ → Text → Text → List Seen) → again ≡ more → (here : Here) (later : List Part) → walk_sees (full told tree) follow again here later ≡ walk_sees tree follow more here later
    sees-full again more same here [] = refl
    sees-full again more same here (part ∷ later) =
        (λ i. looks-full here.node part.name i ++ at_part ends_seeing (full told tree) follow (again here.node) (λ on. walk_sees (full told tree) follow again on later) here.node part (is_empty later))
        ∙ ap (λ (s : List Seen). looks tree here.node part.name ++ s) (
        at_part-full ends_seeing follow (again here.node) (λ on. walk_sees (full told tree) follow again on later) here.node part (is_empty later)
        ∙ (λ i. at_part ends_seeing tree follow (same i here.node) (λ on. sees-full again more same on later i) here.node part (is_empty later)))

    leads_seeing-full : (links at : ℕ) (text after : Text) → leads_seeing links (full told tree) follow at text after ≡ leads_seeing links tree follow at text after
    unfolding leads_seeing
    leads_seeing-full zero at text after = sees-full (λ _ _ _. []) (λ _ _ _. []) refl (start at text) (parts (text ++ after))
    leads_seeing-full (suc links) at text after = sees-full (leads_seeing links (full told tree) follow) (leads_seeing links tree follow) (λ i a t l. leads_seeing-full links a t l i) (start at text) (parts (text ++ after))

  pub way-found : (path : Text) (follow : Bool) → way (full told tree) path follow ≡ way tree path follow
  way-found [] follow = refl
  way-found (b ∷ bs) follow = ap (cond (not (is_slash b) || has_nul (b ∷ bs)) []) (leads_seeing-full follow 32 top (b ∷ bs) [])
