-- From a directory up to the root.
use Rattle.std.proofs.Common.{◌≡◌, ℕ, suc, ◌+◌, ◌-◌, ◌<◌, ◌≤◌, List, [], ◌∷◌, ◌++◌, true, Option, Some, None, IfSome, sym, ◌∙◌, ap, arith, append_assoc}
use Rattle.rk_tree.specs.Entries.{is_dir}
use Rattle.rk_tree.specs.Hierarchy.{Hierarchy, node, parent_of}
use Rattle.rk_tree.specs.Whole.{IsWhole}
use Rattle.rk_walk.proofs.PlaceLemmas.{parent-dir}
use Rattle.rk_kernel.specs.Foot.{upwards_by, higher}
use Rattle.rk_kernel.specs.declared.cell.Cell.{Cell}
use Rattle.rk_kernel.specs.declared.cell.Cell.TheVariants.{Above}

-- what a directory stands in is one
pub parent-is : (tree : Hierarchy) → IsWhole tree → (dir : ℕ) (o : Option ℕ) → o ≡ parent_of tree dir → IfSome o (λ up. is_dir (node tree up) ≡ true)
parent-is tree whole dir None is = tt
parent-is tree whole dir (Some up) is = parent-dir tree whole dir up (sym is)

module _ (tree : Hierarchy) (at : ℕ) where
  one-more : (levels : ℕ) (o : Option ℕ) → o ≡ parent_of tree at → upwards_by (suc levels) tree at ≡ Above at ∷ higher o (upwards_by levels tree)
  one-more levels o is = ap (λ (up : Option ℕ). Above at ∷ higher up (upwards_by levels tree)) (sym is)

  split : (levels counter : ℕ) → counter < levels → levels - counter ≡ suc (levels - (counter + 1))
  split levels counter h = omega arith

  -- all that is left, where the directory stands in none
  pub up-none : (levels counter : ℕ) (all cells : List Cell) → counter < levels → None ≡ parent_of tree at → all ≡ cells ++ upwards_by (levels - counter) tree at
      → cells ++ Above at ∷ [] ≡ all
  up-none levels counter all cells h is same =
      sym (same ∙ ap (λ (n : ℕ). cells ++ upwards_by n tree at) (split levels counter h)
      ∙ ap (λ (rest : List Cell). cells ++ rest) (one-more (levels - (counter + 1)) None is))

  -- a step up
  pub up-some : (levels counter up : ℕ) (all cells : List Cell) → counter < levels → Some up ≡ parent_of tree at → all ≡ cells ++ upwards_by (levels - counter) tree at
      → all ≡ (cells ++ Above at ∷ []) ++ upwards_by (levels - (counter + 1)) tree up
  up-some levels counter up all cells h is same =
      same ∙ ap (λ (n : ℕ). cells ++ upwards_by n tree at) (split levels counter h)
      ∙ ap (λ (rest : List Cell). cells ++ rest) (one-more (levels - (counter + 1)) (Some up) is)
      ∙ sym (append_assoc cells (Above at ∷ []) (upwards_by (levels - (counter + 1)) tree up))

  none-left : (levels counter : ℕ) → levels ≤ counter → levels - counter ≡ 0
  none-left levels counter h = omega arith

  -- the last one
  pub up-end : (levels counter : ℕ) (all cells : List Cell) → levels ≤ counter → all ≡ cells ++ upwards_by (levels - counter) tree at → cells ++ Above at ∷ [] ≡ all
  up-end levels counter all cells h same = sym (same ∙ ap (λ (n : ℕ). cells ++ upwards_by n tree at) (none-left levels counter h))
