-- Files that are written from their first byte on.
use Rattle.std.proofs.Common.{◌≡◌, ℕ, List, [], length, Option, Some, None, refl, sym, ◌∙◌, ap}
use Rattle.std.specs.Prelude.{slice_set}
use Rattle.std.proofs.lemmas.List.{nil_from_length}
use Rattle.rk_base.specs.Text.{Text, written}
use Rattle.rk_tree.specs.Hierarchy.{Hierarchy, changed_at, file_bytes, node, over_written, replaced, set_bytes, write}
use Rattle.rk_tree.specs.Content.{bytes_of}
use Rattle.rk_tree.specs.declared.content.Content.TheVariants.{Own}
use Rattle.rk_tree.specs.Node.{Node, File, Dir, Link}
use Rattle.rk_kernel.proofs.PipeLemmas.{written_end}

-- what is written over nothing is all there is
written_first : (text bytes : Text) → length text ≡ 0 → written text 0 bytes ≡ bytes
written_first text bytes none = ap (λ (old : Text). written old 0 bytes) (nil_from_length text none) ∙ written_end [] bytes

-- so it is as if the bytes were replaced
same-node : (nodes : List Node) (n : ℕ) (bytes : Text) (it : Option Node) → length (file_bytes it) ≡ 0 → changed_at (replaced bytes) nodes n it ≡ changed_at (over_written 0 bytes) nodes n it
same-node nodes n bytes None none = refl
same-node nodes n bytes (Some (File mode old)) none = ap (λ (text : Text). slice_set nodes n (File mode (Own text))) (sym (written_first (bytes_of old) bytes none))
same-node nodes n bytes (Some (Dir mode)) none = refl
same-node nodes n bytes (Some (Link text)) none = refl

pub set_written : (tree : Hierarchy) (n at : ℕ) (bytes : Text) → at ≡ 0 → length (file_bytes (node tree n)) ≡ 0 → set_bytes tree n bytes ≡ write tree n at bytes
set_written tree n at bytes first none =
    ap (λ (nodes : List Node). record tree { nodes = nodes }) (same-node tree.nodes n bytes (node tree n) none) ∙ ap (λ (place : ℕ). write tree n place bytes) (sym first)
