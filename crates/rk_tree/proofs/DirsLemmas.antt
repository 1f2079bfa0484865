-- The numbers of directories, by which the code finds where a path stands.
use Rattle.std.proofs.Common.{◌≡◌, ◌++◌, ℕ, List, [], ◌∷◌, length, Bool, true, false, inl, inr, Option, Some, refl, sym, ap, subst, ◌∙◌}
use Rattle.std.specs.Prelude.{MatchBool, slice_get}
use Rattle.std.specs.FinMap.{get, insert}
use Rattle.rk_base.specs.Text.{Text, parent}
use Rattle.rk_tree.specs.Copying.{HasDirs, with_node_at}
use Rattle.rk_tree.specs.Entries.{is_dir}
use Rattle.rk_tree.specs.Hierarchy.{Hierarchy, Paths, node, number_at}
use Rattle.rk_tree.specs.Node.{Node}
use Rattle.rk_tree.specs.Rows.{map_of}
use Rattle.rk_tree.specs.Whole.{IsPlaced, IsWhole}
use Rattle.rk_tree.proofs.RowsLemmas.{get-map_of, insert_cases, row_at}
use Rattle.rk_tree.proofs.WholeLemmas.{get-last, get-more}

clash : (b : Bool) → b ≡ true → b ≡ false → ⊥
clash b t f = cc

same : {a b : ℕ} → Some a ≡ Some b → a ≡ b
same e = cc

-- numbers of all paths
pub all_numbers : (tree : Hierarchy) (rows : List (Text × ℕ)) → map_of rows ≡ tree.paths → HasDirs tree rows
all_numbers tree rows is q n at dir = ap (λ (m : Paths). get m q) is ∙ at

-- the number of the directory that a path stands in
pub up_by : (tree : Hierarchy) (rows : List (Text × ℕ)) (path key : Text) (o : Option ℕ) → HasDirs tree rows → IsPlaced tree path → key ≡ parent path → o ≡ row_at rows key → o ≡ number_at tree (parent path)
up_by tree rows path key o has placed is found =
    found ∙ ap (row_at rows) is ∙ sym (get-map_of rows (parent path)) ∙ has (parent path) placed.up placed.stands placed.in_dir ∙ sym placed.stands

-- A node more, at a path.
module _ (tree : Hierarchy) (path : Text) (it : Node) (rows : List (Text × ℕ)) (whole : IsWhole tree) (has : HasDirs tree rows) where
  abbrev more : Hierarchy
  more = with_node_at tree path it

  -- a directory that stood before
  before : (q : Text) (n : ℕ) → number_at tree q ≡ Some n → is_dir (node more n) ≡ true → get (map_of rows) q ≡ Some n
  before q n at dir =
      let known = whole.known q n at in
      has q n at (ap is_dir (known.1 ∙ sym (get-more tree.nodes it n known.0 known.1)) ∙ dir)

  last : (n : ℕ) → Some (length tree.nodes) ≡ Some n → node more n ≡ Some it
  last n e = ap (slice_get (tree.nodes ++ it ∷ [])) (sym (same e)) ∙ get-last tree.nodes it

  dir_more : (made : List (Text × ℕ)) → map_of made ≡ insert (map_of rows) path (length tree.nodes) → HasDirs more made
  dir_more made is q n at dir =
      ap (λ (m : Paths). get m q) is
      ∙ elim (insert_cases tree.paths path (length tree.nodes) q) [
        | inl here ↦ elim (insert_cases (map_of rows) path (length tree.nodes) q) [
          | inl there ↦ there.1 ∙ sym here.1 ∙ at
          | inr other ↦ absurd (other.0 here.0)
        ]
        | inr other ↦ elim (insert_cases (map_of rows) path (length tree.nodes) q) [
          | inl there ↦ absurd (other.0 there.0)
          | inr still ↦ still.1 ∙ before q n (sym other.1 ∙ at) dir
        ]
      ]

  no_dir_more : is_dir (Some it) ≡ false → HasDirs more rows
  no_dir_more not q n at dir = elim (insert_cases tree.paths path (length tree.nodes) q) [
    | inl here ↦ absurd (clash (is_dir (Some it)) (ap is_dir (sym (last n (sym here.1 ∙ at))) ∙ dir) not)
    | inr other ↦ before q n (sym other.1 ∙ at) dir
  ]

  pub numbers_more : (made : List (Text × ℕ)) (n : ℕ) → n ≡ length tree.nodes → MatchBool (is_dir (Some it)) (map_of made ≡ insert (map_of rows) path n) (made ≡ rows) → HasDirs more made
  numbers_more made n is put = elim (is_dir (Some it)) as (λ (b : Bool). is_dir (Some it) ≡ b → MatchBool b (map_of made ≡ insert (map_of rows) path n) (made ≡ rows) → HasDirs more made) [
    | true ↦ λ e there. dir_more made (there ∙ ap (insert (map_of rows) path) is)
    | false ↦ λ e kept. subst (HasDirs more) (sym kept) (no_dir_more e)
  ] refl put
