-- A path less keeps a tree whole.
use Rattle.std.proofs.Common.{◌≡◌, ℕ, List, [], ◌∷◌, Bool, true, false, cond, not, ◌&&◌, ◌⊎◌, inl, inr, Some, None, refl, sym, ap, ◌∙◌}
use Rattle.std.specs.Cmp.Lexicographic.{nat_list_cmp_total}
use Rattle.std.specs.FinMap.{get, remove, get-remove}
use Rattle.rk_base.specs.Text.{Text, root, is_root, parent}
use Rattle.rk_base.specs.Canonical.{is_empty, is_canonical}
use Rattle.rk_tree.specs.Entries.{is_dir}
use Rattle.rk_tree.specs.Hierarchy.{Hierarchy, Paths, top, node, number_at, names}
use Rattle.rk_tree.specs.Moves.{IsBare}
use Rattle.rk_tree.specs.Refusals.{has_names}
use Rattle.rk_tree.specs.Whole.{IsWhole}
use Rattle.rk_tree.proofs.BelowLemmas.{not_above, none_some, bare_file, bare_dir}
use Rattle.rk_tree.proofs.TextLemmas.{told_apart}

clash : (b : Bool) → b ≡ true → b ≡ false → ⊥
clash b t f = cc

pub remove_cases : (m : Paths) (path q : Text) → ((q ≡ path) × (get (remove m path) q ≡ None)) ⊎ ((q ≡ path → ⊥) × (get (remove m path) q ≡ get m q))
remove_cases m path q = elim (told_apart q path) [
  | inl same ↦ inl (same.0, get-remove nat_list_cmp_total m path q ∙ ap (λ (b : Bool). cond b None (get m q)) same.1)
  | inr apart ↦ inr (apart.0, get-remove nat_list_cmp_total m path q ∙ ap (λ (b : Bool). cond b None (get m q)) apart.1)
]

pub stays_there : (m : Paths) (path q : Text) (k : ℕ) → (q ≡ path → ⊥) → get m q ≡ Some k → get (remove m path) q ≡ Some k
stays_there m path q k apart at = elim (remove_cases m path q) [
  | inl here ↦ absurd (apart here.0)
  | inr other ↦ other.1 ∙ at
]

pub stood_there : (m : Paths) (path q : Text) (k : ℕ) → get (remove m path) q ≡ Some k → (q ≡ path → ⊥) × (get m q ≡ Some k)
stood_there m path q k at = elim (remove_cases m path q) [
  | inl here ↦ absurd (none_some here.1 at)
  | inr other ↦ (other.0, sym other.1 ∙ at)
]

-- a path below the root, below which nothing stands
pub gone-whole : (tree : Hierarchy) (path : Text) → IsWhole tree → is_root path ≡ false → IsBare tree path → IsWhole (record tree { paths = remove tree.paths path })
gone-whole tree path whole below bare = record {
  root_at = stays_there tree.paths path root top (λ same. clash _ (ap is_root (sym same)) below) whole.root_at;
  root_dir = whole.root_dir;
  canonical = λ q k at. whole.canonical q k (stood_there tree.paths path q k at).1;
  known = λ q k at. whole.known q k (stood_there tree.paths path q k at).1;
  placed = λ q k at.
      let old = stood_there tree.paths path q k at in
      let p = whole.placed q k old.1 in
      record { up = p.up; stands = stays_there tree.paths path (parent q) p.up (not_above tree path q k whole below bare old.0 old.1) p.stands; in_dir = p.in_dir };
  once = λ a b k at bt d. whole.once a b k (stood_there tree.paths path a k at).1 (stood_there tree.paths path b k bt).1 d;
  unseen = λ q h. elim (remove_cases tree.paths path q) [
    | inl here ↦ here.1
    | inr other ↦ other.1 ∙ whole.unseen q h
  ];
  fit = whole.fit;
}

-- below the path of a name that stands for a directory without names, or for no directory, nothing stands
pub bare_path : (tree : Hierarchy) (path : Text) (n : ℕ) → IsWhole tree → is_canonical path ≡ true → is_root path ≡ false → number_at tree path ≡ Some n → has_names tree n ≡ false → IsBare tree path
bare_path tree path n whole c r at none = elim (is_dir (node tree n)) as (λ (b : Bool). is_dir (node tree n) ≡ b → (b && not (is_empty (names tree n))) ≡ false → IsBare tree path) [
  | true ↦ λ d e. bare_dir tree whole path c r n at d (no_names (names tree n) e)
  | false ↦ λ d e. bare_file tree whole path c r n at d
] refl none where
  no_names : (xs : List Text) → not (is_empty xs) ≡ false → xs ≡ []
  no_names [] h = refl
  no_names (x ∷ xs) h = cc
