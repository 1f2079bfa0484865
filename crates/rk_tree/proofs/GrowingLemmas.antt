-- Rows in the order of a walk.
use Rattle.std.proofs.Common.{◌≡◌, ℕ, suc, arith, inl, inr, List, [], ◌∷◌, ◌++◌, true, Some, None, ◌-◌, length, map, refl, sym, ap, subst, ◌∙◌}
use Rattle.std.specs.Ordering.{is_lt}
use Rattle.std.specs.declared.cmp.Ordering.{Ordering}
use Rattle.std.specs.declared.cmp.Ordering.TheVariants.{Less, Equal, Greater}
use Rattle.std.specs.Cmp.{IsTotalOrder}
use Rattle.std.specs.Cmp.Lexicographic.{on_texts}
use Rattle.std.specs.FinMap.{empty, get, insert, get-empty}
use Rattle.std.specs.Prelude.{slice_get}
use Rattle.std.proofs.lemmas.Cmp.{tied_itself}
use Rattle.std.proofs.lemmas.List.Sums.{fold-append}
use Rattle.rk_base.specs.Text.{Text, text_cmp}
use Rattle.rk_tree.specs.Copying.{made_of}
use Rattle.rk_tree.specs.Entries.{Entries}
use Rattle.rk_tree.specs.Growing.{IsWalk, comes_next, walk_byte, walk_cmp}
use Rattle.rk_tree.specs.Node.{Node}
use Rattle.rk_tree.proofs.RowsLemmas.{insert_cases}

walk_total : IsTotalOrder walk_cmp
walk_total = on_texts (map walk_byte)

less : (o : Ordering) → is_lt o ≡ true → o ≡ Less
less Less h = refl
less Equal h = cc
less Greater h = cc

-- the last of the rows
next_last : (rows : List (Text × Node)) (row : Text × Node) (path : Text) → comes_next (rows ++ row ∷ []) path ≡ is_lt (walk_cmp row.0 path)
next_last [] row path = refl
next_last (first ∷ []) row path = refl
next_last (first ∷ second ∷ rows) row path = next_last (second ∷ rows) row path

-- what comes later still comes next
next_later : (rows : List (Text × Node)) (path later : Text) → comes_next rows path ≡ true → walk_cmp path later ≡ Less → comes_next rows later ≡ true
next_later [] path later next before = refl
next_later (row ∷ []) path later next before = ap is_lt (walk_total.trans row.0 path later (less (walk_cmp row.0 path) next) before)
next_later (row ∷ second ∷ rows) path later next before = next_later (second ∷ rows) path later next before

one_less : (n : ℕ) → suc (suc n - 1) ≡ suc (suc n) - 1
one_less n = omega arith

-- of the last of the rows, as it is got
pub next_got : (rows : List (Text × Node)) (row : Text × Node) (path : Text) → slice_get rows (length rows - 1) ≡ Some row → comes_next rows path ≡ is_lt (walk_cmp row.0 path)
next_got [] row path at = cc
next_got (first ∷ []) row path at = ap (λ (r : Text × Node). is_lt (walk_cmp r.0 path)) (one first row at) where
  one : (a b : Text × Node) → Some a ≡ Some b → a ≡ b
  one a b e = cc
next_got (first ∷ second ∷ rows) row path at = next_got (second ∷ rows) row path (ap (slice_get (first ∷ second ∷ rows)) (one_less (length rows)) ∙ at)

pub next_none : (rows : List (Text × Node)) (path : Text) → slice_get rows (length rows - 1) ≡ None → comes_next rows path ≡ true
next_none [] path at = refl
next_none (first ∷ []) path at = cc
next_none (first ∷ second ∷ rows) path at = next_none (second ∷ rows) path (ap (slice_get (first ∷ second ∷ rows)) (one_less (length rows)) ∙ at)

pub made_push : (rows : List (Text × Node)) (path : Text) (it : Node) → made_of (rows ++ (path, it) ∷ []) ≡ insert (made_of rows) path it
made_push rows path it = fold-append (λ (m : Entries) (row : Text × Node). insert m row.0 row.1) empty rows ((path, it) ∷ [])

not_before : (path later : Text) → walk_cmp path later ≡ Less → later ≡ path → ⊥
not_before path later before same = clash (walk_cmp path path) (tied_itself walk_total path) (subst (λ (q : Text). walk_cmp path q ≡ Less) same before) where
  clash : (o : Ordering) → o ≡ Equal → o ≡ Less → ⊥
  clash o e l = cc

pub walk_new : (rows : List (Text × Node)) → rows ≡ [] → IsWalk rows
walk_new rows none = λ path next. ap (λ (r : List (Text × Node)). get (made_of r) path) none ∙ get-empty text_cmp path

pub walk_push : (rows : List (Text × Node)) (path : Text) (it : Node) → IsWalk rows → comes_next rows path ≡ true → IsWalk (rows ++ (path, it) ∷ [])
walk_push rows path it walk next = λ later after.
    let before : walk_cmp path later ≡ Less = less (walk_cmp path later) (sym (next_last rows (path, it) later) ∙ after) in
    ap (λ (m : Entries). get m later) (made_push rows path it)
    ∙ elim (insert_cases (made_of rows) path it later) [
      | inl same ↦ absurd (not_before path later before same.0)
      | inr apart ↦ apart.1 ∙ walk later (next_later rows path later next before)
    ]
