-- What stands at a place of a list, and of the list's tree.
use Rattle.std.proofs.Common.{◌≡◌, ℕ, zero, suc, List, [], ◌∷◌, map, Option, Some, None, option_map, refl, sym, ap, ◌∙◌}
use Rattle.std.specs.List.{slice_get}
use Rattle.std.proofs.lemmas.Option.{slice_get-map}
use Rattle.sh_ast.specs.Words as w
use Rattle.sh_ast.specs.Commands as c
use Rattle.sh_ast.specs.Lists as l

mapped_twice : {A B C : Type 0} (f : A → B) (g : B → C) (r : Option A) → option_map (λ x. g (f x)) r ≡ option_map g (option_map f r)
mapped_twice f g None = refl
mapped_twice f g (Some x) = refl

-- what a look-up in a list gives, a look-up in its tree gives
pub found : {A B T L : Type 0} (now : A → B) (view : B → T) (of : List T → L) (at : L → ℕ → Option T) → ((ts : List T) (n : ℕ) → at (of ts) n ≡ slice_get ts n) → (xs : List B) (n : ℕ) (r : Option A) → option_map now r ≡ slice_get xs n → option_map (λ x. view (now x)) r ≡ at (of (map view xs)) n
found now view of at reads xs n r h =
    mapped_twice now view r ∙ ap (option_map view) h ∙ sym (reads (map view xs) n ∙ slice_get-map view xs n)

pub command_at-of : (ts : List c.CommandTree) (n : ℕ) → l.command_at (c.commands_of ts) n ≡ slice_get ts n
command_at-of [] n = refl
command_at-of (t ∷ ts) zero = refl
command_at-of (t ∷ ts) (suc n) = command_at-of ts n

pub branch_at-of : (ts : List c.BranchTree) (n : ℕ) → l.branch_at (c.branches_of ts) n ≡ slice_get ts n
branch_at-of [] n = refl
branch_at-of (t ∷ ts) zero = refl
branch_at-of (t ∷ ts) (suc n) = branch_at-of ts n

pub case_item_at-of : (ts : List c.CaseItemTree) (n : ℕ) → l.case_item_at (c.case_items_of ts) n ≡ slice_get ts n
case_item_at-of [] n = refl
case_item_at-of (t ∷ ts) zero = refl
case_item_at-of (t ∷ ts) (suc n) = case_item_at-of ts n

pub assignment_at-of : (ts : List c.AssignmentTree) (n : ℕ) → l.assignment_at (c.assignments_of ts) n ≡ slice_get ts n
assignment_at-of [] n = refl
assignment_at-of (t ∷ ts) zero = refl
assignment_at-of (t ∷ ts) (suc n) = assignment_at-of ts n

pub redirect_at-of : (ts : List c.RedirectTree) (n : ℕ) → l.redirect_at (c.redirects_of ts) n ≡ slice_get ts n
redirect_at-of [] n = refl
redirect_at-of (t ∷ ts) zero = refl
redirect_at-of (t ∷ ts) (suc n) = redirect_at-of ts n

pub word_at-of : (ts : List c.WordTree) (n : ℕ) → l.word_at (c.words_of ts) n ≡ slice_get ts n
word_at-of [] n = refl
word_at-of (t ∷ ts) zero = refl
word_at-of (t ∷ ts) (suc n) = word_at-of ts n

pub body_in-of : (ts : List c.CommandsTree) (n : ℕ) → l.body_in (c.bodies_of ts) n ≡ slice_get ts n
body_in-of [] n = refl
body_in-of (t ∷ ts) zero = refl
body_in-of (t ∷ ts) (suc n) = body_in-of ts n

pub part_at-of : (ts : List w.PartTree) (n : ℕ) → l.part_at (w.parts_of ts) n ≡ slice_get ts n
part_at-of [] n = refl
part_at-of (t ∷ ts) zero = refl
part_at-of (t ∷ ts) (suc n) = part_at-of ts n
