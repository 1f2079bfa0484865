-- Nodes that are changed one at a time.
use Rattle.std.proofs.Common.{◌≡◌, ◌⊎◌, ℕ, zero, suc, List, [], ◌∷◌, ◌++◌, length, inl, inr, Option, Some, None, refl, sym, ap, ◌∙◌}
use Rattle.std.specs.Prelude.{slice_get, slice_set}
use Rattle.std.specs.Option.{option_map}
use Rattle.std.specs.FinMap.{empty, get, insert, get-empty}
use Rattle.rk_base.specs.Text.{Text, text_cmp}
use Rattle.rk_tree.specs.Node.{Node}
use Rattle.rk_tree.specs.declared.inode.Inode.{Inode}
use Rattle.rk_tree.specs.Hierarchy.{Paths}
use Rattle.rk_tree.specs.Inodes.{nodes_of, names_in, under, place_in, changed_at, change, with_name, without_name}
use Rattle.rk_tree.proofs.RowsLemmas.{insert_cases}
use Rattle.rk_tree.proofs.RemovedLemmas.{remove_cases}

never : (n : ℕ) → zero ≡ suc n → ⊥
never n e = cc

never_back : (n : ℕ) → suc n ≡ zero → ⊥
never_back n e = cc

less_one : (k n : ℕ) → suc k ≡ suc n → k ≡ n
less_one k n e = cc

-- the node that was changed, and any other
get-set : (nodes : List Inode) (n : ℕ) (old new : Inode) (k : ℕ) → slice_get nodes n ≡ Some old → ((k ≡ n) × (slice_get (slice_set nodes n new) k ≡ Some new)) ⊎ ((k ≡ n → ⊥) × (slice_get (slice_set nodes n new) k ≡ slice_get nodes k))
get-set [] n old new k at = cc
get-set (x ∷ nodes) zero old new zero at = inl (refl, refl)
get-set (x ∷ nodes) zero old new (suc k) at = inr (never_back k, refl)
get-set (x ∷ nodes) (suc n) old new zero at = inr (never n, refl)
get-set (x ∷ nodes) (suc n) old new (suc k) at = elim (get-set nodes n old new k at) [
  | inl here ↦ inl (ap suc here.0, here.1)
  | inr other ↦ inr (λ e. other.0 (less_one k n e), other.1)
]

pub apart_or : (k n : ℕ) → (k ≡ n) ⊎ (k ≡ n → ⊥)
apart_or zero zero = inl refl
apart_or zero (suc n) = inr (never n)
apart_or (suc k) zero = inr (never_back k)
apart_or (suc k) (suc n) = elim (apart_or k n) [
  | inl same ↦ inl (ap suc same)
  | inr apart ↦ inr (λ e. apart (less_one k n e))
]

changed_cases : (f : Inode → Inode) (nodes : List Inode) (n : ℕ) (o : Option Inode) (k : ℕ) → slice_get nodes n ≡ o → ((k ≡ n) × (slice_get (changed_at f nodes n o) k ≡ option_map f o)) ⊎ ((k ≡ n → ⊥) × (slice_get (changed_at f nodes n o) k ≡ slice_get nodes k))
changed_cases f nodes n None k at = elim (apart_or k n) [
  | inl same ↦ inl (same, ap (slice_get nodes) same ∙ at)
  | inr apart ↦ inr (apart, refl)
]
changed_cases f nodes n (Some it) k at = get-set nodes n it (f it) k at

pub change_cases : (f : Inode → Inode) (nodes : List Inode) (n k : ℕ) → ((k ≡ n) × (slice_get (change f nodes n) k ≡ option_map f (slice_get nodes n))) ⊎ ((k ≡ n → ⊥) × (slice_get (change f nodes n) k ≡ slice_get nodes k))
change_cases f nodes n k = changed_cases f nodes n (slice_get nodes n) k refl

-- What a change keeps.

same_entry : (nodes : List Inode) (n : ℕ) (it new : Inode) → slice_get nodes n ≡ Some it → new.node ≡ it.node → nodes_of (slice_set nodes n new) ≡ nodes_of nodes
same_entry [] n it new at same = refl
same_entry (x ∷ nodes) zero it new at same = ap (λ (e : Node). e ∷ nodes_of nodes) (same ∙ entry_is it x at) where
  entry_is : (a b : Inode) → Some b ≡ Some a → a.node ≡ b.node
  entry_is a b e = cc
same_entry (x ∷ nodes) (suc n) it new at same = ap (λ (es : List Node). x.node ∷ es) (same_entry nodes n it new at same)

entries_kept : (f : Inode → Inode) (nodes : List Inode) (n : ℕ) (o : Option Inode) → ((it : Inode) → (f it).node ≡ it.node) → slice_get nodes n ≡ o → nodes_of (changed_at f nodes n o) ≡ nodes_of nodes
entries_kept f nodes n None keeps at = refl
entries_kept f nodes n (Some it) keeps at = same_entry nodes n it (f it) at (keeps it)

pub entries-change : (f : Inode → Inode) (nodes : List Inode) (n : ℕ) → ((it : Inode) → (f it).node ≡ it.node) → nodes_of (change f nodes n) ≡ nodes_of nodes
entries-change f nodes n keeps = entries_kept f nodes n (slice_get nodes n) keeps refl

names_kept : (f : Inode → Inode) (o : Option Inode) → ((it : Inode) → (f it).names ≡ it.names) → names_in (option_map f o) ≡ names_in o
names_kept f None keeps = refl
names_kept f (Some it) keeps = keeps it

pub under-change : (f : Inode → Inode) (nodes : List Inode) (n k : ℕ) (name : Text) → ((it : Inode) → (f it).names ≡ it.names) → under (change f nodes n) k name ≡ under nodes k name
under-change f nodes n k name keeps = elim (change_cases f nodes n k) [
  | inl here ↦ ap (λ (o : Option Inode). get (names_in o) name) here.1 ∙ ap (λ (m : Paths). get m name) (names_kept f (slice_get nodes n) keeps) ∙ ap (λ (j : ℕ). under nodes j name) (sym here.0)
  | inr other ↦ ap (λ (o : Option Inode). get (names_in o) name) other.1
]

place_kept : (f : Inode → Inode) (o : Option Inode) → ((it : Inode) → (f it).place ≡ it.place) → place_in (option_map f o) ≡ place_in o
place_kept f None keeps = refl
place_kept f (Some it) keeps = keeps it

pub place-change : (f : Inode → Inode) (nodes : List Inode) (n k : ℕ) → ((it : Inode) → (f it).place ≡ it.place) → place_in (slice_get (change f nodes n) k) ≡ place_in (slice_get nodes k)
place-change f nodes n k keeps = elim (change_cases f nodes n k) [
  | inl here ↦ ap place_in here.1 ∙ place_kept f (slice_get nodes n) keeps ∙ ap (λ (j : ℕ). place_in (slice_get nodes j)) (sym here.0)
  | inr other ↦ ap place_in other.1
]

-- A name more, and a name less.

-- under one name stands this number, and under any other what stood there
pub record PutsUnder (old new : List Inode) (dir : ℕ) (name : Text) (o : Option ℕ) : Type 0 where
  pub here : under new dir name ≡ o
  pub others : (d : ℕ) (x : Text) → (d ≡ dir → x ≡ name → ⊥) → under new d x ≡ under old d x

pub node_there : (nodes : List Inode) (dir : ℕ) (it : Node) → slice_get (nodes_of nodes) dir ≡ Some it → (x : Inode) × (slice_get nodes dir ≡ Some x)
node_there [] dir it at = cc
node_there (x ∷ nodes) zero it at = (x, refl)
node_there (x ∷ nodes) (suc dir) it at = node_there nodes dir it at

pub puts_name : (nodes : List Inode) (dir : ℕ) (name : Text) (n : ℕ) (it : Node) → slice_get (nodes_of nodes) dir ≡ Some it → PutsUnder nodes (change (with_name name n) nodes dir) dir name (Some n)
puts_name nodes dir name n it at =
    let x = node_there nodes dir it at in
    record {
      here = elim (change_cases (with_name name n) nodes dir dir) [
        | inl here ↦ ap (λ (o : Option Inode). get (names_in o) name) (here.1 ∙ ap (option_map (with_name name n)) x.1) ∙ here_in x.0.names
        | inr other ↦ absurd (other.0 refl)
      ];
      others = λ d q apart. elim (change_cases (with_name name n) nodes dir d) [
        | inl here ↦
            ap (λ (o : Option Inode). get (names_in o) q) (here.1 ∙ ap (option_map (with_name name n)) x.1) ∙ other_in x.0.names q (apart here.0)
            ∙ sym (ap (λ (o : Option Inode). get (names_in o) q) (ap (slice_get nodes) here.0 ∙ x.1))
        | inr other ↦ ap (λ (o : Option Inode). get (names_in o) q) other.1
      ];
    } where
      here_in : (m : Paths) → get (insert m name n) name ≡ Some n
      here_in m = elim (insert_cases m name n name) [ inl here ↦ here.1 | inr other ↦ absurd (other.0 refl) ]

      other_in : (m : Paths) (q : Text) → (q ≡ name → ⊥) → get (insert m name n) q ≡ get m q
      other_in m q apart = elim (insert_cases m name n q) [ inl here ↦ absurd (apart here.0) | inr other ↦ other.1 ]

pub takes_name : (nodes : List Inode) (dir : ℕ) (name : Text) → PutsUnder nodes (change (without_name name) nodes dir) dir name None
takes_name nodes dir name = record {
  here = elim (change_cases (without_name name) nodes dir dir) [
    | inl here ↦ ap (λ (o : Option Inode). get (names_in o) name) here.1 ∙ gone (slice_get nodes dir)
    | inr other ↦ absurd (other.0 refl)
  ];
  others = λ d q apart. elim (change_cases (without_name name) nodes dir d) [
    | inl here ↦ ap (λ (o : Option Inode). get (names_in o) q) here.1 ∙ left (slice_get nodes dir) q (apart here.0) ∙ ap (λ (j : ℕ). under nodes j q) (sym here.0)
    | inr other ↦ ap (λ (o : Option Inode). get (names_in o) q) other.1
  ];
} where
  gone : (o : Option Inode) → get (names_in (option_map (without_name name) o)) name ≡ None
  gone None = get-empty text_cmp name
  gone (Some it) = elim (remove_cases it.names name name) [ inl here ↦ here.1 | inr other ↦ absurd (other.0 refl) ]

  left : (o : Option Inode) (q : Text) → (q ≡ name → ⊥) → get (names_in (option_map (without_name name) o)) q ≡ get (names_in o) q
  left None q apart = refl
  left (Some it) q apart = elim (remove_cases it.names name q) [ inl here ↦ absurd (apart here.0) | inr other ↦ other.1 ]

-- A node more, without names.

more_cases : (nodes : List Inode) (new : Inode) (k : ℕ) → (slice_get (nodes ++ new ∷ []) k ≡ slice_get nodes k) ⊎ ((k ≡ length nodes) × (slice_get (nodes ++ new ∷ []) k ≡ Some new) × (slice_get nodes k ≡ None))
more_cases [] new zero = inr (refl, refl, refl)
more_cases [] new (suc k) = inl refl
more_cases (x ∷ nodes) new zero = inl refl
more_cases (x ∷ nodes) new (suc k) = elim (more_cases nodes new k) [
  | inl old ↦ inl old
  | inr here ↦ inr (ap suc here.0, here.1, here.2)
]

pub under-more : (nodes : List Inode) (new : Inode) (k : ℕ) (name : Text) → new.names ≡ empty → under (nodes ++ new ∷ []) k name ≡ under nodes k name
under-more nodes new k name none = elim (more_cases nodes new k) [
  | inl old ↦ ap (λ (o : Option Inode). get (names_in o) name) old
  | inr here ↦ ap (λ (o : Option Inode). get (names_in o) name) here.1 ∙ ap (λ (m : Paths). get m name) none ∙ sym (ap (λ (o : Option Inode). get (names_in o) name) here.2)
]

-- the last node's place is its own
pub place-more : (nodes : List Inode) (new : Inode) (k : ℕ) → ((k ≡ length nodes → ⊥) × (place_in (slice_get (nodes ++ new ∷ []) k) ≡ place_in (slice_get nodes k))) ⊎ ((k ≡ length nodes) × (place_in (slice_get (nodes ++ new ∷ []) k) ≡ new.place))
place-more [] new zero = inr (refl, refl)
place-more [] new (suc k) = inl (never_back k, refl)
place-more (x ∷ nodes) new zero = inl (never (length nodes), refl)
place-more (x ∷ nodes) new (suc k) = elim (place-more nodes new k) [
  | inl old ↦ inl (λ e. old.0 (less_one k (length nodes) e), old.1)
  | inr here ↦ inr (ap suc here.0, here.1)
]

pub entries-more : (nodes : List Inode) (new : Inode) → nodes_of (nodes ++ new ∷ []) ≡ nodes_of nodes ++ new.node ∷ []
entries-more [] new = refl
entries-more (x ∷ nodes) new = ap (λ (es : List Node). x.node ∷ es) (entries-more nodes new)

pub length-entries : (nodes : List Inode) → length (nodes_of nodes) ≡ length nodes
length-entries [] = refl
length-entries (x ∷ nodes) = ap suc (length-entries nodes)
