-- A place where something stands is far below the greatest number.
use Rattle.std.proofs.Common.{◌≡◌, ◌<◌, ℕ, zero, suc, List, [], ◌∷◌, map, length, Option, Some, None, option_map, sym, ap, ◌∙◌, arith}
use Rattle.std.proofs.lemmas.Option.{slice_get_within}
use Rattle.std.specs.declared.alloc.Global.{Global}
use Rattle.std.specs.List.{slice_get}
use Rattle.std.specs.declared.vec.Vec.{Vec}
use Rattle.sh_ast.specs.Commands as tree
use Rattle.sh_ast.specs.Lists.{command_at, branch_at, case_item_at, assignment_at, redirect_at, word_at}
use Rattle.sh_ast.specs.declared.command.Assignments.{Assignments, out-Assignments}
use Rattle.sh_ast.specs.declared.command.Branches.{Branches, out-Branches}
use Rattle.sh_ast.specs.declared.command.CaseItems.{CaseItems, out-CaseItems}
use Rattle.sh_ast.specs.declared.command.CommandList.{CommandList, out-CommandList}
use Rattle.sh_ast.specs.declared.command.Redirects.{Redirects, out-Redirects}
use Rattle.sh_ast.specs.declared.command.Words.{Words, out-Words}
use Rattle.sh_ast.proofs.Folding.{commands_is, branches_is, case_items_is, assignments_is, redirects_is, words_is}

-- what a number is that no length passes
abbrev pub IsSmall : ℕ → Type 0
IsSmall n = n < 9223372036854775808

pub item_small : {X : Type 0} (v : Vec X Global) (n : ℕ) (x : X) → Some x ≡ slice_get v.items n → IsSmall n
item_small v n x h = let r : n < length v.items = slice_get_within v.items n x (sym h) in omega (arith, v.ok.0, v.ok.1, v.small)

commands_within : {A : Type 0} (f : A → tree.CommandTree) (xs : List A) (n : ℕ) (t : tree.CommandTree) → Some t ≡ command_at (tree.commands_of (map f xs)) n → n < length xs
commands_within f [] n t h = absurd (cc)
commands_within f (x ∷ xs) zero t h = omega arith
commands_within f (x ∷ xs) (suc n) t h = let r : n < length xs = commands_within f xs n t h in omega arith

pub command_small : (l : CommandList) (n : ℕ) (t : tree.CommandTree) → Some t ≡ command_at (tree.commands l) n → IsSmall n
command_small l n t h =
    let v = (out-CommandList l).items in
    let r : n < length v.items = commands_within tree.command v.items n t (h ∙ ap (λ (ts : tree.CommandsTree). command_at ts n) (commands_is l)) in
    omega (arith, v.ok.0, v.ok.1, v.small)

branches_within : {A : Type 0} (f : A → tree.BranchTree) (xs : List A) (n : ℕ) (t : tree.BranchTree) → Some t ≡ branch_at (tree.branches_of (map f xs)) n → n < length xs
branches_within f [] n t h = absurd (cc)
branches_within f (x ∷ xs) zero t h = omega arith
branches_within f (x ∷ xs) (suc n) t h = let r : n < length xs = branches_within f xs n t h in omega arith

pub branch_small : (l : Branches) (n : ℕ) (t : tree.BranchTree) → Some t ≡ branch_at (tree.branches l) n → IsSmall n
branch_small l n t h =
    let v = (out-Branches l).items in
    let r : n < length v.items = branches_within tree.branch v.items n t (h ∙ ap (λ (ts : tree.BranchesTree). branch_at ts n) (branches_is l)) in
    omega (arith, v.ok.0, v.ok.1, v.small)

case_items_within : {A : Type 0} (f : A → tree.CaseItemTree) (xs : List A) (n : ℕ) (t : tree.CaseItemTree) → Some t ≡ case_item_at (tree.case_items_of (map f xs)) n → n < length xs
case_items_within f [] n t h = absurd (cc)
case_items_within f (x ∷ xs) zero t h = omega arith
case_items_within f (x ∷ xs) (suc n) t h = let r : n < length xs = case_items_within f xs n t h in omega arith

pub case_item_small : (l : CaseItems) (n : ℕ) (t : tree.CaseItemTree) → Some t ≡ case_item_at (tree.case_items l) n → IsSmall n
case_item_small l n t h =
    let v = (out-CaseItems l).items in
    let r : n < length v.items = case_items_within tree.case_item v.items n t (h ∙ ap (λ (ts : tree.CaseItemsTree). case_item_at ts n) (case_items_is l)) in
    omega (arith, v.ok.0, v.ok.1, v.small)

assignments_within : {A : Type 0} (f : A → tree.AssignmentTree) (xs : List A) (n : ℕ) (t : tree.AssignmentTree) → Some t ≡ assignment_at (tree.assignments_of (map f xs)) n → n < length xs
assignments_within f [] n t h = absurd (cc)
assignments_within f (x ∷ xs) zero t h = omega arith
assignments_within f (x ∷ xs) (suc n) t h = let r : n < length xs = assignments_within f xs n t h in omega arith

pub assignment_small : (l : Assignments) (n : ℕ) (t : tree.AssignmentTree) → Some t ≡ assignment_at (tree.assignments l) n → IsSmall n
assignment_small l n t h =
    let v = (out-Assignments l).items in
    let r : n < length v.items = assignments_within tree.assignment v.items n t (h ∙ ap (λ (ts : tree.AssignmentsTree). assignment_at ts n) (assignments_is l)) in
    omega (arith, v.ok.0, v.ok.1, v.small)

redirects_within : {A : Type 0} (f : A → tree.RedirectTree) (xs : List A) (n : ℕ) (t : tree.RedirectTree) → Some t ≡ redirect_at (tree.redirects_of (map f xs)) n → n < length xs
redirects_within f [] n t h = absurd (cc)
redirects_within f (x ∷ xs) zero t h = omega arith
redirects_within f (x ∷ xs) (suc n) t h = let r : n < length xs = redirects_within f xs n t h in omega arith

pub redirect_small : (l : Redirects) (n : ℕ) (t : tree.RedirectTree) → Some t ≡ redirect_at (tree.redirects l) n → IsSmall n
redirect_small l n t h =
    let v = (out-Redirects l).items in
    let r : n < length v.items = redirects_within tree.redirect v.items n t (h ∙ ap (λ (ts : tree.RedirectsTree). redirect_at ts n) (redirects_is l)) in
    omega (arith, v.ok.0, v.ok.1, v.small)

words_within : {A : Type 0} (f : A → tree.WordTree) (xs : List A) (n : ℕ) (t : tree.WordTree) → Some t ≡ word_at (tree.words_of (map f xs)) n → n < length xs
words_within f [] n t h = absurd (cc)
words_within f (x ∷ xs) zero t h = omega arith
words_within f (x ∷ xs) (suc n) t h = let r : n < length xs = words_within f xs n t h in omega arith

pub word_small : (l : Words) (n : ℕ) (t : tree.WordTree) → Some t ≡ word_at (tree.words l) n → IsSmall n
word_small l n t h =
    let v = (out-Words l).items in
    let r : n < length v.items = words_within (λ r. tree.word r.value) v.items n t (h ∙ ap (λ (ts : tree.WordsTree). word_at ts n) (words_is l)) in
    omega (arith, v.ok.0, v.ok.1, v.small)

-- the place behind one where something was found
pub found_behind : {A : Type 0} (o : Option A) (n m : ℕ) → Some n ≡ option_map (λ (y : A). m) o → n ≡ m
found_behind None n m h = absurd (cc)
found_behind (Some y) n m h = cc
