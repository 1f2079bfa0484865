-- What stands at a place of a list, and what it means.
use Rattle.std.proofs.Common.{◌≡◌, ℕ, zero, suc, ◌+◌, [], ◌∷◌, drop, Some, None, refl, sym, ap, ◌∙◌, add-one}
use Rattle.sh_ast.specs.Commands.{CommandTree, CommandsTree, no_commands, command_and, WordTree, WordsTree, no_words, word_and, BodiesTree, no_bodies, body_and, AssignmentTree, AssignmentsTree, no_assignments, assignment_and, RedirectTree, RedirectsTree, no_redirects, redirect_and, BranchTree, BranchesTree, no_branches, branch_and, CaseItemTree, CaseItemsTree, no_case_items, case_item_and}
use Rattle.sh_ast.specs.Lists.{command_at, word_at, body_in, assignment_at, redirect_at, branch_at, case_item_at}
use Rattle.sh_means.specs.Words.{AssignMeant, RedirectMeant, redirect_kind, body_at, nothing}
use Rattle.sh_means.specs.Compound.{BranchMeant, CaseMeant}
use Rattle.sh_means.specs.Eval.{command_in, commands_in, word_in, words_in, bodies_in, whole_in, assigns_in, redirects_in, branches_in, items_in}
use Rattle.sh_means.specs.Run.{run}

abbrev pub assign_meant : AssignmentTree → AssignMeant
assign_meant a = record { name = a.name; value = word_in run a.value }

abbrev pub redirect_meant : RedirectTree → RedirectMeant
redirect_meant r = record { descriptor = r.descriptor; kind = redirect_kind r.operator; operand = word_in run r.operand }

abbrev pub branch_meant : BranchTree → BranchMeant
branch_meant b = record { condition = whole_in run b.condition; body = whole_in run b.body }

abbrev pub item_meant : CaseItemTree → CaseMeant
item_meant i = record { patterns = words_in run i.patterns; body = whole_in run i.body }

commands_some' : (xs : CommandsTree) (i : ℕ) (x : CommandTree) → Some x ≡ command_at xs i → drop i (commands_in run xs) ≡ command_in run x ∷ drop (suc i) (commands_in run xs)
commands_some' no_commands i x h = cc
commands_some' (command_and c rest) zero x h = let e : x ≡ c = cc in ap (λ (y : CommandTree). command_in run y ∷ commands_in run rest) (sym e)
commands_some' (command_and c rest) (suc i) x h = commands_some' rest i x h

pub commands_some : (xs : CommandsTree) (i : ℕ) (x : CommandTree) → Some x ≡ command_at xs i → drop i (commands_in run xs) ≡ command_in run x ∷ drop (i + 1) (commands_in run xs)
commands_some xs i x h = commands_some' xs i x h ∙ ap (λ n. command_in run x ∷ drop n (commands_in run xs)) (sym (add-one i))

pub commands_none : (xs : CommandsTree) (i : ℕ) → None ≡ command_at xs i → drop i (commands_in run xs) ≡ []
commands_none no_commands zero h = refl
commands_none no_commands (suc i) h = refl
commands_none (command_and c rest) zero h = cc
commands_none (command_and c rest) (suc i) h = commands_none rest i h

words_some' : (xs : WordsTree) (i : ℕ) (x : WordTree) → Some x ≡ word_at xs i → drop i (words_in run xs) ≡ word_in run x ∷ drop (suc i) (words_in run xs)
words_some' no_words i x h = cc
words_some' (word_and c rest) zero x h = let e : x ≡ c = cc in ap (λ (y : WordTree). word_in run y ∷ words_in run rest) (sym e)
words_some' (word_and c rest) (suc i) x h = words_some' rest i x h

pub words_some : (xs : WordsTree) (i : ℕ) (x : WordTree) → Some x ≡ word_at xs i → drop i (words_in run xs) ≡ word_in run x ∷ drop (i + 1) (words_in run xs)
words_some xs i x h = words_some' xs i x h ∙ ap (λ n. word_in run x ∷ drop n (words_in run xs)) (sym (add-one i))

pub words_none : (xs : WordsTree) (i : ℕ) → None ≡ word_at xs i → drop i (words_in run xs) ≡ []
words_none no_words zero h = refl
words_none no_words (suc i) h = refl
words_none (word_and c rest) zero h = cc
words_none (word_and c rest) (suc i) h = words_none rest i h

assigns_some' : (xs : AssignmentsTree) (i : ℕ) (x : AssignmentTree) → Some x ≡ assignment_at xs i → drop i (assigns_in run xs) ≡ assign_meant x ∷ drop (suc i) (assigns_in run xs)
assigns_some' no_assignments i x h = cc
assigns_some' (assignment_and name value rest) zero x h = let e : x ≡ record { name = name; value = value } = cc in ap (λ (y : AssignmentTree). assign_meant y ∷ assigns_in run rest) (sym e)
assigns_some' (assignment_and name value rest) (suc i) x h = assigns_some' rest i x h

pub assigns_some : (xs : AssignmentsTree) (i : ℕ) (x : AssignmentTree) → Some x ≡ assignment_at xs i → drop i (assigns_in run xs) ≡ assign_meant x ∷ drop (i + 1) (assigns_in run xs)
assigns_some xs i x h = assigns_some' xs i x h ∙ ap (λ n. assign_meant x ∷ drop n (assigns_in run xs)) (sym (add-one i))

pub assigns_none : (xs : AssignmentsTree) (i : ℕ) → None ≡ assignment_at xs i → drop i (assigns_in run xs) ≡ []
assigns_none no_assignments zero h = refl
assigns_none no_assignments (suc i) h = refl
assigns_none (assignment_and name value rest) zero h = cc
assigns_none (assignment_and name value rest) (suc i) h = assigns_none rest i h

redirects_some' : (xs : RedirectsTree) (i : ℕ) (x : RedirectTree) → Some x ≡ redirect_at xs i → drop i (redirects_in run xs) ≡ redirect_meant x ∷ drop (suc i) (redirects_in run xs)
redirects_some' no_redirects i x h = cc
redirects_some' (redirect_and d operator operand rest) zero x h = let e : x ≡ record { descriptor = d; operator = operator; operand = operand } = cc in ap (λ (y : RedirectTree). redirect_meant y ∷ redirects_in run rest) (sym e)
redirects_some' (redirect_and d operator operand rest) (suc i) x h = redirects_some' rest i x h

pub redirects_some : (xs : RedirectsTree) (i : ℕ) (x : RedirectTree) → Some x ≡ redirect_at xs i → drop i (redirects_in run xs) ≡ redirect_meant x ∷ drop (i + 1) (redirects_in run xs)
redirects_some xs i x h = redirects_some' xs i x h ∙ ap (λ n. redirect_meant x ∷ drop n (redirects_in run xs)) (sym (add-one i))

pub redirects_none : (xs : RedirectsTree) (i : ℕ) → None ≡ redirect_at xs i → drop i (redirects_in run xs) ≡ []
redirects_none no_redirects zero h = refl
redirects_none no_redirects (suc i) h = refl
redirects_none (redirect_and d operator operand rest) zero h = cc
redirects_none (redirect_and d operator operand rest) (suc i) h = redirects_none rest i h

branches_some' : (xs : BranchesTree) (i : ℕ) (x : BranchTree) → Some x ≡ branch_at xs i → drop i (branches_in run xs) ≡ branch_meant x ∷ drop (suc i) (branches_in run xs)
branches_some' no_branches i x h = cc
branches_some' (branch_and condition body rest) zero x h = let e : x ≡ record { condition = condition; body = body } = cc in ap (λ (y : BranchTree). branch_meant y ∷ branches_in run rest) (sym e)
branches_some' (branch_and condition body rest) (suc i) x h = branches_some' rest i x h

pub branches_some : (xs : BranchesTree) (i : ℕ) (x : BranchTree) → Some x ≡ branch_at xs i → drop i (branches_in run xs) ≡ branch_meant x ∷ drop (i + 1) (branches_in run xs)
branches_some xs i x h = branches_some' xs i x h ∙ ap (λ n. branch_meant x ∷ drop n (branches_in run xs)) (sym (add-one i))

pub branches_none : (xs : BranchesTree) (i : ℕ) → None ≡ branch_at xs i → drop i (branches_in run xs) ≡ []
branches_none no_branches zero h = refl
branches_none no_branches (suc i) h = refl
branches_none (branch_and condition body rest) zero h = cc
branches_none (branch_and condition body rest) (suc i) h = branches_none rest i h

items_some' : (xs : CaseItemsTree) (i : ℕ) (x : CaseItemTree) → Some x ≡ case_item_at xs i → drop i (items_in run xs) ≡ item_meant x ∷ drop (suc i) (items_in run xs)
items_some' no_case_items i x h = cc
items_some' (case_item_and patterns body rest) zero x h = let e : x ≡ record { patterns = patterns; body = body } = cc in ap (λ (y : CaseItemTree). item_meant y ∷ items_in run rest) (sym e)
items_some' (case_item_and patterns body rest) (suc i) x h = items_some' rest i x h

pub items_some : (xs : CaseItemsTree) (i : ℕ) (x : CaseItemTree) → Some x ≡ case_item_at xs i → drop i (items_in run xs) ≡ item_meant x ∷ drop (i + 1) (items_in run xs)
items_some xs i x h = items_some' xs i x h ∙ ap (λ n. item_meant x ∷ drop n (items_in run xs)) (sym (add-one i))

pub items_none : (xs : CaseItemsTree) (i : ℕ) → None ≡ case_item_at xs i → drop i (items_in run xs) ≡ []
items_none no_case_items zero h = refl
items_none no_case_items (suc i) h = refl
items_none (case_item_and patterns body rest) zero h = cc
items_none (case_item_and patterns body rest) (suc i) h = items_none rest i h

-- Bodies of substitutions.

pub body_some : (bs : BodiesTree) (i : ℕ) (b : CommandsTree) → Some b ≡ body_in bs i → body_at (bodies_in run bs) i ≡ whole_in run b
body_some no_bodies i b h = cc
body_some (body_and c rest) zero b h = let e : b ≡ c = cc in ap (whole_in run) (sym e)
body_some (body_and c rest) (suc i) b h = body_some rest i b h

pub body_none : (bs : BodiesTree) (i : ℕ) → None ≡ body_in bs i → body_at (bodies_in run bs) i ≡ nothing
body_none no_bodies zero h = refl
body_none no_bodies (suc i) h = refl
body_none (body_and c rest) zero h = cc
body_none (body_and c rest) (suc i) h = body_none rest i h
