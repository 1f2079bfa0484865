-- The trees of lists, by their items.
use Rattle.std.proofs.Common.{rules, ◌≡◌, List, [], ◌∷◌, map, refl, ap, ◌∙◌}
use Rattle.std.specs.declared.rc.Rc.{Rc}
use Rattle.std.specs.declared.alloc.Global.{Global}
use Rattle.sh_ast.specs.declared.command.Command.TheFolds.{the_lemmas}
use Rattle.sh_ast.specs.declared.word.Part.TheFolds as part_folds
use Rattle.sh_ast.specs.declared.command.CommandList.{CommandList, out-CommandList}
use Rattle.sh_ast.specs.declared.command.Branches.{Branches, out-Branches}
use Rattle.sh_ast.specs.declared.command.CaseItems.{CaseItems, out-CaseItems}
use Rattle.sh_ast.specs.declared.command.Assignments.{Assignments, out-Assignments}
use Rattle.sh_ast.specs.declared.command.Redirects.{Redirects, out-Redirects}
use Rattle.sh_ast.specs.declared.command.Word as one_word
use Rattle.sh_ast.specs.declared.command.Words.{Words, out-Words}
use Rattle.sh_ast.specs.declared.word.Parts.{Parts, out-Parts}
use Rattle.sh_ast.specs.Words as w
use Rattle.sh_ast.specs.Commands as c

held_each : {A B : Type 0} (f : A → B) (rs : List (Rc A Global)) → c.held (map (λ (r : Rc A Global). let r' : Rc B Global = record { ptr = r.ptr; value = f r.value } in r') rs) ≡ map (λ r. f r.value) rs
held_each f [] = refl
held_each f (r ∷ rs) = ap (λ xs. f r.value ∷ xs) (held_each f rs)

pub commands_is : (l : CommandList) → c.commands l ≡ c.commands_of (map c.command (out-CommandList l).items.items)
commands_is l = search (rules, the_lemmas)

pub branches_is : (l : Branches) → c.branches l ≡ c.branches_of (map c.branch (out-Branches l).items.items)
branches_is l = search (rules, the_lemmas)

pub case_items_is : (l : CaseItems) → c.case_items l ≡ c.case_items_of (map c.case_item (out-CaseItems l).items.items)
case_items_is l = search (rules, the_lemmas)

pub assignments_is : (l : Assignments) → c.assignments l ≡ c.assignments_of (map c.assignment (out-Assignments l).items.items)
assignments_is l = search (rules, the_lemmas)

pub redirects_is : (l : Redirects) → c.redirects l ≡ c.redirects_of (map c.redirect (out-Redirects l).items.items)
redirects_is l = search (rules, the_lemmas)

pub words_is : (ws : Words) → c.words ws ≡ c.words_of (map (λ r. c.word r.value) (out-Words ws).items.items)
words_is ws = search (rules, the_lemmas) ∙ ap c.words_of (held_each c.word (out-Words ws).items.items)

pub word_is : (x : one_word.Word) → c.word x ≡ c.word_of (w.parts (one_word.out-Word x).parts.value) (c.bodies_of (map (λ r. c.commands r.value) (one_word.out-Word x).bodies.items))
word_is x = search (rules, the_lemmas) ∙ ap (λ bs. c.word_of (w.parts (one_word.out-Word x).parts.value) (c.bodies_of bs)) (held_each c.commands (one_word.out-Word x).bodies.items)

pub parts_is : (ps : Parts) → w.parts ps ≡ w.parts_of (map w.part (out-Parts ps).items.items)
parts_is ps = search (rules, part_folds.the_lemmas)
