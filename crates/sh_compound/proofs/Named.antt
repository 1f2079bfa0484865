-- What redirections and assignments name.
use Rattle.std.proofs.Common.{rules, ◌≡◌, ℕ, List, [], ◌∷◌, map, refl, ap, ◌∙◌}
use Rattle.rk_base.specs.Text.{Text}
use Rattle.sh_ast.specs.Commands as tree
use Rattle.sh_ast.specs.declared.command.Command.TheFolds.{the_lemmas}
use Rattle.sh_ast.specs.declared.command.Assignment.{Assignment, out-Assignment}
use Rattle.sh_ast.specs.declared.command.Assignments.{Assignments, out-Assignments}
use Rattle.sh_ast.specs.declared.command.Redirect.{Redirect, out-Redirect}
use Rattle.sh_ast.specs.declared.command.Redirects.{Redirects, out-Redirects}
use Rattle.sh_means.specs.Eval.{redirects_in, assigns_in}
use Rattle.sh_means.specs.Run.{run}
use Rattle.sh_means.specs.Stack.{redirects_from, assigns_from}
use Rattle.sh_means.specs.Words.{named, names}
use Rattle.sh_means.proofs.Folding.{redirect_is, assignment_is}

abbrev pub described : List Redirect → List ℕ
described [] = []
described (r ∷ rs) = (out-Redirect r).descriptor ∷ described rs

redirects_is : (rs : Redirects) → tree.redirects rs ≡ tree.redirects_of (map tree.redirect (out-Redirects rs).items.items)
redirects_is rs = search (rules, the_lemmas)

described_is : (rs : List Redirect) → named (redirects_in run (tree.redirects_of (map tree.redirect rs))) ≡ described rs
described_is [] = refl
described_is (r ∷ rs) =
    ap (λ (t : tree.RedirectTree). t.descriptor ∷ named (redirects_in run (tree.redirects_of (map tree.redirect rs)))) (redirect_is r) ∙ ap (λ ds. (out-Redirect r).descriptor ∷ ds) (described_is rs)

pub named_is : (rs : Redirects) → named (redirects_from rs 0) ≡ described (out-Redirects rs).items.items
named_is rs = ap (λ (t : tree.RedirectsTree). named (redirects_in run t)) (redirects_is rs) ∙ described_is (out-Redirects rs).items.items

abbrev pub called : List Assignment → List Text
called [] = []
called (a ∷ as') = (out-Assignment a).name ∷ called as'

assignments_is : (as' : Assignments) → tree.assignments as' ≡ tree.assignments_of (map tree.assignment (out-Assignments as').items.items)
assignments_is as' = search (rules, the_lemmas)

called_is : (as' : List Assignment) → names (assigns_in run (tree.assignments_of (map tree.assignment as'))) ≡ called as'
called_is [] = refl
called_is (a ∷ as') =
    ap (λ (t : tree.AssignmentTree). t.name ∷ names (assigns_in run (tree.assignments_of (map tree.assignment as')))) (assignment_is a) ∙ ap (λ ns. (out-Assignment a).name ∷ ns) (called_is as')

pub names_are : (as' : Assignments) → names (assigns_from as' 0) ≡ called (out-Assignments as').items.items
names_are as' = ap (λ (t : tree.AssignmentsTree). names (assigns_in run t)) (assignments_is as') ∙ called_is (out-Assignments as').items.items
