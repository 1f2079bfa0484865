-- How much is left to do without cost: a number that falls at each step that costs nothing, so that a turn is reached.
use Rattle.std.specs.Prelude.{◌≡◌, ◌≤◌, ◌<◌, ℕ, zero, suc, ◌+◌, ◌-◌, ◌*◌, List, length}
use Rattle.std.specs.List.{sum_by}
use Rattle.rk_calls.specs.declared.turn.Turn.{Turn}
use Rattle.rk_calls.specs.declared.turn.Turn.TheVariants as turn
use Rattle.sh_ast.specs.Commands as tree
use Rattle.sh_ast.specs.Commands.{CompoundTree, group, subshell, for_each, case_of, if_one_of, loop, ForWords, positional, in_words, BranchesTree, no_branches, branch_and, CaseItemsTree, no_case_items, case_item_and, WordsTree, no_words, word_and, AssignmentsTree, no_assignments, assignment_and, RedirectsTree, no_redirects, redirect_and}
use Rattle.sh_ast.specs.declared.command.Compound.{Compound}
use Rattle.sh_ast.specs.declared.command.SimpleCommand.{SimpleCommand, out-SimpleCommand}
use Rattle.sh_ast.specs.declared.command.Assignments.{Assignments}
use Rattle.sh_ast.specs.declared.command.Branches.{Branches}
use Rattle.sh_ast.specs.declared.command.CaseItems.{CaseItems}
use Rattle.sh_ast.specs.declared.command.Redirects.{Redirects}
use Rattle.sh_ast.specs.declared.command.Words.{Words}
use Rattle.sh_expand.specs.Turns.{bodies_due}
use Rattle.sh_means.specs.declared.control.Acted.{Acted}
use Rattle.sh_means.specs.declared.control.Aim.{Aim}
use Rattle.sh_means.specs.declared.control.Aim.TheVariants as aim
use Rattle.sh_means.specs.declared.control.CompoundStep.{CompoundStep}
use Rattle.sh_means.specs.declared.control.CompoundStep.TheVariants as compound_step
use Rattle.sh_means.specs.declared.control.Continuation.{Continuation}
use Rattle.sh_means.specs.declared.control.Continuation.TheVariants as continuation
use Rattle.sh_means.specs.declared.control.Control.{Control}
use Rattle.sh_means.specs.declared.control.Control.TheVariants as control
use Rattle.sh_means.specs.declared.control.Frame.{Frame}
use Rattle.sh_means.specs.declared.control.Frame.TheVariants as frame
use Rattle.sh_means.specs.declared.control.Made.{Made}
use Rattle.sh_means.specs.declared.control.Made.TheVariants as made
use Rattle.sh_means.specs.declared.control.PendingAssignments.{PendingAssignments}
use Rattle.sh_means.specs.declared.control.PendingCase.{PendingCase}
use Rattle.sh_means.specs.declared.control.PendingFields.{PendingFields}
use Rattle.sh_means.specs.declared.control.PendingRedirects.{PendingRedirects}
use Rattle.sh_means.specs.declared.control.PendingWord.{PendingWord}
use Rattle.sh_means.specs.declared.control.WordStep.{WordStep}
use Rattle.sh_means.specs.declared.control.WordStep.TheVariants as word_step
use Rattle.sh_means.specs.declared.control.Then.{Then}
use Rattle.sh_means.specs.declared.control.Then.TheVariants as then
use Rattle.sh_means.specs.declared.control.Undo.{Undo}
use Rattle.sh_means.specs.declared.control.Undo.TheVariants as undo
use Rattle.sh_means.specs.declared.control.Wait.{Wait}
use Rattle.sh_means.specs.declared.control.Wait.TheVariants as wait
use Rattle.sh_means.specs.Stack.{IsStep}

-- How many words, redirections, assignments and branches there are, and how many from a place on.

abbrev pub count_words : WordsTree → ℕ
count_words no_words = 0
count_words (word_and w ws) = count_words ws + 1

abbrev pub count_redirects : RedirectsTree → ℕ
count_redirects no_redirects = 0
count_redirects (redirect_and d operator operand rs) = count_redirects rs + 1

abbrev pub count_assignments : AssignmentsTree → ℕ
count_assignments no_assignments = 0
count_assignments (assignment_and name value as') = count_assignments as' + 1

abbrev pub count_branches : BranchesTree → ℕ
count_branches no_branches = 0
count_branches (branch_and condition body bs) = count_branches bs + 1

unfoldable pub words_left : Words → ℕ → ℕ
words_left ws i = count_words (tree.words ws) - i

unfoldable pub redirects_left : Redirects → ℕ → ℕ
redirects_left rs i = count_redirects (tree.redirects rs) - i

unfoldable pub assignments_left : Assignments → ℕ → ℕ
assignments_left as' i = count_assignments (tree.assignments as') - i

unfoldable pub branches_left : Branches → ℕ → ℕ
branches_left bs i = count_branches (tree.branches bs) - i

-- Syntax: each word, redirection and assignment that is passed without cost leaves 10 less, which is more than a word half
-- expanded takes.

-- the items of a `case`
abbrev pub weigh_items : CaseItemsTree → ℕ
weigh_items no_case_items = 0
weigh_items (case_item_and patterns body is) = 10 * count_words patterns + 1 + weigh_items is

-- the items from a place on, the first of them from a pattern on
abbrev pub weigh_items_from : CaseItemsTree → ℕ → ℕ → ℕ
weigh_items_from no_case_items i j = 0
weigh_items_from (case_item_and patterns body is) zero j = 10 * (count_words patterns - j) + 1 + weigh_items is
weigh_items_from (case_item_and patterns body is) (suc i) j = weigh_items_from is i j

unfoldable pub items_left : CaseItems → ℕ → ℕ → ℕ
items_left is i j = weigh_items_from (tree.case_items is) i j

abbrev pub weigh_for : ForWords → ℕ
weigh_for positional = 3
weigh_for (in_words ws) = 10 * count_words ws + 3

abbrev pub weigh_compound_tree : CompoundTree → ℕ
weigh_compound_tree (group body) = 2
weigh_compound_tree (subshell body) = 4
weigh_compound_tree (for_each name words body) = weigh_for words + 1
weigh_compound_tree (case_of w items) = weigh_items items + 9
weigh_compound_tree (if_one_of branches otherwise) = 3 * count_branches branches + 3
weigh_compound_tree (loop kind condition body) = 1

-- a compound command, once its redirections were made
unfoldable pub weigh_compound : Compound → ℕ
weigh_compound b = weigh_compound_tree (tree.compound b)

-- what is behind the words of a simple command: its redirections, its assignments, and what it does
unfoldable pub weigh_command : SimpleCommand → ℕ
weigh_command c = 10 * redirects_left (out-SimpleCommand c).redirects.value 0 + (10 * assignments_left (out-SimpleCommand c).assignments.value 0 + 7)

-- What is half done.

abbrev pub weigh_then : Then → ℕ
weigh_then (then.Simple c) = weigh_command c.value
weigh_then (then.For name body) = 2

abbrev pub weigh_fields : PendingFields → ℕ
weigh_fields f = 10 * words_left f.words.value f.at + weigh_then f.then

abbrev pub weigh_made : Made → ℕ
weigh_made (made.Simple as' resolved) = 10 * assignments_left as'.value 0 + 7
weigh_made (made.Compound b) = weigh_compound b.value + 2

abbrev pub weigh_redirects : PendingRedirects → ℕ
weigh_redirects m = 10 * redirects_left m.redirects.value m.at + weigh_made m.made

abbrev pub weigh_assignments : PendingAssignments → ℕ
weigh_assignments a = 10 * assignments_left a.assignments.value a.at + 3

abbrev pub weigh_case : PendingCase → ℕ
weigh_case c = items_left c.items.value c.at c.pattern + 2

-- what comes after a word
abbrev pub weigh_aim : Aim → ℕ
weigh_aim (aim.Fields f) = weigh_fields f
weigh_aim (aim.Operand o) = weigh_redirects o.left + 4
weigh_aim (aim.Value v) = weigh_assignments v.left + 1
weigh_aim (aim.Subject is) = items_left is.value 0 0 + 3
weigh_aim (aim.Pattern c) = weigh_case c + 1

abbrev pub weigh_word : PendingWord → ℕ
weigh_word w = weigh_aim w.aim + 3 * bodies_due w.expander + 2

-- What comes next.

abbrev pub weigh_wait : Wait → ℕ
weigh_wait (wait.Stage pl s) = 6
weigh_wait (wait.Read pl file) = 4
weigh_wait (wait.Redirects pl m r) = weigh_redirects m + 3
weigh_wait w = 1

abbrev pub weigh_compound_step : CompoundStep → ℕ
weigh_compound_step (compound_step.Compound pl b) = weigh_compound b.value
weigh_compound_step (compound_step.Called pl callee) = 0
weigh_compound_step (compound_step.If pl left) = 3 * branches_left left.branches.value left.at + 2
weigh_compound_step (compound_step.Round pl last l) = 0
weigh_compound_step (compound_step.Each pl each) = 1
weigh_compound_step (compound_step.Gives pl each) = 4
weigh_compound_step (compound_step.Case pl c) = weigh_case c
weigh_compound_step (compound_step.Stages pl l i input) = 3

abbrev pub weigh_simple_step : WordStep → ℕ
weigh_simple_step (word_step.Words pl f) = weigh_fields f
weigh_simple_step (word_step.Expand w) = weigh_word w.value
weigh_simple_step (word_step.Deliver w x) = weigh_aim w.value.aim
weigh_simple_step (word_step.Make pl m) = weigh_redirects m
weigh_simple_step (word_step.Assign pl as') = weigh_assignments as'
weigh_simple_step (word_step.Text pl name text) = 2

abbrev pub weigh : Control → ℕ
weigh (control.Begins b) = 3
weigh (control.Run pl l i) = 1
weigh (control.Whole pl l) = 1
weigh (control.One pl l i) = 1
weigh (control.CompoundStep x) = weigh_compound_step x
weigh (control.WordStep x) = weigh_simple_step x
weigh (control.Waits w) = weigh_wait w
weigh (control.Leave f) = 0

-- What is left to do after a command: more than what it leads to.

abbrev pub weigh_continuation : Continuation → ℕ
weigh_continuation (continuation.Rest pl l i) = 2
weigh_continuation (continuation.Links pl left) = 2 * (length left.connectors.value.items.items - left.at) + 1
weigh_continuation (continuation.Stage pl l i n status saved) = 4
weigh_continuation (continuation.Watch pl) = 1
weigh_continuation continuation.Invert = 1
weigh_continuation (continuation.Condition pl last l) = 3
weigh_continuation (continuation.Body pl l) = 1
weigh_continuation (continuation.Each pl each) = 2
weigh_continuation (continuation.Choose pl body left) = 3 * branches_left left.branches.value left.at + 3

abbrev pub weigh_undo : Undo → ℕ
weigh_undo (undo.Substitution w saved) = weigh_word w.value + 1
weigh_undo u = 1

abbrev pub weigh_frame : Frame → ℕ
weigh_frame (frame.Continuation x) = weigh_continuation x
weigh_frame (frame.Undo x) = weigh_undo x

unfoldable pub weigh_all : List Frame → ℕ
weigh_all fs = sum_by weigh_frame fs

-- Steps.

-- it costs nothing, and goes on
abbrev pub IsFree : Turn → Type 0
IsFree (turn.Ask call c) = ⊥
IsFree (turn.More c) = c ≡ 0
IsFree (turn.Exit status c) = ⊥

-- a call costs something, and where the turn is free, what comes next and what lies below it weigh less than this
unfoldable pub Falls : ℕ → ℕ → Acted → Type 0
Falls m n t = IsStep t.turn × (IsFree t.turn → weigh t.control + n < m)

-- it isn't free
abbrev pub Pays : Acted → Type 0
Pays t = (m n : ℕ) → Falls m n t

-- from this weight it falls, whatever lies below
abbrev pub Sinks : ℕ → Acted → Type 0
Sinks w t = (m n : ℕ) → w + n ≤ m → Falls m n t

-- from this weight it falls, with the frames that were put and taken
abbrev pub Lowers : ℕ → List Frame → List Frame → Acted → Type 0
Lowers w fs fs' t = (m : ℕ) → w + weigh_all fs ≤ m → Falls m (weigh_all fs') t
