-- What stands at a place of a list, from 0.
use Rattle.std.specs.Prelude.{ℕ, zero, suc, Option, Some, None}
use Rattle.sh_ast.specs.Words.{PartTree, PartsTree, no_parts, part_and}
use Rattle.sh_ast.specs.Commands.{CommandTree, CommandsTree, no_commands, command_and, WordTree, word_of, WordsTree, no_words, word_and, BodiesTree, no_bodies, body_and, BranchTree, BranchesTree, no_branches, branch_and, CaseItemTree, CaseItemsTree, no_case_items, case_item_and, AssignmentTree, AssignmentsTree, no_assignments, assignment_and, RedirectTree, RedirectsTree, no_redirects, redirect_and}

abbrev pub command_at : CommandsTree → ℕ → Option CommandTree
command_at no_commands n = None
command_at (command_and c rest) zero = Some c
command_at (command_and c rest) (suc n) = command_at rest n

abbrev pub branch_at : BranchesTree → ℕ → Option BranchTree
branch_at no_branches n = None
branch_at (branch_and condition body rest) zero = Some (record { condition = condition; body = body })
branch_at (branch_and condition body rest) (suc n) = branch_at rest n

abbrev pub case_item_at : CaseItemsTree → ℕ → Option CaseItemTree
case_item_at no_case_items n = None
case_item_at (case_item_and patterns body rest) zero = Some (record { patterns = patterns; body = body })
case_item_at (case_item_and patterns body rest) (suc n) = case_item_at rest n

abbrev pub assignment_at : AssignmentsTree → ℕ → Option AssignmentTree
assignment_at no_assignments n = None
assignment_at (assignment_and name value rest) zero = Some (record { name = name; value = value })
assignment_at (assignment_and name value rest) (suc n) = assignment_at rest n

abbrev pub redirect_at : RedirectsTree → ℕ → Option RedirectTree
redirect_at no_redirects n = None
redirect_at (redirect_and descriptor operator operand rest) zero = Some (record { descriptor = descriptor; operator = operator; operand = operand })
redirect_at (redirect_and descriptor operator operand rest) (suc n) = redirect_at rest n

abbrev pub word_at : WordsTree → ℕ → Option WordTree
word_at no_words n = None
word_at (word_and w rest) zero = Some w
word_at (word_and w rest) (suc n) = word_at rest n

abbrev pub body_in : BodiesTree → ℕ → Option CommandsTree
body_in no_bodies n = None
body_in (body_and b rest) zero = Some b
body_in (body_and b rest) (suc n) = body_in rest n

abbrev pub part_at : PartsTree → ℕ → Option PartTree
part_at no_parts n = None
part_at (part_and p rest) zero = Some p
part_at (part_and p rest) (suc n) = part_at rest n

-- the body of a word's substitution, by its number
abbrev pub body_at : WordTree → ℕ → Option CommandsTree
body_at (word_of parts bodies) n = body_in bodies n
