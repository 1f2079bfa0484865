-- Commands, without where they lie in memory.
use Rattle.std.specs.Prelude.{ℕ, Bool, List, [], ◌∷◌, Option, Some, None}
use Rattle.std.specs.declared.rc.Rc.{Rc}
use Rattle.std.specs.declared.alloc.Global.{Global}
use Rattle.rk_base.specs.Text.{Text}
use Rattle.sh_ast.specs.Words.{PartsTree, parts}
use Rattle.sh_ast.specs.declared.command.Connector.{Connector}
use Rattle.sh_ast.specs.declared.command.LoopKind.{LoopKind}
use Rattle.sh_ast.specs.declared.command.RedirectOperator.{RedirectOperator}
use Rattle.sh_ast.specs.declared.command.Command as a
use Rattle.sh_ast.specs.declared.command.Compound as b
use Rattle.sh_ast.specs.declared.command.Assignment.{Assignment}
use Rattle.sh_ast.specs.declared.command.Assignments.{Assignments}
use Rattle.sh_ast.specs.declared.command.Branch.{Branch}
use Rattle.sh_ast.specs.declared.command.Branches.{Branches}
use Rattle.sh_ast.specs.declared.command.CaseItem.{CaseItem}
use Rattle.sh_ast.specs.declared.command.CaseItems.{CaseItems}
use Rattle.sh_ast.specs.declared.command.CommandList.{CommandList}
use Rattle.sh_ast.specs.declared.command.Redirect.{Redirect}
use Rattle.sh_ast.specs.declared.command.Redirects.{Redirects}
use Rattle.sh_ast.specs.declared.command.SimpleCommand.{SimpleCommand}
use Rattle.sh_ast.specs.declared.command.Word.{Word}
use Rattle.sh_ast.specs.declared.command.Words.{Words}
use Rattle.sh_ast.specs.declared.command.Command.TheOpen.{Simple, Compound, Function, Pipeline, AndOr, Group, Subshell, For, Case, If, Loop, Command-F, Compound-F, Assignment-F, Assignments-F, Branch-F, Branches-F, CaseItem-F, CaseItems-F, CommandList-F, Redirect-F, Redirects-F, SimpleCommand-F, Word-F, Words-F}
use Rattle.sh_ast.specs.declared.command.Command.TheFolds.{fold-Command, fold-Compound, fold-Assignment, fold-Assignments, fold-Branch, fold-Branches, fold-CaseItem, fold-CaseItems, fold-CommandList, fold-Redirect, fold-Redirects, fold-SimpleCommand, fold-Word, fold-Words}

mutual
  -- a command (XCU 2.9)
  pub data CommandTree : Type 0 where
    simple : (command : SimpleTree) → CommandTree
    compound_with : (body : CompoundTree) (redirects : RedirectsTree) → CommandTree
    function : (name : Text) (body : CompoundTree) (redirects : RedirectsTree) → CommandTree
    pipeline : (negated : Bool) (commands : CommandsTree) → CommandTree
    and_or : (pipelines : CommandsTree) (connectors : List Connector) → CommandTree

  -- commands, one after another
  pub data CommandsTree : Type 0 where
    no_commands : CommandsTree
    command_and : (first : CommandTree) (rest : CommandsTree) → CommandsTree

  -- a compound command (XCU 2.9.4)
  pub data CompoundTree : Type 0 where
    group : (body : CommandsTree) → CompoundTree
    subshell : (body : CommandsTree) → CompoundTree
    for_each : (name : Text) (words : ForWords) (body : CommandsTree) → CompoundTree
    case_of : (word : WordTree) (items : CaseItemsTree) → CompoundTree
    if_one_of : (branches : BranchesTree) (otherwise : CommandsTree) → CompoundTree
    loop : (kind : LoopKind) (condition body : CommandsTree) → CompoundTree

  -- what a for goes over: the positional parameters, or the words behind in
  pub data ForWords : Type 0 where
    positional : ForWords
    in_words : (words : WordsTree) → ForWords

  -- branches, each a condition and what is done where it holds
  pub data BranchesTree : Type 0 where
    no_branches : BranchesTree
    branch_and : (condition body : CommandsTree) (rest : BranchesTree) → BranchesTree

  -- items of a case, each patterns and what is done where one of them matches
  pub data CaseItemsTree : Type 0 where
    no_case_items : CaseItemsTree
    case_item_and : (patterns : WordsTree) (body : CommandsTree) (rest : CaseItemsTree) → CaseItemsTree

  -- words, one after another
  pub data WordsTree : Type 0 where
    no_words : WordsTree
    word_and : (first : WordTree) (rest : WordsTree) → WordsTree

  -- a word: its parts, and the bodies of its substitutions
  pub data WordTree : Type 0 where
    word_of : (parts : PartsTree) (bodies : BodiesTree) → WordTree

  -- bodies of substitutions, by their numbers
  pub data BodiesTree : Type 0 where
    no_bodies : BodiesTree
    body_and : (first : CommandsTree) (rest : BodiesTree) → BodiesTree

  -- a simple command (XCU 2.9.1)
  pub data SimpleTree : Type 0 where
    simply : (assignments : AssignmentsTree) (words : WordsTree) (redirects : RedirectsTree) → SimpleTree

  -- assignments, each a variable and the word for its value
  pub data AssignmentsTree : Type 0 where
    no_assignments : AssignmentsTree
    assignment_and : (name : Text) (value : WordTree) (rest : AssignmentsTree) → AssignmentsTree

  -- redirections (XCU 2.7)
  pub data RedirectsTree : Type 0 where
    no_redirects : RedirectsTree
    redirect_and : (descriptor : ℕ) (operator : RedirectOperator) (operand : WordTree) (rest : RedirectsTree) → RedirectsTree

-- one of the items of a list, by itself
pub record AssignmentTree : Type 0 where
  pub name : Text
  pub value : WordTree

pub record BranchTree : Type 0 where
  pub condition : CommandsTree
  pub body : CommandsTree

pub record CaseItemTree : Type 0 where
  pub patterns : WordsTree
  pub body : CommandsTree

pub record RedirectTree : Type 0 where
  pub descriptor : ℕ
  pub operator : RedirectOperator
  pub operand : WordTree

-- the same lists, out of their items
abbrev pub commands_of : List CommandTree → CommandsTree
commands_of [] = no_commands
commands_of (c ∷ cs) = command_and c (commands_of cs)

abbrev pub words_of : List WordTree → WordsTree
words_of [] = no_words
words_of (w ∷ ws) = word_and w (words_of ws)

abbrev pub bodies_of : List CommandsTree → BodiesTree
bodies_of [] = no_bodies
bodies_of (b ∷ bs) = body_and b (bodies_of bs)

abbrev pub branches_of : List BranchTree → BranchesTree
branches_of [] = no_branches
branches_of (b ∷ bs) = branch_and b.condition b.body (branches_of bs)

abbrev pub case_items_of : List CaseItemTree → CaseItemsTree
case_items_of [] = no_case_items
case_items_of (i ∷ is) = case_item_and i.patterns i.body (case_items_of is)

abbrev pub assignments_of : List AssignmentTree → AssignmentsTree
assignments_of [] = no_assignments
assignments_of (a ∷ rest) = assignment_and a.name a.value (assignments_of rest)

abbrev pub redirects_of : List RedirectTree → RedirectsTree
redirects_of [] = no_redirects
redirects_of (r ∷ rs) = redirect_and r.descriptor r.operator r.operand (redirects_of rs)

-- what pointers lead to
abbrev pub held : {A : Type 0} → List (Rc A Global) → List A
held [] = []
held (r ∷ rs) = r.value ∷ held rs

abbrev pub for_words : Option (Rc WordsTree Global) → ForWords
for_words None = positional
for_words (Some words) = in_words words.value

abbrev pub command_step : Command-F CommandTree CompoundTree AssignmentTree AssignmentsTree BranchTree BranchesTree CaseItemTree CaseItemsTree CommandsTree RedirectTree RedirectsTree SimpleTree WordTree WordsTree → CommandTree
command_step (Simple c) = simple c.value
command_step (Compound body rs) = compound_with body.value rs.value
command_step (Function name body rs) = function name body.value rs.value
command_step (Pipeline negated cs) = pipeline negated cs.value
command_step (AndOr ps connectors) = and_or ps.value connectors.value.items.items

abbrev pub compound_step : Compound-F CommandTree CompoundTree AssignmentTree AssignmentsTree BranchTree BranchesTree CaseItemTree CaseItemsTree CommandsTree RedirectTree RedirectsTree SimpleTree WordTree WordsTree → CompoundTree
compound_step (Group body) = group body.value
compound_step (Subshell body) = subshell body.value
compound_step (For name words body) = for_each name (for_words words) body.value
compound_step (Case word items) = case_of word.value items.value
compound_step (If branches otherwise) = if_one_of branches.value otherwise.value
compound_step (Loop kind condition body) = loop kind condition.value body.value

abbrev pub assignment_step : Assignment-F CommandTree CompoundTree AssignmentTree AssignmentsTree BranchTree BranchesTree CaseItemTree CaseItemsTree CommandsTree RedirectTree RedirectsTree SimpleTree WordTree WordsTree → AssignmentTree
assignment_step x = record { name = x.name; value = x.value.value }

abbrev pub assignments_step : Assignments-F CommandTree CompoundTree AssignmentTree AssignmentsTree BranchTree BranchesTree CaseItemTree CaseItemsTree CommandsTree RedirectTree RedirectsTree SimpleTree WordTree WordsTree → AssignmentsTree
assignments_step x = assignments_of x.items.items

abbrev pub branch_step : Branch-F CommandTree CompoundTree AssignmentTree AssignmentsTree BranchTree BranchesTree CaseItemTree CaseItemsTree CommandsTree RedirectTree RedirectsTree SimpleTree WordTree WordsTree → BranchTree
branch_step x = record { condition = x.condition.value; body = x.body.value }

abbrev pub branches_step : Branches-F CommandTree CompoundTree AssignmentTree AssignmentsTree BranchTree BranchesTree CaseItemTree CaseItemsTree CommandsTree RedirectTree RedirectsTree SimpleTree WordTree WordsTree → BranchesTree
branches_step x = branches_of x.items.items

abbrev pub case_item_step : CaseItem-F CommandTree CompoundTree AssignmentTree AssignmentsTree BranchTree BranchesTree CaseItemTree CaseItemsTree CommandsTree RedirectTree RedirectsTree SimpleTree WordTree WordsTree → CaseItemTree
case_item_step x = record { patterns = x.patterns.value; body = x.body.value }

abbrev pub case_items_step : CaseItems-F CommandTree CompoundTree AssignmentTree AssignmentsTree BranchTree BranchesTree CaseItemTree CaseItemsTree CommandsTree RedirectTree RedirectsTree SimpleTree WordTree WordsTree → CaseItemsTree
case_items_step x = case_items_of x.items.items

abbrev pub commands_step : CommandList-F CommandTree CompoundTree AssignmentTree AssignmentsTree BranchTree BranchesTree CaseItemTree CaseItemsTree CommandsTree RedirectTree RedirectsTree SimpleTree WordTree WordsTree → CommandsTree
commands_step x = commands_of x.items.items

abbrev pub redirect_step : Redirect-F CommandTree CompoundTree AssignmentTree AssignmentsTree BranchTree BranchesTree CaseItemTree CaseItemsTree CommandsTree RedirectTree RedirectsTree SimpleTree WordTree WordsTree → RedirectTree
redirect_step x = record { descriptor = x.descriptor; operator = x.operator; operand = x.operand.value }

abbrev pub redirects_step : Redirects-F CommandTree CompoundTree AssignmentTree AssignmentsTree BranchTree BranchesTree CaseItemTree CaseItemsTree CommandsTree RedirectTree RedirectsTree SimpleTree WordTree WordsTree → RedirectsTree
redirects_step x = redirects_of x.items.items

abbrev pub simple_command_step : SimpleCommand-F CommandTree CompoundTree AssignmentTree AssignmentsTree BranchTree BranchesTree CaseItemTree CaseItemsTree CommandsTree RedirectTree RedirectsTree SimpleTree WordTree WordsTree → SimpleTree
simple_command_step x = simply x.assignments.value x.words.value x.redirects.value

abbrev pub word_step : Word-F CommandTree CompoundTree AssignmentTree AssignmentsTree BranchTree BranchesTree CaseItemTree CaseItemsTree CommandsTree RedirectTree RedirectsTree SimpleTree WordTree WordsTree → WordTree
word_step x = word_of (parts x.parts.value) (bodies_of (held x.bodies.items))

abbrev pub words_step : Words-F CommandTree CompoundTree AssignmentTree AssignmentsTree BranchTree BranchesTree CaseItemTree CaseItemsTree CommandsTree RedirectTree RedirectsTree SimpleTree WordTree WordsTree → WordsTree
words_step x = words_of (held x.items.items)

abbrev pub command : a.Command → CommandTree
command = fold-Command CommandTree CompoundTree AssignmentTree AssignmentsTree BranchTree BranchesTree CaseItemTree CaseItemsTree CommandsTree RedirectTree RedirectsTree SimpleTree WordTree WordsTree command_step compound_step assignment_step assignments_step branch_step branches_step case_item_step case_items_step commands_step redirect_step redirects_step simple_command_step word_step words_step

abbrev pub compound : b.Compound → CompoundTree
compound = fold-Compound CommandTree CompoundTree AssignmentTree AssignmentsTree BranchTree BranchesTree CaseItemTree CaseItemsTree CommandsTree RedirectTree RedirectsTree SimpleTree WordTree WordsTree command_step compound_step assignment_step assignments_step branch_step branches_step case_item_step case_items_step commands_step redirect_step redirects_step simple_command_step word_step words_step

abbrev pub assignment : Assignment → AssignmentTree
assignment = fold-Assignment CommandTree CompoundTree AssignmentTree AssignmentsTree BranchTree BranchesTree CaseItemTree CaseItemsTree CommandsTree RedirectTree RedirectsTree SimpleTree WordTree WordsTree command_step compound_step assignment_step assignments_step branch_step branches_step case_item_step case_items_step commands_step redirect_step redirects_step simple_command_step word_step words_step

abbrev pub assignments : Assignments → AssignmentsTree
assignments = fold-Assignments CommandTree CompoundTree AssignmentTree AssignmentsTree BranchTree BranchesTree CaseItemTree CaseItemsTree CommandsTree RedirectTree RedirectsTree SimpleTree WordTree WordsTree command_step compound_step assignment_step assignments_step branch_step branches_step case_item_step case_items_step commands_step redirect_step redirects_step simple_command_step word_step words_step

abbrev pub branch : Branch → BranchTree
branch = fold-Branch CommandTree CompoundTree AssignmentTree AssignmentsTree BranchTree BranchesTree CaseItemTree CaseItemsTree CommandsTree RedirectTree RedirectsTree SimpleTree WordTree WordsTree command_step compound_step assignment_step assignments_step branch_step branches_step case_item_step case_items_step commands_step redirect_step redirects_step simple_command_step word_step words_step

abbrev pub branches : Branches → BranchesTree
branches = fold-Branches CommandTree CompoundTree AssignmentTree AssignmentsTree BranchTree BranchesTree CaseItemTree CaseItemsTree CommandsTree RedirectTree RedirectsTree SimpleTree WordTree WordsTree command_step compound_step assignment_step assignments_step branch_step branches_step case_item_step case_items_step commands_step redirect_step redirects_step simple_command_step word_step words_step

abbrev pub case_item : CaseItem → CaseItemTree
case_item = fold-CaseItem CommandTree CompoundTree AssignmentTree AssignmentsTree BranchTree BranchesTree CaseItemTree CaseItemsTree CommandsTree RedirectTree RedirectsTree SimpleTree WordTree WordsTree command_step compound_step assignment_step assignments_step branch_step branches_step case_item_step case_items_step commands_step redirect_step redirects_step simple_command_step word_step words_step

abbrev pub case_items : CaseItems → CaseItemsTree
case_items = fold-CaseItems CommandTree CompoundTree AssignmentTree AssignmentsTree BranchTree BranchesTree CaseItemTree CaseItemsTree CommandsTree RedirectTree RedirectsTree SimpleTree WordTree WordsTree command_step compound_step assignment_step assignments_step branch_step branches_step case_item_step case_items_step commands_step redirect_step redirects_step simple_command_step word_step words_step

abbrev pub commands : CommandList → CommandsTree
commands = fold-CommandList CommandTree CompoundTree AssignmentTree AssignmentsTree BranchTree BranchesTree CaseItemTree CaseItemsTree CommandsTree RedirectTree RedirectsTree SimpleTree WordTree WordsTree command_step compound_step assignment_step assignments_step branch_step branches_step case_item_step case_items_step commands_step redirect_step redirects_step simple_command_step word_step words_step

abbrev pub redirect : Redirect → RedirectTree
redirect = fold-Redirect CommandTree CompoundTree AssignmentTree AssignmentsTree BranchTree BranchesTree CaseItemTree CaseItemsTree CommandsTree RedirectTree RedirectsTree SimpleTree WordTree WordsTree command_step compound_step assignment_step assignments_step branch_step branches_step case_item_step case_items_step commands_step redirect_step redirects_step simple_command_step word_step words_step

abbrev pub redirects : Redirects → RedirectsTree
redirects = fold-Redirects CommandTree CompoundTree AssignmentTree AssignmentsTree BranchTree BranchesTree CaseItemTree CaseItemsTree CommandsTree RedirectTree RedirectsTree SimpleTree WordTree WordsTree command_step compound_step assignment_step assignments_step branch_step branches_step case_item_step case_items_step commands_step redirect_step redirects_step simple_command_step word_step words_step

abbrev pub simple_command : SimpleCommand → SimpleTree
simple_command = fold-SimpleCommand CommandTree CompoundTree AssignmentTree AssignmentsTree BranchTree BranchesTree CaseItemTree CaseItemsTree CommandsTree RedirectTree RedirectsTree SimpleTree WordTree WordsTree command_step compound_step assignment_step assignments_step branch_step branches_step case_item_step case_items_step commands_step redirect_step redirects_step simple_command_step word_step words_step

abbrev pub word : Word → WordTree
word = fold-Word CommandTree CompoundTree AssignmentTree AssignmentsTree BranchTree BranchesTree CaseItemTree CaseItemsTree CommandsTree RedirectTree RedirectsTree SimpleTree WordTree WordsTree command_step compound_step assignment_step assignments_step branch_step branches_step case_item_step case_items_step commands_step redirect_step redirects_step simple_command_step word_step words_step

abbrev pub words : Words → WordsTree
words = fold-Words CommandTree CompoundTree AssignmentTree AssignmentsTree BranchTree BranchesTree CaseItemTree CaseItemsTree CommandsTree RedirectTree RedirectsTree SimpleTree WordTree WordsTree command_step compound_step assignment_step assignments_step branch_step branches_step case_item_step case_items_step commands_step redirect_step redirects_step simple_command_step word_step words_step
