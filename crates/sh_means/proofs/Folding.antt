-- The tree of each kind of command, by its parts.
use Rattle.std.proofs.Common.{rules, ◌≡◌, Bool, Option, Some, None}
use Rattle.std.specs.declared.rc.Rc.{Rc}
use Rattle.std.specs.declared.alloc.Global.{Global}
use Rattle.rk_base.specs.Text.{Text}
use Rattle.sh_ast.specs.Commands as tree
use Rattle.sh_ast.specs.declared.command.Command.TheFolds.{the_lemmas}
use Rattle.sh_ast.specs.declared.command.Assignment.{Assignment, out-Assignment}
use Rattle.sh_ast.specs.declared.command.Branch.{Branch, out-Branch}
use Rattle.sh_ast.specs.declared.command.Branches.{Branches}
use Rattle.sh_ast.specs.declared.command.CaseItem.{CaseItem, out-CaseItem}
use Rattle.sh_ast.specs.declared.command.CaseItems.{CaseItems}
use Rattle.sh_ast.specs.declared.command.Command as a_command
use Rattle.sh_ast.specs.declared.command.CommandList.{CommandList}
use Rattle.sh_ast.specs.declared.command.Compound as a_compound
use Rattle.sh_ast.specs.declared.command.Connectors.{Connectors}
use Rattle.sh_ast.specs.declared.command.LoopKind.{LoopKind}
use Rattle.sh_ast.specs.declared.command.Redirect.{Redirect, out-Redirect}
use Rattle.sh_ast.specs.declared.command.Redirects.{Redirects}
use Rattle.sh_ast.specs.declared.command.SimpleCommand.{SimpleCommand, out-SimpleCommand}
use Rattle.sh_ast.specs.declared.command.Word.{Word}
use Rattle.sh_ast.specs.declared.command.Words.{Words}
use Rattle.sh_means.specs.Trees.{for_words_of}

pub simple_is : (c : SimpleCommand) → tree.simple_command c ≡ tree.simply (tree.assignments (out-SimpleCommand c).assignments.value) (tree.words (out-SimpleCommand c).words.value) (tree.redirects (out-SimpleCommand c).redirects.value)
simple_is c = search (rules, the_lemmas)

pub assignment_is : (x : Assignment) → tree.assignment x ≡ record { name = (out-Assignment x).name; value = tree.word (out-Assignment x).value.value }
assignment_is x = search (rules, the_lemmas)

pub redirect_is : (x : Redirect) → tree.redirect x ≡ record { descriptor = (out-Redirect x).descriptor; operator = (out-Redirect x).operator; operand = tree.word (out-Redirect x).operand.value }
redirect_is x = search (rules, the_lemmas)

pub branch_is : (x : Branch) → tree.branch x ≡ record { condition = tree.commands (out-Branch x).condition.value; body = tree.commands (out-Branch x).body.value }
branch_is x = search (rules, the_lemmas)

pub item_is : (x : CaseItem) → tree.case_item x ≡ record { patterns = tree.words (out-CaseItem x).patterns.value; body = tree.commands (out-CaseItem x).body.value }
item_is x = search (rules, the_lemmas)

-- Commands.

pub a_simple_is : (c : Rc SimpleCommand Global) → tree.command (a_command.Simple c) ≡ tree.simple (tree.simple_command c.value)
a_simple_is c = search (rules, the_lemmas)

pub a_compound_is : (b : Rc a_compound.Compound Global) (rs : Rc Redirects Global) → tree.command (a_command.Compound b rs) ≡ tree.compound_with (tree.compound b.value) (tree.redirects rs.value)
a_compound_is b rs = search (rules, the_lemmas)

pub a_function_is : (name : Text) (b : Rc a_compound.Compound Global) (rs : Rc Redirects Global) → tree.command (a_command.Function name b rs) ≡ tree.function name (tree.compound b.value) (tree.redirects rs.value)
a_function_is name b rs = search (rules, the_lemmas)

pub a_pipeline_is : (negated : Bool) (cs : Rc CommandList Global) → tree.command (a_command.Pipeline negated cs) ≡ tree.pipeline negated (tree.commands cs.value)
a_pipeline_is negated cs = search (rules, the_lemmas)

pub an_and_or_is : (ps : Rc CommandList Global) (connectors : Rc Connectors Global) → tree.command (a_command.AndOr ps connectors) ≡ tree.and_or (tree.commands ps.value) connectors.value.items.items
an_and_or_is ps connectors = search (rules, the_lemmas)

-- Compound commands.

pub a_group_is : (l : Rc CommandList Global) → tree.compound (a_compound.Group l) ≡ tree.group (tree.commands l.value)
a_group_is l = search (rules, the_lemmas)

pub a_subshell_is : (l : Rc CommandList Global) → tree.compound (a_compound.Subshell l) ≡ tree.subshell (tree.commands l.value)
a_subshell_is l = search (rules, the_lemmas)

pub a_case_is : (w : Rc Word Global) (items : Rc CaseItems Global) → tree.compound (a_compound.Case w items) ≡ tree.case_of (tree.word w.value) (tree.case_items items.value)
a_case_is w items = search (rules, the_lemmas)

pub an_if_is : (bs : Rc Branches Global) (otherwise : Rc CommandList Global) → tree.compound (a_compound.If bs otherwise) ≡ tree.if_one_of (tree.branches bs.value) (tree.commands otherwise.value)
an_if_is bs otherwise = search (rules, the_lemmas)

pub a_loop_is : (kind : LoopKind) (condition body : Rc CommandList Global) → tree.compound (a_compound.Loop kind condition body) ≡ tree.loop kind (tree.commands condition.value) (tree.commands body.value)
a_loop_is kind condition body = search (rules, the_lemmas)

pub a_for_is : (name : Text) (ws : Option (Rc Words Global)) (body : Rc CommandList Global) → tree.compound (a_compound.For name ws body) ≡ tree.for_each name (for_words_of ws) (tree.commands body.value)
a_for_is name None body = search (rules, the_lemmas)
a_for_is name (Some ws) body = search (rules, the_lemmas)
