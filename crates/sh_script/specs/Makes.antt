-- What each rule of the grammar makes of what its symbols come to (XCU 2.10, rule by rule as `spelling` has them).
use Rattle.std.specs.Prelude.{ℕ, ◌-◌, List, [], ◌∷◌, length, take, drop, Option, Some, None, true, false}
use Rattle.rk_base.specs.Text.{Text}
use Rattle.sh_ast.specs.declared.command.Connector.{Connector}
use Rattle.sh_ast.specs.declared.command.Connector.TheVariants.{And, Or}
use Rattle.sh_ast.specs.declared.command.LoopKind.TheVariants.{While, Until}
use Rattle.sh_ast.specs.declared.command.RedirectOperator.{RedirectOperator}
use Rattle.sh_ast.specs.declared.command.RedirectOperator.TheVariants.{HereDocument}
use Rattle.sh_ast.specs.declared.word.Quoting.TheVariants.{Quoted, Unquoted}
use Rattle.sh_ast.specs.Commands as c
use Rattle.sh_ast.specs.Commands.{CommandTree, WordTree, RedirectTree, commands_of, words_of, assignments_of, redirects_of, branches_of, case_items_of}
use Rattle.sh_rules.specs.Rules as r
use Rattle.sh_rules.specs.Rules.{Rule, part_of, spelling}
use Rattle.sh_script.specs.Texts.{plain_parameter, braced_parameter, descriptor_of, numberless, operator_of}
use Rattle.sh_script.specs.Words.{literal, escaped, between, no_pieces, part_and, expansion_and, pieces_and, double_quoted, quoted_expansion, plain, braces, pattern_braces, output, arithmetic, word}
use Rattle.sh_script.specs.Made.{IfRest, Arguments, Simple, Made, Values}

-- LISTS, AND-OR lists and pipelines (XCU 2.9.2, 2.9.3): a pipeline of one command is the command, a list of one pipeline the pipeline.
abbrev pub piped_into : CommandTree → List CommandTree → CommandTree
piped_into first [] = first
piped_into first (d ∷ ds) = c.pipeline false (commands_of (first ∷ d ∷ ds))

abbrev pub connectors : List (Connector × CommandTree) → List Connector
connectors [] = []
connectors (x ∷ xs) = x.0 ∷ connectors xs

abbrev pub pipelines : List (Connector × CommandTree) → List CommandTree
pipelines [] = []
pipelines (x ∷ xs) = x.1 ∷ pipelines xs

abbrev pub connected_to : CommandTree → List (Connector × CommandTree) → CommandTree
connected_to first [] = first
connected_to first (x ∷ xs) = c.and_or (commands_of (first ∷ pipelines (x ∷ xs))) (connectors (x ∷ xs))

-- COMPOUND COMMANDS (XCU 2.9.4)
abbrev pub if_of : List CommandTree → List CommandTree → IfRest → IfRest
if_of condition body rest = record { branches = record { condition = commands_of condition; body = commands_of body } ∷ rest.branches; otherwise = rest.otherwise }

abbrev pub goes_over : Option (List WordTree) → c.ForWords
goes_over None = c.positional
goes_over (Some words) = c.in_words (words_of words)

abbrev pub case_item : WordTree → List WordTree → List CommandTree → c.CaseItemTree
case_item first more body = record { patterns = words_of (first ∷ more); body = commands_of body }

-- SIMPLE COMMANDS (XCU 2.9.1) and redirections (XCU 2.7)
abbrev pub redirect : ℕ → RedirectOperator → WordTree → RedirectTree
redirect n by operand = record { descriptor = n; operator = by; operand = operand }

abbrev pub name_of : Text → Text
name_of text = take (length text - 1) text

abbrev pub assigned : Text → WordTree → Simple → Simple
assigned text value rest = record { assignments = record { name = name_of text; value = value } ∷ rest.assignments; words = rest.words; redirects = rest.redirects }

abbrev pub redirected : RedirectTree → Simple → Simple
redirected first rest = record { assignments = rest.assignments; words = rest.words; redirects = first ∷ rest.redirects }

abbrev pub named : WordTree → Arguments → Simple
named name rest = record { assignments = []; words = name ∷ rest.words; redirects = rest.redirects }

abbrev pub simple_command : Simple → CommandTree
simple_command x = c.simple (c.simply (assignments_of x.assignments) (words_of x.words) (redirects_of x.redirects))

-- THE TABLE: what a rule makes, by the body that its here-document has, where it is the rule of one
abbrev pub make : WordTree → (rule : Rule) → Values (spelling rule) → Made (part_of rule)
-- lists
make d r.Nothing_more _ = []
make d r.More_lines (_, (more, _)) = more
make d r.Commands (first, (more, _)) = first ∷ more
make d r.Lines (_, (more, _)) = more
make d r.Listed (first, (more, _)) = first ∷ more
make d r.Last _ = []
make d r.Semi_list (_, (more, _)) = more
make d r.Line_list (_, (more, _)) = more
-- newlines, and the bodies of here-documents
make d r.Line _ = tt
make d r.No_body _ = tt
make d r.Literal_body _ = tt
make d r.Body _ = tt
make d r.Body_end _ = no_pieces
make d r.Body_text (text, (more, _)) = part_and (literal Quoted text) more
make d r.Body_escape (text, (more, _)) = part_and (literal Quoted (drop 1 text)) more
make d r.Body_braced (text, (inner, (more, _))) = expansion_and (braces Quoted text inner) more
make d r.Body_expansion (expansion, (more, _)) = expansion_and (quoted_expansion expansion) more
-- AND-OR lists and pipelines
make d r.And_or (first, (more, _)) = connected_to first more
make d r.Alone _ = []
make d r.And_then (_, (_, (pipeline, (more, _)))) = (And, pipeline) ∷ more
make d r.Or_else (_, (_, (pipeline, (more, _)))) = (Or, pipeline) ∷ more
make d r.No_break _ = tt
make d r.Break _ = tt
make d r.Negated (_, (first, (more, _))) = c.pipeline true (commands_of (first ∷ more))
make d r.Plain (first, (more, _)) = piped_into first more
make d r.Unpiped _ = []
make d r.Piped (_, (_, (first, (more, _)))) = first ∷ more
-- commands
make d r.Compound (compound, (redirects, _)) = c.compound_with compound (redirects_of redirects)
make d r.Function (name, (_, (_, (_, (compound, (redirects, _)))))) = c.function name compound (redirects_of redirects)
make d r.Assigned (text, (value, (more, _))) = simple_command (assigned text value more)
make d r.Redirected (first, (more, _)) = simple_command (redirected first more)
make d r.Named (text, (pieces, (more, _))) = simple_command (named (word (part_and (literal Unquoted text) pieces)) more)
make d r.Quoted_name (first, (pieces, (more, _))) = simple_command (named (word (pieces_and first pieces)) more)
-- compound commands
make d r.Group (_, (list, (_, _))) = c.group (commands_of list)
make d r.Subshell (_, (list, (_, _))) = c.subshell (commands_of list)
make d r.If (_, (condition, (_, (body, (more, _))))) = c.if_one_of (branches_of (if_of condition body more).branches) (commands_of (if_of condition body more).otherwise)
make d r.While (_, (condition, (_, (body, (_, _))))) = c.loop While (commands_of condition) (commands_of body)
make d r.Until (_, (condition, (_, (body, (_, _))))) = c.loop Until (commands_of condition) (commands_of body)
make d r.For (_, (name, (words, (_, (body, (_, _)))))) = c.for_each name (goes_over words) (commands_of body)
make d r.Case (_, (subject, (_, (items, _)))) = c.case_of subject (case_items_of items)
make d r.Fi _ = record { branches = []; otherwise = [] }
make d r.Else (_, (list, (_, _))) = record { branches = []; otherwise = list }
make d r.Elif (_, (condition, (_, (body, (more, _))))) = if_of condition body more
make d r.For_parameters _ = None
make d r.For_semi _ = None
make d r.For_line (_, (words, _)) = words
make d r.For_words (_, (words, _)) = Some words
make d r.Later_parameters _ = None
make d r.Later_line (_, (words, _)) = words
make d r.Later_words (_, (words, _)) = Some words
make d r.Words_semi _ = []
make d r.Words_line _ = []
make d r.Words_more (first, (more, _)) = first ∷ more
make d r.Case_in _ = tt
make d r.Case_line _ = tt
make d r.Esac _ = []
make d r.Item_line (_, (items, _)) = items
make d r.Item_open (_, (pattern, (patterns, (list, (items, _))))) = case_item pattern patterns list ∷ items
make d r.Item_text (text, (pieces, (patterns, (list, (items, _))))) = case_item (word (part_and (literal Unquoted text) pieces)) patterns list ∷ items
make d r.Item_quoted (first, (pieces, (patterns, (list, (items, _))))) = case_item (word (pieces_and first pieces)) patterns list ∷ items
make d r.Pattern_end _ = []
make d r.Pattern_more (_, (first, (more, _))) = first ∷ more
make d r.Item_esac _ = []
make d r.Item_next (_, (items, _)) = items
-- redirections and simple commands
make d r.No_redirects _ = []
make d r.Redirects (first, (more, _)) = first ∷ more
make d r.To_file (text, (operand, _)) = redirect (descriptor_of text) (operator_of (numberless text)) operand
make d r.Here (text, _) = redirect (descriptor_of text) HereDocument d
make d r.No_command _ = record { assignments = []; words = []; redirects = [] }
make d r.More_assigned (text, (value, (more, _))) = assigned text value more
make d r.More_redirected (first, (more, _)) = redirected first more
make d r.Command_text (text, (pieces, (more, _))) = named (word (part_and (literal Unquoted text) pieces)) more
make d r.Command_quoted (first, (pieces, (more, _))) = named (word (pieces_and first pieces)) more
make d r.No_arguments _ = record { words = []; redirects = [] }
make d r.Argument_redirect (first, (more, _)) = record { words = more.words; redirects = first ∷ more.redirects }
make d r.Argument (first, (more, _)) = record { words = first ∷ more.words; redirects = more.redirects }
-- words
make d r.Word_text (text, (pieces, _)) = word (part_and (literal Unquoted text) pieces)
make d r.Word_quoted (first, (pieces, _)) = word (pieces_and first pieces)
make d r.No_value _ = word no_pieces
make d r.Value_text (text, (pieces, _)) = word (part_and (literal Unquoted text) pieces)
make d r.Value_quoted (first, (pieces, _)) = word (pieces_and first pieces)
make d r.End_of_word _ = no_pieces
make d r.Text (text, (pieces, _)) = part_and (literal Unquoted text) pieces
make d r.Quoted (first, (pieces, _)) = pieces_and first pieces
-- what quotes and expands
make d r.Escape (text, _) = part_and (literal Quoted (escaped text)) no_pieces
make d r.Single (text, _) = part_and (literal Quoted (between text)) no_pieces
make d r.Double (_, (pieces, _)) = double_quoted pieces
make d r.Braces (text, (pieces, _)) = expansion_and (braces Unquoted text pieces) no_pieces
make d r.Expands (expansion, _) = expansion_and expansion no_pieces
make d r.Parameter (text, _) = plain (plain_parameter text)
make d r.Braced_parameter (text, _) = plain (braced_parameter text)
make d r.Substitution (_, (list, (_, _))) = output (commands_of list)
make d r.Dollar (text, _) = plain (literal Unquoted text)
make d r.Pattern_braces (text, (pieces, _)) = pattern_braces text pieces
make d r.Arithmetic (_, (pieces, _)) = arithmetic pieces
-- in double quotes
make d r.Quote_end _ = no_pieces
make d r.Quoted_text (text, (more, _)) = part_and (literal Quoted text) more
make d r.Quoted_escape (text, (more, _)) = part_and (literal Quoted (drop 1 text)) more
make d r.Quoted_braces (text, (inner, (more, _))) = expansion_and (braces Quoted text inner) more
make d r.Quoted_expansion (expansion, (more, _)) = expansion_and (quoted_expansion expansion) more
-- in braces
make d r.Brace_empty _ = no_pieces
make d r.Brace_start_text (text, (more, _)) = part_and (literal Unquoted text) more
make d r.Brace_start_quoted (first, (more, _)) = pieces_and first more
make d r.Brace_end _ = no_pieces
make d r.Brace_text (text, (more, _)) = part_and (literal Unquoted text) more
make d r.Brace_quoted (first, (more, _)) = pieces_and first more
-- in braces in double quotes
make d r.Quoted_brace_end _ = no_pieces
make d r.Quoted_brace_text (text, (more, _)) = part_and (literal Quoted text) more
make d r.Quoted_brace_escape (text, (more, _)) = part_and (literal Quoted (drop 1 text)) more
make d r.Inner_quoted (_, (inner, (more, _))) = pieces_and (double_quoted inner) more
make d r.Inner_braces (text, (inner, (more, _))) = expansion_and (braces Quoted text inner) more
make d r.Inner_expansion (expansion, (more, _)) = expansion_and (quoted_expansion expansion) more
-- in an arithmetic expansion
make d r.Arithmetic_end _ = no_pieces
make d r.Arithmetic_text (text, (more, _)) = part_and (literal Quoted text) more
make d r.Arithmetic_escape (text, (more, _)) = part_and (literal Quoted (drop 1 text)) more
make d r.Parenthesis_open (text, (more, _)) = part_and (literal Quoted text) more
make d r.Parenthesis_close (text, (more, _)) = part_and (literal Quoted text) more
make d r.Arithmetic_braces (text, (inner, (more, _))) = expansion_and (braces Quoted text inner) more
make d r.Arithmetic_expansion (expansion, (more, _)) = expansion_and (quoted_expansion expansion) more
