-- What each rule does to what the code keeps: it takes the values of its symbols from the front, and puts its own there. That this is
-- what `make` says of the rule, proves proofs/FoldLemmas.antt.
use Rattle.std.specs.Prelude.{List, [], ◌∷◌, ◌++◌, length, drop, Bool, true, false}
use Rattle.sh_ast.specs.declared.command.Connector.{Connector}
use Rattle.sh_ast.specs.declared.command.Connector.TheVariants.{And, Or}
use Rattle.sh_ast.specs.declared.command.LoopKind.{LoopKind}
use Rattle.sh_ast.specs.declared.command.LoopKind.TheVariants.{While, Until}
use Rattle.sh_ast.specs.declared.command.RedirectOperator.TheVariants.{HereDocument}
use Rattle.sh_ast.specs.declared.word.Quoting.{Quoting}
use Rattle.sh_ast.specs.declared.word.Quoting.TheVariants.{Quoted, Unquoted}
use Rattle.sh_ast.specs.Words as w
use Rattle.sh_ast.specs.Words.{PartTree, parts_of}
use Rattle.sh_ast.specs.Commands as c
use Rattle.sh_ast.specs.Commands.{CommandTree, CommandsTree, commands_of, words_of, bodies_of, assignments_of, redirects_of, branches_of, case_items_of}
use Rattle.sh_rules.specs.Rules as r
use Rattle.sh_rules.specs.Rules.{Rule}
use Rattle.sh_script.specs.Values.{Value, nothing, parts, word, words, redirects, pieces, commands, joined, compound, branches, items, text_in, parts_in, word_in, words_in, redirects_in, assignments_in, arguments_in, redirections_in, commands_in, connectors_in, pipelines_in, compound_in, branches_in, otherwise_in, items_in}
use Rattle.sh_script.specs.States.{State, top, less, with, second, third, fourth, fifth, sixth, for_one, for_two, for_three, for_four, for_five, for_six, one_command, front, word_opened, word_closed, with_body, body_opened, body_closed, with_document, without_document}
use Rattle.sh_script.specs.Texts.{plain_parameter, braced_parameter, operand, operator, removal_of, descriptor_of, numberless, operator_of}
pub use Rattle.sh_script.specs.Words.{literal, quoted, escaped, between, in_quotes, operator_word, substitution}
pub use Rattle.sh_script.specs.Documents.{last, document}
pub use Rattle.sh_script.specs.Makes.{redirect, name_of}

-- PARTS OF WORDS (XCU 2.2, 2.6)

-- text that stands for itself, and a byte behind a backslash, in front of parts
abbrev pub text_part : Quoting → State → State
text_part quoting s = for_two (parts (literal quoting (text_in (top s)) ∷ parts_in (second s))) s

abbrev pub escape_part : State → State
escape_part s = for_two (parts (literal Quoted (drop 1 (text_in (top s))) ∷ parts_in (second s))) s

abbrev pub no_parts : State → State
no_parts s = for_one (parts []) s

abbrev pub join_parts : State → State
join_parts s = for_two (parts (parts_in (top s) ++ parts_in (second s))) s

abbrev pub quoted_first : List PartTree → List PartTree → List PartTree
quoted_first [] rest = rest
quoted_first (p ∷ ps) rest = quoted p ∷ rest

abbrev pub quoted_expansion : State → State
quoted_expansion s = for_two (parts (quoted_first (parts_in (top s)) (parts_in (second s)))) s

abbrev pub escape : State → State
escape s = for_one (parts (literal Quoted (escaped (text_in (top s))) ∷ [])) s

abbrev pub single : State → State
single s = for_one (parts (literal Quoted (between (text_in (top s))) ∷ [])) s

abbrev pub double : State → State
double s = for_two (parts (in_quotes (parts_in (second s)))) s

abbrev pub braces : State → State
braces s = for_two (parts (substitution Unquoted (text_in (top s)) (parts_in (second s)) ∷ [])) s

abbrev pub quoted_braces : State → State
quoted_braces s = for_three (parts (substitution Quoted (text_in (top s)) (parts_in (second s)) ∷ parts_in (third s))) s

abbrev pub parameter : State → State
parameter s = for_one (parts (plain_parameter (text_in (top s)) ∷ [])) s

abbrev pub braced : State → State
braced s = for_one (parts (braced_parameter (text_in (top s)) ∷ [])) s

abbrev pub dollar : State → State
dollar s = for_one (parts (literal Unquoted (text_in (top s)) ∷ [])) s

abbrev pub pattern_braces : State → State
pattern_braces s = for_two (parts (w.without Unquoted (operand (text_in (top s))) (removal_of (operator (text_in (top s)))) (parts_of (parts_in (second s))) ∷ [])) s

-- a command substitution has the next number of its word
abbrev pub command_substitution : State → State
command_substitution s =
    with (parts (w.output_of Unquoted (length (front s.bodies)) ∷ [])) (with_body (commands_of (commands_in (second s))) (less (less (less s))))

-- an arithmetic expansion, by the parts of its expression
abbrev pub arithmetic : State → State
arithmetic s = for_two (parts (w.arithmetic Unquoted (parts_of (parts_in (second s))) ∷ [])) s

-- WORDS

-- a word ends; it begins
abbrev pub end_of_word : State → State
end_of_word s = with (parts []) (word_opened (less s))

abbrev pub word_begun : State → State
word_begun s = with (word (c.word_of (parts_of (parts_in (top s))) (bodies_of (front s.bodies)))) (word_closed (less s))

abbrev pub no_words : State → State
no_words s = with (words []) s

abbrev pub more_words : State → State
more_words s = for_two (words (word_in (top s) ∷ words_in (second s))) s

-- bodies of here-documents (XCU 2.7.4)
abbrev pub body_end : State → State
body_end s = with (parts []) (body_opened (less s))

abbrev pub body : State → State
body s = with nothing (with_document (c.word_of (parts_of (parts_in (second s))) (bodies_of (front s.bodies))) (body_closed (less (less (less s)))))

abbrev pub literal_body : State → State
literal_body s = with nothing (with_document (c.word_of (parts_of (literal Quoted (text_in (top s)) ∷ [])) c.no_bodies) (less (less s)))

-- SIMPLE COMMANDS (XCU 2.9.1) and redirections (XCU 2.7)

abbrev pub to_file : State → State
to_file s = for_two (redirects (redirect (descriptor_of (text_in (top s))) (operator_of (numberless (text_in (top s)))) (word_in (second s)) ∷ [])) s

-- a here-document has the last body behind it that no operator behind it has
abbrev pub here : State → State
here s = with (redirects (redirect (descriptor_of (text_in (top s))) HereDocument (document (last (front s.documents))) ∷ [])) (without_document (less (less s)))

abbrev pub no_redirects : State → State
no_redirects s = with (redirects []) s

abbrev pub more_redirects : State → State
more_redirects s = for_two (redirects (redirects_in (top s) ++ redirects_in (second s))) s

abbrev pub no_pieces : State → State
no_pieces s = with (pieces [] [] []) s

abbrev pub assigned : State → State
assigned s =
    for_three (pieces (record { name = name_of (text_in (top s)); value = word_in (second s) } ∷ assignments_in (third s)) (arguments_in (third s)) (redirections_in (third s))) s

abbrev pub redirected : State → State
redirected s = for_two (pieces (assignments_in (second s)) (arguments_in (second s)) (redirects_in (top s) ++ redirections_in (second s))) s

abbrev pub argument : State → State
argument s = for_two (pieces (assignments_in (second s)) (word_in (top s) ∷ arguments_in (second s)) (redirections_in (second s))) s

abbrev pub simple_begun : State → State
simple_begun s = for_one (one_command (c.simple (c.simply (assignments_of (assignments_in (top s))) (words_of (arguments_in (top s))) (redirects_of (redirections_in (top s)))))) s

-- LISTS, AND-OR lists and pipelines (XCU 2.9.2, 2.9.3)

abbrev pub no_commands : State → State
no_commands s = with (commands []) s

abbrev pub more_commands : State → State
more_commands s = for_two (commands (commands_in (top s) ++ commands_in (second s))) s

abbrev pub pipeline : Bool → List CommandTree → Value
pipeline negated cs = one_command (c.pipeline negated (commands_of cs))

abbrev pub negated : State → State
negated s = for_three (pipeline true (commands_in (second s) ++ commands_in (third s))) s

abbrev pub piped : List CommandTree → List CommandTree → Value
piped cs [] = commands cs
piped cs (d ∷ ds) = pipeline false (cs ++ (d ∷ ds))

abbrev pub plain : State → State
plain s = for_two (piped (commands_in (top s)) (commands_in (second s))) s

abbrev pub alone : State → State
alone s = with (joined [] []) s

abbrev pub connected : Connector → State → State
connected by s = for_four (joined (by ∷ connectors_in (fourth s)) (commands_in (third s) ++ pipelines_in (fourth s))) s

abbrev pub chain : List CommandTree → List Connector → List CommandTree → Value
chain cs [] ps = commands cs
chain cs (by ∷ more) ps = one_command (c.and_or (commands_of (cs ++ ps)) (by ∷ more))

abbrev pub and_or : State → State
and_or s = for_two (chain (commands_in (top s)) (connectors_in (second s)) (pipelines_in (second s))) s

-- COMPOUND COMMANDS and functions (XCU 2.9.4, 2.9.5)

abbrev pub compound_command : State → State
compound_command s = for_two (one_command (c.compound_with (compound_in (top s)) (redirects_of (redirects_in (second s))))) s

abbrev pub function : State → State
function s = for_six (one_command (c.function (text_in (top s)) (compound_in (fifth s)) (redirects_of (redirects_in (sixth s))))) s

abbrev pub list_in : Value → CommandsTree
list_in v = commands_of (commands_in v)

abbrev pub group : State → State
group s = for_three (compound (c.group (list_in (second s)))) s

abbrev pub subshell : State → State
subshell s = for_three (compound (c.subshell (list_in (second s)))) s

abbrev pub loops : LoopKind → State → State
loops kind s = for_five (compound (c.loop kind (list_in (second s)) (list_in (fourth s)))) s

abbrev pub no_branches : State → State
no_branches s = for_one (branches [] []) s

abbrev pub otherwise : State → State
otherwise s = for_three (branches [] (commands_in (second s))) s

abbrev pub branch : State → State
branch s =
    for_five (branches (record { condition = list_in (second s); body = list_in (fourth s) } ∷ branches_in (fifth s)) (otherwise_in (fifth s))) s

abbrev pub if_begun : State → State
if_begun s = for_one (compound (c.if_one_of (branches_of (branches_in (top s))) (commands_of (otherwise_in (top s))))) s

abbrev pub for_words : Value → c.ForWords
for_words (words ws) = c.in_words (words_of ws)
for_words other = c.positional

abbrev pub for_command : State → State
for_command s = for_six (compound (c.for_each (text_in (second s)) (for_words (third s)) (list_in (fifth s)))) s

abbrev pub case_command : State → State
case_command s = for_four (compound (c.case_of (word_in (second s)) (case_items_of (items_in (fourth s))))) s

abbrev pub no_items : State → State
no_items s = for_one (items []) s

abbrev pub item : State → State
item s =
    for_four (items (record { patterns = words_of (word_in (top s) ∷ words_in (second s)); body = list_in (third s) } ∷ items_in (fourth s))) s

-- THE VALUE OF EACH RULE
abbrev pub acted : Rule → State → State
-- lists
acted r.Nothing_more s = no_commands s
acted r.More_lines s = less s
acted r.Commands s = more_commands s
acted r.Lines s = less s
acted r.Listed s = more_commands s
acted r.Last s = no_commands s
acted r.Semi_list s = less s
acted r.Line_list s = less s
-- newlines, and the bodies of here-documents
acted r.Line s = for_two nothing s
acted r.No_body s = for_one nothing s
acted r.Literal_body s = literal_body s
acted r.Body s = body s
acted r.Body_end s = body_end s
acted r.Body_text s = text_part Quoted s
acted r.Body_escape s = escape_part s
acted r.Body_braced s = quoted_braces s
acted r.Body_expansion s = quoted_expansion s
-- AND-OR lists and pipelines
acted r.And_or s = and_or s
acted r.Alone s = alone s
acted r.And_then s = connected And s
acted r.Or_else s = connected Or s
acted r.No_break s = with nothing s
acted r.Break s = for_two nothing s
acted r.Negated s = negated s
acted r.Plain s = plain s
acted r.Unpiped s = no_commands s
acted r.Piped s = more_commands (less (less s))
-- commands
acted r.Compound s = compound_command s
acted r.Function s = function s
acted r.Assigned s = simple_begun (assigned s)
acted r.Redirected s = simple_begun (redirected s)
acted r.Named s = simple_begun (argument (word_begun (text_part Unquoted s)))
acted r.Quoted_name s = simple_begun (argument (word_begun (join_parts s)))
-- compound commands
acted r.Group s = group s
acted r.Subshell s = subshell s
acted r.If s = if_begun (branch s)
acted r.While s = loops While s
acted r.Until s = loops Until s
acted r.For s = for_command s
acted r.Case s = case_command s
acted r.Fi s = no_branches s
acted r.Else s = otherwise s
acted r.Elif s = branch s
acted r.For_parameters s = with nothing s
acted r.For_semi s = for_two nothing s
acted r.For_line s = less s
acted r.For_words s = less s
acted r.Later_parameters s = with nothing s
acted r.Later_line s = less s
acted r.Later_words s = less s
acted r.Words_semi s = no_words (less (less s))
acted r.Words_line s = no_words (less (less s))
acted r.Words_more s = more_words s
acted r.Case_in s = for_one nothing s
acted r.Case_line s = for_two nothing s
acted r.Esac s = no_items s
acted r.Item_line s = less s
acted r.Item_open s = item (less s)
acted r.Item_text s = item (word_begun (text_part Unquoted s))
acted r.Item_quoted s = item (word_begun (join_parts s))
acted r.Pattern_end s = no_words (less s)
acted r.Pattern_more s = more_words (less s)
acted r.Item_esac s = no_items s
acted r.Item_next s = less s
-- redirections and simple commands
acted r.No_redirects s = no_redirects s
acted r.Redirects s = more_redirects s
acted r.To_file s = to_file s
acted r.Here s = here s
acted r.No_command s = no_pieces s
acted r.More_assigned s = assigned s
acted r.More_redirected s = redirected s
acted r.Command_text s = argument (word_begun (text_part Unquoted s))
acted r.Command_quoted s = argument (word_begun (join_parts s))
acted r.No_arguments s = no_pieces s
acted r.Argument_redirect s = redirected s
acted r.Argument s = argument s
-- words
acted r.Word_text s = word_begun (text_part Unquoted s)
acted r.Word_quoted s = word_begun (join_parts s)
acted r.No_value s = word_begun (end_of_word s)
acted r.Value_text s = word_begun (text_part Unquoted s)
acted r.Value_quoted s = word_begun (join_parts s)
acted r.End_of_word s = end_of_word s
acted r.Text s = text_part Unquoted s
acted r.Quoted s = join_parts s
-- what quotes and expands
acted r.Escape s = escape s
acted r.Single s = single s
acted r.Double s = double s
acted r.Braces s = braces s
acted r.Expands s = s
acted r.Parameter s = parameter s
acted r.Braced_parameter s = braced s
acted r.Substitution s = command_substitution s
acted r.Dollar s = dollar s
acted r.Pattern_braces s = pattern_braces s
acted r.Arithmetic s = arithmetic s
-- in double quotes
acted r.Quote_end s = no_parts s
acted r.Quoted_text s = text_part Quoted s
acted r.Quoted_escape s = escape_part s
acted r.Quoted_braces s = quoted_braces s
acted r.Quoted_expansion s = quoted_expansion s
-- in braces
acted r.Brace_empty s = no_parts s
acted r.Brace_start_text s = text_part Unquoted s
acted r.Brace_start_quoted s = join_parts s
acted r.Brace_end s = no_parts s
acted r.Brace_text s = text_part Unquoted s
acted r.Brace_quoted s = join_parts s
-- in braces in double quotes
acted r.Quoted_brace_end s = no_parts s
acted r.Quoted_brace_text s = text_part Quoted s
acted r.Quoted_brace_escape s = escape_part s
acted r.Inner_quoted s = join_parts (double s)
acted r.Inner_braces s = quoted_braces s
acted r.Inner_expansion s = quoted_expansion s
-- in an arithmetic expansion
acted r.Arithmetic_end s = no_parts s
acted r.Arithmetic_text s = text_part Quoted s
acted r.Arithmetic_escape s = escape_part s
acted r.Parenthesis_open s = text_part Quoted s
acted r.Parenthesis_close s = text_part Quoted s
acted r.Arithmetic_braces s = quoted_braces s
acted r.Arithmetic_expansion s = quoted_expansion s
