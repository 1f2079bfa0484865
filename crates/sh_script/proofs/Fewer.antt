-- Each turn leaves fewer.
use Rattle.std.proofs.Common.{arith, ◌≡◌, ℕ, ◌+◌, ◌*◌, ◌<◌, ◌≤◌, List, [], ◌∷◌, ◌++◌, Bool, true, false, refl}
use Rattle.sh_rules.specs.Grammar.{Symbol, Want, Do}
use Rattle.sh_rules.specs.declared.token_kind.TokenKind.{TokenKind}
use Rattle.sh_rules.specs.Parts as p
use Rattle.sh_rules.specs.Parts.{Part}
use Rattle.sh_rules.specs.Rules as r
use Rattle.sh_rules.specs.Rules.{Rule, spelling, part_of}
use Rattle.sh_token.proofs.Sizes.{may_be_empty, Shrinks}
use Rattle.sh_script.specs.Owing.{rank, token_rank, symbol_rank, first_rank, weights, turns_left}

-- a rule's symbols, as long as it has any, weigh less than its part; a part that may be empty has the highest rank
Lighter : Rule → List (Symbol TokenKind Part) → Type 0
Lighter q [] = rank (part_of q) ≡ 6
Lighter q (s ∷ ss) = (weights (s ∷ ss) + 32 * symbol_rank s) < (4 + 32 * rank (part_of q))

lighter : (q : Rule) → Lighter q (spelling q)
unfolding Lighter
lighter r.Nothing_more = refl
lighter r.More_lines = omega arith
lighter r.Commands = omega arith
lighter r.Lines = omega arith
lighter r.Listed = omega arith
lighter r.Last = refl
lighter r.Semi_list = omega arith
lighter r.Line_list = omega arith
lighter r.Line = omega arith
lighter r.No_body = omega arith
lighter r.Literal_body = omega arith
lighter r.Body = omega arith
lighter r.Body_end = omega arith
lighter r.Body_text = omega arith
lighter r.Body_escape = omega arith
lighter r.Body_braced = omega arith
lighter r.Body_expansion = omega arith
lighter r.And_or = omega arith
lighter r.Alone = refl
lighter r.And_then = omega arith
lighter r.Or_else = omega arith
lighter r.No_break = refl
lighter r.Break = omega arith
lighter r.Negated = omega arith
lighter r.Plain = omega arith
lighter r.Unpiped = refl
lighter r.Piped = omega arith
lighter r.Compound = omega arith
lighter r.Function = omega arith
lighter r.Assigned = omega arith
lighter r.Redirected = omega arith
lighter r.Named = omega arith
lighter r.Quoted_name = omega arith
lighter r.Group = omega arith
lighter r.Subshell = omega arith
lighter r.If = omega arith
lighter r.While = omega arith
lighter r.Until = omega arith
lighter r.For = omega arith
lighter r.Case = omega arith
lighter r.Fi = omega arith
lighter r.Else = omega arith
lighter r.Elif = omega arith
lighter r.For_parameters = refl
lighter r.For_semi = omega arith
lighter r.For_line = omega arith
lighter r.For_words = omega arith
lighter r.Later_parameters = refl
lighter r.Later_line = omega arith
lighter r.Later_words = omega arith
lighter r.Words_semi = omega arith
lighter r.Words_line = omega arith
lighter r.Words_more = omega arith
lighter r.Case_in = omega arith
lighter r.Case_line = omega arith
lighter r.Esac = omega arith
lighter r.Item_line = omega arith
lighter r.Item_open = omega arith
lighter r.Item_text = omega arith
lighter r.Item_quoted = omega arith
lighter r.Pattern_end = omega arith
lighter r.Pattern_more = omega arith
lighter r.Item_esac = omega arith
lighter r.Item_next = omega arith
lighter r.No_redirects = refl
lighter r.Redirects = omega arith
lighter r.To_file = omega arith
lighter r.Here = omega arith
lighter r.No_command = refl
lighter r.More_assigned = omega arith
lighter r.More_redirected = omega arith
lighter r.Command_text = omega arith
lighter r.Command_quoted = omega arith
lighter r.No_arguments = refl
lighter r.Argument_redirect = omega arith
lighter r.Argument = omega arith
lighter r.Word_text = omega arith
lighter r.Word_quoted = omega arith
lighter r.No_value = omega arith
lighter r.Value_text = omega arith
lighter r.Value_quoted = omega arith
lighter r.End_of_word = omega arith
lighter r.Text = omega arith
lighter r.Quoted = omega arith
lighter r.Escape = omega arith
lighter r.Single = omega arith
lighter r.Double = omega arith
lighter r.Braces = omega arith
lighter r.Expands = omega arith
lighter r.Parameter = omega arith
lighter r.Braced_parameter = omega arith
lighter r.Substitution = omega arith
lighter r.Dollar = omega arith
lighter r.Pattern_braces = omega arith
lighter r.Arithmetic = omega arith
lighter r.Quote_end = omega arith
lighter r.Quoted_text = omega arith
lighter r.Quoted_escape = omega arith
lighter r.Quoted_braces = omega arith
lighter r.Quoted_expansion = omega arith
lighter r.Brace_empty = omega arith
lighter r.Brace_start_text = omega arith
lighter r.Brace_start_quoted = omega arith
lighter r.Brace_end = omega arith
lighter r.Brace_text = omega arith
lighter r.Brace_quoted = omega arith
lighter r.Quoted_brace_end = omega arith
lighter r.Quoted_brace_text = omega arith
lighter r.Quoted_brace_escape = omega arith
lighter r.Inner_quoted = omega arith
lighter r.Inner_braces = omega arith
lighter r.Inner_expansion = omega arith
lighter r.Arithmetic_end = omega arith
lighter r.Arithmetic_text = omega arith
lighter r.Arithmetic_escape = omega arith
lighter r.Parenthesis_open = omega arith
lighter r.Parenthesis_close = omega arith
lighter r.Arithmetic_braces = omega arith
lighter r.Arithmetic_expansion = omega arith

rank_below : (n : Part) → rank n ≤ 6
rank_below p.opt_list = omega arith
rank_below p.list = omega arith
rank_below p.list_rest = omega arith
rank_below p.newline = omega arith
rank_below p.bodies = omega arith
rank_below p.body_parts = omega arith
rank_below p.and_or = omega arith
rank_below p.and_or_rest = omega arith
rank_below p.linebreak = omega arith
rank_below p.pipeline = omega arith
rank_below p.pipe_rest = omega arith
rank_below p.command = omega arith
rank_below p.compound = omega arith
rank_below p.if_rest = omega arith
rank_below p.for_in = omega arith
rank_below p.for_in_later = omega arith
rank_below p.for_words = omega arith
rank_below p.case_in = omega arith
rank_below p.items = omega arith
rank_below p.pattern_rest = omega arith
rank_below p.item_end = omega arith
rank_below p.redirects = omega arith
rank_below p.redirect = omega arith
rank_below p.prefix = omega arith
rank_below p.arguments = omega arith
rank_below p.word = omega arith
rank_below p.value = omega arith
rank_below p.parts = omega arith
rank_below p.quoted = omega arith
rank_below p.expansion = omega arith
rank_below p.quoted_parts = omega arith
rank_below p.brace_start = omega arith
rank_below p.brace_parts = omega arith
rank_below p.quoted_brace_parts = omega arith
rank_below p.arithmetic = omega arith

token_below : (b : Bool) → token_rank b ≤ 6
token_below true = omega arith
token_below false = omega arith

first_below : (ss : List (Symbol TokenKind Part)) → first_rank ss ≤ 6
first_below [] = omega arith
first_below (Want kind ∷ ss) = token_below (may_be_empty kind)
first_below (Do part ∷ ss) = rank_below part

weights_append : (xs ys : List (Symbol TokenKind Part)) → weights (xs ++ ys) ≡ weights xs + weights ys
weights_append [] ys = omega arith
weights_append (x ∷ xs) ys = let h = weights_append xs ys in omega (arith, h)

pub chosen_fewer : (q : Rule) (ss : List (Symbol TokenKind Part)) (size : ℕ) → turns_left size (spelling q ++ ss) < turns_left size (Do (part_of q) ∷ ss)
unfolding turns_left Lighter
chosen_fewer q ss size = by_spelling (spelling q) (lighter q)
  where
    by_spelling : (sp : List (Symbol TokenKind Part)) → Lighter q sp → (256 * size + weights (sp ++ ss) + 32 * first_rank (sp ++ ss)) < (256 * size + weights (Do (part_of q) ∷ ss) + 32 * rank (part_of q))
    by_spelling [] h = let f = first_below ss in omega (arith, h, f)
    by_spelling (s ∷ more) h = let w = weights_append (s ∷ more) ss in omega (arith, h, w)

pub taken_fewer : (kind : TokenKind) (ss : List (Symbol TokenKind Part)) (before after : ℕ) → Shrinks (may_be_empty kind) before after → turns_left after ss < turns_left before (Want kind ∷ ss)
unfolding turns_left
taken_fewer kind ss before after h = by_bytes (may_be_empty kind) h
  where
    by_bytes : (b : Bool) → Shrinks b before after → (256 * after + weights ss + 32 * first_rank ss) < (256 * before + (2 + weights ss) + 32 * token_rank b)
    by_bytes true h = let f = first_below ss in omega (arith, h, f)
    by_bytes false h = let f = first_below ss in omega (arith, h, f)
