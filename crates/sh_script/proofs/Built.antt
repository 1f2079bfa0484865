-- What the code keeps leads to the script of the tree: each part of the syntax puts there what it comes to.
use Rattle.std.proofs.Common.{◌≡◌, List, [], ◌∷◌, Option, Some, None, refl, ap, ◌∙◌}
use Rattle.sh_ast.specs.declared.command.Connector.{Connector}
use Rattle.sh_ast.specs.Commands.{CommandTree, CommandsTree, WordTree, commands_of, for_each}
use Rattle.sh_rules.specs.Grammar.{Symbol, Want, Do, Parse, Leaf, Node, Parses, no_parses, parse_and}
use Rattle.sh_rules.specs.declared.token_kind.TokenKind.{TokenKind}
use Rattle.sh_rules.specs.Parts as p
use Rattle.sh_rules.specs.Parts.{Part}
use Rattle.sh_rules.specs.Rules as r
use Rattle.sh_rules.specs.Rules.{Rule, Token, part_of, spelling, script}
use Rattle.sh_grammar.specs.Marks.{flat, flat_all}
use Rattle.sh_script.specs.Words.{Pieces, Expansion}
use Rattle.sh_script.specs.Made.{Made, Of, Values}
use Rattle.sh_script.specs.Makes.{connectors, pipelines, connected_to, piped_into, goes_over}
use Rattle.sh_script.specs.Trees.{Trees, no_trees, token_and, rule_and}
use Rattle.sh_script.specs.Meanings.{Comes, Meaning, Meanings, meaning_by, meanings_of, script_of}
use Rattle.sh_script.specs.Values as v
use Rattle.sh_script.specs.Values.{Value, commands_in}
use Rattle.sh_script.specs.States.{State, start, top, less, with, front, word_opened, word_closed, with_body, body_opened, body_closed, with_document, without_document}
use Rattle.sh_script.specs.Acts.{acted, chain, piped, for_words}
use Rattle.sh_script.specs.Folds.{marked, marked_all, script_marked}
use Rattle.sh_script.proofs.FoldLemmas.{marked_append}
use Rattle.sh_script.proofs.Typed.{untyped}

-- the marks of a tree, by the tree
unfoldable mutual
  built : Parse Rule Token → State → State
  built (Leaf t) s = with (v.token t.text) s
  built (Node q qs) s = acted q (built_all qs s)

  built_all : Parses Rule Token → State → State
  built_all no_parses s = s
  built_all (parse_and q qs) s = built q (built_all qs s)

mutual
  unfolding marked_all marked built built_all

  of_marks : (q : Parse Rule Token) (s : State) → marked_all (flat q) s ≡ built q s
  of_marks (Leaf t) s = refl
  of_marks (Node q qs) s = ap (acted q) (of_all_marks qs s)

  of_all_marks : (qs : Parses Rule Token) (s : State) → marked_all (flat_all qs) s ≡ built_all qs s
  of_all_marks no_parses s = refl
  of_all_marks (parse_and q qs) s = marked_append (flat q) (flat_all qs) s ∙ of_marks q (marked_all (flat_all qs) s) ∙ ap (built q) (of_all_marks qs s)

-- what is kept within a word, or within none; and with the bodies of here-documents that are free, and those around
record Kept : Type 0 where
  values : List Value
  bodies : List CommandsTree
  around : List (List CommandsTree)

abbrev kept : Kept → List WordTree → List (List WordTree) → State
kept x free others = record { values = x.values; bodies = x.bodies ∷ x.around; documents = free ∷ others }

-- WHAT A SYMBOL PUTS THERE
abbrev put_value : Value → Kept → Kept
put_value y x = record { values = y ∷ x.values; bodies = x.bodies; around = x.around }

-- parts behind others of their word; an expansion; and the parts with which a word ends, or a body
abbrev put_pieces : Pieces → Kept → Kept
put_pieces f x = record { values = v.parts (f x.bodies).parts ∷ x.values; bodies = (f x.bodies).bodies; around = x.around }

abbrev put_expansion : Expansion → Kept → Kept
put_expansion f x = record { values = v.parts ((f x.bodies).part ∷ []) ∷ x.values; bodies = (f x.bodies).bodies; around = x.around }

abbrev put_last : Pieces → Kept → Kept
put_last f x = record { values = v.parts (f []).parts ∷ x.values; bodies = (f []).bodies; around = x.bodies ∷ x.around }

abbrev for_value : Option (List WordTree) → Value
for_value None = v.nothing
for_value (Some ws) = v.words ws

abbrev put_part : (n : Part) → Made n → Kept → Kept
put_part p.opt_list y x = put_value (v.commands y) x
put_part p.list y x = put_value (v.commands y) x
put_part p.list_rest y x = put_value (v.commands y) x
put_part p.newline y x = put_value v.nothing x
put_part p.bodies y x = put_value v.nothing x
put_part p.body_parts y x = put_last y x
put_part p.and_or y x = put_value (v.commands (y ∷ [])) x
put_part p.and_or_rest y x = put_value (v.joined (connectors y) (pipelines y)) x
put_part p.linebreak y x = put_value v.nothing x
put_part p.pipeline y x = put_value (v.commands (y ∷ [])) x
put_part p.pipe_rest y x = put_value (v.commands y) x
put_part p.command y x = put_value (v.commands (y ∷ [])) x
put_part p.compound y x = put_value (v.compound y) x
put_part p.if_rest y x = put_value (v.branches y.branches y.otherwise) x
put_part p.for_in y x = put_value (for_value y) x
put_part p.for_in_later y x = put_value (for_value y) x
put_part p.for_words y x = put_value (v.words y) x
put_part p.case_in y x = put_value v.nothing x
put_part p.items y x = put_value (v.items y) x
put_part p.pattern_rest y x = put_value (v.words y) x
put_part p.item_end y x = put_value (v.items y) x
put_part p.redirects y x = put_value (v.redirects y) x
put_part p.redirect y x = put_value (v.redirects (y ∷ [])) x
put_part p.prefix y x = put_value (v.pieces y.assignments y.words y.redirects) x
put_part p.arguments y x = put_value (v.pieces [] y.words y.redirects) x
put_part p.word y x = put_value (v.word y) x
put_part p.value y x = put_value (v.word y) x
put_part p.parts y x = put_last y x
put_part p.quoted y x = put_pieces y x
put_part p.expansion y x = put_expansion y x
put_part p.quoted_parts y x = put_pieces y x
put_part p.brace_start y x = put_pieces y x
put_part p.brace_parts y x = put_pieces y x
put_part p.quoted_brace_parts y x = put_pieces y x
put_part p.arithmetic y x = put_pieces y x

abbrev put : (s : Symbol TokenKind Part) → Of s → Kept → Kept
put (Want kind) text x = put_value (v.token text) x
put (Do n) y x = put_part n y x

abbrev put_all : (ss : List (Symbol TokenKind Part)) → Values ss → Kept → Kept
put_all [] ys x = x
put_all (s ∷ ss) ys x = put s ys.0 (put_all ss ys.1 x)

-- The parts of a here-document's body begin with none of the bodies behind it.
abbrev own : Part → List WordTree → List WordTree
own p.body_parts free = []
own n free = free

abbrev others_at : Part → List WordTree → List (List WordTree) → List (List WordTree)
others_at p.body_parts free others = free ∷ others
others_at n free others = others

abbrev thru : (ss : List (Symbol TokenKind Part)) → Meanings ss → List WordTree → Comes (Values ss)
thru [] ms free = record { value = tt; free = free }
thru (Want kind ∷ ss) ms free = let y = thru ss ms.1 free in record { value = (ms.0, y.value); free = y.free }
thru (Do n ∷ ss) ms free = let y = thru ss ms.1 free in let x = ms.0 (own n y.free) in record { value = (x.value, y.value); free = x.free }

abbrev others_thru : (ss : List (Symbol TokenKind Part)) → Meanings ss → List WordTree → List (List WordTree) → List (List WordTree)
others_thru [] ms free others = others
others_thru (Want kind ∷ ss) ms free others = others_thru ss ms.1 free others
others_thru (Do n ∷ ss) ms free others = others_at n (thru ss ms.1 free).free (others_thru ss ms.1 free others)

-- What is built of a tree is what it means.
abbrev Agrees : (s : Symbol TokenKind Part) → (State → State) → Meaning s → Type 0
Agrees (Want kind) go text = (x : Kept) (free : List WordTree) (others : List (List WordTree)) → go (kept x free others) ≡ kept (put_value (v.token text) x) free others
Agrees (Do n) go m = (x : Kept) (free : List WordTree) (others : List (List WordTree)) → go (kept x free others) ≡ kept (put_part n (m (own n free)).value x) (m (own n free)).free (others_at n free others)

abbrev AllAgree : (ss : List (Symbol TokenKind Part)) → Parses Rule Token → Meanings ss → Type 0
AllAgree [] no_parses ms = Unit {0}
AllAgree [] (parse_and q qs) ms = ⊥
AllAgree (s ∷ ss) no_parses ms = ⊥
AllAgree (s ∷ ss) (parse_and q qs) ms = Agrees s (built q) ms.0 × AllAgree ss qs ms.1

all_agree : (ss : List (Symbol TokenKind Part)) (qs : Parses Rule Token) (ms : Meanings ss) → AllAgree ss qs ms → (x : Kept) (free : List WordTree) (others : List (List WordTree)) → built_all qs (kept x free others) ≡ kept (put_all ss (thru ss ms free).value x) (thru ss ms free).free (others_thru ss ms free others)
unfolding built_all
all_agree [] no_parses ms h x free others = refl
all_agree [] (parse_and q qs) ms h x free others = absurd h
all_agree (s ∷ ss) no_parses ms h x free others = absurd h
all_agree (Want kind ∷ ss) (parse_and q qs) ms h x free others =
    ap (built q) (all_agree ss qs ms.1 h.1 x free others) ∙ h.0 (put_all ss (thru ss ms.1 free).value x) (thru ss ms.1 free).free (others_thru ss ms.1 free others)
all_agree (Do n ∷ ss) (parse_and q qs) ms h x free others =
    ap (built q) (all_agree ss qs ms.1 h.1 x free others) ∙ h.0 (put_all ss (thru ss ms.1 free).value x) (thru ss ms.1 free).free (others_thru ss ms.1 free others)

-- where the code looks whether something stands behind
chained : (first : CommandTree) (more : List (Connector × CommandTree)) → chain (first ∷ []) (connectors more) (pipelines more) ≡ v.commands (connected_to first more ∷ [])
chained first [] = refl
chained first (x ∷ more) = refl

piped_on : (first : CommandTree) (more : List CommandTree) → piped (first ∷ []) more ≡ v.commands (piped_into first more ∷ [])
piped_on first [] = refl
piped_on first (d ∷ more) = refl

over : (o : Option (List WordTree)) → for_words (for_value o) ≡ goes_over o
over None = refl
over (Some ws) = refl

-- RULE BY RULE: what it does to what is kept is what it makes
agrees : (q : Rule) (qs : Parses Rule Token) (ms : Meanings (spelling q)) → AllAgree (spelling q) qs ms → Agrees (Do (part_of q)) (built (Node q qs)) (meaning_by q ms)
unfolding built top less with front word_opened word_closed with_body body_opened body_closed with_document without_document
agrees r.And_or qs ms h =
    λ x free others.
    let y = ms.1.0 free in
    let z = ms.0 y.free in
    ap (acted r.And_or) (all_agree (spelling r.And_or) qs ms h x free others) ∙ ap (λ w. kept (put_value w x) z.free others) (chained z.value y.value)
agrees r.Plain qs ms h =
    λ x free others.
    let y = ms.1.0 free in
    let z = ms.0 y.free in
    ap (acted r.Plain) (all_agree (spelling r.Plain) qs ms h x free others) ∙ ap (λ w. kept (put_value w x) z.free others) (piped_on z.value y.value)
agrees r.For qs ms h =
    λ x free others.
    let y = ms.1.1.1.1.0 free in
    let z = ms.1.1.0 y.free in
    ap (acted r.For) (all_agree (spelling r.For) qs ms h x free others) ∙ ap (λ w. kept (put_value (v.compound (for_each ms.1.0 w (commands_of y.value))) x) z.free others) (over z.value)
agrees q qs ms h = λ x free others. ap (acted q) (all_agree (spelling q) qs ms h x free others)

each_agrees : {ss : List (Symbol TokenKind Part)} (ts : Trees ss) → AllAgree ss (untyped ts) (meanings_of ts)
unfolding built with
each_agrees no_trees = tt
each_agrees (token_and t ts) = ((λ x free others. refl), each_agrees ts)
each_agrees (rule_and q below ts) = (agrees q (untyped below) (meanings_of below) (each_agrees below), each_agrees ts)

-- THE MARKS of a tree lead to the script that it is
pub script_by_marks : (ts : Trees script) → script_marked (flat_all (untyped ts)) ≡ script_of ts
unfolding script_marked script_of top
script_by_marks ts =
    let x : Kept = record { values = []; bodies = []; around = [] } in
    ap (λ s. commands_of (commands_in (top s))) (of_all_marks (untyped ts) start ∙ all_agree script (untyped ts) (meanings_of ts) (each_agrees ts) x [] [])
