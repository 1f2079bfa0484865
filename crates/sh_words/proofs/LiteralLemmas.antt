-- A literal word is one field.
use Rattle.std.proofs.Common.{◌≡◌, ℕ, ◌+◌, List, [], ◌∷◌, ◌++◌, append-nil, inr, ◌≢◌, Option, Some, None, unwrap_or, Bool, true, false, not, ◌&&◌, refl, sym, ap, subst, ◌∙◌}
use Rattle.std.specs.List.{list_all}
use Rattle.std.specs.declared.rc.Rc.{Rc}
use Rattle.std.specs.declared.alloc.Global.{Global}
use Rattle.rk_base.specs.Text.{Text}
use Rattle.rk_calls.specs.Talk.{pay}
use Rattle.rk_calls.specs.Turns.{turns}
use Rattle.sh_ast.specs.Commands as tree
use Rattle.sh_ast.specs.Lists.{part_at, redirect_at, word_at}
use Rattle.sh_ast.specs.Words.{PartTree, PartsTree, parts, no_parts, part_and, literal}
use Rattle.sh_ast.specs.declared.command.Redirect.{Redirect, out-Redirect}
use Rattle.sh_ast.specs.declared.command.Redirects.{Redirects}
use Rattle.sh_ast.specs.declared.command.Words.{Words}
use Rattle.sh_ast.specs.declared.command.Word.{Word, out-Word}
use Rattle.sh_ast.specs.declared.word.Quoting.{Quoting}
use Rattle.sh_ast.specs.declared.word.Quoting.TheVariants.{Quoted, Unquoted}
use Rattle.sh_ast.proofs.Folding.{word_is}
use Rattle.sh_vars.specs.declared.env.Env.{Env}
use Rattle.sh_split.specs.Cutting.{Marks, AreCut, IsCut, IsCutting, IsRun, between, parted, put}
use Rattle.sh_split.specs.Marks.{kind}
use Rattle.sh_split.specs.Marked.{as_literal, as_quoted, text_of}
use Rattle.sh_split.specs.Pass.{cut_fields}
use Rattle.sh_split.specs.declared.mark.Mark.{Mark}
use Rattle.sh_split.specs.declared.mark.Mark.TheVariants as mark
use Rattle.sh_split.specs.declared.mark.MarkKind.{MarkKind}
use Rattle.sh_split.specs.declared.mark.MarkKind.TheVariants.{Matter, White}
use Rattle.sh_split.proofs.CutLemmas.{cutting_pass}
use Rattle.sh_expand.specs.declared.mode.Mode.TheVariants as mode
use Rattle.sh_expand.specs.declared.mode.Expanded.{Expanded}
use Rattle.sh_expand.specs.declared.mode.Expanded.TheVariants.{Fields, Value}
use Rattle.sh_expand.specs.Expands.{Body, Failed}
use Rattle.sh_expand.specs.Fields.{ifs, all_names, components, is_plain, is_plain_byte, named}
use Rattle.sh_expand.specs.Means.{With_expanded, expand_in, parts_of, pay_fields}
use Rattle.sh_expand.proofs.PlainLemmas.{no_pattern}
use Rattle.sh_redirect.specs.declared.kind.Redirect as kind
use Rattle.sh_means.specs.declared.control.Aim.TheVariants as aim
use Rattle.sh_means.specs.declared.control.PendingFields.{PendingFields}
use Rattle.sh_means.specs.declared.control.PendingRedirects.{PendingRedirects}
use Rattle.sh_means.specs.declared.flow.Place.{Place}
use Rattle.sh_means.specs.Eval.{word_in}
use Rattle.sh_means.specs.Flows.{Next, Go_on}
use Rattle.sh_means.specs.Run.{run}
use Rattle.sh_means.specs.Stack.{aimed, fielding, making}
use Rattle.sh_means.specs.State.{Shell, with_env}
use Rattle.sh_means.specs.Words.{bodies_at, expand_word, faults, redirect_kind}
use Rattle.sh_means.proofs.Begun.{redirect_next, word_next}
use Rattle.sh_words.specs.Literal.{IsField, IsLiteral, IsValue, is_one_field}

-- The marks of a literal.

first_of : (a b : Bool) → (a && b) ≡ true → a ≡ true
first_of true b h = refl
first_of false b h = cc

rest_of : (a b : Bool) → (a && b) ≡ true → b ≡ true
rest_of true b h = h
rest_of false b h = cc

literal_plain : (text : Text) → list_all is_plain_byte text ≡ true → list_all is_plain (as_literal text) ≡ true
literal_plain [] h = refl
literal_plain (b ∷ bs) h = ap (λ (x : Bool). is_plain_byte b && x) (literal_plain bs (rest_of (is_plain_byte b) (list_all is_plain_byte bs) h)) ∙ ap (λ (x : Bool). x && true) (first_of (is_plain_byte b) (list_all is_plain_byte bs) h)

quoted_plain : (text : Text) → list_all is_plain_byte text ≡ true → list_all is_plain (as_quoted text) ≡ true
quoted_plain [] h = refl
quoted_plain (b ∷ bs) h = ap (λ (x : Bool). is_plain_byte b && x) (quoted_plain bs (rest_of (is_plain_byte b) (list_all is_plain_byte bs) h)) ∙ ap (λ (x : Bool). x && true) (first_of (is_plain_byte b) (list_all is_plain_byte bs) h)

literal_text : (text : Text) → text_of (as_literal text) ≡ text
literal_text [] = refl
literal_text (b ∷ bs) = ap (λ (t : Text). b ∷ t) (literal_text bs)

quoted_text : (text : Text) → text_of (as_quoted text) ≡ text
quoted_text [] = refl
quoted_text (b ∷ bs) = ap (λ (t : Text). b ∷ t) (quoted_text bs)

-- none of them ends a field
literal_run : (ifs : Text) (text : Text) → IsRun (kind ifs) Matter (as_literal text)
literal_run ifs [] = tt
literal_run ifs (b ∷ bs) = (refl, literal_run ifs bs)

quoted_run : (ifs : Text) (text : Text) → IsRun (kind ifs) Matter (as_quoted text)
quoted_run ifs [] = tt
quoted_run ifs (b ∷ bs) = (refl, quoted_run ifs bs)

one_between : (of : Mark → MarkKind) (ms : Marks) → IsRun of Matter ms → between of ms ≡ ms ∷ []
one_between of [] all = refl
one_between of (m ∷ ms) all = ap (λ (k : MarkKind). parted k m (between of ms)) all.0 ∙ ap (put m) (one_between of ms all.1)

no_white : (k : MarkKind) → k ≡ Matter → k ≢ White
no_white k is white = cc

one_cut : (of : Mark → MarkKind) (m : Mark) (ms : Marks) → IsRun of Matter (m ∷ ms) → IsCut of (m ∷ ms) ((m ∷ ms) ∷ [])
one_cut of m ms run = record {
  lead = [];
  rest = m ∷ ms;
  whole = refl;
  white = tt;
  no_more = no_white (of m) run.0;
  are = ([], [], sym (append-nil (m ∷ ms)), run, inr (inr ((λ none. cc), (refl, refl))), refl);
}

one_field_of : (ifs : Text) (m : Mark) (ms : Marks) → IsRun (kind ifs) Matter (m ∷ ms) → cut_fields (kind ifs) (m ∷ ms) ≡ (m ∷ ms) ∷ []
unfolding IsCutting
one_field_of ifs m ms run =
    sym (cutting_pass (kind ifs) (m ∷ ms) ((m ∷ ms) ∷ []) (subst (λ (texts : List Marks). AreCut (kind ifs) texts ((m ∷ ms) ∷ [])) (sym (one_between (kind ifs) (m ∷ ms) run)) ((m ∷ ms) ∷ [], [], refl, one_cut (kind ifs) m ms run, refl)))

-- One field in which nothing may make a pattern is its text.
one_text : (field : Marks) (text : Text) (k : With_expanded) (e : Env) (p : ℕ) → list_all is_plain field ≡ true → text_of field ≡ text → all_names (field ∷ []) [] (pay_fields k) e p ≡ pay (turns text) (k (Fields (text ∷ [])) e) p
one_text field text k e p plain is =
    ap (λ (b : Bool). named (b && not e.noglob) (text_of field) (components field) (λ found e'. all_names [] ([] ++ found) (pay_fields k) e') e p) (no_pattern field plain)
    ∙ ap (λ (t : Text). pay (turns (t ++ [])) (k (Fields (t ∷ [])) e) p) is
    ∙ ap (λ (t : Text). pay (turns t) (k (Fields (text ∷ [])) e) p) (append-nil text)

-- So a literal is one field.
literal_field : (quoting : Quoting) (text : Text) → is_one_field quoting text ≡ true → IsField text (part_and (literal quoting text) no_parts)
literal_field Quoted text h body k fail e p =
    ap (λ (fields : List Marks). all_names fields [] (pay_fields k) e p) (one_field_of (ifs e) mark.Quote (as_quoted text) (refl, quoted_run (ifs e) text))
    ∙ one_text (mark.Quote ∷ as_quoted text) text k e p (quoted_plain text h) (quoted_text text)
literal_field Unquoted [] h body k fail e p = cc
literal_field Unquoted (b ∷ bs) h body k fail e p =
    ap (λ (fields : List Marks). all_names fields [] (pay_fields k) e p) (one_field_of (ifs e) (mark.Literal b) (as_literal bs) (literal_run (ifs e) (b ∷ bs)))
    ∙ one_text (as_literal (b ∷ bs)) (b ∷ bs) k e p (literal_plain (b ∷ bs) (first_of (list_all is_plain_byte (b ∷ bs)) true h)) (literal_text (b ∷ bs))

only_part : (ps : PartsTree) (part : PartTree) → part_at ps 0 ≡ Some part → part_at ps 1 ≡ None → ps ≡ part_and part no_parts
only_part no_parts part h none = cc
only_part (part_and q no_parts) part h none = ap (λ (o : Option PartTree). part_and (unwrap_or o q) no_parts) h
only_part (part_and q (part_and r rs)) part h none = cc

pub word_parts : (w : Word) → parts_of (tree.word w) ≡ parts (out-Word w).parts.value
word_parts w = ap parts_of (word_is w)

pub only_literal : (t : tree.WordTree) (part : PartTree) (quoting : Quoting) (text : Text) → part_at (parts_of t) 0 ≡ Some part → part_at (parts_of t) 1 ≡ None → part ≡ literal quoting text → IsLiteral quoting text (parts_of t)
only_literal t part quoting text h none is = only_part (parts_of t) part h none ∙ ap (λ (q : PartTree). part_and q no_parts) is

pub one_field : (ps : PartsTree) (quoting : Quoting) (text : Text) → IsLiteral quoting text ps → is_one_field quoting text ≡ true → IsField text ps
one_field ps quoting text is one = subst (λ (ps : PartsTree). IsField text ps) (sym is) (literal_field quoting text one)

-- Its value is its text.
literal_value : (quoting : Quoting) (text : Text) → IsValue text (part_and (literal quoting text) no_parts)
literal_value Quoted text body k fail e p = ap (λ (t : Text). pay (turns t) (k (Value t) e) p) (quoted_text text)
literal_value Unquoted text body k fail e p = ap (λ (t : Text). pay (turns t) (k (Value t) e) p) (literal_text text)

pub one_value : (ps : PartsTree) (quoting : Quoting) (text : Text) → IsLiteral quoting text ps → IsValue text ps
one_value ps quoting text is = subst (λ (ps : PartsTree). IsValue text ps) (sym is) (literal_value quoting text)

-- So a command goes on with it.

parts_same : (t : tree.WordTree) → (word_in run t).parts ≡ parts_of t
parts_same (tree.word_of ps bs) = refl

field_given : (t : tree.WordTree) (text : Text) (pl : Place) (go : Expanded → Go_on) (k : Next) (e : Shell) (p : ℕ) → IsField text (parts_of t) → expand_word mode.Fields (word_in run t) pl go k e p ≡ pay (turns text) (go (Fields (text ∷ [])) e) p
field_given t text pl go k e p one =
    let bodies : ℕ → Body = bodies_at (word_in run t).bodies pl e in
    let g : With_expanded = λ x env. go x (with_env env e) in
    let failed : Failed = λ parameter message env. faults parameter message k (with_env env e) in
    ap (λ (ps : PartsTree). expand_in mode.Fields bodies ps g failed e.env p) (parts_same t) ∙ one bodies g failed e.env p

value_given : (t : tree.WordTree) (text : Text) (pl : Place) (go : Expanded → Go_on) (k : Next) (e : Shell) (p : ℕ) → IsValue text (parts_of t) → expand_word mode.Value (word_in run t) pl go k e p ≡ pay (turns text) (go (Value text) e) p
value_given t text pl go k e p one =
    let bodies : ℕ → Body = bodies_at (word_in run t).bodies pl e in
    let g : With_expanded = λ x env. go x (with_env env e) in
    let failed : Failed = λ parameter message env. faults parameter message k (with_env env e) in
    ap (λ (ps : PartsTree). expand_in mode.Value bodies ps g failed e.env p) (parts_same t) ∙ one bodies g failed e.env p

pub field_taken : (f : PendingFields) (pl : Place) (k : Next) (e : Shell) (ws : Words) (w : Word) (text : Text) (p : ℕ) → ws ≡ f.words.value → Some (tree.word w) ≡ word_at (tree.words ws) f.at → IsField text (parts_of (tree.word w)) → fielding f pl k e p ≡ pay (turns text) (fielding (record f { at = f.at + 1; fields = f.fields ++ text ∷ [] }) pl k e) p
field_taken f pl k e ws w text p hs is one =
    word_next f pl k e ws w p hs is
    ∙ field_given (tree.word w) text pl (aimed (aim.Fields (record f { at = f.at + 1 })) pl k) k e p one

pub operand_taken : (m : PendingRedirects) (pl : Place) (k : Next) (e : Shell) (rs : Redirects) (x : Redirect) (r : kind.Redirect) (text : Text) (p : ℕ) → rs ≡ m.redirects.value → r ≡ redirect_kind (out-Redirect x).operator → Some (tree.redirect x) ≡ redirect_at (tree.redirects rs) m.at → IsValue text (parts_of (tree.word (out-Redirect x).operand.value)) → making m pl k e p ≡ pay (turns text) (aimed (aim.Operand (record { left = record m { at = m.at + 1 }; descriptor = (out-Redirect x).descriptor; kind = r })) pl k (Value text) e) p
operand_taken m pl k e rs x r text p hs hr is one =
    redirect_next m pl k e rs x r p hs hr is
    ∙ value_given (tree.word (out-Redirect x).operand.value) text pl (aimed (aim.Operand (record { left = record m { at = m.at + 1 }; descriptor = (out-Redirect x).descriptor; kind = r })) pl k) k e p one

-- A word that isn't is expanded.

pub word_expanded : (f : PendingFields) (pl : Place) (k : Next) (e : Shell) (ws : Words) (w : Word) (w' : Rc Word Global) (p : ℕ) → ws ≡ f.words.value → w'.value ≡ w → Some (tree.word w) ≡ word_at (tree.words ws) f.at → fielding f pl k e p ≡ expand_word mode.Fields (word_in run (tree.word w'.value)) pl (aimed (aim.Fields (record f { at = f.at + 1 })) pl k) k e p
word_expanded f pl k e ws w w' p hs hw is =
    word_next f pl k e ws w p hs is
    ∙ ap (λ (v : Word). expand_word mode.Fields (word_in run (tree.word v)) pl (aimed (aim.Fields (record f { at = f.at + 1 })) pl k) k e p) (sym hw)

pub operand_expanded : (m : PendingRedirects) (pl : Place) (k : Next) (e : Shell) (rs : Redirects) (x : Redirect) (r : kind.Redirect) (w : Rc Word Global) (p : ℕ) → rs ≡ m.redirects.value → w.value ≡ (out-Redirect x).operand.value → r ≡ redirect_kind (out-Redirect x).operator → Some (tree.redirect x) ≡ redirect_at (tree.redirects rs) m.at → making m pl k e p ≡ expand_word mode.Value (word_in run (tree.word w.value)) pl (aimed (aim.Operand (record { left = record m { at = m.at + 1 }; descriptor = (out-Redirect x).descriptor; kind = r })) pl k) k e p
operand_expanded m pl k e rs x r w p hs hw hr is =
    redirect_next m pl k e rs x r p hs hr is
    ∙ ap (λ (v : Word). expand_word mode.Value (word_in run (tree.word v)) pl (aimed (aim.Operand (record { left = record m { at = m.at + 1 }; descriptor = (out-Redirect x).descriptor; kind = r })) pl k) k e p) (sym hw)
