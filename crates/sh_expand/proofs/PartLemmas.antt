-- Parts of words, as they lie in memory.
use Rattle.std.proofs.Common.{◌≡◌, ℕ, zero, suc, ◌+◌, ◌<◌, List, [], ◌∷◌, map, length, refl, sym, ap, ◌∙◌, rules, arith, subst, Bool, true, false, if◌then◌else◌}
use Rattle.std.specs.Prelude.{Option, Some, None, Result, Ok, Err, IfOk, unwrap_or}
use Rattle.std.specs.declared.rc.Rc.{Rc}
use Rattle.std.specs.declared.alloc.Global.{Global}
use Rattle.rk_base.specs.Text.{Text}
use Rattle.sh_ast.specs.declared.parameter.Parameter.{Parameter}
use Rattle.sh_ast.specs.declared.word.Quoting.{Quoting}
use Rattle.sh_ast.specs.declared.word.Condition.{Condition}
use Rattle.sh_ast.specs.declared.word.Condition.TheVariants.{Unset, UnsetOrNull}
use Rattle.sh_ast.specs.declared.word.Substitute as by
use Rattle.sh_ast.specs.declared.word.Substitute.TheVariants as operator
use Rattle.sh_ast.specs.declared.word.Parts.{Parts, out-Parts}
use Rattle.sh_ast.specs.declared.word.Part.{Part}
use Rattle.sh_ast.specs.declared.word.Part.TheVariants as part_of
use Rattle.sh_ast.specs.declared.word.Part.TheFolds.{the_lemmas}
use Rattle.sh_ast.specs.Words.{part, parts, parts_of, PartTree, PartsTree, no_parts, part_and, substitute, arithmetic, OperatorWord, no_word, the_word}
use Rattle.sh_ast.specs.Lists.{part_at}
use Rattle.sh_vars.specs.declared.env.Env.{Env}
use Rattle.sh_split.specs.Cutting.{Marks}
use Rattle.sh_split.specs.Marked.{text_of}
use Rattle.sh_expand.specs.Values.{value}
use Rattle.sh_expand.specs.declared.acts.Acted.{Acted}
use Rattle.sh_expand.specs.Expands.{Body, Failed, With_text, is_quoted, use_of, computed, manner_of, expand, expand_part, expand_text}
use Rattle.sh_expand.specs.Operators.{Outcome, TableRow, row, table, cell}
use Rattle.sh_expand.specs.Acting.{Does, word_of, parts_in, counts, outcome_by, used_as, size_part, size_word}
use Rattle.sh_expand.specs.Machine.{after}

pub substitute_is : (q : Quoting) (parameter : Parameter) (condition : Condition) (b : by.Substitute) (word : Option (Rc Parts Global)) → part (part_of.Substitute q parameter condition b word) ≡ substitute q parameter condition b (word_of word)
substitute_is q parameter condition b None = search (rules, the_lemmas)
substitute_is q parameter condition b (Some word) = search (rules, the_lemmas)

parts_is : (w : Parts) → parts w ≡ parts_of (map part (out-Parts w).items.items)
parts_is w = search (rules, the_lemmas)

within : (xs : List Part) (n : ℕ) (p : PartTree) → part_at (parts_of (map part xs)) n ≡ Some p → n < length xs
within [] n p e = absurd (cc)
within (x ∷ xs) zero p e = omega arith
within (x ∷ xs) (suc n) p e = let h : n < length xs = within xs n p e in omega arith

-- a place where a part stands is far below the greatest number
pub place_small : (w : Parts) (n : ℕ) (p : PartTree) → part_at (parts w) n ≡ Some p → n < 9223372036854775808
place_small w n p e =
    let h : n < length (out-Parts w).items.items = within (out-Parts w).items.items n p (ap (λ ps. part_at ps n) (sym (parts_is w)) ∙ e) in
    omega (arith, (out-Parts w).items.ok.0, (out-Parts w).items.ok.1, (out-Parts w).items.small)

-- the next part, and those after it
pub after-some : (ps : PartsTree) (n : ℕ) (p : PartTree) → part_at ps n ≡ Some p → after n ps ≡ part_and p (after (n + 1) ps)
after-some no_parts zero p e = absurd (cc)
after-some no_parts (suc n) p e = absurd (cc)
after-some (part_and q qs) zero p e = ap (λ (o : Option PartTree). part_and (unwrap_or o q) qs) e
after-some (part_and q qs) (suc n) p e = after-some qs n p e ∙ ap (λ m. part_and p (after m (part_and q qs))) (let f : suc (n + 1) ≡ suc n + 1 = omega arith in f)

-- past the last one
pub after-none : (ps : PartsTree) (n : ℕ) → part_at ps n ≡ None → after n ps ≡ no_parts
after-none no_parts zero e = refl
after-none no_parts (suc n) e = refl
after-none (part_and q qs) zero e = absurd (cc)
after-none (part_and q qs) (suc n) e = after-none qs n e

-- an operator's word as a text
pub text_of_word : (body : ℕ → Body) (word : OperatorWord) (k : With_text) (fail : Failed) (e : Env) (p : ℕ) → expand_text body [] word k fail e p ≡ expand (manner_of body true false) (parts_in word) [] (λ ms e'. k (text_of ms) e') fail e p
text_of_word body no_word k fail e p = refl
text_of_word body (the_word ps) k fail e p = refl

-- With a colon null is as unset, without one it is as any other value: so a row has two outcomes, for a value that counts
-- and for one that doesn't.

two : Condition → Outcome → Outcome → TableRow
two Unset x y = row x x y
two UnsetOrNull x y = row x y y

two_cells : (c : Condition) (x y : Outcome) (v : Option Text) → cell (two c x y) v ≡ (if counts c v then x else y)
unfolding two
two_cells Unset x y None = refl
two_cells Unset x y (Some []) = refl
two_cells Unset x y (Some (b ∷ bs)) = refl
two_cells UnsetOrNull x y None = refl
two_cells UnsetOrNull x y (Some []) = refl
two_cells UnsetOrNull x y (Some (b ∷ bs)) = refl

two_rows : (b : by.Substitute) (c : Condition) → table b c ≡ two c (outcome_by b true) (outcome_by b false)
unfolding two
two_rows operator.Default Unset = refl
two_rows operator.Default UnsetOrNull = refl
two_rows operator.Assign Unset = refl
two_rows operator.Assign UnsetOrNull = refl
two_rows operator.Fault Unset = refl
two_rows operator.Fault UnsetOrNull = refl
two_rows operator.Alternative Unset = refl
two_rows operator.Alternative UnsetOrNull = refl

either : (b : by.Substitute) (t : Bool) → (if t then outcome_by b true else outcome_by b false) ≡ outcome_by b t
either b true = refl
either b false = refl

cell_counts : (b : by.Substitute) (c : Condition) (v : Option Text) → cell (table b c) v ≡ outcome_by b (counts c v)
cell_counts b c v = ap (λ (r : TableRow). cell r v) (two_rows b c) ∙ (two_cells c (outcome_by b true) (outcome_by b false) v ∙ either b (counts c v))

pub operator_does : (it : Part) (q : Quoting) (parameter : Parameter) (condition : Condition) (b : by.Substitute) (word : Option (Rc Parts Global)) (inner splits quoted : Bool) (e : Env) (old new : Marks) (acted : Acted) → it ≡ part_of.Substitute q parameter condition b word → quoted ≡ is_quoted q → Does (λ body ms k fail e'. used_as (outcome_by b (counts condition (value e' parameter))) (use_of splits quoted parameter) (word_of word) body ms k fail e') e old new acted → Does (λ body ms k fail e'. expand_part (manner_of body inner splits) (part it) ms k fail e') e old new acted
operator_does it q parameter condition b word inner splits quoted e old new acted is same h =
    λ body k fail p.
    ap (λ (t : PartTree). expand_part (manner_of body inner splits) t old k fail e p) (ap part is ∙ substitute_is q parameter condition b word)
    ∙ (ap (λ (o : Outcome). used_as o (use_of splits (is_quoted q) parameter) (word_of word) body old k fail e p) (cell_counts b condition (value e parameter))
    ∙ (ap (λ (x : Bool). used_as (outcome_by b (counts condition (value e parameter))) (use_of splits x parameter) (word_of word) body old k fail e p) (sym same) ∙ h body k fail p))

pub operator_less : (it : Part) (q : Quoting) (parameter : Parameter) (condition : Condition) (b : by.Substitute) (word : Option (Rc Parts Global)) (n : ℕ) → it ≡ part_of.Substitute q parameter condition b word → n < size_word (word_of word) + 2 → n < size_part (part it)
operator_less it q parameter condition b word n is h = subst (λ (t : PartTree). n < size_part t) (sym (ap part is ∙ substitute_is q parameter condition b word)) h

-- an expression of arithmetic
arithmetic_is : (q : Quoting) (expression : Rc Parts Global) → part (part_of.Arithmetic q expression) ≡ arithmetic q (parts expression.value)
arithmetic_is q expression = search (rules, the_lemmas)

pub expression_does : {E : Type 0} (it : Part) (q : Quoting) (expression : Rc Parts Global) (inner splits quoted : Bool) (e : Env) (old new : Marks) (r : Result Acted E) → it ≡ part_of.Arithmetic q expression → quoted ≡ is_quoted q → IfOk r (λ acted. (e' : Env) → Does (λ body ms k fail e'. expand (manner_of body true false) (parts expression.value) [] (λ xs e'. computed quoted (text_of xs) ms k fail e') fail e') e' old new acted) → IfOk r (Does (λ body ms k fail e'. expand_part (manner_of body inner splits) (part it) ms k fail e') e old new)
expression_does it q expression inner splits quoted e old new (Ok acted) is same h =
    λ body k fail p.
    ap (λ (t : PartTree). expand_part (manner_of body inner splits) t old k fail e p) (ap part is ∙ arithmetic_is q expression) ∙ (ap (λ (b : Bool). expand (manner_of body true false) (parts expression.value) [] (λ xs e'. computed b (text_of xs) old k fail e') fail e p) (sym same) ∙ h e body k fail p)
expression_does it q expression inner splits quoted e old new (Err fault) is same h = tt
