-- What a word gave is used.
use Rattle.std.proofs.Common.{◌≡◌, ℕ, ◌++◌, List, if◌then◌else◌, refl, sym, ap, ◌∙◌}
use Rattle.std.specs.declared.rc.Rc.{Rc}
use Rattle.std.specs.declared.alloc.Global.{Global}
use Rattle.rk_base.specs.Text.{Text}
use Rattle.rk_calls.specs.declared.answer.Answer.TheVariants.{Go}
use Rattle.sh_ast.specs.Words.{PartsTree}
use Rattle.sh_ast.specs.Commands as tree
use Rattle.sh_ast.specs.declared.command.Word.{Word}
use Rattle.sh_pattern.specs.Decided.{is_matched}
use Rattle.sh_vars.specs.declared.env.Env.{Env}
use Rattle.sh_expand.specs.declared.expander.Expander.{Expander}
use Rattle.sh_expand.specs.declared.mode.Expanded.{Expanded}
use Rattle.sh_expand.specs.declared.mode.Expanded.TheVariants.{Value}
use Rattle.sh_expand.specs.declared.mode.Mode.{Mode}
use Rattle.sh_expand.specs.Expands.{Body, Failed}
use Rattle.sh_expand.specs.Means.{With_expanded, expand_in, parts_of}
use Rattle.sh_expand.specs.Turns.{expander_says}
use Rattle.sh_means.specs.declared.control.Aim.{Aim}
use Rattle.sh_means.specs.declared.control.Aim.TheVariants as aim
use Rattle.sh_means.specs.declared.control.PendingFields.{PendingFields}
use Rattle.sh_means.specs.declared.flow.Place.{Place}
use Rattle.sh_means.specs.Compound.{case_items}
use Rattle.sh_means.specs.Eval.{word_in}
use Rattle.sh_means.specs.Flows.{Next}
use Rattle.sh_means.specs.Run.{run}
use Rattle.sh_means.specs.Stack.{aimed, wording, fielding, words_from, then_means, making, when_refused, assigning, items_from, case_body, casing}
use Rattle.sh_means.specs.State.{Shell, with_env}
use Rattle.sh_means.specs.Words.{bodies_at, faults, expand_word, expand_words, fields_of, value_of, redirect_to, assigns}

parts_same : (t : tree.WordTree) → (word_in run t).parts ≡ parts_of t
parts_same (tree.word_of ps bs) = refl

-- expansion of a word begins
pub word_started : (m : Mode) (w : Rc Word Global) (w0 : Word) (x : Expander) (pl : Place) (u : Aim) (k : Next) (e : Shell) (p : ℕ) → w0 ≡ w.value → ((body : ℕ → Body) (k : With_expanded) (fail : Failed) (env : Env) (p : ℕ) → expander_says x Go body k fail env p ≡ expand_in m body (parts_of (tree.word w0)) k fail env p) → expand_word m (word_in run (tree.word w.value)) pl (aimed u pl k) k e p ≡ wording (record { expander = x; word = w; place = pl; aim = u }) k Go e p
word_started m w w0 x pl u k e p hw h =
    let bs : ℕ → Body = bodies_at (word_in run (tree.word w.value)).bodies pl e in
    let g : With_expanded = λ x env. aimed u pl k x (with_env env e) in
    let f : Failed = λ parameter message env. faults parameter message k (with_env env e) in
    ap (λ (ps : PartsTree). expand_in m bs ps g f e.env p) (parts_same (tree.word w.value) ∙ ap (λ (w : Word). parts_of (tree.word w)) (sym hw))
    ∙ sym (h bs g f e.env p)

pub fields_taken : (f : PendingFields) (pl : Place) (k : Next) (e : Shell) (x : Expanded) (fs more : List Text) (p : ℕ) → fs ≡ f.fields ++ more → more ≡ fields_of x → aimed (aim.Fields f) pl k x e p ≡ fielding (record f { fields = fs }) pl k e p
fields_taken f pl k e x fs more p hf hm =
    ap (λ (xs : List Text). expand_words (words_from f.words.value f.at) xs pl (then_means f.then pl k) k e p) (ap (λ (ys : List Text). f.fields ++ ys) (sym hm) ∙ sym hf)

-- a value alone counts, but for words that give fields
abbrev pub IsValued : Aim → Type 0
IsValued (aim.Fields f) = ⊥
IsValued (aim.Operand o) = Unit {0}
IsValued (aim.Value v) = Unit {0}
IsValued (aim.Subject is) = Unit {0}
IsValued (aim.Pattern c) = Unit {0}

pub same_value : (u : Aim) (x : Expanded) (v : Text) (pl : Place) (k : Next) (e : Shell) (p : ℕ) → IsValued u → v ≡ value_of x → aimed u pl k x e p ≡ aimed u pl k (Value v) e p
same_value (aim.Fields f) x v pl k e p valued h = absurd valued
same_value (aim.Operand o) x v pl k e p valued h = ap (λ (t : Text). redirect_to o.kind o.descriptor t (making o.left pl k) (when_refused o.left pl k) e p) (sym h)
same_value (aim.Value a) x v pl k e p valued h = ap (λ (t : Text). assigns a.left.exported a.name t (assigning a.left pl k) k e p) (sym h)
same_value (aim.Subject is) x v pl k e p valued h = ap (λ (t : Text). case_items (items_from is.value 0) t pl k e p) (sym h)
same_value (aim.Pattern c) x v pl k e p valued h =
    ap (λ (t : Text). (if is_matched t c.value then case_body (items_from c.items.value c.at) pl e k else casing c c.pattern pl k e) p) (sym h)
