-- A substitution's body, above a frame for its word.
use Rattle.std.proofs.Common.{rules, ◌≡◌, ℕ, ◌-◌, [], map, Some, None, refl, sym, ap, ◌∙◌}
use Rattle.std.specs.declared.rc.Rc.{Rc}
use Rattle.std.specs.declared.alloc.Global.{Global}
use Rattle.std.specs.Global.{Box}
use Rattle.rk_calls.specs.declared.answer.Answer.{Answer}
use Rattle.rk_calls.specs.declared.answer.Answer.TheVariants.{Go}
use Rattle.sh_ast.specs.Commands as tree
use Rattle.sh_ast.specs.Lists.{body_at as body_of_number, body_in}
use Rattle.sh_ast.specs.declared.command.Command.TheFolds.{the_lemmas}
use Rattle.sh_ast.specs.declared.command.CommandList.{CommandList, out-CommandList}
use Rattle.sh_ast.specs.declared.command.Word.{Word}
use Rattle.sh_vars.specs.declared.env.Env.{Env}
use Rattle.sh_expand.specs.declared.expander.Expander.{Expander}
use Rattle.sh_expand.specs.declared.expander.Expanding.{Expanding}
use Rattle.sh_expand.specs.declared.expander.Expanding.TheVariants.{Body as Wants_body}
use Rattle.sh_expand.specs.Expands.{Body, Failed}
use Rattle.sh_expand.specs.Means.{With_expanded}
use Rattle.sh_expand.specs.Turns.{expander_says, after_turn}
use Rattle.sh_means.specs.declared.control.Control.TheVariants as control
use Rattle.sh_means.specs.declared.control.Undo.TheVariants as undo
use Rattle.sh_means.specs.declared.control.PendingWord.{PendingWord}
use Rattle.sh_means.specs.declared.state.SavedState.{SavedState}
use Rattle.sh_means.specs.Eval.{word_in, bodies_in, whole_in}
use Rattle.sh_means.specs.Flows.{Next, Means}
use Rattle.sh_means.specs.Run.{run}
use Rattle.sh_means.specs.Stack.{aimed, wording, undone, resumed, whole}
use Rattle.sh_means.specs.State.{Shell, with_env, with_slot, back}
use Rattle.sh_means.specs.Views.{back_to}
use Rattle.sh_means.specs.Words.{body_at, bodies_at, in_subshell, faults}
use Rattle.sh_means.proofs.Places.{body_some, body_none}

pub sub_entered : (w : Box PendingWord) (i : ℕ) (body : Rc CommandList Global) (saved : Box SavedState) (E : Shell) (k k' : Next) (p : ℕ) → body_at (word_in run (tree.word w.value.word.value)).bodies i ≡ whole body.value → ((e : Shell) → back_to saved.value e ≡ back E e) → k' ≡ undone (undo.Substitution w saved) k → in_subshell (body_at (word_in run (tree.word w.value.word.value)).bodies i) w.value.place E E.env (λ env. wording w.value k Go (with_env env E)) p ≡ resumed (control.Whole w.value.place body) k' Go (with_slot 1 (Some (E.env.next - 1)) E) p
sub_entered w i body saved E k k' p hb hs hk =
    ap (λ (m : Means). in_subshell m w.value.place E E.env (λ env. wording w.value k Go (with_env env E)) p) hb
    ∙ ap (λ (g : Shell → Shell). whole body.value w.value.place (with_slot 1 (Some (E.env.next - 1)) E) (λ f e. wording w.value k Go (g e)) p) (λ i e. sym (hs e) i)
    ∙ ap (λ (k : Next). whole body.value w.value.place (with_slot 1 (Some (E.env.next - 1)) E) k p) (sym hk)

bodies : tree.WordTree → tree.BodiesTree
bodies (tree.word_of ps bs) = bs

word_bodies : (t : tree.WordTree) (i : ℕ) → body_of_number t i ≡ body_in (bodies t) i
unfolding bodies
word_bodies (tree.word_of ps bs) i = refl

meant_bodies : (t : tree.WordTree) (i : ℕ) → body_at (word_in run t).bodies i ≡ body_at (bodies_in run (bodies t)) i
unfolding bodies
meant_bodies (tree.word_of ps bs) i = refl

commands_is : (l : CommandList) → tree.commands l ≡ tree.commands_of (map tree.command (out-CommandList l).items.items)
commands_is l = search (rules, the_lemmas)

pub body_is : (w : Word) (i : ℕ) (b : CommandList) (b' : Rc CommandList Global) → Some (tree.commands b) ≡ body_of_number (tree.word w) i → b'.value ≡ b → body_at (word_in run (tree.word w)).bodies i ≡ whole b'.value
body_is w i b b' h hb =
    meant_bodies (tree.word w) i ∙ body_some (bodies (tree.word w)) i (tree.commands b) (h ∙ word_bodies (tree.word w) i) ∙ ap whole (sym hb)

pub body_missing : (w : Word) (i : ℕ) (b : Rc CommandList Global) → None ≡ body_of_number (tree.word w) i → (out-CommandList b.value).items.items ≡ [] → body_at (word_in run (tree.word w)).bodies i ≡ whole b.value
body_missing w i b h hb =
    meant_bodies (tree.word w) i ∙ body_none (bodies (tree.word w)) i (h ∙ word_bodies (tree.word w) i)
    ∙ ap (whole_in run) (sym (commands_is b.value ∙ ap (λ cs. tree.commands_of (map tree.command cs)) hb))

-- an expander's turn, whose owner is behind a pointer
pub word_stepped : (w w0 : PendingWord) (x' : Expander) (a : Answer) (E : Shell) (env' : Env) (k : Next) (p : ℕ) (t t' : Expanding) → w0 ≡ w → ((body : ℕ → Body) (k : With_expanded) (fail : Failed) (p : ℕ) → expander_says w0.expander a body k fail E.env p ≡ after_turn t x' body k fail env' p) → t ≡ t' → wording w k a E p ≡ after_turn t' x' (bodies_at (word_in run (tree.word w0.word.value)).bodies w0.place E) (λ x env. aimed w0.aim w0.place k x (with_env env E)) (λ parameter message env. faults parameter message k (with_env env E)) env' p
word_stepped w w0 x' a E env' k p t t' hw h ht =
    let bs : ℕ → Body = bodies_at (word_in run (tree.word w0.word.value)).bodies w0.place E in
    let u : With_expanded = λ x env. aimed w0.aim w0.place k x (with_env env E) in
    let f : Failed = λ parameter message env. faults parameter message k (with_env env E) in
    ap (λ (w : PendingWord). wording w k a E p) (sym hw) ∙ h bs u f p ∙ ap (λ (t : Expanding). after_turn t x' bs u f env' p) ht

-- an expander asks for a body
pub body_stepped : (w : PendingWord) (x' : Expander) (a : Answer) (E : Shell) (env' : Env) (i : ℕ) (k : Next) (p : ℕ) (t : Expanding) → ((body : ℕ → Body) (k : With_expanded) (fail : Failed) (p : ℕ) → expander_says w.expander a body k fail E.env p ≡ after_turn t x' body k fail env' p) → t ≡ Wants_body i → wording w k a E p ≡ in_subshell (body_at (word_in run (tree.word w.word.value)).bodies i) w.place (with_env env' E) env' (λ env. wording (record w { expander = x' }) k Go (with_env env (with_env env' E))) p
body_stepped w x' a E env' i k p t h e =
    let bs : ℕ → Body = bodies_at (word_in run (tree.word w.word.value)).bodies w.place E in
    let u : With_expanded = λ x env. aimed w.aim w.place k x (with_env env E) in
    let f : Failed = λ parameter message env. faults parameter message k (with_env env E) in
    h bs u f p ∙ ap (λ (t : Expanding). after_turn t x' bs u f env' p) e
