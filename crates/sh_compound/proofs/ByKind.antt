-- Compound commands, by their kinds.
use Rattle.std.proofs.Common.{◌≡◌, ℕ, ◌+◌, ◌<◌, ◌≤◌, Bool, true, false, not, List, [], ◌∷◌, length, drop, get_or, if◌then◌else◌, Option, Some, None, codes, refl, sym, ap, subst, ◌∙◌, add-one, drop-cons}
use Rattle.std.proofs.lemmas.List.{drop_all}
use Rattle.std.specs.declared.rc.Rc.{Rc}
use Rattle.std.specs.declared.alloc.Global.{Global}
use Rattle.std.specs.Global.{Box}
use Rattle.std.specs.List.{slice_get}
use Rattle.rk_base.specs.Text.{Text}
use Rattle.rk_calls.specs.Lines.{error_line}
use Rattle.rk_calls.specs.Talk.{pay}
use Rattle.sh_ast.specs.Commands as tree
use Rattle.sh_ast.specs.declared.command.Branches.{Branches}
use Rattle.sh_ast.specs.declared.command.CaseItems.{CaseItems}
use Rattle.sh_ast.specs.declared.command.CommandList.{CommandList}
use Rattle.sh_ast.specs.declared.command.LoopKind.{LoopKind}
use Rattle.sh_ast.specs.declared.command.Word.{Word}
use Rattle.sh_ast.specs.declared.command.Words.{Words}
use Rattle.sh_vars.specs.Held.{is_readonly}
use Rattle.sh_means.specs.declared.control.Continuation.TheVariants as continuation
use Rattle.sh_means.specs.declared.control.Each.{Each}
use Rattle.sh_means.specs.declared.control.Then.TheVariants as then
use Rattle.sh_means.specs.declared.control.Undo.TheVariants as undo
use Rattle.sh_means.specs.declared.flow.Flow.TheVariants.{Normal, Exits}
use Rattle.sh_means.specs.declared.flow.Place.{Place}
use Rattle.sh_means.specs.declared.state.SavedState.{SavedState}
use Rattle.sh_means.specs.Compound.{subshell_means, if_means, for_each, for_fields, for_means, case_means}
use Rattle.sh_means.specs.Eval.{for_in, items_in, word_in, is_until}
use Rattle.sh_means.specs.Flows.{Next, Go_on, ends, tells, sh}
use Rattle.sh_means.specs.Run.{run}
use Rattle.sh_means.specs.Simple.{Round}
use Rattle.sh_means.specs.Stack.{branches_from, fielding, whole, each_body, giving_to, giving, continued, undone}
use Rattle.sh_means.specs.State.{Shell, back}
use Rattle.sh_means.specs.Trees.{for_words_of, given_if}
use Rattle.sh_means.specs.Views.{back_to}
use Rattle.sh_means.specs.Words.{assigns}
use Rattle.sh_compound.proofs.Branching.{get_drop, get_none}

pub subshell_entered : (l0 : CommandList) (l : Rc CommandList Global) (saved : Box SavedState) (pl : Place) (k k1 k2 : Next) (e : Shell) (p : ℕ) → l.value ≡ l0 → ((x : Shell) → back_to saved.value x ≡ back e x) → k1 ≡ continued (continuation.Watch pl) k → k2 ≡ undone (undo.Subshell saved) k1 → subshell_means (whole l0) pl e k p ≡ whole l.value pl e k2 p
subshell_entered l0 l saved pl k k1 k2 e p hl hs h1 h2 =
    ap (λ (c : CommandList). whole c pl e (λ f x. continued (continuation.Watch pl) k Normal (back e x)) p) (sym hl)
    ∙ ap (λ (K : Next). whole l.value pl e (λ f x. K Normal (back e x)) p) (sym h1)
    ∙ ap (λ (g : Shell → Shell). whole l.value pl e (λ f x. k1 Normal (g x)) p) (λ i x. sym (hs x) i)
    ∙ ap (λ (K : Next). whole l.value pl e K p) (sym h2)

pub group_entered : (l0 : CommandList) (l : Rc CommandList Global) (pl : Place) (k : Next) (e : Shell) (p : ℕ) → l.value ≡ l0 → whole l0 pl e k p ≡ whole l.value pl e k p
group_entered l0 l pl k e p h = ap (λ (c : CommandList). whole c pl e k p) (sym h)

pub if_entered : (bs0 : Branches) (bs : Rc Branches Global) (o0 : CommandList) (o : Rc CommandList Global) (pl : Place) (k : Next) (e : Shell) (p : ℕ) → bs.value ≡ bs0 → o.value ≡ o0 → if_means (branches_from bs0 0) (whole o0) pl e k p ≡ if_means (branches_from bs.value 0) (whole o.value) pl e k p
if_entered bs0 bs o0 o pl k e p hb ho =
    ap (λ (b : Branches). if_means (branches_from b 0) (whole o0) pl e k p) (sym hb)
    ∙ ap (λ (l : CommandList). if_means (branches_from bs.value 0) (whole l) pl e k p) (sym ho)

pub case_begun : (w0 : Word) (w : Rc Word Global) (is0 : CaseItems) (is : Rc CaseItems Global) (pl : Place) (k : Next) (e : Shell) (p : ℕ) → w.value ≡ w0 → is.value ≡ is0 → case_means (word_in run (tree.word w0)) (items_in run (tree.case_items is0)) pl e k p ≡ case_means (word_in run (tree.word w.value)) (items_in run (tree.case_items is.value)) pl e k p
case_begun w0 w is0 is pl k e p hw hi =
    ap (λ (w : Word). case_means (word_in run (tree.word w)) (items_in run (tree.case_items is0)) pl e k p) (sym hw)
    ∙ ap (λ (is : CaseItems). case_means (word_in run (tree.word w.value)) (items_in run (tree.case_items is)) pl e k p) (sym hi)

pub loop_begun : (kind : LoopKind) (c0 b0 : CommandList) (c b : Rc CommandList Global) (pl : Place) (k : Next) (e : Shell) (p : ℕ) → c.value ≡ c0 → b.value ≡ b0 → run (Round 0 (is_until kind) (tree.commands c0) (tree.commands b0)) pl e k p ≡ run (Round 0 (is_until kind) (tree.commands c.value) (tree.commands b.value)) pl e k p
loop_begun kind c0 b0 c b pl k e p hc hb =
    ap (λ (l : CommandList). run (Round 0 (is_until kind) (tree.commands l) (tree.commands b0)) pl e k p) (sym hc)
    ∙ ap (λ (l : CommandList). run (Round 0 (is_until kind) (tree.commands c.value) (tree.commands l)) pl e k p) (sym hb)

-- `for`.

pub for_parameters : (o : Option (Rc Words Global)) (name0 name : Text) (fields : List Text) (b0 : CommandList) (b : Rc CommandList Global) (pl : Place) (k : Next) (e : Shell) (p : ℕ) → o ≡ None → name ≡ name0 → fields ≡ e.env.vars.positional → b.value ≡ b0 → for_means name0 (for_in run (for_words_of o)) (whole b0) pl e k p ≡ for_fields name fields (whole b.value) pl k e p
for_parameters o name0 name fields b0 b pl k e p ho hn hf hb =
    ap (λ (o : Option (Rc Words Global)). for_means name0 (for_in run (for_words_of o)) (whole b0) pl e k p) ho
    ∙ ap (λ (n : Text). for_fields n e.env.vars.positional (whole b0) pl k e p) (sym hn)
    ∙ ap (λ (fs : List Text). for_fields name fs (whole b0) pl k e p) (sym hf)
    ∙ ap (λ (l : CommandList). for_fields name fields (whole l) pl k e p) (sym hb)

pub for_words : (o : Option (Rc Words Global)) (ws0 ws : Rc Words Global) (name0 name : Text) (fields : List Text) (b0 : CommandList) (b : Rc CommandList Global) (pl : Place) (k : Next) (e : Shell) (p : ℕ) → o ≡ Some ws0 → ws.value ≡ ws0.value → name ≡ name0 → fields ≡ [] → b.value ≡ b0 → for_means name0 (for_in run (for_words_of o)) (whole b0) pl e k p ≡ fielding (record { words = ws; at = 0; fields = fields; then = then.For name b }) pl k e p
for_words o ws0 ws name0 name fields b0 b pl k e p ho hw hn hf hb =
    ap (λ (o : Option (Rc Words Global)). for_means name0 (for_in run (for_words_of o)) (whole b0) pl e k p) ho
    ∙ ap (λ (w : Words). for_means name0 (for_in run (tree.in_words (tree.words w))) (whole b0) pl e k p) (sym hw)
    ∙ ap (λ (n : Text). for_means n (for_in run (tree.in_words (tree.words ws.value))) (whole b0) pl e k p) (sym hn)
    ∙ ap (λ (l : CommandList). for_means name (for_in run (tree.in_words (tree.words ws.value))) (whole l) pl e k p) (sym hb)
    ∙ ap (λ (fs : List Text). fielding (record { words = ws; at = 0; fields = fs; then = then.For name b }) pl k e p) (sym hf)

-- a field is paid for
paid_each : (each : Each) (f : Text) (pl : Place) (k : Next) (e : Shell) (p : ℕ) → drop each.at each.fields ≡ f ∷ drop (each.at + 1) each.fields → for_each each.name (drop each.at each.fields) (whole each.body.value) pl k e p ≡ pay 1 (giving each pl k e) p
paid_each each f pl k e p split =
    ap (λ (fs : List Text). for_each each.name fs (whole each.body.value) pl k e p) split
    ∙ ap (λ (fs : List Text). pay 1 (giving_to fs each pl k e) p) (sym split)

pub each_paid : (each : Each) (pl : Place) (k : Next) (e : Shell) (p : ℕ) → each.at < length each.fields → for_each each.name (drop each.at each.fields) (whole each.body.value) pl k e p ≡ pay 1 (giving each pl k e) p
each_paid each pl k e p h =
    let f = get_or each.fields each.at [] in
    paid_each each f pl k e p (drop-cons each.fields each.at [] h ∙ ap (λ n. f ∷ drop n each.fields) (sym (add-one each.at)))

pub each_over : (each : Each) (pl : Place) (k : Next) (e : Shell) (p : ℕ) → length each.fields ≤ each.at → for_each each.name (drop each.at each.fields) (whole each.body.value) pl k e p ≡ k Normal e p
each_over each pl k e p h = ap (λ (fs : List Text). for_each each.name fs (whole each.body.value) pl k e p) (drop_all each.at each.fields h)

-- The variable of a `for` takes a field.

pub gives_none : (each : Each) (fs : List Text) (pl : Place) (k : Next) (e : Shell) (p : ℕ) → fs ≡ each.fields → None ≡ slice_get fs each.at → giving each pl k e p ≡ k Normal e p
gives_none each fs pl k e p hs h =
    ap (λ (fs : List Text). giving_to fs each pl k e p) (get_none each.fields each.at (subst (λ (fs : List Text). None ≡ slice_get fs each.at) hs h))

given : (each : Each) (fs : List Text) (f : Text) (pl : Place) (k : Next) (e : Shell) (p : ℕ) → fs ≡ each.fields → Some f ≡ slice_get fs each.at → giving each pl k e p ≡ assigns false each.name f (each_body each pl k) k e p
given each fs f pl k e p hs h =
    ap (λ (fs : List Text). giving_to fs each pl k e p) (get_drop each.fields each.at f (subst (λ (fs : List Text). Some f ≡ slice_get fs each.at) hs h))

-- as it was answered
assigned_so : (barred done : Bool) (name f : Text) (go bar : Go_on) (e : Shell) (p : ℕ) → done ≡ not barred → (if barred then bar e else go (given_if true name f e)) p ≡ (if done then go (given_if done name f e) else bar (given_if done name f e)) p
assigned_so true true name f go bar e p h = cc
assigned_so true false name f go bar e p h = refl
assigned_so false true name f go bar e p h = refl
assigned_so false false name f go bar e p h = cc

module _ (each : Each) (fs : List Text) (f : Text) (name text : Text) (done : Bool) (pl : Place) (k : Next) (e e' : Shell) (p : ℕ) (hs : fs ≡ each.fields) (h : Some f ≡ slice_get fs each.at) (hn : name ≡ each.name) (ht : text ≡ f) (hd : done ≡ not (is_readonly e.env.vars name)) (he : e' ≡ given_if done name text e) where
  bar : Go_on
  bar e = tells (error_line sh each.name (codes "readonly")) (ends Exits 1 k) e

  so : giving each pl k e p ≡ (if done then each_body each pl k e' else bar e') p
  unfolding bar
  so =
      given each fs f pl k e p hs h
      ∙ assigned_so (is_readonly e.env.vars each.name) done each.name f (each_body each pl k) bar e p (subst (λ (n : Text). done ≡ not (is_readonly e.env.vars n)) hn hd)
      ∙ ap (λ (x : Shell). (if done then each_body each pl k x else bar x) p)
      (ap (λ (n : Text). given_if done n f e) (sym hn) ∙ ap (λ (t : Text). given_if done name t e) (sym ht) ∙ sym he)

  pub gives_taken : done ≡ true → giving each pl k e p ≡ each_body each pl k e' p
  unfolding bar
  gives_taken hb = so ∙ ap (λ (b : Bool). (if b then each_body each pl k e' else bar e') p) hb

  pub gives_barred : done ≡ false → giving each pl k e p ≡ tells (error_line sh each.name (codes "readonly")) (ends Exits 1 k) e' p
  unfolding bar
  gives_barred hb = so ∙ ap (λ (b : Bool). (if b then each_body each pl k e' else bar e') p) hb

pub told_name : (name0 name : Text) (k : Next) (e : Shell) (p : ℕ) → name ≡ name0 → tells (error_line sh name0 (codes "readonly")) (ends Exits 1 k) e p ≡ tells (error_line sh name (codes "readonly")) (ends Exits 1 k) e p
told_name name0 name k e p h = ap (λ (n : Text). tells (error_line sh n (codes "readonly")) (ends Exits 1 k) e p) (sym h)
