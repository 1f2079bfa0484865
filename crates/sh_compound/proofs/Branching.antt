-- Branches of an `if`, stages of a pipeline, and connectors of an AND-OR list.
use Rattle.std.proofs.Common.{◌≡◌, ℕ, zero, suc, ◌+◌, Bool, true, false, List, [], ◌∷◌, drop, Option, Some, None, refl, sym, ap, subst, ◌∙◌, arith}
use Rattle.std.proofs.Math.Seq.{drop-nil}
use Rattle.std.specs.declared.rc.Rc.{Rc}
use Rattle.std.specs.declared.alloc.Global.{Global}
use Rattle.std.specs.Global.{Box}
use Rattle.std.specs.List.{slice_get}
use Rattle.rk_calls.specs.declared.answer.Answer.TheVariants.{Go}
use Rattle.rk_calls.specs.declared.call.Call.TheVariants.{Pipe}
use Rattle.sh_ast.specs.Commands as tree
use Rattle.sh_ast.specs.Lists.{command_at, branch_at}
use Rattle.sh_ast.specs.declared.command.Branch.{Branch, out-Branch}
use Rattle.sh_ast.specs.declared.command.Branches.{Branches}
use Rattle.sh_ast.specs.declared.command.CommandList.{CommandList}
use Rattle.sh_ast.specs.declared.command.Connector.{Connector}
use Rattle.sh_ast.specs.declared.command.Connectors.{Connectors}
use Rattle.sh_vars.specs.Numbers.{number_after}
use Rattle.sh_means.specs.declared.control.Continuation.TheVariants as continuation
use Rattle.sh_means.specs.declared.control.Control.TheVariants as control
use Rattle.sh_means.specs.declared.control.Undo.TheVariants as undo
use Rattle.sh_means.specs.declared.control.Wait.TheVariants as wait
use Rattle.sh_means.specs.declared.flow.Flow.TheVariants.{Normal}
use Rattle.sh_means.specs.declared.flow.Place.{Place}
use Rattle.sh_means.specs.declared.state.SavedState.{SavedState}
use Rattle.sh_means.specs.Compound.{BranchMeant, if_means, stages_mean, with_input, links_mean, takes}
use Rattle.sh_means.specs.Eval.{command_in, commands_in}
use Rattle.sh_means.specs.Flows.{Next, Go_on, Means, asks, and_then, by_status, ignoring}
use Rattle.sh_compound.specs.Leaving.{linked}
use Rattle.sh_means.specs.Run.{run}
use Rattle.sh_means.specs.Stack.{branches_from, commands_from, first_of, whole, continued, undone, waiting, resumed}
use Rattle.sh_means.specs.State.{Shell, with_slot, with_status, back, past_stage}
use Rattle.sh_means.specs.Views.{back_to}
use Rattle.sh_means.proofs.Folding.{branch_is}
use Rattle.sh_means.proofs.Places.{branches_some, branches_none, branch_meant, commands_some, commands_none}

pub if_begun : (bs rest : Rc Branches Global) (d : Branches) (x : Branch) (c b o : Rc CommandList Global) (at : ℕ) (pl : Place) (k k' : Next) (e : Shell) (p : ℕ) → d ≡ bs.value → Some (tree.branch x) ≡ branch_at (tree.branches d) at → rest.value ≡ bs.value → c.value ≡ (out-Branch x).condition.value → b.value ≡ (out-Branch x).body.value → k' ≡ continued (continuation.Choose pl b (record { branches = rest; at = at + 1; otherwise = o })) k → if_means (branches_from bs.value at) (whole o.value) pl e k p ≡ whole c.value (ignoring pl) e k' p
if_begun bs rest d x c b o at pl k k' e p hd is hr hc hb hk =
    let go : Branches → CommandList → Next = λ R B. and_then (λ e. by_status e.env.status (λ e. whole B pl e k) (λ e. if_means (branches_from R (at + 1)) (whole o.value) pl e k) e) k in
    ap (λ (L : List BranchMeant). if_means L (whole o.value) pl e k p) (branches_some (tree.branches bs.value) at (tree.branch x) (subst (λ (d : Branches). Some (tree.branch x) ≡ branch_at (tree.branches d) at) hd is) ∙ ap (λ (t : tree.BranchTree). branch_meant t ∷ branches_from bs.value (at + 1)) (branch_is x))
    ∙ ap (λ (C : CommandList). whole C (ignoring pl) e (go bs.value (out-Branch x).body.value) p) (sym hc)
    ∙ ap (λ (B : CommandList). whole c.value (ignoring pl) e (go bs.value B) p) (sym hb)
    ∙ ap (λ (R : Branches). whole c.value (ignoring pl) e (go R b.value) p) (sym hr)
    ∙ ap (λ (k : Next). whole c.value (ignoring pl) e k p) (sym hk)

pub if_over : (bs : Branches) (d : Branches) (o : CommandList) (at : ℕ) (pl : Place) (k : Next) (e : Shell) (p : ℕ) → d ≡ bs → None ≡ branch_at (tree.branches d) at → if_means (branches_from bs at) (whole o) pl e k p ≡ whole o pl e k p
if_over bs d o at pl k e p hd is =
    ap (λ (L : List BranchMeant). if_means L (whole o) pl e k p) (branches_none (tree.branches bs) at (subst (λ (d : Branches). None ≡ branch_at (tree.branches d) at) hd is))

-- what was found in a list, by another name of it
pub found : (l d : CommandList) (o : Option tree.CommandTree) (m n : ℕ) → d ≡ l → n ≡ m → o ≡ command_at (tree.commands d) n → o ≡ command_at (tree.commands l) m
found l d o m n hd hn h = h ∙ ap (λ (d : CommandList). command_at (tree.commands d) n) hd ∙ ap (λ (n : ℕ). command_at (tree.commands l) n) hn

-- Stages.

pub stages_over : (l d : CommandList) (at : ℕ) (input : Option ℕ) (pl : Place) (k : Next) (e : Shell) (p : ℕ) → d ≡ l → None ≡ command_at (tree.commands d) at → stages_mean input (commands_from l at) pl k e p ≡ k Normal e p
stages_over l d at input pl k e p hd is =
    ap (λ (L : List Means). stages_mean input L pl k e p) (commands_none (tree.commands l) at (subst (λ (d : CommandList). None ≡ command_at (tree.commands d) at) hd is))

waits_on : List Means → List Means → Place → Option ℕ → ℕ → Next → Go_on
waits_on L R pl input n k e = first_of L pl (with_slot 1 (Some (number_after n)) (with_input input e)) (λ f e'. stages_mean (Some n) R pl k (past_stage e e'))

pub stage_more : (l : Rc CommandList Global) (t u : tree.CommandTree) (at : ℕ) (input : Option ℕ) (pl : Place) (k : Next) (e : Shell) (p : ℕ) → Some t ≡ command_at (tree.commands l.value) at → Some u ≡ command_at (tree.commands l.value) (at + 1) → stages_mean input (commands_from l.value at) pl k e p ≡ asks Pipe 1 (λ a. waiting (wait.Stage pl (record { list = l; at = at; next = at + 1; input = input; read_end = e.env.next })) k a) e p
unfolding waits_on
stage_more l t u at input pl k e p ht hu =
    let cs = tree.commands l.value in
    let h1 = commands_some cs at t ht in
    let h2 = commands_some cs (at + 1) u hu in
    let R : List Means = command_in run u ∷ drop (at + 1 + 1) (commands_in run cs) in
    ap (λ (L : List Means). stages_mean input L pl k e p) (h1 ∙ ap (λ (L : List Means). command_in run t ∷ L) h2)
    ∙ ap (λ (L : List Means). asks Pipe 1 (λ a. waits_on (command_in run t ∷ L) L pl input e.env.next k) e p) (sym h2)
    ∙ ap (λ (L : List Means). asks Pipe 1 (λ a. waits_on L (commands_from l.value (at + 1)) pl input e.env.next k) e p) (sym h1)

pub stage_last : (l : Rc CommandList Global) (t : tree.CommandTree) (at : ℕ) (saved : Box SavedState) (input : Option ℕ) (pl : Place) (k k' : Next) (e e' : Shell) (p : ℕ) → Some t ≡ command_at (tree.commands l.value) at → None ≡ command_at (tree.commands l.value) (at + 1) → ((x : Shell) → back_to saved.value x ≡ back e x) → k' ≡ undone (undo.Subshell saved) k → e' ≡ with_input input e → stages_mean input (commands_from l.value at) pl k e p ≡ resumed (control.One pl l at) k' Go e' p
stage_last l t at saved input pl k k' e e' p ht hn hs hk he =
    let cs = tree.commands l.value in
    let h1 = commands_some cs at t ht in
    ap (λ (L : List Means). stages_mean input L pl k e p) (h1 ∙ ap (λ (L : List Means). command_in run t ∷ L) (commands_none cs (at + 1) hn))
    ∙ ap (λ (g : Shell → Shell). command_in run t pl (with_input input e) (λ f x. k Normal (g x)) p) (λ i x. sym (hs x) i)
    ∙ ap (λ (k : Next). command_in run t pl (with_input input e) k p) (sym hk)
    ∙ ap (λ (x : Shell). command_in run t pl x k' p) (sym he)
    ∙ ap (λ (L : List Means). first_of L pl e' k' p) (sym h1)

-- a stage begins, above a frame for those behind it
pub stage_begun : (l rest : Rc CommandList Global) (at j : ℕ) (saved : Box SavedState) (input : Option ℕ) (n w : ℕ) (pl : Place) (k k' : Next) (e e1 e' : Shell) (p : ℕ) → rest.value ≡ l.value → ((x : Shell) → back_to saved.value x ≡ back e x) → w ≡ number_after n → k' ≡ continued (continuation.Stage pl rest j n e.env.status saved) k → e1 ≡ with_input input e → e' ≡ with_slot 1 (Some w) e1 → first_of (commands_from l.value at) pl (with_slot 1 (Some (number_after n)) (with_input input e)) (λ f x. stages_mean (Some n) (commands_from l.value j) pl k (past_stage e x)) p ≡ first_of (commands_from l.value at) pl e' k' p
stage_begun l rest at j saved input n w pl k k' e e1 e' p hr hs hw hk h1 he =
    let ms = commands_from l.value at in
    let e0 = with_slot 1 (Some (number_after n)) (with_input input e) in
    ap (λ (r : CommandList). first_of ms pl e0 (λ f x. stages_mean (Some n) (commands_from r j) pl k (past_stage e x)) p) (sym hr)
    ∙ ap (λ (g : Shell → Shell). first_of ms pl e0 (λ f x. stages_mean (Some n) (commands_from rest.value j) pl k (with_status e.env.status (g x))) p) (λ i x. sym (hs x) i)
    ∙ ap (λ (k : Next). first_of ms pl e0 k p) (sym hk)
    ∙ ap (λ (m : ℕ). first_of ms pl (with_slot 1 (Some m) (with_input input e)) k' p) (sym hw)
    ∙ ap (λ (x : Shell). first_of ms pl (with_slot 1 (Some w) x) k' p) (sym h1)
    ∙ ap (λ (x : Shell). first_of ms pl x k' p) (sym he)

-- Connectors.

pub get_drop : {A : Type 0} (os : List A) (at : ℕ) (c : A) → Some c ≡ slice_get os at → drop at os ≡ c ∷ drop (at + 1) os
get_drop [] zero c h = cc
get_drop [] (suc at) c h = cc
get_drop {A = A} (o ∷ os) zero c h = let e : c ≡ o = cc in ap (λ (x : A). x ∷ os) (sym e)
get_drop (o ∷ os) (suc at) c h = let e : suc (at + 1) ≡ suc at + 1 = omega arith in get_drop os at c h ∙ ap (λ n. c ∷ drop n (o ∷ os)) e

pub get_none : {A : Type 0} (os : List A) (at : ℕ) → None ≡ slice_get os at → drop at os ≡ []
get_none [] zero h = refl
get_none [] (suc at) h = refl
get_none (o ∷ os) zero h = cc
get_none (o ∷ os) (suc at) h = get_none os at h

links_none : (ms : List Means) (pl : Place) (k : Next) (e : Shell) (p : ℕ) → links_mean ms [] pl k e p ≡ k Normal e p
links_none [] pl k e p = refl
links_none (m ∷ ms) pl k e p = refl

pub links_over : (l : CommandList) (os : List Connector) (at : ℕ) (pl : Place) (k : Next) (e : Shell) (p : ℕ) → None ≡ slice_get os at → links_mean (commands_from l (at + 1)) (drop at os) pl k e p ≡ k Normal e p
links_over l os at pl k e p h = ap (λ (os : List Connector). links_mean (commands_from l (at + 1)) os pl k e p) (get_none os at h) ∙ links_none (commands_from l (at + 1)) pl k e p

behind : List Means → List Means
behind [] = []
behind (m ∷ ms) = ms

behind_drop : (ms : List Means) (n : ℕ) → behind (drop n ms) ≡ drop (n + 1) ms
unfolding behind
behind_drop [] zero = refl
behind_drop [] (suc n) = sym (drop-nil (suc n + 1))
behind_drop (m ∷ ms) zero = refl
behind_drop (m ∷ ms) (suc n) = let e : suc (n + 1) ≡ suc n + 1 = omega arith in behind_drop ms n ∙ ap (λ k. drop k (m ∷ ms)) e

-- what comes after the first of these, and its connector
taken_or : (ms : List Means) (c : Connector) (cs : List Connector) (b : Bool) (pl : Place) (k : Next) (e : Shell) (p : ℕ) → b ≡ takes c e.env.status → links_mean ms (c ∷ cs) pl k e p ≡ linked b ms pl (and_then (links_mean (behind ms) cs pl k) k) e p
unfolding behind
taken_or [] c cs true pl k e p h = refl
taken_or [] c cs false pl k e p h = refl
taken_or (m ∷ ms) c cs true pl k e p h = rw (sym h) refl
taken_or (m ∷ ms) c cs false pl k e p h = rw (sym h) refl

pub links_so : (l rest : Rc CommandList Global) (os later : Rc Connectors Global) (c : Connector) (at : ℕ) (b : Bool) (pl : Place) (k k' : Next) (e : Shell) (p : ℕ) → Some c ≡ slice_get os.value.items.items at → b ≡ takes c e.env.status → rest.value ≡ l.value → later.value ≡ os.value → k' ≡ continued (continuation.Links pl (record { pipelines = rest; at = at + 1; connectors = later })) k → links_mean (commands_from l.value (at + 1)) (drop at os.value.items.items) pl k e p ≡ linked b (commands_from l.value (at + 1)) pl k' e p
links_so l rest os later c at b pl k k' e p hc hb hr ho hk =
    let os' = os.value.items.items in
    let ms = commands_from l.value (at + 1) in
    ap (λ (cs : List Connector). links_mean ms cs pl k e p) (get_drop os' at c hc)
    ∙ taken_or ms c (drop (at + 1) os') b pl k e p hb
    ∙ ap (λ (L : List Means). linked b ms pl (and_then (links_mean L (drop (at + 1) os') pl k) k) e p) (behind_drop (commands_in run (tree.commands l.value)) (at + 1))
    ∙ ap (λ (r : CommandList). linked b ms pl (and_then (links_mean (commands_from r (at + 1 + 1)) (drop (at + 1) os') pl k) k) e p) (sym hr)
    ∙ ap (λ (o : Connectors). linked b ms pl (and_then (links_mean (commands_from rest.value (at + 1 + 1)) (drop (at + 1) o.items.items) pl k) k) e p) (sym ho)
    ∙ ap (λ (k : Next). linked b ms pl k e p) (sym hk)

-- the pipeline at a place, where there is another or where there isn't
pub link_more : (l d : CommandList) (t : tree.CommandTree) (at n : ℕ) (pl : Place) (k : Next) (e : Shell) (p : ℕ) → d ≡ l → n ≡ at + 1 → Some t ≡ command_at (tree.commands d) n → linked true (commands_from l at) pl k e p ≡ first_of (commands_from l at) (ignoring pl) e k p
unfolding behind
link_more l d t at n pl k e p hd hn h =
    by_rest (commands_from l at) (behind_drop (commands_in run (tree.commands l)) at ∙ commands_some (tree.commands l) (at + 1) t (h ∙ ap (λ (d : CommandList). command_at (tree.commands d) n) hd ∙ ap (λ n. command_at (tree.commands l) n) hn))
  where
    by_rest : (ms : List Means) → behind ms ≡ command_in run t ∷ drop (at + 1 + 1) (commands_in run (tree.commands l)) → linked true ms pl k e p ≡ first_of ms (ignoring pl) e k p
    by_rest [] h = cc
    by_rest (m ∷ []) h = cc
    by_rest (m ∷ n ∷ ms) h = refl

pub link_last : (l d : CommandList) (at n : ℕ) (pl : Place) (k : Next) (e : Shell) (p : ℕ) → d ≡ l → n ≡ at + 1 → None ≡ command_at (tree.commands d) n → linked true (commands_from l at) pl k e p ≡ first_of (commands_from l at) pl e k p
unfolding behind
link_last l d at n pl k e p hd hn h =
    by_rest (commands_from l at) (behind_drop (commands_in run (tree.commands l)) at ∙ commands_none (tree.commands l) (at + 1) (h ∙ ap (λ (d : CommandList). command_at (tree.commands d) n) hd ∙ ap (λ n. command_at (tree.commands l) n) hn))
  where
    by_rest : (ms : List Means) → behind ms ≡ [] → linked true ms pl k e p ≡ first_of ms pl e k p
    by_rest [] h = refl
    by_rest (m ∷ []) h = refl
    by_rest (m ∷ n ∷ ms) h = cc
