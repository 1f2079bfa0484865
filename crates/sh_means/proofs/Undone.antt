-- What is undone after a command, and states that come back.
use Rattle.std.proofs.Common.{◌≡◌, ℕ, true, Some, None, List, sym, ap, ◌∙◌}
use Rattle.std.specs.declared.rc.Rc.{Rc}
use Rattle.std.specs.declared.alloc.Global.{Global}
use Rattle.std.specs.Global.{Box}
use Rattle.rk_base.specs.Text.{Text}
use Rattle.rk_calls.specs.declared.answer.Answer.TheVariants.{Go}
use Rattle.sh_ast.specs.Commands as tree
use Rattle.sh_ast.specs.Lists.{assignment_at, redirect_at}
use Rattle.sh_ast.specs.declared.command.Assignments.{Assignments}
use Rattle.sh_ast.specs.declared.command.CommandList.{CommandList}
use Rattle.sh_ast.specs.declared.command.Redirects.{Redirects}
use Rattle.sh_vars.specs.Held.{Held}
use Rattle.sh_redirect.specs.declared.descriptors.DescriptorTable.{DescriptorTable}
use Rattle.sh_redirect.specs.DescriptorTable.{put_back}
use Rattle.sh_means.specs.declared.control.Continuation.TheVariants as continuation
use Rattle.sh_means.specs.declared.control.Control.TheVariants as control
use Rattle.sh_means.specs.declared.control.CompoundStep.TheVariants as compound_step
use Rattle.sh_means.specs.declared.control.Undo.TheVariants as undo
use Rattle.sh_means.specs.declared.control.PendingWord.{PendingWord}
use Rattle.sh_means.specs.declared.flow.Flow.{Flow}
use Rattle.sh_means.specs.declared.flow.Flow.TheVariants.{Normal}
use Rattle.sh_means.specs.declared.flow.Place.{Place}
use Rattle.sh_means.specs.declared.state.SavedState.{SavedState}
use Rattle.sh_means.specs.Compound.{stages_mean}
use Rattle.sh_means.specs.Flows.{Next, returned}
use Rattle.sh_means.specs.Simple.{for_its_time}
use Rattle.sh_means.specs.Stack.{redirects_from, assigns_from, commands_from, continued, undone, wording, resumed}
use Rattle.sh_means.specs.State.{Shell, with_held, with_status, put_back_variables}
use Rattle.sh_means.specs.Views.{back_to}
use Rattle.sh_means.specs.Words.{AssignMeant, RedirectMeant, named, names, unredirected}
use Rattle.sh_means.proofs.Places.{assigns_none, redirects_none}

pub descriptors_back : (rs : Rc Redirects Global) (d : Redirects) (before : Rc DescriptorTable Global) (ds : DescriptorTable) (k : Next) (f : Flow) (e : Shell) (p : ℕ) → d ≡ rs.value → ds ≡ put_back (named (redirects_from d 0)) before.value e.descriptors → undone (undo.Redirected rs before) k f e p ≡ k f (record e { descriptors = ds }) p
descriptors_back rs d before ds k f e p hd h =
    ap (λ (r : Redirects). k f (record e { descriptors = put_back (named (redirects_from r 0)) before.value e.descriptors }) p) (sym hd)
    ∙ ap (λ (ds : DescriptorTable). k f (record e { descriptors = ds }) p) (sym h)

pub variables_back : (as' : Rc Assignments Global) (d : Assignments) (before held : Held) (k : Next) (f : Flow) (e : Shell) (p : ℕ) → d ≡ as'.value → held ≡ put_back_variables (names (assigns_from d 0)) before e.env.vars → undone (undo.Assigned as' before) k f e p ≡ k f (with_held held e) p
variables_back as' d before held k f e p hd h =
    ap (λ (a : Assignments). k f (with_held (put_back_variables (names (assigns_from a 0)) before e.env.vars) e) p) (sym hd)
    ∙ ap (λ (held : Held). k f (with_held held e) p) (sym h)

pub positional_back : (positional : List Text) (held : Held) (k : Next) (f : Flow) (e : Shell) (p : ℕ) → held ≡ record e.env.vars { positional = positional } → undone (undo.Function positional) k f e p ≡ returned k f (with_held held e) p
positional_back positional held k f e p h = ap (λ (held : Held). returned k f (with_held held e) p) (sym h)

pub shell_back : (saved : Box SavedState) (k : Next) (f : Flow) (e e' : Shell) (p : ℕ) → e' ≡ back_to saved.value e → undone (undo.Subshell saved) k f e p ≡ k Normal e' p
shell_back saved k f e e' p h = ap (λ (x : Shell). k Normal x p) (sym h)

pub word_back : (w : Box PendingWord) (saved : Box SavedState) (k : Next) (f : Flow) (e e' : Shell) (p : ℕ) → e' ≡ back_to saved.value e → undone (undo.Substitution w saved) k f e p ≡ wording w.value k Go e' p
word_back w saved k f e e' p h = ap (λ (x : Shell). wording w.value k Go x p) (sym h)

pub stage_back : (pl : Place) (l : Rc CommandList Global) (at n status : ℕ) (saved : Box SavedState) (k : Next) (f : Flow) (e e' : Shell) (p : ℕ) → e' ≡ back_to saved.value e → continued (continuation.Stage pl l at n status saved) k f e p ≡ resumed (control.CompoundStep (compound_step.Stages pl l at (Some n))) k Go (with_status status e') p
stage_back pl l at n status saved k f e e' p h = ap (λ (x : Shell). stages_mean (Some n) (commands_from l.value at) pl k (with_status status x) p) (sym h)

-- Descriptors are put back where there are redirections.

pub map_kept : (rs0 d : Redirects) (before : DescriptorTable) (k : Next) → d ≡ rs0 → None ≡ redirect_at (tree.redirects d) 0 → k ≡ unredirected (named (redirects_from rs0 0)) before k
map_kept rs0 d before k hd h =
    ap (λ (ms : List RedirectMeant). unredirected (named ms) before k) (sym (redirects_none (tree.redirects d) 0 h))
    ∙ ap (λ (d : Redirects). unredirected (named (redirects_from d 0)) before k) hd

-- Variables are put back after a time, where there are assignments.

pub time_over : (as0 d : Assignments) (before : Held) (k : Next) → d ≡ as0 → None ≡ assignment_at (tree.assignments d) 0 → k ≡ for_its_time true (names (assigns_from as0 0)) before k
time_over as0 d before k hd h =
    ap (λ (ms : List AssignMeant). for_its_time true (names ms) before k) (sym (assigns_none (tree.assignments d) 0 h))
    ∙ ap (λ (d : Assignments). for_its_time true (names (assigns_from d 0)) before k) hd

pub time_kept : (as0 : Assignments) (as' : Rc Assignments Global) (before saved : Held) (k k' : Next) → as'.value ≡ as0 → saved ≡ before → k' ≡ undone (undo.Assigned as' saved) k → k' ≡ for_its_time true (names (assigns_from as0 0)) before k
time_kept as0 as' before saved k k' ha hs hk =
    hk
    ∙ ap (λ (h : Held). undone (undo.Assigned as' h) k) hs
    ∙ ap (λ (a : Assignments). for_its_time true (names (assigns_from a 0)) before k) ha
