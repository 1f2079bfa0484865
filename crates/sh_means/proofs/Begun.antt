-- The next of several words, redirections and assignments.
use Rattle.std.proofs.Common.{◌≡◌, ℕ, ◌+◌, Bool, List, ◌∷◌, Some, None, sym, ap, subst, ◌∙◌}
use Rattle.std.specs.declared.rc.Rc.{Rc}
use Rattle.std.specs.declared.alloc.Global.{Global}
use Rattle.std.specs.Global.{Box}
use Rattle.rk_base.specs.Text.{Text}
use Rattle.rk_calls.specs.Talk.{Says}
use Rattle.sh_ast.specs.Commands as tree
use Rattle.sh_ast.specs.Lists.{word_at, assignment_at, redirect_at}
use Rattle.sh_ast.specs.declared.command.Assignment.{Assignment, out-Assignment}
use Rattle.sh_ast.specs.declared.command.Assignments.{Assignments}
use Rattle.sh_ast.specs.declared.command.Redirect.{Redirect, out-Redirect}
use Rattle.sh_ast.specs.declared.command.Redirects.{Redirects}
use Rattle.sh_ast.specs.declared.command.Word.{Word}
use Rattle.sh_ast.specs.declared.command.Words.{Words}
use Rattle.sh_expand.specs.declared.mode.Mode.{Mode}
use Rattle.sh_expand.specs.declared.mode.Mode.TheVariants as mode
use Rattle.sh_redirect.specs.declared.descriptors.DescriptorTable.{DescriptorTable}
use Rattle.sh_redirect.specs.declared.kind.Redirect as kind
use Rattle.sh_means.specs.declared.control.Aim.{Aim}
use Rattle.sh_means.specs.declared.control.Aim.TheVariants as aim
use Rattle.sh_means.specs.declared.control.Continuation.TheVariants as continuation
use Rattle.sh_means.specs.declared.control.PendingAssignments.{PendingAssignments}
use Rattle.sh_means.specs.declared.control.Control.{Control}
use Rattle.sh_means.specs.declared.resolved_command.ResolvedCommand.{ResolvedCommand}
use Rattle.sh_means.specs.declared.control.PendingFields.{PendingFields}
use Rattle.sh_means.specs.declared.control.Made.TheVariants as made
use Rattle.sh_means.specs.declared.control.PendingRedirects.{PendingRedirects}
use Rattle.sh_means.specs.declared.flow.Place.{Place}
use Rattle.sh_means.specs.Eval.{word_in}
use Rattle.sh_means.specs.Flows.{Next, Go_on}
use Rattle.sh_means.specs.Run.{run}
use Rattle.sh_means.specs.Simple.{works, is_plain, exports, keeps, unless_kept, for_its_time}
use Rattle.sh_means.specs.Stack.{Goes, aimed, fielding, then_means, making, redirects_from, when_made, when_refused, made_go, assigning, assigns_from, kind_of_code, continued}
use Rattle.sh_means.specs.State.{Shell}
use Rattle.sh_means.specs.Words.{WordMeant, RedirectMeant, AssignMeant, expand_word, expand_words, redirect_all, assign_all, names, redirect_kind}
use Rattle.sh_means.proofs.Folding.{assignment_is, redirect_is}
use Rattle.sh_means.proofs.Places.{words_some, words_none, assigns_some, assigns_none, redirects_some, redirects_none, assign_meant, redirect_meant}

-- expansion of a word begins
abbrev pub Begins : Mode → Word → Place → Aim → Control → Type 0
Begins m w pl u ctl = (k : Next) (e : Shell) → Goes (expand_word m (word_in run (tree.word w)) pl (aimed u pl k) k e) k e ctl

pub word_next : (f : PendingFields) (pl : Place) (k : Next) (e : Shell) (ws : Words) (w : Word) (p : ℕ) → ws ≡ f.words.value → Some (tree.word w) ≡ word_at (tree.words ws) f.at → fielding f pl k e p ≡ expand_word mode.Fields (word_in run (tree.word w)) pl (aimed (aim.Fields (record f { at = f.at + 1 })) pl k) k e p
word_next f pl k e ws w p hs is =
    let is' = subst (λ (ws : Words). Some (tree.word w) ≡ word_at (tree.words ws) f.at) hs is in
    ap (λ (ms : List WordMeant). expand_words ms f.fields pl (then_means f.then pl k) k e p) (words_some (tree.words f.words.value) f.at (tree.word w) is')

pub words_over : (f : PendingFields) (pl : Place) (k : Next) (e : Shell) (ws : Words) (p : ℕ) → ws ≡ f.words.value → None ≡ word_at (tree.words ws) f.at → fielding f pl k e p ≡ then_means f.then pl k f.fields e p
words_over f pl k e ws p hs is =
    ap (λ (ms : List WordMeant). expand_words ms f.fields pl (then_means f.then pl k) k e p) (words_none (tree.words f.words.value) f.at (subst (λ (ws : Words). None ≡ word_at (tree.words ws) f.at) hs is))

pub assign_next : (a : PendingAssignments) (pl : Place) (k : Next) (e : Shell) (as' : Assignments) (x : Assignment) (name : Text) (w : Rc Word Global) (p : ℕ) → as' ≡ a.assignments.value → w.value ≡ (out-Assignment x).value.value → name ≡ (out-Assignment x).name → Some (tree.assignment x) ≡ assignment_at (tree.assignments as') a.at → assigning a pl k e p ≡ expand_word mode.Value (word_in run (tree.word w.value)) pl (aimed (aim.Value (record { left = record a { at = a.at + 1 }; name = name })) pl k) k e p
assign_next a pl k e as' x name w p hs hw hn is =
    let is' = subst (λ (as' : Assignments). Some (tree.assignment x) ≡ assignment_at (tree.assignments as') a.at) hs is in
    let W : Go_on = works run (kind_of_code a.resolved.value.kind) a.resolved.value.fields pl k in
    let rest = assigns_from a.assignments.value (a.at + 1) in
    ap (λ (ms : List AssignMeant). assign_all ms a.exported pl W k e p) (assigns_some (tree.assignments a.assignments.value) a.at (tree.assignment x) is')
    ∙ ap (λ (s : tree.AssignmentTree). assign_all (assign_meant s ∷ rest) a.exported pl W k e p) (assignment_is x)
    ∙ ap (λ (n : Text). assign_all (record { name = n; value = word_in run (tree.word (out-Assignment x).value.value) } ∷ rest) a.exported pl W k e p) (sym hn)
    ∙ ap (λ (v : Word). assign_all (record { name = name; value = word_in run (tree.word v) } ∷ rest) a.exported pl W k e p) (sym hw)

pub assigns_over : (a : PendingAssignments) (pl : Place) (k : Next) (e : Shell) (as' : Assignments) (p : ℕ) → as' ≡ a.assignments.value → None ≡ assignment_at (tree.assignments as') a.at → assigning a pl k e p ≡ works run (kind_of_code a.resolved.value.kind) a.resolved.value.fields pl k e p
assigns_over a pl k e as' p hs is =
    ap (λ (ms : List AssignMeant). assign_all ms a.exported pl (works run (kind_of_code a.resolved.value.kind) a.resolved.value.fields pl k) k e p) (assigns_none (tree.assignments a.assignments.value) a.at (subst (λ (as' : Assignments). None ≡ assignment_at (tree.assignments as') a.at) hs is))

pub redirect_next : (m : PendingRedirects) (pl : Place) (k : Next) (e : Shell) (rs : Redirects) (x : Redirect) (r : kind.Redirect) (p : ℕ) → rs ≡ m.redirects.value → r ≡ redirect_kind (out-Redirect x).operator → Some (tree.redirect x) ≡ redirect_at (tree.redirects rs) m.at → making m pl k e p ≡ expand_word mode.Value (word_in run (tree.word (out-Redirect x).operand.value)) pl (aimed (aim.Operand (record { left = record m { at = m.at + 1 }; descriptor = (out-Redirect x).descriptor; kind = r })) pl k) k e p
redirect_next m pl k e rs x r p hs hr is =
    let is' = subst (λ (rs : Redirects). Some (tree.redirect x) ≡ redirect_at (tree.redirects rs) m.at) hs is in
    let rest = redirects_from m.redirects.value (m.at + 1) in
    ap (λ (ms : List RedirectMeant). redirect_all ms pl (when_made m pl k) (when_refused m pl k) k e p) (redirects_some (tree.redirects m.redirects.value) m.at (tree.redirect x) is')
    ∙ ap (λ (s : tree.RedirectTree). redirect_all (redirect_meant s ∷ rest) pl (when_made m pl k) (when_refused m pl k) k e p) (redirect_is x)
    ∙ ap (λ (t : kind.Redirect). redirect_all (record { descriptor = (out-Redirect x).descriptor; kind = t; operand = word_in run (tree.word (out-Redirect x).operand.value) } ∷ rest) pl (when_made m pl k) (when_refused m pl k) k e p) (sym hr)

pub redirects_over : (m : PendingRedirects) (pl : Place) (k : Next) (e : Shell) (rs : Redirects) (p : ℕ) → rs ≡ m.redirects.value → None ≡ redirect_at (tree.redirects rs) m.at → making m pl k e p ≡ when_made m pl k e p
redirects_over m pl k e rs p hs is =
    ap (λ (ms : List RedirectMeant). redirect_all ms pl (when_made m pl k) (when_refused m pl k) k e p) (redirects_none (tree.redirects m.redirects.value) m.at (subst (λ (rs : Redirects). None ≡ redirect_at (tree.redirects rs) m.at) hs is))

pub made_done : (as' : Rc Assignments Global) (resolved : Box ResolvedCommand) (ds : List ℕ) (before : DescriptorTable) (pl : Place) (k0 k1 k2 k3 : Next) (e : Shell) (plain exported : Bool) (p : ℕ) → plain ≡ is_plain (kind_of_code resolved.value.kind) → exported ≡ exports (kind_of_code resolved.value.kind) → k1 ≡ continued (continuation.Watch pl) k0 → k2 ≡ unless_kept (keeps (kind_of_code resolved.value.kind)) ds before k1 → k3 ≡ for_its_time plain (names (assigns_from as'.value 0)) e.env.vars k2 → made_go (made.Simple as' resolved) ds before pl k0 e p ≡ assigning (record { assignments = as'; at = 0; exported = exported; resolved = resolved }) pl k3 e p
made_done as' resolved ds before pl k0 k1 k2 k3 e plain exported p hp hx h1 h2 h3 =
    let kd = kind_of_code resolved.value.kind in
    let done : Bool → Next → Says = λ x k. assign_all (assigns_from as'.value 0) x pl (works run kd resolved.value.fields pl k) k e in
    let k' : Bool → Next → Next = λ x k. for_its_time x (names (assigns_from as'.value 0)) e.env.vars k in
    ap (λ (x : Bool). done x (k' (is_plain kd) (unless_kept (keeps kd) ds before (continued (continuation.Watch pl) k0))) p) (sym hx)
    ∙ ap (λ (x : Bool). done exported (k' x (unless_kept (keeps kd) ds before (continued (continuation.Watch pl) k0))) p) (sym hp)
    ∙ ap (λ (k : Next). done exported (k' plain (unless_kept (keeps kd) ds before k)) p) (sym h1)
    ∙ ap (λ (k : Next). done exported (k' plain k) p) (sym h2)
    ∙ ap (λ (k : Next). done exported k p) (sym h3)
