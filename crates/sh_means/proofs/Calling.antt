-- What is evaluated again: functions, rounds of loops, and texts.
use Rattle.std.proofs.Common.{◌≡◌, ℕ, List, Result, Ok, sym, ap, ◌∙◌}
use Rattle.std.specs.declared.rc.Rc.{Rc}
use Rattle.std.specs.declared.alloc.Global.{Global}
use Rattle.rk_base.specs.Text.{Text}
use Rattle.rk_base.specs.declared.errno.Errno.{Errno}
use Rattle.rk_calls.specs.Talk.{Says, pay}
use Rattle.rk_calls.specs.Lines.{error_line}
use Rattle.rk_calls.specs.declared.answer.Answer.TheVariants.{Go}
use Rattle.sh_ast.specs.Commands as tree
use Rattle.sh_ast.specs.declared.command.CommandList.{CommandList}
use Rattle.sh_means.specs.declared.control.Continuation.TheVariants as continuation
use Rattle.sh_means.specs.declared.control.Control.TheVariants as control
use Rattle.sh_means.specs.declared.control.CompoundStep.TheVariants as compound_step
use Rattle.sh_means.specs.declared.control.Loop.{Loop}
use Rattle.sh_means.specs.declared.control.Undo.TheVariants as undo
use Rattle.sh_means.specs.declared.flow.Flow.TheVariants.{Exits}
use Rattle.sh_means.specs.declared.flow.Place.{Place}
use Rattle.sh_means.specs.declared.state.Callee.{Callee}
use Rattle.sh_means.specs.Compound.{compound_means}
use Rattle.sh_script.specs.Reads.{Reading, Script, Faulty}
use Rattle.sh_script.specs.Reads.{reads}
use Rattle.sh_means.specs.Eval.{reading_means, compound_in, redirects_in}
use Rattle.sh_means.specs.Flows.{Next, in_function, in_script, ignoring, deeper, tells, ends, sh}
use Rattle.sh_means.proofs.LawLemmas.{run-is}
use Rattle.sh_means.specs.Run.{run}
use Rattle.sh_means.specs.Simple.{Called, Round, Reads, calls, behind_first, dot_read}
use Rattle.sh_means.specs.Stack.{undone, continued, resumed, whole, looping}
use Rattle.sh_means.specs.State.{Shell, with_positional}
use Rattle.sh_means.specs.Views.{function_of}

pub called : (c : Callee) (fields : List Text) (pl : Place) (e e' : Shell) (k k' : Next) (positional : List Text) (p : ℕ) → k' ≡ undone (undo.Function positional) k → positional ≡ e.env.vars.positional → e' ≡ with_positional (behind_first fields) e → calls run (function_of c) fields pl e k p ≡ pay 1 (resumed (control.CompoundStep (compound_step.Called (in_function pl) c)) k' Go e') p
called c fields pl e e' k k' positional p hk hp he =
    let body : Shell → Next → Says = λ e k. compound_means (redirects_in run (function_of c).redirects) (compound_in run (function_of c).body) (in_function pl) e k in
    ap (λ (x : Says). pay 1 x p) (λ i p. run-is reads (Called (function_of c)) (in_function pl) (with_positional (behind_first fields) e) (undone (undo.Function e.env.vars.positional) k) p i)
    ∙ ap (λ (w : List Text). pay 1 (body (with_positional (behind_first fields) e) (undone (undo.Function w) k)) p) (sym hp)
    ∙ ap (λ (k : Next). pay 1 (body (with_positional (behind_first fields) e) k) p) (sym hk)
    ∙ ap (λ (e : Shell). pay 1 (body e k') p) (sym he)

pub round_entered : (l : Loop) (c : Rc CommandList Global) (b : Place) (last : ℕ) (pl : Place) (k k' : Next) (e : Shell) (p : ℕ) → c.value ≡ l.condition.value → b ≡ deeper pl → k' ≡ continued (continuation.Condition pl last l) k → run (Round last (looping l) (tree.commands l.condition.value) (tree.commands l.body.value)) pl e k p ≡ pay 1 (resumed (control.Whole (ignoring b) c) k' Go e) p
round_entered l c b last pl k k' e p hc hb hk =
    run-is reads (Round last (looping l) (tree.commands l.condition.value) (tree.commands l.body.value)) pl e k p
    ∙ ap (λ (d : CommandList). pay 1 (whole d (ignoring (deeper pl)) e (continued (continuation.Condition pl last l) k)) p) (sym hc)
    ∙ ap (λ (b : Place). pay 1 (whole c.value (ignoring b) e (continued (continuation.Condition pl last l) k)) p) (sym hb)
    ∙ ap (λ (k : Next). pay 1 (whole c.value (ignoring b) e k) p) (sym hk)

pub text_run : (r : Reading) (cs : tree.CommandsTree) (name text : Text) (pl : Place) (k : Next) (e : Shell) (p : ℕ) → Script cs ≡ r → r ≡ reads text → run (Reads name text) pl e k p ≡ reading_means run name (Script cs) pl e k p
text_run r cs name text pl k e p h hr =
    run-is reads (Reads name text) pl e k p ∙ ap (λ (r : Reading). reading_means run name r pl e k p) (sym (h ∙ hr))

pub text_faulty : (r : Reading) (words name text : Text) (pl : Place) (k : Next) (e : Shell) (p : ℕ) → Faulty words ≡ r → r ≡ reads text → run (Reads name text) pl e k p ≡ tells (error_line sh name words) (ends Exits 2 k) e p
text_faulty r words name text pl k e p h hr =
    run-is reads (Reads name text) pl e k p ∙ ap (λ (r : Reading). reading_means run name r pl e k p) (sym (h ∙ hr))

-- a dot script was read
pub script_read : (it : Result Text Errno) (text file : Text) (pl : Place) (k k' : Next) (e : Shell) (p : ℕ) → it ≡ Ok text → k' ≡ undone undo.Script k → dot_read run file pl k it e p ≡ run (Reads file text) (in_script pl) e k' p
script_read it text file pl k k' e p h hk =
    ap (λ (r : Result Text Errno). dot_read run file pl k r e p) h
    ∙ ap (λ (k : Next). run (Reads file text) (in_script pl) e k p) (sym hk)

pub told_words : (name0 name words0 words : Text) (k : Next) (e : Shell) (p : ℕ) → name ≡ name0 → words ≡ words0 → tells (error_line sh name0 words0) (ends Exits 2 k) e p ≡ tells (error_line sh name words) (ends Exits 2 k) e p
told_words name0 name words0 words k e p hn hw =
    ap (λ (n : Text). tells (error_line sh n words0) (ends Exits 2 k) e p) (sym hn)
    ∙ ap (λ (w : Text). tells (error_line sh name w) (ends Exits 2 k) e p) (sym hw)
