use Rattle.std.proofs.Common.{◌≡◌, ℕ, List, sym, ap, ◌∙◌}
use Rattle.std.specs.declared.rc.Rc.{Rc}
use Rattle.std.specs.declared.alloc.Global.{Global}
use Rattle.std.specs.Global.{Box}
use Rattle.rk_base.specs.Text.{Text}
use Rattle.rk_calls.specs.Talk.{Says}
use Rattle.sh_ast.specs.declared.command.Assignments.{Assignments}
use Rattle.sh_ast.specs.declared.command.Redirects.{Redirects}
use Rattle.sh_ast.specs.declared.command.SimpleCommand.{SimpleCommand, out-SimpleCommand}
use Rattle.sh_redirect.specs.declared.descriptors.DescriptorTable.{DescriptorTable}
use Rattle.sh_means.specs.declared.resolved_command.ResolvedCommand.{ResolvedCommand}
use Rattle.sh_means.specs.declared.control.Made.TheVariants as made
use Rattle.sh_means.specs.declared.flow.Place.{Place}
use Rattle.sh_means.specs.declared.functions.Functions as code
use Rattle.sh_means.specs.Flows.{Next}
use Rattle.sh_means.specs.Run.{run}
use Rattle.sh_means.specs.Simple.{CommandKind, kind_of, work_of, assigns_and_works, past_simple, refused_simple}
use Rattle.sh_means.specs.Stack.{making, redirects_from, assigns_from, kind_of_code, work_by}
use Rattle.sh_means.specs.State.{Shell}
use Rattle.sh_means.specs.Views.{shell_of, functions_of}
use Rattle.sh_means.specs.Words.{redirect_all, named}
use Rattle.sh_means.proofs.Launching.{launchable}
use Rattle.sh_means.proofs.Weighing.{command_weighs}
use Rattle.sh_words.proofs.words.made_first.Goals as goal

-- the redirections of a simple command with these fields, as a kind
with_kind : List Text → Place → Next → Shell → Redirects → Assignments → CommandKind → Says
with_kind fields pl k e R A kd =
    redirect_all (redirects_from R 0) pl (assigns_and_works run (work_of kd fields (assigns_from A 0)) pl (past_simple kd (named (redirects_from R 0)) e.descriptors pl k)) (refused_simple kd (named (redirects_from R 0)) e.descriptors pl k) k e

-- the same with the map and what the command is, where they lie behind pointers
with_doing : Rc Redirects Global → Rc Assignments Global → Place → Next → Shell → DescriptorTable → ResolvedCommand → Says
with_doing rs as' pl k e ds d =
    redirect_all (redirects_from rs.value 0) pl (assigns_and_works run (work_by d as'.value) pl (past_simple (kind_of_code d.kind) (named (redirects_from rs.value 0)) ds pl k)) (refused_simple (kind_of_code d.kind) (named (redirects_from rs.value 0)) ds pl k) k e

simple_then : (x : SimpleCommand) (rs : Rc Redirects Global) (as' : Rc Assignments Global) (d : ResolvedCommand) (before : Rc DescriptorTable Global) (resolved : Box ResolvedCommand) (pl : Place) (k : Next) (e : Shell) (p : ℕ) → rs.value ≡ (out-SimpleCommand x).redirects.value → as'.value ≡ (out-SimpleCommand x).assignments.value → kind_of_code d.kind ≡ kind_of d.fields e.functions → before.value ≡ e.descriptors → resolved.value ≡ d → with_kind d.fields pl k e (out-SimpleCommand x).redirects.value (out-SimpleCommand x).assignments.value (kind_of d.fields e.functions) p ≡ making (record { redirects = rs; at = 0; before = before; made = made.Simple as' resolved }) pl k e p
unfolding with_kind with_doing
simple_then x rs as' d before resolved pl k e p hr ha hk hb hd =
    ap (λ (R : Redirects). with_kind d.fields pl k e R (out-SimpleCommand x).assignments.value (kind_of d.fields e.functions) p) (sym hr)
    ∙ ap (λ (A : Assignments). with_kind d.fields pl k e rs.value A (kind_of d.fields e.functions) p) (sym ha)
    ∙ ap (λ (kd : CommandKind). with_kind d.fields pl k e rs.value as'.value kd p) (sym hk)
    ∙ ap (λ (d : ResolvedCommand). with_doing rs as' pl k e e.descriptors d p) (sym hd)
    ∙ ap (λ (ds : DescriptorTable). with_doing rs as' pl k e ds resolved.value p) (sym hb)

pub invariant_of-resolved : goal.invariant_of-resolved
invariant_of-resolved c = record { launchable = launchable c.in_ok-kind.kind c.args.fields _ c.in_ok-kind.ensures }

pub returns-clause-talk : goal.returns-clause-talk
unfolding with_kind
returns-clause-talk c =
    let e = shell_of c.args.shell.now.state in
    λ place k p. simple_then c.args.command.value c.in_ok-redirects.redirects c.in_ok-assignments.assignments _ c.in_ok-before.before c.in_ok-boxed.boxed place k e p
    (c.in_ok-redirects.ensures.cases ∙ ap (λ (x : SimpleCommand). (out-SimpleCommand x).redirects.value) c.deref-2.ensures)
    (c.in_ok-assignments.ensures.cases ∙ ap (λ (x : SimpleCommand). (out-SimpleCommand x).assignments.value) c.deref-3.ensures)
    (c.in_ok-kind.ensures ∙ ap (λ (fs : code.Functions). kind_of c.args.fields (functions_of fs)) c.deref.ensures)
    c.in_ok-before.ensures.cases c.in_ok-boxed.ensures.ok

pub returns-clause-weight : goal.returns-clause-weight
returns-clause-weight c =
    command_weighs c.args.command.value c.in_ok-redirects.redirects.value c.in_ok-assignments.assignments.value
    (c.in_ok-redirects.ensures.cases ∙ ap (λ (x : SimpleCommand). (out-SimpleCommand x).redirects.value) c.deref-2.ensures)
    (c.in_ok-assignments.ensures.cases ∙ ap (λ (x : SimpleCommand). (out-SimpleCommand x).assignments.value) c.deref-3.ensures)
