-- What a control stack means: what comes after the command on top of it.
use Rattle.std.specs.Prelude.{◌≡◌, ◌≤◌, ℕ, ◌+◌, List, [], ◌∷◌, ◌++◌, drop, Option, Some, None, Bool, false, if◌then◌else◌}
use Rattle.rk_base.specs.Text.{Text}
use Rattle.rk_calls.specs.Brought.{brought, joined}
use Rattle.rk_calls.specs.Talk.{Says, pay, exits}
use Rattle.rk_calls.specs.declared.answer.Answer.{Answer}
use Rattle.rk_calls.specs.declared.answer.Answer.TheVariants as answer
use Rattle.rk_calls.specs.declared.turn.Turn.{Turn}
use Rattle.rk_calls.specs.declared.turn.Turn.TheVariants as turn
use Rattle.sh_ast.specs.Commands as tree
use Rattle.sh_ast.specs.declared.command.SimpleCommand.{SimpleCommand, out-SimpleCommand}
use Rattle.sh_ast.specs.declared.command.Assignments.{Assignments}
use Rattle.sh_ast.specs.declared.command.Branches.{Branches}
use Rattle.sh_ast.specs.declared.command.CaseItems.{CaseItems}
use Rattle.sh_ast.specs.declared.command.CommandList.{CommandList}
use Rattle.sh_ast.specs.declared.command.Redirects.{Redirects}
use Rattle.sh_ast.specs.declared.command.Words.{Words}
use Rattle.sh_pattern.specs.Decided.{is_matched}
use Rattle.sh_vars.specs.Numbers.{number_after}
use Rattle.sh_expand.specs.declared.mode.Expanded.{Expanded}
use Rattle.sh_expand.specs.Turns.{expander_says}
use Rattle.sh_redirect.specs.declared.descriptors.DescriptorTable.{DescriptorTable}
use Rattle.sh_redirect.specs.declared.redirecting.Redirecting.{Redirecting}
use Rattle.sh_redirect.specs.DescriptorTable.{slot}
use Rattle.sh_redirect.specs.Stages.{redirecting_does}
use Rattle.sh_builtin.specs.declared.builtin.Builtin.{Builtin}
use Rattle.sh_builtin.specs.Stages.{builtin_does}
use Rattle.sh_means.specs.declared.flow.Flow.TheVariants.{Normal}
use Rattle.sh_means.specs.declared.flow.Place.{Place}
use Rattle.sh_means.specs.declared.control.Acted.{Acted}
use Rattle.sh_means.specs.declared.control.Aim.{Aim}
use Rattle.sh_means.specs.declared.control.Aim.TheVariants as aim
use Rattle.sh_means.specs.declared.control.Continuation.{Continuation}
use Rattle.sh_means.specs.declared.control.Continuation.TheVariants as continuation
use Rattle.sh_means.specs.declared.control.PendingAssignments.{PendingAssignments}
use Rattle.sh_means.specs.declared.control.PendingCase.{PendingCase}
use Rattle.sh_means.specs.declared.control.Control.{Control}
use Rattle.sh_means.specs.declared.control.Control.TheVariants as control
use Rattle.sh_means.specs.declared.control.Each.{Each}
use Rattle.sh_means.specs.declared.resolved_command.ResolvedCommand.{ResolvedCommand}
use Rattle.sh_means.specs.declared.control.PendingFields.{PendingFields}
use Rattle.sh_means.specs.declared.control.Frame.{Frame}
use Rattle.sh_means.specs.declared.control.Frame.TheVariants as frame
use Rattle.sh_means.specs.declared.control.CompoundStep.{CompoundStep}
use Rattle.sh_means.specs.declared.control.CompoundStep.TheVariants as compound_step
use Rattle.sh_means.specs.declared.control.CommandKind as code
use Rattle.sh_means.specs.declared.control.CommandKind.TheVariants as kinds
use Rattle.sh_means.specs.declared.control.Loop.{Loop}
use Rattle.sh_means.specs.declared.control.Made.{Made}
use Rattle.sh_means.specs.declared.control.Made.TheVariants as made
use Rattle.sh_means.specs.declared.control.PendingRedirects.{PendingRedirects}
use Rattle.sh_means.specs.declared.control.Then.{Then}
use Rattle.sh_means.specs.declared.control.Then.TheVariants as then
use Rattle.sh_means.specs.declared.control.Undo.{Undo}
use Rattle.sh_means.specs.declared.control.Undo.TheVariants as undo
use Rattle.sh_means.specs.declared.control.Wait.{Wait}
use Rattle.sh_means.specs.declared.control.Wait.TheVariants as wait
use Rattle.sh_means.specs.declared.control.PendingWord.{PendingWord}
use Rattle.sh_means.specs.declared.control.WordStep.{WordStep}
use Rattle.sh_means.specs.declared.control.WordStep.TheVariants as word_step
use Rattle.sh_means.specs.State.{Shell, with_env, with_status, with_positional, with_slot, past_stage}
use Rattle.sh_means.specs.Flows.{Next, Go_on, Means, asks, ends, and_then, by_status, in_loop, returned, watched, inverted, deeper}
use Rattle.sh_means.specs.Words.{WordMeant, RedirectMeant, AssignMeant, bodies_at, faults, expand_words, fields_of, value_of, named, moved, redirect_to, redirect_all, unredirected, names, assigns, assign_all, unassigned}
use Rattle.sh_means.specs.Simple.{CommandKind, Bare, Special, Calls, Builtin as Builds, Launches, Round, Reads, dot_opened, dot_read, SimpleMeant, Work, work_of, works, assigns_and_works, past_simple, refused_simple, redirects_and_works}
use Rattle.sh_means.specs.Compound.{seq_all, links_mean, with_input, stages_mean, BranchMeant, if_means, LoopMeant, after_body, after_condition, for_each, for_fields, CaseMeant, case_patterns, case_items, made_compound, refused_compound, compound_means}
use Rattle.sh_means.specs.Eval.{is_until, commands_in, compound_in, branches_in, items_in, words_in, word_in, assigns_in, redirects_in, whole_in, loop_in, over}
use Rattle.sh_means.specs.Run.{run}
use Rattle.sh_means.specs.Views.{function_of, back_to}
use Rattle.sh_means.specs.Begins.{begins}

-- The syntax from a place on.

abbrev pub commands_from : CommandList → ℕ → List Means
commands_from l i = drop i (commands_in run (tree.commands l))

abbrev pub branches_from : Branches → ℕ → List BranchMeant
branches_from bs i = drop i (branches_in run (tree.branches bs))

abbrev pub items_from : CaseItems → ℕ → List CaseMeant
items_from is i = drop i (items_in run (tree.case_items is))

abbrev pub words_from : Words → ℕ → List WordMeant
words_from ws i = drop i (words_in run (tree.words ws))

abbrev pub redirects_from : Redirects → ℕ → List RedirectMeant
redirects_from rs i = drop i (redirects_in run (tree.redirects rs))

abbrev pub assigns_from : Assignments → ℕ → List AssignMeant
assigns_from as' i = drop i (assigns_in run (tree.assignments as'))

abbrev pub whole : CommandList → Means
whole l = whole_in run (tree.commands l)

abbrev pub simple_of : SimpleCommand → SimpleMeant
simple_of c = record { assignments = assigns_from (out-SimpleCommand c).assignments.value 0; words = words_from (out-SimpleCommand c).words.value 0; redirections = redirects_from (out-SimpleCommand c).redirects.value 0 }

-- What is half done.

abbrev pub kind_of_code : code.CommandKind → CommandKind
kind_of_code kinds.Bare = Bare
kind_of_code (kinds.Special order) = Special order
kind_of_code (kinds.Calls callee) = Calls (function_of callee)
kind_of_code kinds.Builtin = Builds
kind_of_code kinds.Launches = Launches

abbrev pub work_by : ResolvedCommand → Assignments → Work
work_by resolved as' = work_of (kind_of_code resolved.kind) resolved.fields (assigns_from as' 0)

abbrev pub then_means : Then → Place → Next → List Text → Go_on
then_means (then.Simple c) pl k = redirects_and_works run (simple_of c.value) pl k
then_means (then.For name body) pl k = λ fields. for_fields name fields (whole body.value) pl k

abbrev pub fielding : PendingFields → Place → Next → Go_on
fielding f pl k = expand_words (words_from f.words.value f.at) f.fields pl (then_means f.then pl k) k

abbrev pub made_go : Made → List ℕ → DescriptorTable → Place → Next → Go_on
made_go (made.Simple as' resolved) ds before pl k = assigns_and_works run (work_by resolved.value as'.value) pl (past_simple (kind_of_code resolved.value.kind) ds before pl k)
made_go (made.Compound b) ds before pl k = made_compound (compound_in run (tree.compound b.value)) ds before pl k

abbrev pub refused_go : Made → List ℕ → DescriptorTable → Place → Next → Go_on
refused_go (made.Simple as' resolved) ds before pl k = refused_simple (kind_of_code resolved.value.kind) ds before pl k
refused_go (made.Compound b) ds before pl k = refused_compound ds before pl k

abbrev pub when_made : PendingRedirects → Place → Next → Go_on
when_made m pl k = made_go m.made (named (redirects_from m.redirects.value 0)) m.before.value pl k

abbrev pub when_refused : PendingRedirects → Place → Next → Go_on
when_refused m pl k = refused_go m.made (named (redirects_from m.redirects.value 0)) m.before.value pl k

abbrev pub making : PendingRedirects → Place → Next → Go_on
making m pl k = redirect_all (redirects_from m.redirects.value m.at) pl (when_made m pl k) (when_refused m pl k) k

abbrev pub assigning : PendingAssignments → Place → Next → Go_on
assigning a pl k = assign_all (assigns_from a.assignments.value a.at) a.exported pl (works run (kind_of_code a.resolved.value.kind) a.resolved.value.fields pl k) k

abbrev pub case_from : List CaseMeant → ℕ → Text → Place → Next → Go_on
case_from [] i value pl k = ends Normal 0 k
case_from (c ∷ cs) i value pl k = case_patterns (drop i c.patterns) c.body (case_items cs value pl k) value pl k

abbrev pub case_body : List CaseMeant → Means
case_body [] pl e k = k Normal e
case_body (c ∷ cs) pl e k = c.body pl e k

abbrev pub casing : PendingCase → ℕ → Place → Next → Go_on
casing c i pl k = case_from (items_from c.items.value c.at) i c.value pl k

-- what comes after a word
abbrev pub aimed : Aim → Place → Next → Expanded → Go_on
aimed (aim.Fields f) pl k x e = expand_words (words_from f.words.value f.at) (f.fields ++ fields_of x) pl (then_means f.then pl k) k e
aimed (aim.Operand o) pl k x e = redirect_to o.kind o.descriptor (value_of x) (making o.left pl k) (when_refused o.left pl k) e
aimed (aim.Value v) pl k x e = assigns v.left.exported v.name (value_of x) (assigning v.left pl k) k e
aimed (aim.Subject is) pl k x e = case_items (items_from is.value 0) (value_of x) pl k e
aimed (aim.Pattern c) pl k x e = if is_matched (value_of x) c.value then case_body (items_from c.items.value c.at) pl e k else casing c c.pattern pl k e

abbrev pub wording : PendingWord → Next → Answer → Go_on
wording w k a e p =
    expander_says w.expander a (bodies_at (word_in run (tree.word w.word.value)).bodies w.place e) (λ x env. aimed w.aim w.place k x (with_env env e)) (λ parameter message env. faults parameter message k (with_env env e)) e.env p

abbrev pub first_of : List Means → Means
first_of [] pl e k = k Normal e
first_of (m ∷ ms) pl e k = m pl e k

abbrev pub redirecting : PendingRedirects → Place → Next → Redirecting → Answer → Go_on
redirecting m pl k r a e =
    redirecting_does r a (record { made = λ ds env. making m pl k (moved ds env e); refused = λ ds env. when_refused m pl k (moved ds env e) }) e.descriptors e.env

abbrev pub building : Builtin → Next → Answer → Go_on
building b k a e = builtin_does b a (slot e.descriptors) (λ status env. ends Normal status k (with_env env e)) e.env

-- What comes once an answer was heard.

abbrev pub waiting : Wait → Next → Answer → Go_on
waiting (wait.Told f n) k a e = ends f n k e
waiting (wait.Launched f) k a e = ends f (joined a) k e
waiting (wait.Stage pl s) k a e = first_of (commands_from s.list.value s.at) pl (with_slot 1 (Some (number_after s.read_end)) (with_input s.input e)) (λ f e'. stages_mean (Some s.read_end) (commands_from s.list.value s.next) pl k (past_stage e e'))
waiting (wait.Opened pl file n) k a e = dot_opened run file n pl k (brought a) e
waiting (wait.Read pl file) k a e = dot_read run file pl k (brought a) e
waiting (wait.Redirects pl m r) k a e = redirecting m pl k r.value a e
waiting (wait.Fails parameter message) k a e = faults parameter message k e
waiting (wait.Builtin b) k a e = building b.value k a e

-- the body of a `for`, and then the fields behind the next one
abbrev pub each_body : Each → Place → Next → Go_on
each_body each pl k e = whole each.body.value (deeper pl) e (let go = for_each each.name (drop (each.at + 1) each.fields) (whole each.body.value) pl k in in_loop go go k)

-- the variable of a `for` takes the first of these fields
abbrev pub giving_to : List Text → Each → Place → Next → Go_on
giving_to [] each pl k e = k Normal e
giving_to (field ∷ fields) each pl k e = assigns false each.name field (each_body each pl k) k e

abbrev pub giving : Each → Place → Next → Go_on
giving each pl k e = giving_to (drop each.at each.fields) each pl k e

abbrev pub looping : Loop → Bool
looping l = is_until l.kind

abbrev pub loop_of : Loop → LoopMeant
loop_of l = loop_in run (looping l) (tree.commands l.condition.value) (tree.commands l.body.value)

abbrev pub resumed_compound : CompoundStep → Next → Go_on
resumed_compound (compound_step.Compound pl b) k e = compound_in run (tree.compound b.value) pl e k
resumed_compound (compound_step.Called pl callee) k e = compound_means (redirects_in run (function_of callee).redirects) (compound_in run (function_of callee).body) pl e k
resumed_compound (compound_step.If pl left) k e = if_means (branches_from left.branches.value left.at) (whole left.otherwise.value) pl e k
resumed_compound (compound_step.Round pl last l) k e = run (Round last (looping l) (tree.commands l.condition.value) (tree.commands l.body.value)) pl e k
resumed_compound (compound_step.Each pl each) k e = for_each each.name (drop each.at each.fields) (whole each.body.value) pl k e
resumed_compound (compound_step.Gives pl each) k e = giving each pl k e
resumed_compound (compound_step.Case pl c) k e = casing c c.pattern pl k e
resumed_compound (compound_step.Stages pl l i input) k e = stages_mean input (commands_from l.value i) pl k e

abbrev pub resumed_simple : WordStep → Next → Answer → Go_on
resumed_simple (word_step.Words pl f) k a e = fielding f pl k e
resumed_simple (word_step.Expand w) k a e = wording w.value k a e
resumed_simple (word_step.Deliver w x) k a e = aimed w.value.aim w.value.place k x e
resumed_simple (word_step.Make pl m) k a e = making m pl k e
resumed_simple (word_step.Assign pl as') k a e = assigning as' pl k e
resumed_simple (word_step.Text pl name text) k a e = run (Reads name text) pl e k

-- what the machine goes on to do with an answer that was heard
abbrev pub resumed : Control → Next → Answer → Go_on
resumed (control.Begins b) k a e = begins b k a e
resumed (control.Run pl l i) k a e = seq_all (commands_from l.value i) pl e k
resumed (control.Whole pl l) k a e = whole l.value pl e k
resumed (control.One pl l i) k a e = first_of (commands_from l.value i) pl e k
resumed (control.CompoundStep x) k a e = resumed_compound x k e
resumed (control.WordStep x) k a e = resumed_simple x k a e
resumed (control.Waits w) k a e = waiting w k a e
resumed (control.Leave f) k a e = k f e

-- What comes after a frame, from what comes after what is below it.

abbrev pub continued : Continuation → Next → Next
continued (continuation.Rest pl l i) k = and_then (λ e. seq_all (commands_from l.value i) pl e k) k
continued (continuation.Links pl left) k = and_then (links_mean (commands_from left.pipelines.value (left.at + 1)) (drop left.at left.connectors.value.items.items) pl k) k
continued (continuation.Stage pl l i n status saved) k = λ f e. stages_mean (Some n) (commands_from l.value i) pl k (with_status status (back_to saved.value e))
continued (continuation.Watch pl) k = watched pl k
continued continuation.Invert k = inverted k
continued (continuation.Condition pl last l) k = after_condition (loop_of l) last pl k
continued (continuation.Body pl l) k = after_body (loop_of l) pl k
continued (continuation.Each pl each) k = let go = for_each each.name (drop each.at each.fields) (whole each.body.value) pl k in in_loop go go k
continued (continuation.Choose pl body left) k = and_then (λ e. by_status e.env.status (λ e. whole body.value pl e k) (λ e. if_means (branches_from left.branches.value left.at) (whole left.otherwise.value) pl e k) e) k

abbrev pub undone : Undo → Next → Next
undone (undo.Redirected rs before) k = unredirected (named (redirects_from rs.value 0)) before.value k
undone (undo.Assigned as' before) k = unassigned (names (assigns_from as'.value 0)) before k
undone (undo.Function positional) k = λ f e. returned k f (with_positional positional e)
undone undo.Script k = returned k
undone (undo.Subshell saved) k = λ f e. k Normal (back_to saved.value e)
undone (undo.Substitution w saved) k = λ f e. wording w.value k answer.Go (back_to saved.value e)

abbrev pub above : Frame → Next → Next
above (frame.Continuation x) k = continued x k
above (frame.Undo x) k = undone x k

abbrev pub context_on : Next → List Frame → Next
context_on k [] = k
context_on k (f ∷ fs) = context_on (above f k) fs

-- the lowest frame is first in the list; with nothing on the stack the shell exits
abbrev pub context : List Frame → Next
context fs = context_on over fs

-- a turn, which may cost nothing, and what comes after it
abbrev pub stepped : Turn → Control → Next → Go_on
stepped (turn.Ask call c) ctl k e = asks call c (λ a. resumed ctl k a) e
stepped (turn.More c) ctl k e = pay c (resumed ctl k answer.Go e)
stepped (turn.Exit status c) ctl k e = exits status c

-- the machine takes this turn from what was to be said
abbrev pub Steps : Says → Next → Shell → Acted → Type 0
Steps x k e t = (p : ℕ) → x p ≡ stepped t.turn t.control k e p

-- it goes on so without a turn
abbrev pub Goes : Says → Next → Shell → Control → Type 0
Goes x k e ctl = (p : ℕ) → x p ≡ resumed ctl k answer.Go e p

-- it goes on with a word whose expansion begins
abbrev pub Expands : Says → Next → Shell → PendingWord → Type 0
Expands x k e w = (p : ℕ) → x p ≡ wording w k answer.Go e p

-- a call costs something
abbrev pub IsStep : Turn → Type 0
IsStep (turn.Ask call c) = 1 ≤ c
IsStep (turn.More c) = Unit {0}
IsStep (turn.Exit status c) = Unit {0}

-- the frame on top was taken, or there is none
abbrev pub Popped : Next → Next → Option Frame → Type 0
Popped k k' None = k ≡ over
Popped k k' (Some f) = k ≡ above f k'
