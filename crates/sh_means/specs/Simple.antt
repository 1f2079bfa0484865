-- Simple commands (XCU 2.9.1), and the special builtins (XCU 2.14).
use Rattle.std.specs.Prelude.{ℕ, List, [], ◌∷◌, Option, Some, None, Bool, true, false, Result, Ok, Err, codes, if◌then◌else◌}
use Rattle.std.specs.FinMap.{get}
use Rattle.rk_base.specs.Text.{Text}
use Rattle.rk_base.specs.Errno.{word}
use Rattle.rk_base.specs.declared.errno.Errno.{Errno}
use Rattle.rk_calls.specs.Brought.{brought, joined}
use Rattle.rk_calls.specs.Keys.{key_of}
use Rattle.rk_calls.specs.Lines.{error_line}
use Rattle.rk_calls.specs.Places.{absolute}
use Rattle.rk_calls.specs.Talk.{pay}
use Rattle.rk_calls.specs.declared.call.Call.TheVariants.{Open, Read, Launch}
use Rattle.rk_calls.specs.declared.call.How.TheVariants as how
use Rattle.sh_ast.specs.Commands.{CommandsTree}
use Rattle.sh_vars.specs.Held.{Held, exported_of}
use Rattle.sh_redirect.specs.declared.descriptors.DescriptorTable.{DescriptorTable}
use Rattle.sh_redirect.specs.DescriptorTable.{slot, refmap_of}
use Rattle.sh_builtin.specs.Builtins.{does}
use Rattle.sh_builtin.specs.Names.{is_builtin}
use Rattle.sh_special.specs.declared.options.Options.{Options}
use Rattle.sh_special.specs.declared.order.Order.{Order}
use Rattle.sh_special.specs.declared.order.Order.TheVariants as order
use Rattle.sh_special.specs.Changes.{Changed, declare_all, unset_all, has_shift, shifted, or_before, with_options}
use Rattle.sh_special.specs.Orders.{order_of, keeps_order, exports_order}
use Rattle.sh_means.specs.declared.flow.Flow.{Flow}
use Rattle.sh_means.specs.declared.flow.Flow.TheVariants.{Normal, Exits}
use Rattle.sh_means.specs.declared.flow.Place.{Place}
use Rattle.sh_means.specs.State.{FunctionTree, Functions, Shell, with_env, with_held, with_positional, unsubstituted}
use Rattle.sh_means.specs.Flows.{Next, Go_on, Means, asks, tells, sh, ends, break_of, continue_of, returned, return_flow, watched, in_function, in_script}
use Rattle.sh_means.specs.Words.{WordMeant, RedirectMeant, AssignMeant, expand_words, named, redirect_all, unredirected, names, assign_all, unassigned}

-- What is evaluated again, each after a payment: a round of a loop whose body last had this status, the body of a
-- function, and a text that is read at run time under this name.
pub data Job : Type 0 where
  Round : (last : ℕ) (until : Bool) (condition body : CommandsTree) → Job
  Called : (function : FunctionTree) → Job
  Reads : (name text : Text) → Job

abbrev pub Meaning : Type 0
Meaning = Job → Means

-- What a command is, by its fields.

pub data CommandKind : Type 0 where
  Bare : CommandKind
  Special : (order : Order) → CommandKind
  Calls : (function : FunctionTree) → CommandKind
  Builtin : CommandKind
  Launches : CommandKind

-- a function stands before a builtin, and any other name is launched
abbrev pub called_kind : Text → Option FunctionTree → CommandKind
called_kind name (Some f) = Calls f
called_kind name None = if is_builtin name then Builtin else Launches

-- a special builtin stands before a function
abbrev pub special_kind : Text → Functions → Option Order → CommandKind
special_kind name functions (Some o) = Special o
special_kind name functions None = called_kind name (get functions name)

abbrev pub kind_of : List Text → Functions → CommandKind
kind_of [] functions = Bare
kind_of (name ∷ words) functions = special_kind name functions (order_of (name ∷ words))

-- Launching, calling, and builtins.

abbrev pub launches : List Text → (ℕ → Go_on) → Go_on
launches fields k e = asks (Launch (key_of fields e.env.wd (exported_of e.env.vars.variables)) (refmap_of e.descriptors)) 1 (λ a. k (joined a)) e

abbrev pub behind_first : List Text → List Text
behind_first [] = []
behind_first (w ∷ ws) = ws

-- the fields behind the name are the positional parameters of the call
abbrev pub calls : Meaning → FunctionTree → List Text → Means
calls again f fields pl e k =
    pay 1 (again (Called f) (in_function pl) (with_positional (behind_first fields) e) (λ flow e'. returned k flow (with_positional e.env.vars.positional e')))

abbrev pub builds_in : List Text → Next → Go_on
builds_in fields k e = does fields (slot e.descriptors) (λ status env. ends Normal status k (with_env env e)) e.env

-- Special builtins. An error of one ends the shell with status 1, and a fault of usage or syntax with status 2.

abbrev pub errs : Text → Text → Next → Go_on
errs operand what k e = tells (error_line sh operand what) (ends Exits 1 k) e

-- once variables were changed, up to a readonly one
abbrev pub unless_barred : Option Text → Next → Go_on
unless_barred None k e = ends Normal 0 k e
unless_barred (Some name) k e = errs name (codes "readonly") k e

abbrev pub changes : Changed → Next → Go_on
changes changed k e = unless_barred changed.barred k (with_held changed.held e)

abbrev pub or_positional : Option (List Text) → Shell → Shell
or_positional None e = e
or_positional (Some words) e = with_positional words e

abbrev pub sets : Options → Option (List Text) → Shell → Shell
sets options words e = or_positional words (record e { env = with_options options e.env; errexit = or_before options.errexit e.errexit })

abbrev pub shifts : ℕ → Next → Go_on
shifts n k e = if has_shift n e.env.vars then ends Normal 0 k (with_held (shifted n e.env.vars) e) else errs (codes "shift") (codes "not valid") k e

-- `.`: the file is opened and read, and then its text is
abbrev pub dot_read : Meaning → Text → Place → Next → Result Text Errno → Go_on
dot_read again file pl k (Err errno) e = errs file (word errno) k e
dot_read again file pl k (Ok text) e = again (Reads file text) (in_script pl) e (returned k)

abbrev pub dot_opened : Meaning → Text → ℕ → Place → Next → Result Text Errno → Go_on
dot_opened again file n pl k (Err errno) e = errs file (word errno) k e
dot_opened again file n pl k (Ok bytes) e = asks (Read n) 1 (λ a. dot_read again file pl k (brought a)) e

abbrev pub dots : Meaning → Text → Place → Next → Go_on
dots again file pl k e = asks (Open (absolute e.env.wd file) how.Read) 1 (λ a. dot_opened again file e.env.next pl k (brought a)) e

abbrev pub or_last : Option ℕ → ℕ → ℕ
or_last None last = last
or_last (Some n) last = n

abbrev pub obeys : Meaning → Order → Place → Next → Go_on
obeys again order.Pass pl k e = ends Normal 0 k e
obeys again (order.Break n) pl k e = ends (break_of n pl.loops) 0 k e
obeys again (order.Continue n) pl k e = ends (continue_of n pl.loops) 0 k e
obeys again (order.Return n) pl k e = ends (return_flow pl.returns) (or_last n e.env.status) k e
obeys again (order.Exit n) pl k e = ends Exits (or_last n e.env.status) k e
obeys again (order.Eval text) pl k e = again (Reads (codes "eval") text) pl e k
obeys again (order.Dot file) pl k e = dots again file pl k e
obeys again (order.Exec words) pl k e = launches words (λ n. ends Exits n k) e
obeys again order.Keep pl k e = ends Normal 0 k e
obeys again (order.Set options words) pl k e = ends Normal 0 k (sets options words e)
obeys again (order.Declare readonly ds) pl k e = changes (declare_all readonly ds e.env.vars) k e
obeys again (order.Unset ns) pl k e = changes (unset_all ns e.env.vars) k e
obeys again (order.Shift n) pl k e = shifts n k e
obeys again (order.Usage line) pl k e = tells line (ends Exits 2 k) e

-- The order of a simple command: its words, its redirections, its assignments, and then what it does.

-- Without a command name: where the command contained a command substitution, the exit status of the last one that was performed,
-- and else 0.
abbrev pub status_if : Bool → ℕ → ℕ
status_if true n = n
status_if false n = 0

abbrev pub works : Meaning → CommandKind → List Text → Place → Next → Go_on
works again Bare fields pl k e = ends Normal (status_if e.env.substituted e.env.status) k e
works again (Special o) fields pl k e = obeys again o pl k e
works again (Calls f) fields pl k e = calls again f fields pl e k
works again Builtin fields pl k e = builds_in fields k e
works again Launches fields pl k e = launches fields (λ n. ends Normal n k) e

-- Assignments last where there is no command or a special builtin. Else they hold for the command alone.
abbrev pub is_plain : CommandKind → Bool
is_plain Bare = false
is_plain (Special o) = false
is_plain (Calls f) = true
is_plain Builtin = true
is_plain Launches = true

-- those that hold for the command alone are exported, and so are those of `exec`, for what it launches (XCU 2.9.1, XCU exec)
abbrev pub exports : CommandKind → Bool
exports Bare = false
exports (Special o) = exports_order o
exports (Calls f) = true
exports Builtin = true
exports Launches = true

abbrev pub for_its_time : Bool → List Text → Held → Next → Next
for_its_time true ns before k = unassigned ns before k
for_its_time false ns before k = k

-- a simple command whose words were expanded: what it is, its fields, and what it assigns
pub record Work : Type 0 where
  pub kind : CommandKind
  pub fields : List Text
  pub assignments : List AssignMeant

abbrev pub work_of : CommandKind → List Text → List AssignMeant → Work
work_of kind fields assignments = record { kind = kind; fields = fields; assignments = assignments }

abbrev pub assigns_and_works : Meaning → Work → Place → Next → Go_on
assigns_and_works again w pl k e =
    let k' = for_its_time (is_plain w.kind) (names w.assignments) e.env.vars k in
    assign_all w.assignments (exports w.kind) pl (works again w.kind w.fields pl k') k' e

-- the redirections of `exec` without a command stay
abbrev pub keeps : CommandKind → Bool
keeps Bare = false
keeps (Special o) = keeps_order o
keeps (Calls f) = false
keeps Builtin = false
keeps Launches = false

abbrev pub unless_kept : Bool → List ℕ → DescriptorTable → Next → Next
unless_kept true ds before k = k
unless_kept false ds before k = unredirected ds before k

-- a refused redirection of a special builtin ends the shell
abbrev pub refusal_flow : CommandKind → Flow
refusal_flow Bare = Normal
refusal_flow (Special o) = Exits
refusal_flow (Calls f) = Normal
refusal_flow Builtin = Normal
refusal_flow Launches = Normal

-- behind what it does, its redirections are undone, and `set -e` looks at it
abbrev pub past_simple : CommandKind → List ℕ → DescriptorTable → Place → Next → Next
past_simple kind ds before pl k = unless_kept (keeps kind) ds before (watched pl k)

abbrev pub refused_simple : CommandKind → List ℕ → DescriptorTable → Place → Next → Go_on
refused_simple kind ds before pl k = ends (refusal_flow kind) 1 (unredirected ds before (watched pl k))

-- a simple command: what its assignments, words and redirections mean
pub record SimpleMeant : Type 0 where
  pub assignments : List AssignMeant
  pub words : List WordMeant
  pub redirections : List RedirectMeant

abbrev pub redirects_and_works : Meaning → SimpleMeant → Place → Next → List Text → Go_on
redirects_and_works again c pl k fields e =
    let kind = kind_of fields e.functions in
    let ds = named c.redirections in
    redirect_all c.redirections pl (assigns_and_works again (work_of kind fields c.assignments) pl (past_simple kind ds e.descriptors pl k)) (refused_simple kind ds e.descriptors pl k) k e

abbrev pub simple_means : Meaning → SimpleMeant → Means
simple_means again c pl e k = pay 1 (expand_words c.words [] pl (redirects_and_works again c pl k) k (unsubstituted e))
