-- The pass over simple commands, once their turn was paid.
use Rattle.std.proofs.Common.{ℕ, ◌-◌, ◌<◌, ◌≤◌, List, [], Option, Some, None, Bool, true, false, Result, Ok, Err, codes, subst, arith}
use Rattle.rk_base.specs.Text.{Text}
use Rattle.rk_base.specs.Errno.{word}
use Rattle.rk_base.specs.declared.errno.Errno.{Errno}
use Rattle.rk_calls.specs.Brought.{brought, joined}
use Rattle.rk_calls.specs.Lines.{error_line}
use Rattle.rk_calls.specs.Views.{View, Alike, alike-if, alike-pay}
use Rattle.sh_vars.specs.Held.{Held}
use Rattle.sh_redirect.specs.declared.descriptors.DescriptorTable.{DescriptorTable}
use Rattle.sh_redirect.specs.DescriptorTable.{slot}
use Rattle.sh_builtin.proofs.LawLemmas.{alike-does}
use Rattle.sh_special.specs.declared.order.Order.{Order}
use Rattle.sh_special.specs.declared.order.Order.TheVariants as order
use Rattle.sh_special.specs.Changes.{Changed, declare_all, unset_all, has_shift, shifted}
use Rattle.sh_means.specs.declared.flow.Flow.TheVariants.{Normal, Exits}
use Rattle.sh_means.specs.declared.flow.Place.{Place}
use Rattle.sh_means.specs.State.{FunctionTree, Shell, with_env, with_status, with_held, with_positional, unsubstituted}
use Rattle.sh_means.specs.Flows.{Next, Go_on, sh, ends, returned, watched, in_function, in_script}
use Rattle.sh_means.specs.Words.{AssignMeant, named, redirect_all, unredirected, names, assign_all}
use Rattle.sh_means.specs.Simple.{Job, Called, Reads, Meaning, CommandKind, Bare, Special, Calls, Builtin, Launches, kind_of, launches, calls, builds_in, errs, unless_barred, changes, shifts, dot_read, dot_opened, dots, obeys, works, is_plain, exports, for_its_time, work_of, assigns_and_works, keeps, unless_kept, refusal_flow, past_simple, refused_simple, SimpleMeant, redirects_and_works, simple_means}
use Rattle.sh_means.proofs.AlikeFlows.{Each, Below, Goes, SameMeans, lower, asks-alike, tells-alike, ends-alike, returned-alike, watched-alike}
use Rattle.sh_means.proofs.AlikeWords.{SameWord, SameRedirect, SameAssign, expand_words-alike, redirect_all-alike, unredirected-alike, named-same, assign_all-alike, unassigned-alike, names-same, words-down, redirects-down, assigns-down}

module _ (v : View) where
  -- what is evaluated again, wherever fewer than P turns are left
  abbrev pub SameAgain : ℕ → Meaning → Meaning → Type 0
  SameAgain P g h = (j : Job) (pl : Place) (e : Shell) (p : ℕ) (k k' : Next) → p < P → Below v p k k' → Alike v p (g j pl e k) (h j pl e k')

  launches-alike : (P : ℕ) (fields : List Text) (g g' : ℕ → Go_on) → ((n : ℕ) → Goes v P (g n) (g' n)) → Goes v P (launches fields g) (launches fields g')
  launches-alike P fields g g' h e p le = asks-alike v P _ 1 (λ a. g (joined a)) (λ a. g' (joined a)) tt (λ a. h (joined a)) e p le

  builds_in-alike : (P : ℕ) (fields : List Text) (k k' : Next) → Below v P k k' → Goes v P (builds_in fields k) (builds_in fields k')
  builds_in-alike P fields k k' hk e p le =
      alike-does fields v p (slot e.descriptors) (λ status env. ends Normal status k (with_env env e)) (λ status env. ends Normal status k' (with_env env e)) e.env (λ status env q lq. hk Normal (with_status status (with_env env e)) q (omega arith))

  -- Special builtins.

  errs-alike : (P : ℕ) (operand what : Text) (k k' : Next) → Below v P k k' → Goes v P (errs operand what k) (errs operand what k')
  errs-alike P operand what k k' hk = tells-alike v P (error_line sh operand what) (ends Exits 1 k) (ends Exits 1 k') (ends-alike v P Exits 1 k k' hk)

  unless_barred-alike : (P : ℕ) (o : Option Text) (k k' : Next) → Below v P k k' → Goes v P (unless_barred o k) (unless_barred o k')
  unless_barred-alike P None k k' hk = ends-alike v P Normal 0 k k' hk
  unless_barred-alike P (Some name) k k' hk = errs-alike P name (codes "readonly") k k' hk

  changes-alike : (P : ℕ) (changed : Changed) (k k' : Next) → Below v P k k' → Goes v P (changes changed k) (changes changed k')
  changes-alike P changed k k' hk e p le = unless_barred-alike P changed.barred k k' hk (with_held changed.held e) p le

  shifts-alike : (P n : ℕ) (k k' : Next) → Below v P k k' → Goes v P (shifts n k) (shifts n k')
  shifts-alike P n k k' hk e p le =
      alike-if v p (has_shift n e.env.vars) _ _ _ _ (ends-alike v P Normal 0 k k' hk (with_held (shifted n e.env.vars) e) p le) (errs-alike P (codes "shift") (codes "not valid") k k' hk e p le)

  module _ (P : ℕ) (g h : Meaning) (same : SameAgain P g h) where
    calls-alike : (Q : ℕ) (f : FunctionTree) (fields : List Text) (pl : Place) (k k' : Next) → Q < P → Below v Q k k' → Goes v Q (λ e. calls g f fields pl e k) (λ e. calls h f fields pl e k')
    calls-alike Q f fields pl k k' lt hk e p le =
        alike-pay v p 1 _ _ (λ lt'. same (Called f) (in_function pl) _ (p - 1) (λ flow e'. returned k flow (with_positional e.env.vars.positional e')) (λ flow e'. returned k' flow (with_positional e.env.vars.positional e')) (omega arith)
        (λ flow e' q lq. returned-alike v Q k k' hk flow (with_positional e.env.vars.positional e') q (omega arith)))

    dot_read-alike : (Q : ℕ) (file : Text) (pl : Place) (k k' : Next) (r : Result Text Errno) → Q < P → Below v Q k k' → Goes v Q (dot_read g file pl k r) (dot_read h file pl k' r)
    dot_read-alike Q file pl k k' (Err errno) lt hk e p le = errs-alike Q file (word errno) k k' hk e p le
    dot_read-alike Q file pl k k' (Ok text) lt hk e p le = same (Reads file text) (in_script pl) e p (returned k) (returned k') (omega arith) (lower v Q p (returned k) (returned k') le (returned-alike v Q k k' hk))

    dot_opened-alike : (Q : ℕ) (file : Text) (n : ℕ) (pl : Place) (k k' : Next) (r : Result Text Errno) → Q < P → Below v Q k k' → Goes v Q (dot_opened g file n pl k r) (dot_opened h file n pl k' r)
    dot_opened-alike Q file n pl k k' (Err errno) lt hk e p le = errs-alike Q file (word errno) k k' hk e p le
    dot_opened-alike Q file n pl k k' (Ok bytes) lt hk e p le =
        asks-alike v Q _ 1 (λ a. dot_read g file pl k (brought a)) (λ a. dot_read h file pl k' (brought a)) tt (λ a. dot_read-alike Q file pl k k' (brought a) lt hk) e p le

    dots-alike : (Q : ℕ) (file : Text) (pl : Place) (k k' : Next) → Q < P → Below v Q k k' → Goes v Q (dots g file pl k) (dots h file pl k')
    dots-alike Q file pl k k' lt hk e p le =
        asks-alike v Q _ 1 (λ a. dot_opened g file e.env.next pl k (brought a)) (λ a. dot_opened h file e.env.next pl k' (brought a)) tt (λ a. dot_opened-alike Q file e.env.next pl k k' (brought a) lt hk) e p le

    obeys-alike : (Q : ℕ) (o : Order) (pl : Place) (k k' : Next) → Q < P → Below v Q k k' → Goes v Q (obeys g o pl k) (obeys h o pl k')
    obeys-alike Q order.Pass pl k k' lt hk e p le = hk _ _ p le
    obeys-alike Q (order.Break n) pl k k' lt hk e p le = hk _ _ p le
    obeys-alike Q (order.Continue n) pl k k' lt hk e p le = hk _ _ p le
    obeys-alike Q (order.Return n) pl k k' lt hk e p le = hk _ _ p le
    obeys-alike Q (order.Exit n) pl k k' lt hk e p le = hk _ _ p le
    obeys-alike Q (order.Eval text) pl k k' lt hk e p le = same (Reads (codes "eval") text) pl e p k k' (omega arith) (lower v Q p k k' le hk)
    obeys-alike Q (order.Dot file) pl k k' lt hk e p le = dots-alike Q file pl k k' lt hk e p le
    obeys-alike Q (order.Exec words) pl k k' lt hk e p le = launches-alike Q words (λ n. ends Exits n k) (λ n. ends Exits n k') (λ n. ends-alike v Q Exits n k k' hk) e p le
    obeys-alike Q order.Keep pl k k' lt hk e p le = hk _ _ p le
    obeys-alike Q (order.Set options words) pl k k' lt hk e p le = hk _ _ p le
    obeys-alike Q (order.Declare readonly ds) pl k k' lt hk e p le = changes-alike Q (declare_all readonly ds e.env.vars) k k' hk e p le
    obeys-alike Q (order.Unset ns) pl k k' lt hk e p le = changes-alike Q (unset_all ns e.env.vars) k k' hk e p le
    obeys-alike Q (order.Shift n) pl k k' lt hk e p le = shifts-alike Q n k k' hk e p le
    obeys-alike Q (order.Usage line) pl k k' lt hk e p le = tells-alike v Q line (ends Exits 2 k) (ends Exits 2 k') (ends-alike v Q Exits 2 k k' hk) e p le

    -- The order of a simple command.

    works-alike : (Q : ℕ) (kd : CommandKind) (fields : List Text) (pl : Place) (k k' : Next) → Q < P → Below v Q k k' → Goes v Q (works g kd fields pl k) (works h kd fields pl k')
    works-alike Q Bare fields pl k k' lt hk e p le = hk _ _ p le
    works-alike Q (Special o) fields pl k k' lt hk e p le = obeys-alike Q o pl k k' lt hk e p le
    works-alike Q (Calls f) fields pl k k' lt hk e p le = calls-alike Q f fields pl k k' lt hk e p le
    works-alike Q Builtin fields pl k k' lt hk e p le = builds_in-alike Q fields k k' hk e p le
    works-alike Q Launches fields pl k k' lt hk e p le = launches-alike Q fields (λ n. ends Normal n k) (λ n. ends Normal n k') (λ n. ends-alike v Q Normal n k k' hk) e p le

    for_its_time-alike : (Q : ℕ) (b : Bool) (ns : List Text) (before : Held) (k k' : Next) → Below v Q k k' → Below v Q (for_its_time b ns before k) (for_its_time b ns before k')
    for_its_time-alike Q true ns before k k' hk = unassigned-alike v Q ns before k k' hk
    for_its_time-alike Q false ns before k k' hk = hk

    assigns_and_works-alike : (Q : ℕ) (kd : CommandKind) (as' bs : List AssignMeant) (fields : List Text) (pl : Place) (k k' : Next) → Q < P → Each (SameAssign v Q) as' bs → Below v Q k k' → Goes v Q (assigns_and_works g (work_of kd fields as') pl k) (assigns_and_works h (work_of kd fields bs) pl k')
    assigns_and_works-alike Q kd as' bs fields pl k k' lt s hk e p le =
        subst (λ (ns : List Text). Alike v p (assigns_and_works g (work_of kd fields as') pl k e) (assign_all bs (exports kd) pl (works h kd fields pl (for_its_time (is_plain kd) ns e.env.vars k')) (for_its_time (is_plain kd) ns e.env.vars k') e)) (names-same v Q as' bs s)
        (let kk : Next = for_its_time (is_plain kd) (names as') e.env.vars k in
        let kk' : Next = for_its_time (is_plain kd) (names as') e.env.vars k' in
        let hk' : Below v Q kk kk' = for_its_time-alike Q (is_plain kd) (names as') e.env.vars k k' hk in
        assign_all-alike v Q as' bs (exports kd) pl (works g kd fields pl kk) (works h kd fields pl kk') kk kk' s (works-alike Q kd fields pl kk kk' lt hk') hk' e p le)

    unless_kept-alike : (Q : ℕ) (b : Bool) (ds : List ℕ) (before : DescriptorTable) (k k' : Next) → Below v Q k k' → Below v Q (unless_kept b ds before k) (unless_kept b ds before k')
    unless_kept-alike Q true ds before k k' hk = hk
    unless_kept-alike Q false ds before k k' hk = unredirected-alike v Q ds before k k' hk

    past_simple-alike : (Q : ℕ) (kd : CommandKind) (ds : List ℕ) (before : DescriptorTable) (pl : Place) (k k' : Next) → Below v Q k k' → Below v Q (past_simple kd ds before pl k) (past_simple kd ds before pl k')
    past_simple-alike Q kd ds before pl k k' hk = unless_kept-alike Q (keeps kd) ds before (watched pl k) (watched pl k') (watched-alike v Q pl k k' hk)

    refused_simple-alike : (Q : ℕ) (kd : CommandKind) (ds : List ℕ) (before : DescriptorTable) (pl : Place) (k k' : Next) → Below v Q k k' → Goes v Q (refused_simple kd ds before pl k) (refused_simple kd ds before pl k')
    refused_simple-alike Q kd ds before pl k k' hk =
        ends-alike v Q (refusal_flow kd) 1 (unredirected ds before (watched pl k)) (unredirected ds before (watched pl k')) (unredirected-alike v Q ds before (watched pl k) (watched pl k') (watched-alike v Q pl k k' hk))

    redirects_and_works-alike : (Q : ℕ) (c d : SimpleMeant) (pl : Place) (k k' : Next) (fields : List Text) → Q < P → Each (SameAssign v Q) c.assignments d.assignments → Each (SameRedirect v Q) c.redirections d.redirections → Below v Q k k' → Goes v Q (redirects_and_works g c pl k fields) (redirects_and_works h d pl k' fields)
    redirects_and_works-alike Q c d pl k k' fields lt sa sr hk e p le =
        let kd : CommandKind = kind_of fields e.functions in
        let done : Next → Next = past_simple kd (named c.redirections) e.descriptors pl in
        let hd : Below v Q (done k) (done k') = past_simple-alike Q kd (named c.redirections) e.descriptors pl k k' hk in
        subst (λ (ds : List ℕ). Alike v p (redirects_and_works g c pl k fields e) (redirect_all d.redirections pl (assigns_and_works h (work_of kd fields d.assignments) pl (past_simple kd ds e.descriptors pl k')) (refused_simple kd ds e.descriptors pl k') k' e)) (named-same v Q c.redirections d.redirections sr)
        (redirect_all-alike v Q c.redirections d.redirections pl (assigns_and_works g (work_of kd fields c.assignments) pl (done k)) (assigns_and_works h (work_of kd fields d.assignments) pl (done k')) (refused_simple kd (named c.redirections) e.descriptors pl k) (refused_simple kd (named c.redirections) e.descriptors pl k') k k' sr (assigns_and_works-alike Q kd c.assignments d.assignments fields pl (done k) (done k') lt sa hd) (refused_simple-alike Q kd (named c.redirections) e.descriptors pl k k' hk) hk e p le)

    pub simple-alike : (Q : ℕ) (c d : SimpleMeant) → Q ≤ P → Each (SameAssign v Q) c.assignments d.assignments → Each (SameWord v Q) c.words d.words → Each (SameRedirect v Q) c.redirections d.redirections → SameMeans v Q (simple_means g c) (simple_means h d)
    simple-alike Q c d leQ sa sw sr pl e p k k' le hk =
        alike-pay v p 1 _ _ (λ lt. expand_words-alike v (p - 1) c.words d.words [] pl (redirects_and_works g c pl k) (redirects_and_works h d pl k') k k' (words-down v Q (p - 1) c.words d.words (omega arith) sw)
        (λ fs. redirects_and_works-alike (p - 1) c d pl k k' fs (omega arith) (assigns-down v Q (p - 1) c.assignments d.assignments (omega arith) sa) (redirects-down v Q (p - 1) c.redirections d.redirections (omega arith) sr) (lower v p (p - 1) k k' (omega arith) hk))
        (lower v p (p - 1) k k' (omega arith) hk) (unsubstituted e) (p - 1) (omega arith))
