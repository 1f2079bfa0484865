-- What holds of every command: it keeps what is alike in any view. So what is evaluated again means what its job does,
-- fewer turns only cut what a script says, and its calls are proper.
use Rattle.std.proofs.Common.{◌≡◌, ℕ, suc, ◌<◌, ◌≤◌, refl, subst, arith}
use Rattle.rk_base.specs.Text.{Text}
use Rattle.rk_calls.specs.Fix.{Pays_first, fix-alike, fix-is}
use Rattle.rk_calls.specs.Lines.{error_line}
use Rattle.rk_calls.specs.Views.{View, Alike, alike-exits, IsCommandTalk}
use Rattle.sh_ast.specs.Commands.{CommandTree, simple, compound_with, function, pipeline, and_or, CommandsTree, no_commands, command_and, CompoundTree, group, subshell, for_each, case_of, if_one_of, loop, ForWords, positional, in_words, BranchesTree, no_branches, branch_and, CaseItemsTree, no_case_items, case_item_and, WordsTree, no_words, word_and, WordTree, word_of, BodiesTree, no_bodies, body_and, SimpleTree, simply, AssignmentsTree, no_assignments, assignment_and, RedirectsTree, no_redirects, redirect_and}
use Rattle.sh_means.specs.declared.flow.Flow.TheVariants.{Exits}
use Rattle.sh_means.specs.declared.flow.Place.{Place}
use Rattle.sh_means.specs.State.{Shell}
use Rattle.sh_means.specs.Flows.{Next, sh, ends}
use Rattle.sh_means.specs.Simple.{Job, Round, Called, Reads, Meaning}
use Rattle.sh_script.specs.Reads.{Reading, Script, Faulty}
use Rattle.sh_means.specs.Eval.{is_until, command_in, commands_in, compound_in, for_in, branches_in, items_in, words_in, word_in, bodies_in, simple_in, assigns_in, redirects_in, whole_in, loop_in, reading_means, job_in, Task, task_in, run, over}
use Rattle.sh_means.proofs.AlikeFlows.{Each, Below, SameMeans, all-down, tells-alike, ends-alike}
use Rattle.sh_means.proofs.AlikeWords.{SameWord, SameRedirect, SameAssign, word-down, words-down}
use Rattle.sh_means.proofs.AlikeSimple.{SameAgain, simple-alike}
use Rattle.sh_means.proofs.AlikeCompound.{whole_of-alike, and_or-alike, pipeline-alike, define-alike, subshell-alike, SameBranch, branches-down, if_means-alike, SameFor, for_means-alike, SameCase, cases-down, case_means-alike, compound_means-alike, round-alike}

module _ (v : View) (P : ℕ) (g h : Meaning) (same : SameAgain v P g h) where
  whole_at : (cs : CommandsTree) → Each (SameMeans v P) (commands_in g cs) (commands_in h cs) → (Q : ℕ) → Q < P → SameMeans v Q (whole_in g cs) (whole_in h cs)
  whole_at cs s Q lt = whole_of-alike v Q (commands_in g cs) (commands_in h cs) (all-down v P Q (commands_in g cs) (commands_in h cs) (omega arith) s)

  mutual
    pub command-alike : (c : CommandTree) → SameMeans v P (command_in g c) (command_in h c)
    command-alike (simple c) = simple_in-alike c
    command-alike (compound_with b rs) = compound_means-alike v P (redirects_in g rs) (redirects_in h rs) (compound_in g b) (compound_in h b) (redirects-alike rs) (compound-alike b)
    command-alike (function name b rs) = define-alike v P name (record { body = b; redirects = rs })
    command-alike (pipeline negated cs) = pipeline-alike v P negated (commands_in g cs) (commands_in h cs) (commands-alike cs)
    command-alike (and_or ps connectors) = and_or-alike v P (commands_in g ps) (commands_in h ps) connectors (commands-alike ps)

    pub commands-alike : (cs : CommandsTree) → Each (SameMeans v P) (commands_in g cs) (commands_in h cs)
    commands-alike no_commands = tt
    commands-alike (command_and c cs) = (command-alike c, commands-alike cs)

    pub compound-alike : (b : CompoundTree) (Q : ℕ) → Q < P → SameMeans v Q (compound_in g b) (compound_in h b)
    compound-alike (group body) Q lt = whole_at body (commands-alike body) Q lt
    compound-alike (subshell body) Q lt = subshell-alike v Q (whole_in g body) (whole_in h body) (whole_at body (commands-alike body) Q lt)
    compound-alike (for_each name words body) Q lt = for_means-alike v Q name (for_in g words) (for_in h words) (whole_in g body) (whole_in h body) (for-alike words Q lt) (whole_at body (commands-alike body) Q lt)
    compound-alike (case_of w items) Q lt = case_means-alike v Q (word_in g w) (word_in h w) (items_in g items) (items_in h items) (word-down v P Q (word_in g w) (word_in h w) (omega arith) (word-alike w)) (cases-down v P Q (items_in g items) (items_in h items) (omega arith) (items-alike items))
    compound-alike (if_one_of branches otherwise) Q lt = if_means-alike v Q (branches_in g branches) (branches_in h branches) (whole_in g otherwise) (whole_in h otherwise) (branches-down v P Q (branches_in g branches) (branches_in h branches) (omega arith) (branches-alike branches)) (whole_at otherwise (commands-alike otherwise) Q lt)
    compound-alike (loop kind condition body) Q lt = λ pl e p k k' le hk. same (Round 0 (is_until kind) condition body) pl e p k k' (omega arith) hk

    for-alike : (f : ForWords) (Q : ℕ) → Q < P → SameFor v Q (for_in g f) (for_in h f)
    for-alike positional Q lt = tt
    for-alike (in_words ws) Q lt = words-down v P Q (words_in g ws) (words_in h ws) (omega arith) (words-alike ws)

    branches-alike : (bs : BranchesTree) → Each (SameBranch v P) (branches_in g bs) (branches_in h bs)
    branches-alike no_branches = tt
    branches-alike (branch_and condition body bs) = ((whole_of-alike v P (commands_in g condition) (commands_in h condition) (commands-alike condition), whole_of-alike v P (commands_in g body) (commands_in h body) (commands-alike body)), branches-alike bs)

    items-alike : (is : CaseItemsTree) → Each (SameCase v P) (items_in g is) (items_in h is)
    items-alike no_case_items = tt
    items-alike (case_item_and ps body is) = ((words-alike ps, whole_of-alike v P (commands_in g body) (commands_in h body) (commands-alike body)), items-alike is)

    words-alike : (ws : WordsTree) → Each (SameWord v P) (words_in g ws) (words_in h ws)
    words-alike no_words = tt
    words-alike (word_and w ws) = (word-alike w, words-alike ws)

    word-alike : (w : WordTree) → SameWord v P (word_in g w) (word_in h w)
    word-alike (word_of parts bodies) = (refl, bodies-alike bodies)

    bodies-alike : (bs : BodiesTree) → Each (SameMeans v P) (bodies_in g bs) (bodies_in h bs)
    bodies-alike no_bodies = tt
    bodies-alike (body_and b bs) = (whole_of-alike v P (commands_in g b) (commands_in h b) (commands-alike b), bodies-alike bs)

    simple_in-alike : (c : SimpleTree) → SameMeans v P (simple_in g c) (simple_in h c)
    simple_in-alike (simply as' ws rs) = simple-alike v P g h same P (record { assignments = assigns_in g as'; words = words_in g ws; redirections = redirects_in g rs }) (record { assignments = assigns_in h as'; words = words_in h ws; redirections = redirects_in h rs }) (omega arith) (assigns-alike as') (words-alike ws) (redirects-alike rs)

    assigns-alike : (as' : AssignmentsTree) → Each (SameAssign v P) (assigns_in g as') (assigns_in h as')
    assigns-alike no_assignments = tt
    assigns-alike (assignment_and name value as') = ((refl, word-alike value), assigns-alike as')

    redirects-alike : (rs : RedirectsTree) → Each (SameRedirect v P) (redirects_in g rs) (redirects_in h rs)
    redirects-alike no_redirects = tt
    redirects-alike (redirect_and d operator operand rs) = ((refl, refl, word-alike operand), redirects-alike rs)

  reading-alike : (name : Text) (r : Reading) (pl : Place) (e : Shell) (p : ℕ) (k k' : Next) → p ≤ P → Below v p k k' → Alike v p (reading_means g name r pl e k) (reading_means h name r pl e k')
  reading-alike name (Script cs) pl e p k k' le hk = whole_of-alike v P (commands_in g cs) (commands_in h cs) (commands-alike cs) pl e p k k' le hk
  reading-alike name (Faulty words) pl e p k k' le hk = tells-alike v p (error_line sh name words) (ends Exits 2 k) (ends Exits 2 k') (ends-alike v p Exits 2 k k' hk) e p (omega arith)

module _ (read : Text → Reading) where
  job-alike : (v : View) (P : ℕ) (g h : Meaning) → SameAgain v P g h → SameAgain v (suc P) (job_in read g) (job_in read h)
  job-alike v P g h same (Round last until condition body) pl e p k k' lt hk =
      round-alike v P (loop_in g until condition body) (loop_in h until condition body) (λ last. same (Round last until condition body)) P last (omega arith) refl
      (whole_of-alike v P (commands_in g condition) (commands_in h condition) (commands-alike v P g h same condition))
      (whole_of-alike v P (commands_in g body) (commands_in h body) (commands-alike v P g h same body)) pl e p k k' (omega arith) hk
  job-alike v P g h same (Called f) pl e p k k' lt hk =
      compound_means-alike v P (redirects_in g f.redirects) (redirects_in h f.redirects) (compound_in g f.body) (compound_in h f.body) (redirects-alike v P g h same f.redirects) (compound-alike v P g h same f.body) pl e p k k' (omega arith) hk
  job-alike v P g h same (Reads name text) pl e p k k' lt hk = reading-alike v P g h same name (read text) pl e p k k' (omega arith) hk

  -- the same from one state, with what comes after alike
  abbrev SameTask : View → ℕ → Task read → Task read → Type 0
  SameTask v p t t' = (t.job ≡ t'.job) × (t.place ≡ t'.place) × (t.shell ≡ t'.shell) × Below v p t.next t'.next

  pays : Pays_first SameTask (task_in read)
  pays v P x y below t t' p lt h =
      subst (λ (e : Shell). Alike v p (task_in read x t) (job_in read (λ j pl e k. y (record { job = j; place = pl; shell = e; next = k })) t'.job t'.place e t'.next)) h.2
      (subst (λ (pl : Place). Alike v p (task_in read x t) (job_in read (λ j pl e k. y (record { job = j; place = pl; shell = e; next = k })) t'.job pl t.shell t'.next)) h.1
      (subst (λ (j : Job). Alike v p (task_in read x t) (job_in read (λ j pl e k. y (record { job = j; place = pl; shell = e; next = k })) j t.place t.shell t'.next)) h.0
      (job-alike v P (λ j pl e k. x (record { job = j; place = pl; shell = e; next = k })) (λ j pl e k. y (record { job = j; place = pl; shell = e; next = k }))
      (λ j pl e q k k' lt' hk. below (record { job = j; place = pl; shell = e; next = k }) (record { job = j; place = pl; shell = e; next = k' }) q lt' (refl, refl, refl, hk)) t.job t.place t.shell p t.next t'.next lt h.3)))

  pub run-alike : (v : View) (P : ℕ) → SameAgain v P (run read) (run read)
  run-alike v P j pl e p k k' lt hk = fix-alike SameTask (task_in read) pays v P (record { job = j; place = pl; shell = e; next = k }) (record { job = j; place = pl; shell = e; next = k' }) p lt (refl, refl, refl, hk)

  -- what is evaluated again means what its job does
  pub run-is : (j : Job) (pl : Place) (e : Shell) (k : Next) (p : ℕ) → run read j pl e k p ≡ job_in read (run read) j pl e k p
  run-is j pl e k p = fix-is SameTask (task_in read) pays (record { job = j; place = pl; shell = e; next = k }) p (refl, refl, refl, λ f e' q le. refl)

  pub over-alike : (v : View) (P : ℕ) → Below v P over over
  over-alike v P f e p le = alike-exits v p e.env.status 0

  -- fewer turns only cut what a script says, and its calls are proper
  pub script-talk : (cs : CommandsTree) (pl : Place) (e : Shell) → IsCommandTalk (whole_in (run read) cs pl e over)
  script-talk cs pl e v p =
      whole_of-alike v (suc p) (commands_in (run read) cs) (commands_in (run read) cs) (commands-alike v (suc p) (run read) (run read) (run-alike v (suc p)) cs) pl e p over over (omega arith) (over-alike v p)
