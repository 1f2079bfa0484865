-- What commands mean (XCU 2.9): each with what comes after it, over what the shell says.
use Rattle.std.specs.Prelude.{List, [], ◌∷◌, Bool, true, false}
use Rattle.rk_base.specs.Text.{Text}
use Rattle.rk_calls.specs.Fix.{fix}
use Rattle.rk_calls.specs.Lines.{error_line}
use Rattle.rk_calls.specs.Talk.{Says, exits}
use Rattle.sh_ast.specs.Commands.{CommandTree, simple, compound_with, function, pipeline, and_or, CommandsTree, no_commands, command_and, CompoundTree, group, subshell, for_each, case_of, if_one_of, loop, ForWords, positional, in_words, BranchesTree, no_branches, branch_and, CaseItemsTree, no_case_items, case_item_and, WordsTree, no_words, word_and, WordTree, word_of, BodiesTree, no_bodies, body_and, SimpleTree, simply, AssignmentsTree, no_assignments, assignment_and, RedirectsTree, no_redirects, redirect_and}
use Rattle.sh_ast.specs.declared.command.LoopKind.{LoopKind}
use Rattle.sh_ast.specs.declared.command.LoopKind.TheVariants.{While, Until}
use Rattle.sh_script.specs.Reads.{Reading, Script, Faulty}
use Rattle.sh_means.specs.declared.flow.Flow.TheVariants.{Exits}
use Rattle.sh_means.specs.declared.flow.Place.{Place}
use Rattle.sh_means.specs.State.{Shell}
use Rattle.sh_means.specs.Flows.{Next, Means, tells, sh, ends}
use Rattle.sh_means.specs.Words.{WordMeant, RedirectMeant, AssignMeant, redirect_kind}
use Rattle.sh_means.specs.Simple.{Job, Round, Called, Reads, Meaning, simple_means}
use Rattle.sh_means.specs.Compound.{whole_of, and_or_means, pipeline_means, define_means, subshell_means, BranchMeant, if_means, LoopMeant, round_means, ForMeant, Parameters, Among, for_means, CaseMeant, case_means, compound_means}

abbrev pub is_until : LoopKind → Bool
is_until While = false
is_until Until = true

abbrev mutual
  -- a command, where again is what is evaluated again
  pub command_in : Meaning → CommandTree → Means
  command_in again (simple c) = simple_in again c
  command_in again (compound_with b rs) = compound_means (redirects_in again rs) (compound_in again b)
  command_in again (function name b rs) = define_means name (record { body = b; redirects = rs })
  command_in again (pipeline negated cs) = pipeline_means negated (commands_in again cs)
  command_in again (and_or ps connectors) = and_or_means (commands_in again ps) connectors

  pub commands_in : Meaning → CommandsTree → List Means
  commands_in again no_commands = []
  commands_in again (command_and c cs) = command_in again c ∷ commands_in again cs

  pub compound_in : Meaning → CompoundTree → Means
  compound_in again (group body) = whole_of (commands_in again body)
  compound_in again (subshell body) = subshell_means (whole_of (commands_in again body))
  compound_in again (for_each name words body) = for_means name (for_in again words) (whole_of (commands_in again body))
  compound_in again (case_of w items) = case_means (word_in again w) (items_in again items)
  compound_in again (if_one_of branches otherwise) = if_means (branches_in again branches) (whole_of (commands_in again otherwise))
  compound_in again (loop kind condition body) = λ pl e k. again (Round 0 (is_until kind) condition body) pl e k

  pub for_in : Meaning → ForWords → ForMeant
  for_in again positional = Parameters
  for_in again (in_words ws) = Among (words_in again ws)

  pub branches_in : Meaning → BranchesTree → List BranchMeant
  branches_in again no_branches = []
  branches_in again (branch_and condition body bs) = record { condition = whole_of (commands_in again condition); body = whole_of (commands_in again body) } ∷ branches_in again bs

  pub items_in : Meaning → CaseItemsTree → List CaseMeant
  items_in again no_case_items = []
  items_in again (case_item_and ps body is) = record { patterns = words_in again ps; body = whole_of (commands_in again body) } ∷ items_in again is

  pub words_in : Meaning → WordsTree → List WordMeant
  words_in again no_words = []
  words_in again (word_and w ws) = word_in again w ∷ words_in again ws

  pub word_in : Meaning → WordTree → WordMeant
  word_in again (word_of parts bodies) = record { parts = parts; bodies = bodies_in again bodies }

  pub bodies_in : Meaning → BodiesTree → List Means
  bodies_in again no_bodies = []
  bodies_in again (body_and b bs) = whole_of (commands_in again b) ∷ bodies_in again bs

  pub simple_in : Meaning → SimpleTree → Means
  simple_in again (simply as' ws rs) = simple_means again (record { assignments = assigns_in again as'; words = words_in again ws; redirections = redirects_in again rs })

  pub assigns_in : Meaning → AssignmentsTree → List AssignMeant
  assigns_in again no_assignments = []
  assigns_in again (assignment_and name value as') = record { name = name; value = word_in again value } ∷ assigns_in again as'

  pub redirects_in : Meaning → RedirectsTree → List RedirectMeant
  redirects_in again no_redirects = []
  redirects_in again (redirect_and d operator operand rs) = record { descriptor = d; kind = redirect_kind operator; operand = word_in again operand } ∷ redirects_in again rs

abbrev pub whole_in : Meaning → CommandsTree → Means
whole_in again cs = whole_of (commands_in again cs)

-- a loop, whose rounds are evaluated again
abbrev pub loop_in : Meaning → Bool → CommandsTree → CommandsTree → LoopMeant
loop_in again until condition body = record { condition = whole_in again condition; body = whole_in again body; until = until; again = λ last. again (Round last until condition body) }

-- a fault of syntax is told under the text's name and ends the shell
abbrev pub reading_means : Meaning → Text → Reading → Means
reading_means again name (Script cs) pl e k = whole_in again cs pl e k
reading_means again name (Faulty words) pl e k = tells (error_line sh name words) (ends Exits 2 k) e

-- Where texts read so.
module _ (read : Text → Reading) where
  abbrev pub job_in : Meaning → Meaning
  job_in again (Round last until condition body) = round_means (loop_in again until condition body) last
  job_in again (Called f) = compound_means (redirects_in again f.redirects) (compound_in again f.body)
  job_in again (Reads name text) = reading_means again name (read text)

  -- what is evaluated again, where it stands, from a state, with what comes after it
  pub record Task : Type 0 where
    pub job : Job
    pub place : Place
    pub shell : Shell
    pub next : Next

  abbrev pub evaluates : (Task → Says) → Meaning
  evaluates x j pl e k = x (record { job = j; place = pl; shell = e; next = k })

  abbrev pub task_in : (Task → Says) → Task → Says
  task_in x t = job_in (evaluates x) t.job t.place t.shell t.next

  -- each is paid for, so the turns bound how often
  abbrev pub run : Meaning
  run = evaluates (fix task_in)

  abbrev pub command_means : CommandTree → Means
  command_means = command_in run

  abbrev pub script_means : CommandsTree → Means
  script_means = whole_in run

-- the shell exits with its last status
abbrev pub over : Next
over f e = exits e.env.status 0
