-- The pass over how a shell begins: fewer turns only cut what the shell of a key says, and its calls are proper.
use Rattle.std.proofs.Common.{ℕ, suc, ◌<◌, List, [], ◌∷◌, false, Result, Ok, Err, codes, arith}
use Rattle.rk_base.specs.Text.{Text, same_text}
use Rattle.rk_base.specs.Errno.{word}
use Rattle.rk_base.specs.declared.errno.Errno.{Errno}
use Rattle.rk_base.specs.declared.vars.Var.{Var}
use Rattle.rk_calls.specs.Brought.{brought}
use Rattle.rk_calls.specs.Keys.{KeyValue, shell}
use Rattle.rk_calls.specs.Lines.{error_line}
use Rattle.rk_calls.specs.Views.{View, Alike, alike-if, IsCommandTalk}
use Rattle.rk_calls.specs.declared.answer.Answer.{Answer}
use Rattle.rk_calls.specs.declared.answer.Answer.TheVariants as answer
use Rattle.sh_special.specs.Lines.{usage_line}
use Rattle.sh_means.specs.declared.flow.Flow.TheVariants.{Exits}
use Rattle.sh_means.specs.Flows.{Next, sh, ends, outermost}
use Rattle.sh_means.specs.Simple.{Meaning, Reads}
use Rattle.sh_script.specs.Reads.{Reading}
use Rattle.sh_means.specs.Eval.{run, over}
use Rattle.sh_special.specs.Invocation.{Start, Misused, Given, Script, options}
use Rattle.sh_means.specs.Starts.{first_shell, fails, script_read, script_opened, runs_script, is_directory, has_x, looked, runs_command, starts, by_argv, shell_says}
use Rattle.sh_means.proofs.AlikeFlows.{Below, Goes, lower, asks-alike, tells-alike, ends-alike}
use Rattle.sh_means.proofs.AlikeSimple.{SameAgain}
use Rattle.sh_means.proofs.LawLemmas.{run-alike, over-alike}

module _ (v : View) (P : ℕ) (g h : Meaning) (same : SameAgain v P g h) where
  fails-alike : (Q : ℕ) (file what : Text) (status : ℕ) (k k' : Next) → Below v Q k k' → Goes v Q (fails file what status k) (fails file what status k')
  fails-alike Q file what status k k' hk = tells-alike v Q (error_line sh file what) (ends Exits status k) (ends Exits status k') (ends-alike v Q Exits status k k' hk)

  script_read-alike : (Q : ℕ) (file : Text) (k k' : Next) (r : Result Text Errno) → Q < P → Below v Q k k' → Goes v Q (script_read g file k r) (script_read h file k' r)
  script_read-alike Q file k k' (Err errno) lt hk e p le = fails-alike Q file (word errno) 127 k k' hk e p le
  script_read-alike Q file k k' (Ok text) lt hk e p le = same (Reads file text) outermost e p k k' (omega arith) (lower v Q p k k' le hk)

  script_opened-alike : (Q : ℕ) (file : Text) (n : ℕ) (k k' : Next) (r : Result Text Errno) → Q < P → Below v Q k k' → Goes v Q (script_opened g file n k r) (script_opened h file n k' r)
  script_opened-alike Q file n k k' (Err errno) lt hk e p le = fails-alike Q file (word errno) 127 k k' hk e p le
  script_opened-alike Q file n k k' (Ok bytes) lt hk e p le =
      asks-alike v Q _ 1 (λ a. script_read g file k (brought a)) (λ a. script_read h file k' (brought a)) tt (λ a. script_read-alike Q file k k' (brought a) lt hk) e p le

  runs_script-alike : (Q : ℕ) (file : Text) (k k' : Next) → Q < P → Below v Q k k' → Goes v Q (runs_script g file k) (runs_script h file k')
  runs_script-alike Q file k k' lt hk e p le =
      asks-alike v Q _ 1 (λ a. script_opened g file e.env.next k (brought a)) (λ a. script_opened h file e.env.next k' (brought a)) tt (λ a. script_opened-alike Q file e.env.next k k' (brought a) lt hk) e p le

  looked-alike : (Q : ℕ) (file : Text) (k k' : Next) (a : Answer) → Q < P → Below v Q k k' → Goes v Q (looked g file k a) (looked h file k' a)
  looked-alike Q file k k' answer.Go lt hk e p le = runs_script-alike Q file k k' lt hk e p le
  looked-alike Q file k k' answer.Done lt hk e p le = runs_script-alike Q file k k' lt hk e p le
  looked-alike Q file k k' answer.Opened lt hk e p le = runs_script-alike Q file k k' lt hk e p le
  looked-alike Q file k k' answer.Piped lt hk e p le = runs_script-alike Q file k k' lt hk e p le
  looked-alike Q file k k' (answer.Content bytes) lt hk e p le = runs_script-alike Q file k k' lt hk e p le
  looked-alike Q file k k' (answer.Stat kind mode empty) lt hk e p le =
      alike-if v p (is_directory kind) _ _ _ _ (fails-alike Q file (codes "is a directory") 126 k k' hk e p le)
      (alike-if v p (has_x mode) _ _ _ _ (runs_script-alike Q file k k' lt hk e p le) (fails-alike Q file (codes "denied") 126 k k' hk e p le))
  looked-alike Q file k k' (answer.Names names) lt hk e p le = runs_script-alike Q file k k' lt hk e p le
  looked-alike Q file k k' (answer.Text text) lt hk e p le = runs_script-alike Q file k k' lt hk e p le
  looked-alike Q file k k' (answer.Place path) lt hk e p le = runs_script-alike Q file k k' lt hk e p le
  looked-alike Q file k k' (answer.Same same') lt hk e p le = runs_script-alike Q file k k' lt hk e p le
  looked-alike Q file k k' (answer.Joined status) lt hk e p le = runs_script-alike Q file k k' lt hk e p le
  looked-alike Q file k k' (answer.No errno) lt hk e p le = fails-alike Q file (word errno) 127 k k' hk e p le

  runs_command-alike : (Q : ℕ) (file : Text) (k k' : Next) → Q < P → Below v Q k k' → Goes v Q (runs_command g file k) (runs_command h file k')
  runs_command-alike Q file k k' lt hk e p le = asks-alike v Q _ 1 (λ a. looked g file k a) (λ a. looked h file k' a) tt (λ a. looked-alike Q file k k' a lt hk) e p le

  starts-alike : (s : Start) (vars : List Var) (wd : Text) (p : ℕ) → p < P → Below v p over over → Alike v p (starts g s vars wd) (starts h s vars wd)
  starts-alike (Misused line) vars wd p lt hk = tells-alike v p line (ends Exits 2 over) (ends Exits 2 over) (ends-alike v p Exits 2 over over hk) (first_shell sh [] vars wd) p (omega arith)
  starts-alike (Given zero text words) vars wd p lt hk = same (Reads (codes "-c") text) outermost (first_shell zero words vars wd) p over over lt hk
  starts-alike (Script file words) vars wd p lt hk = runs_script-alike p file over over lt hk (first_shell file words vars wd) p (omega arith)

argv-talk : (read : Text → Reading) (argv : List Text) (vars : List Var) (wd : Text) → IsCommandTalk (by_argv read argv vars wd)
argv-talk read [] vars wd v p = starts-alike v (suc p) (run read) (run read) (run-alike read v (suc p)) (Misused (usage_line sh)) vars wd p (omega arith) (over-alike read v p)
argv-talk read (w ∷ ws) vars wd v p =
    alike-if v p (same_text w shell) _ _ _ _
    (starts-alike v (suc p) (run read) (run read) (run-alike read v (suc p)) (options false ws) vars wd p (omega arith) (over-alike read v p))
    (runs_command-alike v (suc p) (run read) (run read) (run-alike read v (suc p)) p w over over (omega arith) (over-alike read v p) (first_shell w ws vars wd) p (omega arith))

-- fewer turns only cut what the shell of a key says, and its calls are proper
pub shell-talk : (read : Text → Reading) (key : KeyValue) → IsCommandTalk (shell_says read key)
shell-talk read key = argv-talk read key.argv key.vars key.wd
