-- What a file utility says: it does tasks in order, each a call; what the answer brings is done before what is left.
use Rattle.std.specs.Prelude.{◌≡◌, ℕ, ◌+◌, ◌-◌, ◌≤◌, ◌<◌, suc, List, [], ◌∷◌, ◌++◌, Bool, true, false, ◌&&◌, if◌then◌else◌, refl}
use Rattle.std.proofs.Common.{arith}
use Rattle.rk_calls.specs.declared.answer.Answer.{Answer}
use Rattle.rk_calls.specs.declared.answer.Answer.TheVariants.{No}
use Rattle.rk_calls.specs.declared.call.Call.{Call}
use Rattle.rk_calls.specs.declared.call.Call.TheVariants.{Open, Read, ReadLine, Write, Stat, List as ListOf, ReadLink, Walk, Same, Mkdir, Rmdir, Unlink, Rename, Symlink, Link, Chmod, Pipe, Launch}
use Rattle.rk_calls.specs.Fix.{fix, Pays_first, AlikeBelow, fix-is, talk-fix}
use Rattle.rk_calls.specs.Proper.{IsProper}
use Rattle.rk_calls.specs.Talk.{Says, ask, exits}
use Rattle.rk_calls.specs.Turns.{turns}
use Rattle.rk_calls.specs.Views.{View, Alike, IsCommandTalk, alike-exits, alike-ask}
use Rattle.ut_files.specs.declared.step.WorkItem.{WorkItem}
use Rattle.ut_files.specs.declared.step.WorkItem.TheVariants.{Tell, Do}

-- a call costs one turn, and a Write its bytes
abbrev pub cost : Call → ℕ
cost (Write r bytes) = 1 + turns bytes
cost call = 1

abbrev pub is_given : Answer → Bool
is_given (No errno) = false
is_given answer = true

-- The tasks of a utility: the call of each, which a command may make, whether it opens a file, and what its answer
-- brings; the number is that of the file, where it was opened.
pub record Rules (T : Type 0) : Type 0 where
  pub asks : T → Call
  pub proper : (task : T) → IsProper (asks task)
  pub opens : T → Bool
  pub brings : ℕ → T → Answer → List (WorkItem T)

-- whether a line was told, the number of the next file that is opened, and what is left to do
pub record Work (T : Type 0) : Type 0 where
  pub failed : Bool
  pub next : ℕ
  pub left : List (WorkItem T)

-- a line that was told is a failure
abbrev pub status : Bool → ℕ
status true = 1
status false = 0

abbrev pub next_after : Bool → Answer → ℕ → ℕ
next_after opens a next = if opens && is_given a then next + 1 else next

-- once a task's call was answered
abbrev pub answered : {T : Type 0} → Rules T → T → Answer → Work T → Work T
answered rules task a work =
    record {
      failed = work.failed;
      next = next_after (rules.opens task) a work.next;
      left = rules.brings work.next task a ++ work.left;
    }

abbrev pub told : {T : Type 0} → Work T → List (WorkItem T) → Work T
told work left = record { failed = true; next = work.next; left = left }

abbrev pub with_left : {T : Type 0} → Work T → List (WorkItem T) → Work T
with_left work left = record { failed = work.failed; next = work.next; left = left }

-- One step, and how it goes on. A line is written to the error text at once, whether that is refused or not.
abbrev pub steps : {T : Type 0} → Rules T → (Work T → Says) → Work T → List (WorkItem T) → Says
steps rules again work [] = exits (status work.failed) 0
steps rules again work (Tell line ∷ left) = ask (Write 2 line) (1 + turns line) (λ a. again (told work left))
steps rules again work (Do task ∷ left) = ask (rules.asks task) (cost (rules.asks task)) (λ a. again (answered rules task a (with_left work left)))

abbrev pub works_in : {T : Type 0} → Rules T → (Work T → Says) → Work T → Says
works_in rules again work = steps rules again work work.left

-- the whole work; the turns bound it
unfoldable pub works : {T : Type 0} → Rules T → Work T → Says
works rules = fix (works_in rules)

-- the same work
abbrev pub SameWork : {T : Type 0} → View → ℕ → Work T → Work T → Type 0
SameWork v p work work' = work ≡ work'

-- What holds of every work.

cost-costs : (call : Call) → 1 ≤ cost call
cost-costs (Write r bytes) = omega arith
cost-costs (Open p how) = omega arith
cost-costs (Read r) = omega arith
cost-costs (ReadLine r) = omega arith
cost-costs (Stat p f) = omega arith
cost-costs (ListOf p) = omega arith
cost-costs (ReadLink p) = omega arith
cost-costs (Walk p) = omega arith
cost-costs (Same p q) = omega arith
cost-costs (Mkdir p m) = omega arith
cost-costs (Rmdir p) = omega arith
cost-costs (Unlink p) = omega arith
cost-costs (Rename p q) = omega arith
cost-costs (Symlink t p) = omega arith
cost-costs (Link p q) = omega arith
cost-costs (Chmod p m) = omega arith
cost-costs Pipe = omega arith
cost-costs (Launch k m) = omega arith

step-pays : {T : Type 0} (rules : Rules T) (v : View) (P : ℕ) (x y : Work T → Says) → AlikeBelow v (SameWork v) P x y → (work : Work T) (left : List (WorkItem T)) (p : ℕ) → p < suc P → Alike v p (steps rules x work left) (steps rules y work left)
step-pays rules v P x y h work [] p lt = alike-exits v p (status work.failed) 0
step-pays rules v P x y h work (Tell line ∷ left) p lt = alike-ask v p (Write 2 line) (1 + turns line) _ _ tt (λ le a. h (told work left) (told work left) (p - (1 + turns line)) (omega arith) refl)
step-pays rules v P x y h work (Do task ∷ left) p lt =
    let c : 1 ≤ cost (rules.asks task) = cost-costs (rules.asks task) in
    alike-ask v p (rules.asks task) (cost (rules.asks task)) _ _ (rules.proper task) (λ le a. h (answered rules task a (with_left work left)) (answered rules task a (with_left work left)) (p - cost (rules.asks task)) (omega arith) refl)

works-pays : {T : Type 0} (rules : Rules T) → Pays_first SameWork (works_in rules)
works-pays rules v P x y h work work' p lt e = rw (← e) (step-pays rules v P x y h work work.left p lt)

-- one step of it
pub works-is : {T : Type 0} (rules : Rules T) (work : Work T) (p : ℕ) → works rules work p ≡ steps rules (works rules) work work.left p
unfolding works
works-is rules work p = fix-is SameWork (works_in rules) (works-pays rules) work p refl

-- a command may say it
pub talk-works : {T : Type 0} (rules : Rules T) (work : Work T) → IsCommandTalk (works rules work)
unfolding works
talk-works rules work = talk-fix SameWork (works_in rules) (works-pays rules) work (λ v p. refl)
