-- What was looked up before it is run.
use Rattle.std.proofs.Common.{◌≡◌, ℕ, Bool, true, ap, sym, subst, ◌∙◌, codes, if◌then◌else◌, Result, Ok, Err, IfOk}
use Rattle.rk_base.specs.Text.{Text}
use Rattle.rk_base.specs.declared.file_type.FileType.{FileType}
use Rattle.rk_calls.specs.declared.answer.Answer.{Answer}
use Rattle.rk_calls.specs.declared.answer.Answer.TheVariants as answer
use Rattle.sh_means.specs.Flows.{Next}
use Rattle.sh_means.specs.Run.{run}
use Rattle.sh_means.specs.Stack.{Steps}
use Rattle.sh_means.specs.Starts.{fails, is_directory, has_x, looked, runs_script}
use Rattle.sh_means.specs.State.{Shell}
use Rattle.sh_means.specs.declared.control.Acted.{Acted}

-- a directory isn't run
found_directory : (file : Text) (k : Next) (kind : FileType) (mode : ℕ) (empty : Bool) (e : Shell) (p : ℕ) → is_directory kind ≡ true → looked run file k (answer.Stat kind mode empty) e p ≡ fails file (codes "is a directory") 126 k e p
found_directory file k kind mode empty e p h =
    ap (λ (b : Bool). (if b then fails file (codes "is a directory") 126 k e else (if has_x mode then runs_script run file k e else fails file (codes "denied") 126 k e)) p) h

-- what its refusal takes
pub directory_refused : {E : Type 0} (result : Result Acted E) (file : Text) (kind : FileType) (mode : ℕ) (e e' : Shell) → is_directory kind ≡ true →
    IfOk result (λ t. (k : Next) → Steps (fails file (codes "is a directory") 126 k e) k e' t) → IfOk result (λ t. (empty : Bool) (k : Next) → Steps (looked run file k (answer.Stat kind mode empty) e) k e' t)
directory_refused (Ok t) file kind mode e e' h talk = λ empty k p. found_directory file k kind mode empty e p h ∙ talk k p
directory_refused (Err x) file kind mode e e' h talk = tt

-- it doesn't matter whether it has bytes
pub looked_up : {E : Type 0} (result : Result Acted E) (file : Text) (a : Answer) (kind : FileType) (mode : ℕ) (empty : Bool) (e e' : Shell) → a ≡ answer.Stat kind mode empty →
    IfOk result (λ t. (empty : Bool) (k : Next) → Steps (looked run file k (answer.Stat kind mode empty) e) k e' t) → IfOk result (λ t. (k : Next) → Steps (looked run file k a e) k e' t)
looked_up (Ok t) file a kind mode empty e e' is talk =
    subst (λ (a : Answer). (k : Next) → Steps (looked run file k a e) k e' t) (sym is) (talk empty)
looked_up (Err x) file a kind mode empty e e' is talk = tt
