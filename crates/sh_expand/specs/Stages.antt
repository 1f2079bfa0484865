-- What the machine of pathname expansion says at each stage.
use Rattle.std.specs.Prelude.{◌≡◌, ℕ, ◌+◌, ◌*◌, ◌<◌, List, [], ◌++◌, length, true, false}
use Rattle.rk_base.specs.Text.{Text}
use Rattle.rk_base.specs.Canonical.{is_empty}
use Rattle.rk_calls.specs.declared.answer.Answer.{Answer}
use Rattle.sh_pattern.specs.Pathnames.{matching}
use Rattle.sh_expand.specs.declared.glob.Component.{Component}
use Rattle.sh_expand.specs.declared.glob.Globbing.{Globbing}
use Rattle.sh_expand.specs.declared.glob.Globbing.TheVariants.{Ask, Found as Finds}
use Rattle.sh_expand.specs.declared.glob.Glob.{Glob}
use Rattle.sh_expand.specs.declared.steps.Stage.{Stage}
use Rattle.sh_expand.specs.declared.steps.Stage.TheVariants.{Between, Matching, Checking}
use Rattle.sh_expand.specs.declared.steps.Wait.{Wait}
use Rattle.sh_expand.specs.declared.steps.Wait.TheVariants.{Ready, Listing, Stating, Over}
use Rattle.sh_expand.specs.declared.steps.GlobStep.{GlobStep}
use Rattle.sh_expand.specs.declared.steps.GlobStep.TheVariants.{Goes, Wants}
use Rattle.sh_expand.specs.Globbing.{Numbered, asks, Found, globs, lists, stats, kept}
use Rattle.sh_expand.specs.Told.{names_of, stands}

abbrev pub stage_talk : Text → List Component → Stage → Found → Numbered
stage_talk wd cs (Between globbed prefixes) k = globs wd globbed cs prefixes k
stage_talk wd cs (Matching pattern todo done) k = lists wd (is_empty cs) pattern todo done (λ found. globs wd true cs found k)
stage_talk wd cs (Checking todo done) k = stats wd todo done k

abbrev pub wait_talk : Text → List Component → Wait → Answer → Found → Numbered
wait_talk wd cs (Ready stage) a k = stage_talk wd cs stage k
wait_talk wd cs (Listing pattern prefix todo done) a k = lists wd (is_empty cs) pattern todo (done ++ matching (is_empty cs) pattern prefix (names_of a)) (λ found. globs wd true cs found k)
wait_talk wd cs (Stating path todo done) a k = stats wd todo (kept done path (stands a)) k
wait_talk wd cs Over a k = globs wd false cs [] k

-- what it wants, and what it says afterwards
abbrev pub after_glob : Globbing → (Answer → Numbered) → Found → Numbered
after_glob (Ask call) next k = asks call 1 next
after_glob (Finds paths) next k = k paths

abbrev pub IsStep : (Found → Numbered) → Text → List Component → GlobStep → Type 0
IsStep x wd cs (Goes stage) = (k : Found) (n p : ℕ) → x k n p ≡ stage_talk wd cs stage k n p
IsStep x wd cs (Wants wait t) = (k : Found) (n p : ℕ) → x k n p ≡ after_glob t (λ a. wait_talk wd cs wait a k) k n p

-- a measure
abbrev pub weight : List Component → Stage → ℕ
weight cs (Between globbed prefixes) = 2 * length cs
weight cs (Matching pattern todo done) = 2 * length cs + 1
weight cs (Checking todo done) = 2 * length cs

abbrev pub IsShorter : ℕ → List Component → GlobStep → Type 0
IsShorter n cs (Goes stage) = weight cs stage < n
IsShorter n cs (Wants wait t) = Unit {0}

abbrev pub glob_talk : Glob → Answer → Found → Numbered
glob_talk g a k = wait_talk g.wd g.components.items g.wait a k
