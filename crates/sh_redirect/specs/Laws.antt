-- What holds of every redirection, whatever comes after it.
use Rattle.std.specs.Prelude.{ℕ, ◌≤◌}
use Rattle.rk_base.specs.Text.{Text}
use Rattle.rk_calls.specs.Views.{View, Alike}
use Rattle.sh_vars.specs.declared.env.Env.{Env}
use Rattle.sh_redirect.specs.declared.descriptors.DescriptorTable.{DescriptorTable}
use Rattle.sh_redirect.specs.declared.kind.Redirect.{Redirect}
use Rattle.sh_redirect.specs.Redirects.{Goes, After, Action, redirects}

-- how it goes on, wherever at most p turns are left
abbrev pub GoesAlike : View → ℕ → Goes → Goes → Type 0
GoesAlike v p g g' = (ds : DescriptorTable) (env : Env) (q : ℕ) → q ≤ p → Alike v q (g ds env) (g' ds env)

abbrev pub AfterAlike : View → ℕ → After → After → Type 0
AfterAlike v p k k' = GoesAlike v p k.made k'.made × GoesAlike v p k.refused k'.refused

abbrev pub IsAlike : Action → Type 0
IsAlike x = (v : View) (p : ℕ) (k k' : After) (ds : DescriptorTable) (env : Env) → AfterAlike v p k k' → Alike v p (x k ds env) (x k' ds env)

-- Whatever comes after a redirection: where that is alike in a view, it is. For one thing, fewer turns only cut what is
-- said, if they only cut what comes after.
abbrev pub EachIsAlike : Type 0
EachIsAlike = (r : Redirect) (d : ℕ) (operand : Text) → IsAlike (redirects r d operand)
